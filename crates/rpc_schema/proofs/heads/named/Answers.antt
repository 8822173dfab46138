-- The name, and what follows it.
use Rattle.rpc_schema.specs.LineParts.{Lacks}
use Rattle.rpc_schema.specs.SchemaLines.{IsNamePart, IsVersioned, VersionedRefused}
use Rattle.rpc_schema.proofs.PartLaws.{second_takes}
use Rattle.rpc_schema.proofs.heads.named.Goals as goal

pub returns : goal.returns
returns c =
    second_takes IsNamePart (Lacks IsNamePart) (λ name. IsVersioned c.args.kind name) (λ name. VersionedRefused) c.in_ok-name.name c.args.line.now
    c.take_name.new.line c.versioned.new.line c.versioned.result c.in_ok-name.ensures c.versioned.ensures
