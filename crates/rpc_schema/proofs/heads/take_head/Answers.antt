-- The kind, and what follows it.
use Rattle.rpc_schema.specs.LineParts.{Lacks}
use Rattle.rpc_schema.specs.SchemaLines.{IsKind, IsNamedHead, NamedRefused}
use Rattle.rpc_schema.proofs.PartLaws.{second_takes}
use Rattle.rpc_schema.proofs.heads.take_head.Goals as goal

pub returns : goal.returns
returns c =
    second_takes IsKind (Lacks IsKind) IsNamedHead (λ kind. NamedRefused) c.in_ok-kind.kind c.args.line.now c.kind.new.line c.named.new.line
    c.named.result c.in_ok-kind.ensures c.named.ensures
