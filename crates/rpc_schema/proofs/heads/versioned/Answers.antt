-- The version, and no side after it.
use Rattle.std.proofs.Common.{rules}
use Rattle.rpc_schema.specs.LineParts.{Next, Known, Lacks}
use Rattle.rpc_schema.specs.SchemaLines.{IsVersionPart, IsSided, SidedRefused}
use Rattle.rpc_schema.proofs.PartLaws.{second_stops}
use Rattle.rpc_schema.proofs.heads.versioned.Goals as goal

pub returns-in_err-side : goal.returns-in_err-side
returns-in_err-side c =
    second_stops IsVersionPart (Lacks IsVersionPart)
    (λ version. Next IsSided (λ side. Known (record { kind = c.args.kind; name = c.args.name; version = version; side = side }))) (λ version. SidedRefused)
    IsSided c.in_ok-version.version c.args.line.now c.take_version.new.line c.sided.new.line c.in_err-side.field-0.0 c.from_residual-in_err-side.result
    (search rules) c.in_ok-version.ensures c.in_err-side.ensures
