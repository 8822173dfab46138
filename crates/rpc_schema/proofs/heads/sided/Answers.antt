-- The side, and no mark after it.
use Rattle.std.proofs.Common.{rules}
use Rattle.rpc_schema.specs.LineParts.{Next, Known, Lacks}
use Rattle.rpc_schema.specs.SchemaLines.{IsSide, Equals}
use Rattle.rpc_schema.proofs.PartLaws.{second_stops}
use Rattle.rpc_schema.proofs.heads.sided.Goals as goal

pub returns-in_err-take_mark : goal.returns-in_err-take_mark
returns-in_err-take_mark c =
    second_stops IsSide (Lacks IsSide)
    (λ side. Next Equals (λ equals. Known side))
    (λ side. Lacks Equals) Equals c.in_ok-side.side c.args.line.now c.side.new.line c.take_mark.new.self c.in_err-take_mark.field-0.0
    c.from_residual-in_err-take_mark.result (search rules) c.in_ok-side.ensures c.in_err-take_mark.ensures
