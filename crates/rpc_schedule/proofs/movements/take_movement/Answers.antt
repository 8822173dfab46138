-- The count, and no pieces after it.
use Rattle.std.proofs.Common.{rules}
use Rattle.rpc_schema.specs.LineParts.{Next, Known, Lacks}
use Rattle.rpc_schedule.specs.EventParts.{IsCount, ArePieces, PiecesRefused}
use Rattle.rpc_schema.proofs.PartLaws.{second_stops}
use Rattle.rpc_schedule.proofs.movements.take_movement.Goals as goal

pub returns-in_err-by : goal.returns-in_err-by
returns-in_err-by c =
    second_stops IsCount (Lacks IsCount) (λ count. Next ArePieces (λ by. Known (record { count = count; by = by }))) (λ count. PiecesRefused) ArePieces
    c.in_ok-count.count c.args.line.now c.take_count.new.line c.take_pieces.new.line c.in_err-by.field-0.0 c.from_residual-in_err-by.result (search rules)
    c.in_ok-count.ensures c.in_err-by.ensures
