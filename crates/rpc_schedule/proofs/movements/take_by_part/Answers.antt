-- The word `by`, and what follows it.
use Rattle.rpc_schema.specs.LineParts.{Lacks}
use Rattle.rpc_schedule.specs.EventParts.{IsBy, IsPiece, Last, LastRefused}
use Rattle.rpc_schema.proofs.PartLaws.{second_takes}
use Rattle.rpc_schedule.proofs.movements.take_by_part.Goals as goal

pub returns : goal.returns
returns c =
    second_takes IsBy (Lacks IsBy) (λ b. Last IsPiece) (λ b. LastRefused IsPiece (Lacks IsPiece)) c.in_ok-take_by.field-0 c.args.line.now c.take_by.new.line
    c.take_last_piece.new.line c.take_last_piece.result c.in_ok-take_by.ensures c.take_last_piece.ensures
