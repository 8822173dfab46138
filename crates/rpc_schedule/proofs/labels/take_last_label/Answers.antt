-- The part, and more after it.
use Rattle.std.proofs.Common.{rules}
use Rattle.rpc_schema.specs.LineParts.{Next, Known, Lacks, End}
use Rattle.rpc_schedule.specs.EventParts.{IsLabel}
use Rattle.rpc_schema.proofs.PartLaws.{second_stops}
use Rattle.rpc_schedule.proofs.labels.take_last_label.Goals as goal

pub returns-in_err-end : goal.returns-in_err-end
returns-in_err-end c =
    second_stops IsLabel (Lacks IsLabel) (λ a. Next End (λ e. Known a)) (λ a. Lacks End) End c.in_ok-label.label c.args.line.now c.take_label.new.line
    c.end.new.self c.in_err-end.field-0.0 c.from_residual-in_err-end.result (search rules) c.in_ok-label.ensures c.in_err-end.ensures
