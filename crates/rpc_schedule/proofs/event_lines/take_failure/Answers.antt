-- The label, and no text after it.
use Rattle.std.proofs.Common.{rules}
use Rattle.rpc_schema.specs.LineParts.{Next, Known, Lacks}
use Rattle.rpc_schedule.specs.declared.event.Event.TheVariants as ev
use Rattle.rpc_schedule.specs.EventParts.{IsLabel, IsQuoted, QuotedRefused}
use Rattle.rpc_schema.proofs.PartLaws.{second_stops}
use Rattle.rpc_schedule.proofs.event_lines.take_failure.Goals as goal

pub returns-in_err-text : goal.returns-in_err-text
returns-in_err-text c =
    second_stops IsLabel (Lacks IsLabel) (λ label. Next IsQuoted (λ bytes. Known (ev.Fail label bytes))) (λ label. QuotedRefused) IsQuoted
    c.in_ok-label.label c.args.line.now c.take_label.new.line c.take_quoted.new.line c.in_err-text.field-0.0 c.from_residual-in_err-text.result
    (search rules) c.in_ok-label.ensures c.in_err-text.ensures
