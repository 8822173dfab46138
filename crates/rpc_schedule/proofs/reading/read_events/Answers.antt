-- One line more, and the first one at fault.
use Rattle.std.proofs.Common.{◌≡◌, sym, subst, Err, IfErr, rules}
use Rattle.std.specs.List.{AllZip}
use Rattle.rpc_schema.specs.TextLines.{lines_kept}
use Rattle.rpc_schema.specs.Reading.{slices}
use Rattle.rpc_schedule.specs.Schedules.{IsLinedEvent}
use Rattle.rpc_schedule.specs.Reading.{RefusesEvents}
use Rattle.rpc_schema.proofs.ReadingSteps.{slices_all}
use Rattle.rpc_schedule.proofs.ReadingSteps.{events_more, next_refused}
use Rattle.rpc_schedule.proofs.reading.read_events.Goals as goal

pub returns-in_err-read_line-clause-refused : goal.returns-in_err-read_line-clause-refused
returns-in_err-read_line-clause-refused c =
    let is : c.from_residual.result ≡ Err c.in_err-read_line.field-0.0 = search rules in
    subst (λ r. IfErr r (RefusesEvents (lines_kept c.args.first (slices c.args.lines.now)))) (sym is)
    (next_refused c.args.first c.args.lines.now c.loop-index.index _ c.loop-index.events.items c.in_err-read_line.field-0.0
    c.loop-index-test.true c.loop-index.invariant c.in_err-read_line.ensures.refused)

pub loop-index-preserved : goal.loop-index-preserved
loop-index-preserved c =
    events_more c.args.first c.args.lines.now c.loop-index.index _ c.loop-index.events.items c.read_line.new.events.items
    c.loop-index-test.true c.in_ok-read_line.ensures.added c.loop-index.invariant

pub returns-clause-spelled : goal.returns-clause-spelled
returns-clause-spelled c =
    subst (λ ls. AllZip IsLinedEvent c.loop-index.events.items (lines_kept c.args.first ls))
    (slices_all c.args.lines.now c.loop-index.index c.loop-index-test.false) c.loop-index.invariant
