-- A text has one schedule, and is then refused only for want of memory.
use Rattle.std.proofs.Common.{◌≡◌, subst, ap, ◌∙◌, IfOk, IfErr}
use Rattle.rpc_schema.specs.TextLines.{text_lines, without_empty_last}
use Rattle.rpc_schema.specs.Reading.{slices}
use Rattle.rpc_schedule.specs.Schedules.{AreScheduleLines, RefusesSchedule}
use Rattle.rpc_schedule.proofs.ScheduleLaws.{only_schedule}
use Rattle.rpc_schedule.proofs.GoodEvents.{formed}
use Rattle.rpc_schedule.proofs.schedule.Schedule.read.Goals as goal

pub returns-clause-formed : goal.returns-clause-formed
returns-clause-formed c = formed _ c.read_schedule.result c.read_schedule.ensures.spelled

pub returns-clause-only : goal.returns-clause-only
returns-clause-only c = λ schedule text.
    let lines : slices c.without_last_empty.result.now ≡ text_lines c.args.text.now =
    c.without_last_empty.ensures ∙ ap without_empty_last (ap slices c.deref.ensures.value ∙ c.in_ok-parts.ensures) in
    only_schedule (text_lines c.args.text.now) c.read_schedule.result
    (subst (λ ls. IfOk c.read_schedule.result (λ s. AreScheduleLines s ls)) lines c.read_schedule.ensures.spelled)
    (subst (λ ls. IfErr c.read_schedule.result (RefusesSchedule ls)) lines c.read_schedule.ensures.refused) schedule text
