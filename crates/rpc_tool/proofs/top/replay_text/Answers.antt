use Rattle.std.proofs.Common.{ap, refl}
use Rattle.std.specs.Prelude.{Ok, Err}
use Rattle.bp_base.specs.Told.{Gains}
use Rattle.rpc_tool.specs.Means.{ReportsOver}
use Rattle.rpc_tool.specs.declared.command.Command.TheVariants.{Replay}
use Rattle.rpc_tool.specs.declared.status.Status.TheVariants.{Done, Refused}
use Rattle.rpc_schema.proofs.EntryLines.{lines_entries}
use Rattle.rpc_tool.proofs.Answering.{answered_said, schedule_said}
use Rattle.rpc_tool.proofs.top.replay_text.Goals as goal

pub returns-in-Ok-replay-clause-said : goal.returns-in-Ok-replay-clause-said
returns-in-Ok-replay-clause-said g c =
    let Reports = ReportsOver g.W.Wire.honest g.W.Wire.sent g.W.Wire.given
    c.args.up.now c.replay.new.up c.args.down.now c.replay.new.down in
    answered_said Reports (Ok Replay) c.args.text.now
    (Gains g.O.Sink.put c.args.out.now c.answer.new.out) Done _ c.answer.result (
      c.in-Ok.schedule,
      c.in-Ok.ensures.spelled,
      (c.in-Ok-replay.ensures.reported, c.in-Ok-replay.ensures.replayed),
    )
    (rw c.deref.ensures.value at c.answer.ensures.answered)

pub replay-requires-clause-lines : goal.replay-requires-clause-lines
replay-requires-clause-lines g c = lines_entries c.in-Ok.schedule.schema _ c.in-Ok.ensures.spelled.schema

pub returns-in-Err-clause-said : goal.returns-in-Err-clause-said
returns-in-Err-clause-said g c =
    let Reports = ReportsOver g.W.Wire.honest g.W.Wire.sent g.W.Wire.given
    c.args.up.now c.args.up.now c.args.down.now c.args.down.now in
    schedule_said Reports c.args.text.now (Gains g.O.Sink.put c.args.out.now c.refuse_schedule.new.out) c.in-Err.error c.refuse_schedule.result
    c.in-Err.ensures.refused c.refuse_schedule.ensures.answered
