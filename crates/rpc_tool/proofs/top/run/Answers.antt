use Rattle.std.proofs.Common.{arith, refl, subst, sym, ◌∙◌, []}
use Rattle.bp_base.proofs.Telling.{Gains-nil}
use Rattle.std.specs.Prelude.{Err}
use Rattle.rpc_tool.specs.declared.command.Misuse.TheVariants as misuse
use Rattle.rpc_tool.specs.declared.status.Status.TheVariants.{BadShape, Usage, OutOfMemory, ReadFault, WriteFault, WireFault}
use Rattle.bp_base.specs.Told.{Gains}
use Rattle.bp_base.specs.Whole.{Came}
use Rattle.bp_base.proofs.Runs.{Came-nil}
use Rattle.rpc_tool.specs.Means.{code_of, ReportsOver, Means}
use Rattle.rpc_tool.specs.Replayed.{ReportedOver, ReplayedOver}
use Rattle.rpc_tool.proofs.Answering.{answered_said, refused_said, replay_reports, stopped, before_read, before_refused, before_short, before_whole}
use Rattle.rpc_tool.proofs.Codes.{read_code, write_code, wire_code, coded_counts, coded_both}
use Rattle.rpc_tool.proofs.top.run.Goals as goal

pub returns-in-Ok-clause-read : goal.returns-in-Ok-clause-read
returns-in-Ok-clause-read g c =
    coded_counts ReadFault c.obey.result _ c.code.ensures (read_code c.obey.result) g.I.Source.faults c.args.input.now c.obey.new.input c.obey.ensures.read

pub returns-in-Ok-clause-write : goal.returns-in-Ok-clause-write
returns-in-Ok-clause-write g c =
    coded_counts WriteFault c.obey.result _ c.code.ensures (write_code c.obey.result) g.O.Sink.faults c.args.out.now c.obey.new.out c.obey.ensures.write

pub returns-in-Ok-clause-wires : goal.returns-in-Ok-clause-wires
returns-in-Ok-clause-wires g c =
    coded_both WireFault c.obey.result _ c.code.ensures (wire_code c.obey.result) g.W.Wire.faults g.W.Wire.honest
    c.args.up.now c.obey.new.up c.args.down.now c.obey.new.down c.obey.ensures.wires

pub returns-in-Ok-clause-means : goal.returns-in-Ok-clause-means
returns-in-Ok-clause-means g c = rw c.code.ensures (c.obey.ensures.means c.args.words.now c.in-Ok.ensures)

pub returns-in-Err-BadShape-clause-means : goal.returns-in-Err-BadShape-clause-means
returns-in-Err-BadShape-clause-means g c =
    let error = c.in-Err-BadShape.error in
    let Reports = ReportsOver g.W.Wire.honest g.W.Wire.sent g.W.Wire.given
    c.args.up.now c.args.up.now c.args.down.now c.args.down.now in
    let Comes = Came g.I.Source.given g.I.Source.left c.args.input.now c.args.input.now in
    let Writes = Gains g.O.Sink.put c.args.out.now c.refuse_shape.new.out in
    let before = before_refused Writes _ c.refuse_shape.result c.refuse_shape.ensures.answered in
    subst (Means Reports Comes (g.I.Source.left c.args.input.now) _ Writes c.args.words.now)
    (sym c.code-in-Err-BadShape.ensures)
    (stopped _ _ _ _ Writes c.args.words.now (Err (misuse.BadShape error)) c.refuse_shape.result []
    (rw c.in-Err-BadShape.field-0-is at c.in-Err-BadShape.ensures)
    (Came-nil g.I.Source.given g.I.Source.left c.args.input.now)
    (λ long. absurd (before_short _ before long), λ long. absurd (omega (arith, long)))
    (before_whole _ before)
    (refused_said Reports (Err (misuse.BadShape error)) [] Writes BadShape _ c.refuse_shape.result refl tt c.refuse_shape.ensures.answered))

pub returns-in-Err-Usage-clause-means : goal.returns-in-Err-Usage-clause-means
returns-in-Err-Usage-clause-means g c =
    let answered = c.answer.ensures.answered in
    let Reports = ReportsOver g.W.Wire.honest g.W.Wire.sent g.W.Wire.given
    c.args.up.now c.args.up.now c.args.down.now c.args.down.now in
    let Comes = Came g.I.Source.given g.I.Source.left c.args.input.now c.args.input.now in
    let Writes = Gains g.O.Sink.put c.args.out.now c.answer.new.out in
    let before = before_read Writes Usage _ c.answer.result tt answered in
    subst (Means Reports Comes (g.I.Source.left c.args.input.now) _ Writes c.args.words.now)
    (sym c.code-in-Err-Usage.ensures)
    (stopped _ _ _ _ Writes c.args.words.now (Err misuse.Usage) c.answer.result [] (rw c.in-Err-Usage.field-0-is at c.in-Err-Usage.ensures)
    (Came-nil g.I.Source.given g.I.Source.left c.args.input.now)
    (λ long. absurd (before_short _ before long), λ long. absurd (omega (arith, long)))
    (before_whole _ before)
    (answered_said Reports (Err misuse.Usage) [] Writes Usage _ c.answer.result refl answered))

pub returns-in-Err-OutOfMemory-clause-means : goal.returns-in-Err-OutOfMemory-clause-means
returns-in-Err-OutOfMemory-clause-means g c =
    let Reports = ReportsOver g.W.Wire.honest g.W.Wire.sent g.W.Wire.given
    c.args.up.now c.args.up.now c.args.down.now c.args.down.now in
    let Comes = Came g.I.Source.given g.I.Source.left c.args.input.now c.args.input.now in
    let Writes = Gains g.O.Sink.put c.args.out.now c.args.out.now in
    subst (Means Reports Comes (g.I.Source.left c.args.input.now) _ Writes c.args.words.now)
    (sym c.code-in-Err-OutOfMemory.ensures)
    (stopped _ _ _ _ Writes c.args.words.now (Err misuse.OutOfMemory) OutOfMemory []
    (rw c.in-Err-OutOfMemory.field-0-is at c.in-Err-OutOfMemory.ensures)
    (Came-nil g.I.Source.given g.I.Source.left c.args.input.now)
    (λ long. absurd (before_short OutOfMemory tt long), λ long. absurd (omega (arith, long)))
    (before_whole OutOfMemory tt)
    (tt, Gains-nil g.O.Sink.put c.args.out.now))

pub returns-in-Ok-clause-reported : goal.returns-in-Ok-clause-reported
returns-in-Ok-clause-reported g c = λ done fresh.
    let Reports = ReportsOver g.W.Wire.honest g.W.Wire.sent g.W.Wire.given c.args.up.now c.obey.new.up c.args.down.now c.obey.new.down in
    let Other = ReportedOver g.W.Wire.sent g.W.Wire.given c.obey.new.up c.obey.new.down in
    replay_reports Reports Other (λ s text r. r.0 fresh) (g.I.Source.left c.args.input.now) (Gains g.O.Sink.put c.args.out.now c.obey.new.out)
    (Came g.I.Source.given g.I.Source.left c.args.input.now c.obey.new.input) _ c.args.words.now (code_of c.obey.result)
    (c.obey.ensures.means c.args.words.now c.in-Ok.ensures) done.0 (sym c.code.ensures ∙ done.1)

pub returns-in-Ok-clause-replayed : goal.returns-in-Ok-clause-replayed
returns-in-Ok-clause-replayed g c = λ done honest.
    let Reports = ReportsOver g.W.Wire.honest g.W.Wire.sent g.W.Wire.given c.args.up.now c.obey.new.up c.args.down.now c.obey.new.down in
    let Other = ReplayedOver g.W.Wire.sent g.W.Wire.given c.obey.new.up c.obey.new.down in
    replay_reports Reports Other (λ s text r. r.1 honest) (g.I.Source.left c.args.input.now) (Gains g.O.Sink.put c.args.out.now c.obey.new.out)
    (Came g.I.Source.given g.I.Source.left c.args.input.now c.obey.new.input) _ c.args.words.now (code_of c.obey.result)
    (c.obey.ensures.means c.args.words.now c.in-Ok.ensures) done.0 (sym c.code.ensures ∙ done.1)
