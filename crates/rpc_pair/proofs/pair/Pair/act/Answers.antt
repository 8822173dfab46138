use Rattle.std.proofs.Common.{sym, subst}
use Rattle.rpc_schedule.specs.declared.event.Event.{Event}
use Rattle.rpc_meeting.specs.declared.answer.StepAnswer.TheVariants.{Done}
use Rattle.rpc_pair.specs.Wires.{ActsOver}
use Rattle.rpc_pair.proofs.Overs.{both_still, down_acts, quiet_acts, up_acts}
use Rattle.rpc_pair.proofs.pair.Pair.act.Goals as goal

pub returns-in_ok-move_up-in-Up-clause-acts : goal.returns-in_ok-move_up-in-Up-clause-acts
returns-in_ok-move_up-in-Up-clause-acts g c =
    subst (λ (e : Event). ActsOver g.W.Wire.honest g.W.Wire.sent g.W.Wire.given c.args.up.now c.move_up.new.up c.args.down.now c.args.down.now c.args.self.now e Done c.move_up.new.self) (sym c.in-Up.is)
    (up_acts g.W.Wire.honest g.W.Wire.sent g.W.Wire.given c.args.self.now c.move_up.new.self c.in-Up.count c.in-Up.by c.args.up.now c.move_up.new.up c.args.down.now
    c.in_ok-move_up-in-Up.ensures.moves)

pub returns-in_ok-move_down-in-Down-clause-acts : goal.returns-in_ok-move_down-in-Down-clause-acts
returns-in_ok-move_down-in-Down-clause-acts g c =
    subst (λ (e : Event). ActsOver g.W.Wire.honest g.W.Wire.sent g.W.Wire.given c.args.up.now c.args.up.now c.args.down.now c.move_down.new.down c.args.self.now e Done c.move_down.new.self)
    (sym c.in-Down.is)
    (down_acts g.W.Wire.honest g.W.Wire.sent g.W.Wire.given c.args.self.now c.move_down.new.self c.in-Down.count c.in-Down.by c.args.up.now c.args.down.now c.move_down.new.down
    c.in_ok-move_down-in-Down.ensures.moves)

pub returns-in_ok-act_quietly-in_default : goal.returns-in_ok-act_quietly-in_default
returns-in_ok-act_quietly-in_default g c = record {
  wires = both_still g.W.Wire.faults g.W.Wire.honest c.args.up.now c.args.down.now _ (λ f. absurd cc);
  acts = quiet_acts g.W.Wire.honest g.W.Wire.sent g.W.Wire.given c.args.self.now c.act_quietly.new.self c.args.event.now c.in_ok-act_quietly-in_default.field-0 c.args.up.now c.args.down.now
      c.in_ok-act_quietly-in_default.ensures;
}
