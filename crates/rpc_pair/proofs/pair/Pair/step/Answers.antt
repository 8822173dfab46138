use Rattle.rpc_pair.proofs.Overs.{turns_over}
use Rattle.rpc_pair.proofs.Turning.{turns_step}
use Rattle.rpc_pair.proofs.pair.Pair.step.Goals as goal

pub returns-clause-turns : goal.returns-clause-turns
returns-clause-turns g c =
    turns_over g.W.Wire.honest g.W.Wire.sent g.W.Wire.given c.args.up.now c.act.new.up c.put_all.new.up c.args.down.now c.act.new.down c.put_all.new.down c.args.self.now c.act.new.self
    c.put_all.new.self c.args.event.now c.in_ok-answer.answer c.in_ok-answer.ensures.acts c.in_ok-put_all.ensures.puts

pub returns-clause-stands : goal.returns-clause-stands
returns-clause-stands g c = λ r w over.
    turns_step g.W.Wire.honest g.W.Wire.sent g.W.Wire.given r w c.args.self.now c.put_all.new.self c.args.up.now c.put_all.new.up c.args.down.now c.put_all.new.down c.args.event.now
    c.in_ok-answer.answer over.schema over.up_honest over.down_honest over.stands (returns-clause-turns g c)
    (g.met.W.Wire.front c.put_all.new.up (c.put_all.ensures.wires.up_honest.0 (c.act.ensures.wires.up_honest.0 over.up_honest)))
    (g.met.W.Wire.front c.put_all.new.down (c.put_all.ensures.wires.down_honest.0 (c.act.ensures.wires.down_honest.0 over.down_honest)))
