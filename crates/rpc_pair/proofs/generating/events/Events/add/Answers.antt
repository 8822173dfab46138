-- The line of the event follows from the number of those before it.
use Rattle.std.proofs.Common.{rules}
use Rattle.rpc_pair.proofs.NumberedLines.{lined_push}
use Rattle.rpc_pair.proofs.generating.events.Events.add.Goals as goal

pub invariant_of-self-2 : goal.invariant_of-self-2
invariant_of-self-2 c = lined_push c.self.inside.lined.items c.push.new.self.items _ c.args.event (search rules) c.in_ok-push.ensures.items c.self.invariant
