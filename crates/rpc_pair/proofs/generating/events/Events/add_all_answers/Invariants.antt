-- The events of the rounds so far.
use Rattle.std.proofs.Common.{◌≡◌, ◌++◌, flat_map}
use Rattle.rpc_pair.specs.Generated.{answers}
use Rattle.rpc_pair.proofs.generating.events.Events.add_all_answers.Given as goal

abbrev pub invariant-loop-round : goal.invariant-loop-round
invariant-loop-round l = l.self ≡ l.fn.self ++ flat_map (λ round. answers round.now) l.yielded
