-- The events of the rounds so far.
use Rattle.std.proofs.Common.{◌≡◌, ◌++◌, take, flat_map}
use Rattle.rpc_pair.specs.Generated.{late}
use Rattle.rpc_pair.proofs.generating.events.Events.add_all_late.Given as goal

abbrev pub invariant-loop-round : goal.invariant-loop-round
invariant-loop-round l = l.self ≡ l.fn.self ++ flat_map late (take l.round-index l.rounds)
