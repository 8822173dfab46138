-- The events of the rounds so far.
use Rattle.std.proofs.Common.{◌≡◌, ◌++◌, flat_map}
use Rattle.std.specs.List.{range_with_len}
use Rattle.rpc_pair.specs.Generated.{events_at}
use Rattle.rpc_pair.proofs.generating.events.Events.add_rounds.Given as goal

abbrev pub invariant-loop-index : goal.invariant-loop-index
invariant-loop-index l = l.self ≡ l.fn.self ++ flat_map (events_at l.n) (range_with_len 1 l.index)
