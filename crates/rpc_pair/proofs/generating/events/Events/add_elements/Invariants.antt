-- The items so far.
use Rattle.std.proofs.Common.{◌≡◌, ◌∷◌, ◌++◌, codes, map}
use Rattle.std.specs.Fmt.{decimal}
use Rattle.std.specs.List.{range_with_len}
use Rattle.rpc_pair.specs.Generated.{begins_with, gives}
use Rattle.rpc_pair.proofs.generating.events.Events.add_elements.Given as goal

abbrev pub invariant-loop-element : goal.invariant-loop-element
invariant-loop-element l =
    l.self ≡ l.fn.self ++ begins_with l.round (codes "()") ∷ map (λ m. gives l.round (decimal m)) (range_with_len 0 l.element)
