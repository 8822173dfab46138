-- The items so far.
use Rattle.std.proofs.Common.{◌≡◌, ◌∷◌, ◌++◌, codes, replicate}
use Rattle.rpc_pair.specs.Generated.{begins_with, gives, in_quotes}
use Rattle.rpc_pair.proofs.generating.events.Events.add_news.Given as goal

abbrev pub invariant-loop : goal.invariant-loop
invariant-loop l = l.self ≡ l.fn.self ++ begins_with l.round (codes "[]") ∷ replicate l.counter (gives l.round (in_quotes (codes "u")))
