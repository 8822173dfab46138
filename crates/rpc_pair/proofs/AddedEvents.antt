-- Events behind others.
use Rattle.std.proofs.Common.{◌≡◌, sym, ap, ◌∙◌, ℕ, ◌+◌, List, [], ◌∷◌, ◌++◌, map, append_assoc, arith}
use Rattle.std.specs.Fmt.{decimal}
use Rattle.std.specs.List.{range_with_len}
use Rattle.std.proofs.lemmas.List.FromFn.{map-range_with_len_more}
use Rattle.rpc_schedule.specs.declared.event.Event.{Event}
use Rattle.rpc_pair.specs.declared.generating.rounds.Round.{Round}
use Rattle.rpc_pair.specs.Generated.{gives}

-- one item more
pub given_more : (d : Round) (m : ℕ) (text : List ℕ) (first : Event) (base old new : List Event) → new ≡ old ++ gives d text ∷ [] → text ≡ decimal m
    → old ≡ base ++ first ∷ map (λ j. gives d (decimal j)) (range_with_len 0 m)
    → new ≡ base ++ first ∷ map (λ j. gives d (decimal j)) (range_with_len 0 (m + 1))
given_more d m text first base old new is spelled before =
    is
    ∙ (ap (λ (w : List ℕ). old ++ gives d w ∷ []) spelled
    ∙ (ap (λ (es : List Event). es ++ gives d (decimal m) ∷ []) before
    ∙ (append_assoc base (first ∷ map (λ j. gives d (decimal j)) (range_with_len 0 m)) (gives d (decimal m) ∷ [])
    ∙ ap (λ es. base ++ first ∷ es) (sym (map-range_with_len_more (λ j. gives d (decimal j)) 0 m m (omega arith))))))
