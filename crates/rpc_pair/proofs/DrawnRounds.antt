-- The rounds of a generated run, one after the other.
use Rattle.std.proofs.Common.{◌≡◌, refl, sym, ap, ◌∙◌, ℕ, suc, ◌+◌, ◌≤◌, List, [], ◌∷◌, ◌++◌, map, add-one, arith}
use Rattle.std.specs.List.{range_with_len}
use Rattle.std.proofs.lemmas.List.FromFn.{map-range_with_len_more}
use Rattle.rpc_pair.specs.declared.generating.rounds.Round.{Round}
use Rattle.rpc_pair.specs.Generated.{round_count, next_drawn, drawn, round, rounds}

pub count_is : round_count ≡ 4000
unfolding round_count
count_is = refl

pub drawn_first : (n : ℕ) → drawn n 0 ≡ n
unfolding drawn
drawn_first n = refl

drawn_suc : (n k : ℕ) → drawn n (suc k) ≡ next_drawn (drawn n k)
unfolding drawn
drawn_suc n k = refl

pub drawn_next : (n k : ℕ) → drawn n (k + 1) ≡ next_drawn (drawn n k)
drawn_next n k = ap (drawn n) (add-one k) ∙ drawn_suc n k

-- one round more
rounds_more : (n k : ℕ) → map (round n) (range_with_len 1 (k + 1)) ≡ map (round n) (range_with_len 1 k) ++ round n (k + 1) ∷ []
rounds_more n k = map-range_with_len_more (round n) 1 k (k + 1) (omega arith)

pub round_pushed : (n k x : ℕ) (old new : List Round) → new ≡ old ++ record { number = k + 1; drawn = x } ∷ [] → x ≡ drawn n (k + 1)
    → old ≡ map (round n) (range_with_len 1 k) → new ≡ map (round n) (range_with_len 1 (k + 1))
round_pushed n k x old new is last before =
    is ∙ (ap (λ (ds : List Round). ds ++ record { number = k + 1; drawn = x } ∷ []) before
    ∙ (ap (λ (y : ℕ). map (round n) (range_with_len 1 k) ++ record { number = k + 1; drawn = y } ∷ []) last ∙ sym (rounds_more n k)))

-- all of them
pub rounds_all : (n k : ℕ) → 4000 ≤ k → k ≤ 4000 → map (round n) (range_with_len 1 k) ≡ rounds n
rounds_all n k least most = let k_is : k ≡ 4000 = omega arith in
    let all : k ≡ round_count = k_is ∙ sym count_is in ap (λ j. map (round n) (range_with_len 1 j)) all
