-- The first line that is `--`, by its place.
use Rattle.std.proofs.Common.{◌≡◌, ◌≢◌, ap, subst, ℕ, zero, suc, ◌<◌, List, [], ◌∷◌, ◌++◌, length, take, drop, get_or, Option, Some, None, Bor, arith}
use Rattle.std.specs.Option.{MatchOption}
use Rattle.std.specs.List.{AllWithin, HoldsAt}
use Rattle.std.proofs.lemmas.List.{take_all}
use Rattle.std.proofs.lemmas.List.Elements.{All-nil, All-cons}
use Rattle.rpc_schema.specs.Reading.{slices}
use Rattle.rpc_schedule.specs.Schedules.{schema_end, NoMark, IsCut}

abbrev pub IsMark : Bor (List ℕ) → Type 0
IsMark l = l.now ≡ schema_end

abbrev pub IsNoMark : Bor (List ℕ) → Type 0
IsNoMark l = l.now ≢ schema_end

-- none is the mark, or the first one that is stands at the place
abbrev pub IsMarked : List (Bor (List ℕ)) → Option ℕ → Type 0
IsMarked parts place =
    MatchOption place (AllWithin IsNoMark parts 0 (length parts)) (λ i. (i < length parts) × HoldsAt IsMark parts i × AllWithin IsNoMark parts 0 i)

no_mark : (n : ℕ) (parts : List (Bor (List ℕ))) → ((k : ℕ) (d : Bor (List ℕ)) → k < n → IsNoMark (get_or parts k d)) → NoMark (slices (take n parts))
no_mark zero parts none = All-nil (λ l. l ≢ schema_end)
no_mark (suc n) [] none = All-nil (λ l. l ≢ schema_end)
no_mark (suc n) (p ∷ ps) none =
    All-cons (λ l. l ≢ schema_end) p.now (slices (take n ps)) (none 0 p (omega arith)) (no_mark n ps (λ k d lt. none (suc k) d (omega arith)))

cut_at : (i : ℕ) (parts : List (Bor (List ℕ))) → i < length parts → ((d : Bor (List ℕ)) → IsMark (get_or parts i d))
    → slices parts ≡ slices (take i parts) ++ schema_end ∷ slices (drop 1 (drop i parts))
cut_at i [] within is = absurd (omega arith)
cut_at zero (p ∷ ps) within is = ap (λ l. l ∷ slices ps) (is p)
cut_at (suc i) (p ∷ ps) within is =
    ap (λ ls. p.now ∷ ls) (cut_at i ps (let m : suc i < suc (length ps) = within in omega arith) (λ d. is d))

all_taken : (parts : List (Bor (List ℕ))) → take (length parts) parts ≡ parts
all_taken parts = take_all (length parts) parts (omega arith)

pub none_marked : (parts : List (Bor (List ℕ))) (place : Option ℕ) → IsMarked parts place → place ≡ None → NoMark (slices parts)
none_marked parts None none e =
    subst (λ ps. NoMark (slices ps)) (all_taken parts) (no_mark (length parts) parts (λ k d lt. none k d (omega arith) lt))
none_marked parts (Some i) h e = absurd cc

pub marked_cut : (parts : List (Bor (List ℕ))) (place : Option ℕ) (i : ℕ) → IsMarked parts place → place ≡ Some i
    → IsCut (slices parts) (slices (take i parts)) (slices (drop 1 (drop i parts)))
marked_cut parts None i h e = absurd cc
marked_cut parts (Some j) i (within, is, none) e = subst (λ n. IsCut (slices parts) (slices (take n parts)) (slices (drop 1 (drop n parts)))) (some_is j i e) (record {
  place = cut_at j parts within (λ d. is d);
  first = no_mark j parts (λ k d lt. none k d (omega arith) lt);
}) where
  some_is : (a b : ℕ) → Some a ≡ Some b → a ≡ b
  some_is a b e = cc
