-- A list of which the first item that passes a test is changed.
use Rattle.std.proofs.Common.{◌≡◌, refl, sym, ap, ◌∙◌, ℕ, zero, suc, ◌<◌, Bool, true, false, if◌then◌else◌, nat_lt, List, [], ◌∷◌, length, get_or, set, arith}
use Rattle.std.specs.Prelude.{Some, None}
use Rattle.std.specs.List.{find, position, position_or_len}
use Rattle.std.proofs.lemmas.Bool.{ltb-false}
use Rattle.std.proofs.lemmas.List.Folds.{find_at}
use Rattle.std.proofs.lemmas.List.Quantifiers.{position-Some}
use Rattle.std.proofs.lemmas.Option.{slice_get_past}
use Rattle.readers.specs.Reader.{Each}
use Rattle.rpc_book.specs.Books.{changed}

module _ {X : Type 0} (p : X → Bool) (f : X → X) where
  pub changed_none : (xs : List X) → find p xs ≡ None → changed p f xs ≡ xs
  changed_none [] none = refl
  changed_none (x ∷ xs) none = by (p x) none (changed_none xs)
    where
      by : (b : Bool) → (if b then Some x else find p xs) ≡ None → (find p xs ≡ None → changed p f xs ≡ xs) → (if b then f x ∷ xs else x ∷ changed p f xs) ≡ x ∷ xs
      by true is later = absurd cc
      by false is later = ap (λ t. x ∷ t) (later is)

  pub changed_same : (xs : List X) → ((x : X) → f x ≡ x) → changed p f xs ≡ xs
  changed_same [] same = refl
  changed_same (x ∷ xs) same = by (p x) (changed_same xs same)
    where
      by : (b : Bool) → changed p f xs ≡ xs → (if b then f x ∷ xs else x ∷ changed p f xs) ≡ x ∷ xs
      by true later = ap (λ y. y ∷ xs) (same x)
      by false later = ap (λ t. x ∷ t) later

  changed_there : (xs : List X) (i : ℕ) (d : X) → i < length xs → p (get_or xs i d) ≡ true → ((k : ℕ) → k < i → p (get_or xs k d) ≡ false)
      → (find p xs ≡ Some (get_or xs i d)) × (set xs i (f (get_or xs i d)) ≡ changed p f xs)
  changed_there [] i d lt here before = absurd (omega arith)
  changed_there (x ∷ xs) zero d lt here before = (ap (λ b. if b then Some x else find p xs) here, sym (ap (λ b. if b then f x ∷ xs else x ∷ changed p f xs) here))
  changed_there (x ∷ xs) (suc i) d lt here before =
      let other : p x ≡ false = before zero (omega arith) in
      let (found, puts) = changed_there xs i d (omega arith) here (λ k le. before (suc k) (omega arith)) in (
        ap (λ b. if b then Some x else find p xs) other ∙ found,
        ap (λ t. x ∷ t) puts ∙ sym (ap (λ b. if b then f x ∷ xs else x ∷ changed p f xs) other),
      )

  -- at the place that the code finds
  pub changed_at : (xs : List X) (i : ℕ) (d : X) → position p xs ≡ Some i → (i < length xs) × (find p xs ≡ Some (get_or xs i d)) × (set xs i (f (get_or xs i d)) ≡ changed p f xs)
  changed_at xs i d at =
      let (lt, here, before) = position-Some p xs i d at in
      let (found, puts) = changed_there xs i d lt here before in
      (lt, found, puts)

  pub not_found : (xs : List X) → position p xs ≡ None → find p xs ≡ None
  not_found xs none = by (nat_lt (position_or_len p xs) (length xs)) refl none
    where
      by : (b : Bool) → nat_lt (position_or_len p xs) (length xs) ≡ b → (if b then Some (position_or_len p xs) else None) ≡ None → find p xs ≡ None
      by true is e = absurd cc
      by false is e = find_at p xs ∙ slice_get_past xs (position_or_len p xs) (ltb-false (position_or_len p xs) (length xs) is)

  pub not_changed : (xs : List X) → position p xs ≡ None → changed p f xs ≡ xs
  not_changed xs none = changed_none xs (not_found xs none)

pub each_any : {X : Type 0} (xs : List X) → Each (λ x. Unit {0}) xs
each_any [] = tt
each_any (x ∷ xs) = (tt, each_any xs)
