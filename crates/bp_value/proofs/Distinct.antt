-- Lists without repeats.
use Rattle.std.proofs.Common.{◌≡◌, ℕ, zero, suc, ◌<◌, ◌≤◌, inl, inr, List, [], ◌∷◌, length, slice_get, Some, sym, ◌∙◌, arith}
use Rattle.std.proofs.lemmas.Bool.{cases_lt, cases_order}
use Rattle.std.proofs.lemmas.Option.{slice_get_within}
use Rattle.bp_value.specs.Names.{IsDistinct, IsFirstRepeat, IsNowhere}

pub none_distinct : {A : Type 0} → IsDistinct {A = A} []
none_distinct a b lt within = absurd (let n : b < 0 = within in omega arith)

-- where nothing is the first repeat, nothing repeats
module _ {A : Type 0} (xs : List A) (none : (i j : ℕ) → IsFirstRepeat xs i j → ⊥) where
  -- nothing before i is the item at j, where nothing before j repeats
  new_at : (j i : ℕ) → j < length xs
      → ((a b : ℕ) → a < b → b < j → slice_get xs a ≡ slice_get xs b → ⊥)
      → (k : ℕ) → k < i → k < j → slice_get xs k ≡ slice_get xs j → ⊥
  new_at j zero within before k lt below same = absurd (omega arith)
  new_at j (suc i) within before k lt below same = elim (cases_lt k i) [
    | inl less ↦ new_at j i within before k less below same
    | inr ge ↦ let e : k ≡ i = omega arith in
        none k j (record {
          before = below;
          within = within;
          same = same;
          least_first = λ a l. new_at
              j i within before a (omega arith) (omega arith);
          least_second = before;
        })
  ]

  distinct_below : (n : ℕ) → n ≤ length xs → (a b : ℕ) → a < b → b < n
      → slice_get xs a ≡ slice_get xs b → ⊥
  distinct_below zero in_list a b lt below same = absurd (omega arith)
  distinct_below (suc n) in_list a b lt below same = elim (cases_lt b n) [
    | inl less ↦ distinct_below n (omega arith) a b lt less same
    | inr ge ↦ let e : b ≡ n = omega arith in
        new_at b b (omega arith) (λ c d l m. distinct_below n (omega arith) c d l (omega arith)) a
        lt lt same
  ]

  pub distinct : IsDistinct xs
  distinct a b lt within same = distinct_below (length xs) (omega arith) a b lt within same

-- ---- one item at a time

pub distinct_tail : {A : Type 0} (x : A) (xs : List A) → IsDistinct (x ∷ xs) → IsDistinct xs
distinct_tail x xs d a b lt within = d (suc a) (suc b) (omega arith) (omega arith)

pub distinct_head : {A : Type 0} (x : A) (xs : List A) → IsDistinct (x ∷ xs) → IsNowhere xs x
distinct_head x xs d k at_k =
    let within : k < length xs = slice_get_within xs k x at_k in
    d 0 (suc k) (omega arith) (omega arith) (sym at_k)

-- an item stands at one place
pub distinct_place : {A : Type 0} (xs : List A) (a b : ℕ) (x : A) → IsDistinct xs
    → slice_get xs a ≡ Some x → slice_get xs b ≡ Some x → a ≡ b
distinct_place xs a b x d at_a at_b = elim (cases_order a b) [
  | inl e ↦ e
  | inr h ↦ elim h [
    | inl lt ↦ absurd (d a b lt (slice_get_within xs b x at_b) (at_a ∙ sym at_b))
    | inr lt ↦ absurd (d b a lt (slice_get_within xs a x at_a) (at_b ∙ sym at_a))
  ]
]
