-- What the head of a value leaves of the bytes at a cursor.
use Rattle.std.proofs.Common.{◌≡◌, refl, sym, ap, ◌∙◌, ℕ, ℤ, pos, negsuc, zero, suc, ◌+◌, ◌-◌, ◌^◌, ◌<◌, ◌≤◌, nat_lt, nat_le, List, [], ◌∷◌, length, take, drop, get_or, w64, to_z, of_z, inl, inr, arith}
use Rattle.std.proofs.Math.IntN.{nat_abs}
use Rattle.std.proofs.lemmas.Int.{ints}
use Rattle.std.proofs.lemmas.List.{take_rest, length-drop}
use Rattle.readers.specs.Reader.{whole, more, bad, after, mapped, symbols, Each, IsByte}
use Rattle.readers.proofs.Leaves.{pick_true}
use Rattle.bp_num.specs.declared.number.IntKind.{IntKind}
use Rattle.bp_num.specs.declared.number.IntKind.TheVariants.{Int63, Int32, Int64}
use Rattle.bp_num.specs.declared.number.NumRead.TheVariants.{Done, Bad}
use Rattle.bp_num.specs.declared.number.Why.{Why}
use Rattle.bp_num.specs.Forms.{IsNat, IsInt, extent, limit_of}
use Rattle.bp_num.specs.Reads.{IsNatRead, IsIntRead}
use Rattle.bp_num.specs.NumberAt.{nat_at, int_at}
use Rattle.bp_num.proofs.FromAnswers.{nat_done, nat_bad, int_done, int_bad}
use Rattle.bp_grammar.specs.Reading.{sized_at}

-- ---- a cursor that moved by k bytes

abbrev pub behind : ℕ → List ℕ → List ℕ
behind k s = take (length s - k) (drop k s)

pub behind-drop : (k : ℕ) (s : List ℕ) → behind k s ≡ drop k s
behind-drop k s = take_rest s k

-- a text that has bytes leaves fewer
pub fewer : (k : ℕ) (s : List ℕ) → 0 < length (take k s) → length (behind k s) < length s
fewer zero [] some = absurd (omega arith)
fewer zero (b ∷ s) some = absurd (omega arith)
fewer (suc k) [] some = absurd (omega arith)
fewer (suc k) (b ∷ s) some = omega (arith, ap length (behind-drop (suc k) (b ∷ s)), length-drop k s)

-- ---- numbers

nat_some : (max n : ℕ) (s : List ℕ) → IsNat max n s → 0 < length s
nat_some max n s (inl x) = omega (arith, ap length x.2)
nat_some max n s (inr (inl (t, e, l))) = omega (arith, ap length e)
nat_some max n s (inr (inr (inl (t, e, l)))) = omega (arith, ap length e)
nat_some max n s (inr (inr (inr (t, e, l)))) = omega (arith, ap length e)

int_some : (kind : IntKind) (z : ℤ) (s : List ℕ) → IsInt kind z s → 0 < length s
int_some kind z s (fits, inl (m, lt, is, e)) = omega (arith, ap length e)
int_some kind z s (fits, inr (inl x)) = omega (arith, ap length x.2)
int_some kind z s (fits, inr (inr (inl x))) = omega (arith, ap length x.1)
int_some kind z s (fits, inr (inr (inr (inl x)))) = omega (arith, ap length x.1)
int_some kind z s (fits, inr (inr (inr (inr x)))) = omega (arith, ap length x.1)

pub length_done : (max : ℕ) (s : List ℕ) (z : ℤ) (k : ℕ) → max < 2 ^ 62 → IsNatRead max s (Done z k)
    → (nat_at max s ≡ whole (nat_abs (to_z w64 (of_z w64 z))) (behind k s)) × (length (behind k s) < length s)
length_done max s z k limit stands = given (nat_done max s z k stands)
  where
    given : (n : ℕ) × (z ≡ pos n) × (n ≤ max) × (k ≤ length s) × (nat_at max s ≡ whole n (drop k s))
        → (nat_at max s ≡ whole (nat_abs (to_z w64 (of_z w64 z))) (behind k s)) × (length (behind k s) < length s)
    given (n, e, le, used, is) =
        let number : n ≡ nat_abs (to_z w64 (of_z w64 z)) = rw e (omega (arith, ints)) in (
          is ∙ (ap (λ x. whole x (drop k s)) number ∙ ap (λ u. whole (nat_abs (to_z w64 (of_z w64 z))) u) (sym (behind-drop k s))),
          fewer k s (nat_some max stands.1.0 (take k s) stands.1.2),
        )

pub length_bad : (max : ℕ) (s : List ℕ) (k : ℕ) (w : Why) → Each IsByte s → IsNatRead max s (Bad k w)
    → nat_at max s ≡ bad (length (behind k s)) w
length_bad max s k w vs fault = given (nat_bad max s k w vs fault)
  where
    given : (n : ℕ) × (k + n ≡ length s) × (nat_at max s ≡ bad n w) → nat_at max s ≡ bad (length (behind k s)) w
    given (n, at, is) =
        let left : n ≡ length (behind k s) = omega (arith, ap length (behind-drop k s), length-drop k s) in
        is ∙ ap (λ x. bad x w) left

-- a length of one byte
pub length_short : (max n : ℕ) (s : List ℕ) → 1 ≤ length s → n ≡ get_or s 0 0 → n < 128 → n ≤ max
    → (nat_at max s ≡ whole n (behind 1 s)) × (length (behind 1 s) < length s)
unfolding nat_at
length_short max n [] len is lt le = absurd (omega arith)
length_short max n (b ∷ t) len is lt le = (
  pick_true (nat_lt b 128) _ _ (grind arith) ∙ (pick_true (nat_le b max) _ _ (grind arith) ∙ (ap (λ x. whole x t) (sym is) ∙ ap (λ u. whole n u) (sym (behind-drop 1 (b ∷ t))))),
  fewer 1 (b ∷ t) (omega arith),
)

-- an int of each kind is one of 64 bits
in_64_bits : (kind : IntKind) (z : ℤ) → extent z < limit_of kind → to_z w64 (of_z w64 z) ≡ z
in_64_bits kind z lt = kept z (most kind z lt)
  where
    most : (kind : IntKind) (z : ℤ) → extent z < limit_of kind → extent z < 2 ^ 63
    most Int63 z lt = omega arith
    most Int32 z lt = omega arith
    most Int64 z lt = lt

    kept : (z : ℤ) → extent z < 2 ^ 63 → to_z w64 (of_z w64 z) ≡ z
    kept (pos n) lt = omega (arith, ints)
    kept (negsuc n) lt = omega (arith, ints)

pub number_done : (kind : IntKind) (s : List ℕ) (z : ℤ) (k : ℕ) → IsIntRead kind s (Done z k)
    → (int_at kind s ≡ whole (to_z w64 (of_z w64 z)) (behind k s)) × (length (behind k s) < length s)
number_done kind s z k stands =
    let number : to_z w64 (of_z w64 z) ≡ z = in_64_bits kind z stands.1.0 in (
      (int_done kind s z k stands).1 ∙ (ap (λ x. whole x (drop k s)) (sym number) ∙ ap (λ u. whole (to_z w64 (of_z w64 z)) u) (sym (behind-drop k s))),
      fewer k s (int_some kind z (take k s) stands.1),
    )

pub number_bad : (kind : IntKind) (s : List ℕ) (k : ℕ) (w : Why) → Each IsByte s → IsIntRead kind s (Bad k w)
    → int_at kind s ≡ bad (length (behind k s)) w
number_bad kind s k w vs fault = given (int_bad kind s k w vs fault)
  where
    given : (n : ℕ) × (k + n ≡ length s) × (int_at kind s ≡ bad n w) → int_at kind s ≡ bad (length (behind k s)) w
    given (n, at, is) =
        let left : n ≡ length (behind k s) = omega (arith, ap length (behind-drop k s), length-drop k s) in
        is ∙ ap (λ x. bad x w) left

-- an int of one byte
pub number_short : (kind : IntKind) (z : ℤ) (s : List ℕ) → 1 ≤ length s → z ≡ pos (get_or s 0 0) → get_or s 0 0 < 128
    → (int_at kind s ≡ whole (to_z w64 (of_z w64 z)) (behind 1 s)) × (length (behind 1 s) < length s)
unfolding int_at
number_short kind z [] len is lt = absurd (omega arith)
number_short kind z (b ∷ t) len is lt =
    let number : to_z w64 (of_z w64 z) ≡ pos b = rw is (omega (arith, ints)) in (
      pick_true (nat_lt b 128) _ _ (grind arith) ∙ (ap (λ x. whole x t) (sym number) ∙ ap (λ u. whole (to_z w64 (of_z w64 z)) u) (sym (behind-drop 1 (b ∷ t)))),
      fewer 1 (b ∷ t) (omega arith),
    )

-- ---- texts

symbols_all : {W : Type 0} (n : ℕ) (s : List ℕ) → n ≤ length s → symbols {W = W} n s ≡ whole (take n s) (drop n s)
symbols_all zero [] le = refl
symbols_all zero (b ∷ s) le = refl
symbols_all (suc n) [] le = absurd (omega arith)
symbols_all (suc n) (b ∷ s) le = ap (λ o. mapped (λ t. b ∷ t) o) (symbols_all n s (omega arith))

symbols_short : {W : Type 0} (n : ℕ) (s : List ℕ) → length s < n → symbols {W = W} n s ≡ more
symbols_short zero s lt = absurd (omega arith)
symbols_short (suc n) [] lt = refl
symbols_short (suc n) (b ∷ s) lt = ap (λ o. mapped (λ t. b ∷ t) o) (symbols_short n s (omega arith))

-- after its length the bytes u are left, and n of them are the text
pub text_all : (max n : ℕ) (s u t : List ℕ) → (nat_at max s ≡ whole n u) × (length u < length s) → n ≤ length u → t ≡ take n u
    → (sized_at max s ≡ whole t (behind n u)) × (length (behind n u) < length s)
text_all max n s u t (is, less) le same =
    let left : length (behind n u) ≡ length u - n = ap length (behind-drop n u) ∙ length-drop n u in (
      ap (λ o. after o symbols) is ∙ (symbols_all n u le ∙ (ap (λ x. whole x (drop n u)) (sym same) ∙ ap (λ x. whole t x) (sym (behind-drop n u)))),
      omega arith,
    )

pub text_short : (max n : ℕ) (s u : List ℕ) → (nat_at max s ≡ whole n u) × (length u < length s) → length u < n → sized_at max s ≡ more
text_short max n s u (is, less) lt = ap (λ o. after o symbols) is ∙ symbols_short n u lt
