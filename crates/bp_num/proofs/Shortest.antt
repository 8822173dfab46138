-- The shortest form is a form, and no form of the number is shorter.
use Rattle.std.proofs.Common.{◌≡◌, refl, ℕ, ℤ, pos, negsuc, zero, suc, ◌/◌, ◌^◌, ◌<◌, ◌≤◌, nat_lt, List, length, inl, inr, arith, rules}
use Rattle.std.proofs.lemmas.Bool.{cases_lt}
use Rattle.readers.proofs.Leaves.{pick_true, pick_false}
use Rattle.bp_num.specs.Forms.{little_endian, IsNat, written_nat, extent, limit_of, IsInt, written_int}
use Rattle.bp_num.specs.declared.number.IntKind.{IntKind}
use Rattle.bp_num.specs.declared.number.IntKind.TheVariants.{Int63, Int32, Int64}

pub length-little_endian : (k n : ℕ) → length (little_endian k n) ≡ k
length-little_endian zero n = refl
length-little_endian (suc k) n = omega (arith, length-little_endian k (n / 256))

-- ---- natural numbers

pub nat_form : (m n : ℕ) → n ≤ m → n < 2 ^ 64 → IsNat m n (written_nat n)
nat_form m n le fits = elim (cases_lt n 128) [
  | inl lt ↦ rw (pick_true (nat_lt n 128) _ _ (grind arith)) (inl (lt, le, refl))
  | inr ge ↦ rw (pick_false (nat_lt n 128) _ _ (grind arith)) (elim (cases_lt n (2 ^ 16)) [
    | inl lt ↦ rw (pick_true (nat_lt n (2 ^ 16)) _ _ (grind arith)) (inr (inl (little_endian 2 n, refl, (le, lt, refl))))
    | inr ge ↦ rw (pick_false (nat_lt n (2 ^ 16)) _ _ (grind arith)) (elim (cases_lt n (2 ^ 32)) [
      | inl lt ↦ rw (pick_true (nat_lt n (2 ^ 32)) _ _ (grind arith)) (inr (inr (inl (little_endian 4 n, refl, (le, lt, refl)))))
      | inr ge ↦ rw (pick_false (nat_lt n (2 ^ 32)) _ _ (grind arith)) (inr (inr (inr (little_endian 8 n, refl, (le, fits, refl)))))
    ])
  ])
]

pub nat_shortest : (m n : ℕ) (s : List ℕ) → IsNat m n s → length (written_nat n) ≤ length s
nat_shortest m n s (inl (lt, le, e)) = search rules
nat_shortest m n s (inr (inl (t, e, (le, lt, f)))) = search rules
nat_shortest m n s (inr (inr (inl (t, e, (le, lt, f))))) = search rules
nat_shortest m n s (inr (inr (inr (t, e, (le, lt, f))))) = search rules

-- ---- integers

pub int_form : (kind : IntKind) (n : ℤ) → extent n < limit_of kind → IsInt kind n (written_int n)
int_form Int63 (pos n) fits = search rules
int_form Int63 (negsuc n) fits = search rules
int_form Int32 (pos n) fits = search rules
int_form Int32 (negsuc n) fits = search rules
int_form Int64 (pos n) fits = search rules
int_form Int64 (negsuc n) fits = search rules

pub int_shortest : (kind : IntKind) (n : ℤ) (s : List ℕ) → IsInt kind n s → length (written_int n) ≤ length s
int_shortest kind (pos n) s form = search rules
int_shortest kind (negsuc n) s form = search rules
