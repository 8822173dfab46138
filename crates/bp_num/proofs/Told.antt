-- An answer says what stands in front, and no other answer does.
use Rattle.std.proofs.Common.{◌≡◌, refl, sym, ap, ◌∙◌, subst, ℕ, ℤ, pos, ◌-◌, ◌≤◌, List, length, take, drop, arith}
use Rattle.std.proofs.lemmas.List.{length-drop}
use Rattle.readers.specs.Reader.{Outcome, whole, more, bad, mapped, Each, IsByte, Any, Right, Mapped, IsFaultAt}
use Rattle.readers.proofs.Readers.{right_mapped}
use Rattle.readers.proofs.Places.{told_whole, told_more, told_bad, only_whole, only_more, only_bad}
use Rattle.bp_num.specs.declared.number.IntKind.{IntKind}
use Rattle.bp_num.specs.declared.number.NumRead.{NumRead}
use Rattle.bp_num.specs.declared.number.NumRead.TheVariants.{Done, More, Bad}
use Rattle.bp_num.specs.declared.number.Why.{Why}
use Rattle.bp_num.specs.Forms.{IsNat, IsInt}
use Rattle.bp_num.specs.Reads.{IsNatFault, IsIntFault, IsNumRead, IsNatRead, IsIntRead}
use Rattle.bp_num.specs.NumberAt.{answer, nat_at, int_at}
use Rattle.bp_num.proofs.NatRight.{right_nat}
use Rattle.bp_num.proofs.IntRight.{right_int}
use Rattle.bp_num.proofs.OneReason.{nat_reason, int_reason}

module _ (L : ℤ → List ℕ → Type 0) (R : List ℕ → ℕ → Why → Type 0) (r : List ℕ → Outcome ℕ Why ℤ) (right : Right IsByte Any L R r)
    (one_reason : (p : List ℕ) (b : ℕ) (v w : Why) → R p b v → R p b w → v ≡ w) where
  pub told : (s : List ℕ) → Each IsByte s → IsNumRead L R s (answer (length s) (r s))
  told s vs = go (r s) refl
    where
      go : (o : Outcome ℕ Why ℤ) → r s ≡ o → IsNumRead L R s (answer (length s) o)
      go (whole z u) e =
          let (k, stands, rest) = told_whole IsByte L R r right s z u vs e in
          let le : k ≤ length s = stands.0 in
          let left : length u ≡ length s - k = ap length rest ∙ length-drop k s in
          let used : length s - length u ≡ k = omega arith in
          (omega arith, subst (λ j. L z (take j s)) (sym used) stands.1)
      go more e = told_more IsByte L R r right s vs e
      go (bad n w) e =
          let (k, sum, fault) = told_bad IsByte L R r right s n w vs e in
          let at : k ≡ length s - n = omega arith in
          subst (λ j. IsFaultAt L R s j w) at fault

  pub only : (s : List ℕ) → Each IsByte s → (a : NumRead) → IsNumRead L R s a → a ≡ answer (length s) (r s)
  only s vs (Done z k) stands =
      let e : r s ≡ whole z (drop k s) = only_whole IsByte L R r right s z k stands in
      let le : k ≤ length s = stands.0 in
      let left : length (drop k s) ≡ length s - k = length-drop k s in
      let used : k ≡ length s - length (drop k s) = omega arith in
      ap (λ j. Done z j) used ∙ ap (λ o. answer (length s) o) (sym e)
  only s vs More front = ap (λ o. answer (length s) o) (sym (only_more IsByte L R r right s vs front))
  only s vs (Bad k w) fault =
      let (n, sum, e) = only_bad IsByte L R r right s k w vs fault one_reason in
      let at : k ≡ length s - n = omega arith in
      ap (λ j. Bad j w) at ∙ ap (λ o. answer (length s) o) (sym e)

-- the reader of a nat0, as a reader of integers
nat_right : (max : ℕ) → Right IsByte Any (Mapped pos (IsNat max)) (IsNatFault max) (λ s. mapped pos (nat_at max s))
nat_right max = right_mapped IsByte Any pos (IsNat max) (IsNatFault max) (nat_at max) (right_nat max)

pub nat_told : (max : ℕ) (s : List ℕ) → Each IsByte s → IsNatRead max s (answer (length s) (mapped pos (nat_at max s)))
nat_told max s vs = told (Mapped pos (IsNat max)) (IsNatFault max) (λ s. mapped pos (nat_at max s)) (nat_right max) (nat_reason max) s vs

pub nat_only : (max : ℕ) (s : List ℕ) → Each IsByte s → (a : NumRead) → IsNatRead max s a
    → a ≡ answer (length s) (mapped pos (nat_at max s))
nat_only max s vs a is = only (Mapped pos (IsNat max)) (IsNatFault max) (λ s. mapped pos (nat_at max s)) (nat_right max) (nat_reason max) s vs a is

pub int_told : (kind : IntKind) (s : List ℕ) → Each IsByte s → IsIntRead kind s (answer (length s) (int_at kind s))
int_told kind s vs = told (IsInt kind) IsIntFault (int_at kind) (right_int kind) int_reason s vs

pub int_only : (kind : IntKind) (s : List ℕ) → Each IsByte s → (a : NumRead) → IsIntRead kind s a
    → a ≡ answer (length s) (int_at kind s)
int_only kind s vs a is = only (IsInt kind) IsIntFault (int_at kind) (right_int kind) int_reason s vs a is
