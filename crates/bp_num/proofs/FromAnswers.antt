-- What an answer of `read_nat0` or `read_int` says of the readers over lists, for the readers above that call them.
use Rattle.std.proofs.Common.{◌≡◌, ℕ, ℤ, pos, ◌+◌, ◌≤◌, List, [], ◌∷◌, ◌++◌, length, take, drop, refl, inl, inr}
use Rattle.readers.specs.Reader.{whole, more, bad, Each, IsByte, Front, Mapped, IsProperFront}
use Rattle.readers.proofs.Places.{only_whole, only_more, only_bad}
use Rattle.bp_num.specs.declared.number.IntKind.{IntKind}
use Rattle.bp_num.specs.declared.number.NumRead.TheVariants.{Done, More, Bad}
use Rattle.bp_num.specs.declared.number.Why.{Why}
use Rattle.bp_num.specs.Forms.{IsNat, IsInt}
use Rattle.bp_num.specs.Reads.{IsNatFault, IsIntFault, IsNatRead, IsIntRead}
use Rattle.bp_num.specs.NumberAt.{nat_at, int_at}
use Rattle.bp_num.proofs.NatRight.{right_nat}
use Rattle.bp_num.proofs.IntRight.{right_int}
use Rattle.bp_num.proofs.OneReason.{nat_reason, int_reason}

proper : (max : ℕ) (p : List ℕ) → IsProperFront (Mapped pos (IsNat max)) p → IsProperFront (IsNat max) p
proper max p (z, b, x, (n, e, l)) = (n, b, x, l)

no_front : (max : ℕ) (p : List ℕ) → (Front (Mapped pos (IsNat max)) p → ⊥) → Front (IsNat max) p → ⊥
no_front max p none (n, x, l) = none (pos n, x, (n, refl, l))

-- a nat0 is within its limit
pub nat_limit : (max n : ℕ) (s : List ℕ) → IsNat max n s → n ≤ max
nat_limit max n s (inl x) = x.1
nat_limit max n s (inr (inl (t, e, l))) = l.0
nat_limit max n s (inr (inr (inl (t, e, l)))) = l.0
nat_limit max n s (inr (inr (inr (t, e, l)))) = l.0

pub nat_done : (max : ℕ) (s : List ℕ) (z : ℤ) (k : ℕ) → IsNatRead max s (Done z k)
    → (n : ℕ) × (z ≡ pos n) × (n ≤ max) × (k ≤ length s) × (nat_at max s ≡ whole n (drop k s))
nat_done max s z k (le, (n, e, l)) = (n, e, nat_limit max n (take k s) l, le, only_whole IsByte (IsNat max) (IsNatFault max) (nat_at max) (right_nat max) s n k (le, l))

pub nat_more : (max : ℕ) (s : List ℕ) → Each IsByte s → IsNatRead max s More → nat_at max s ≡ more
nat_more max s vs front = only_more IsByte (IsNat max) (IsNatFault max) (nat_at max) (right_nat max) s vs (proper max s front)

pub nat_bad : (max : ℕ) (s : List ℕ) (k : ℕ) (w : Why) → Each IsByte s → IsNatRead max s (Bad k w)
    → (n : ℕ) × (k + n ≡ length s) × (nat_at max s ≡ bad n w)
nat_bad max s k w vs (p, b, v, cut, at, front, none, why) =
    only_bad IsByte (IsNat max) (IsNatFault max) (nat_at max) (right_nat max) s k w vs
    (p, b, v, cut, at, proper max p front, no_front max (p ++ b ∷ []) none, why) (nat_reason max)

pub int_done : (kind : IntKind) (s : List ℕ) (z : ℤ) (k : ℕ) → IsIntRead kind s (Done z k) → (k ≤ length s) × (int_at kind s ≡ whole z (drop k s))
int_done kind s z k stands = (stands.0, only_whole IsByte (IsInt kind) IsIntFault (int_at kind) (right_int kind) s z k stands)

pub int_more : (kind : IntKind) (s : List ℕ) → Each IsByte s → IsIntRead kind s More → int_at kind s ≡ more
int_more kind s vs front = only_more IsByte (IsInt kind) IsIntFault (int_at kind) (right_int kind) s vs front

pub int_bad : (kind : IntKind) (s : List ℕ) (k : ℕ) (w : Why) → Each IsByte s → IsIntRead kind s (Bad k w)
    → (n : ℕ) × (k + n ≡ length s) × (int_at kind s ≡ bad n w)
int_bad kind s k w vs fault = only_bad IsByte (IsInt kind) IsIntFault (int_at kind) (right_int kind) s k w vs fault int_reason
