-- A text without the line end that it may have.
use Rattle.std.proofs.Common.{◌≡◌, ◌≢◌, refl, ap, ℕ, zero, suc, ◌≤◌, List, [], ◌∷◌, length, take, get_or, true, false, nat_eq, arith}
use Rattle.readers.proofs.Leaves.{pick_true, pick_false}
use Rattle.rpc_tool.specs.ValueCommands.{without_line_end}

pub last_gone : (k : ℕ) (s : List ℕ) → length s ≡ suc k → get_or s k 0 ≡ 10 → without_line_end s ≡ take k s
last_gone k [] len is = absurd (omega arith)
last_gone zero (b ∷ []) len is = let test : nat_eq b 10 ≡ true = grind arith in pick_true (nat_eq b 10) [] (b ∷ []) test
last_gone (suc k) (b ∷ []) len is = absurd (omega arith)
last_gone zero (b ∷ c ∷ s) len is = absurd (omega arith)
last_gone (suc k) (b ∷ c ∷ s) len is = ap (λ t. b ∷ t) (last_gone k (c ∷ s) (omega (arith, len)) is)

pub all_kept : (k : ℕ) (s : List ℕ) → length s ≡ suc k → get_or s k 0 ≢ 10 → without_line_end s ≡ s
all_kept k [] len other = refl
all_kept zero (b ∷ []) len other = let test : nat_eq b 10 ≡ false = grind arith in pick_false (nat_eq b 10) [] (b ∷ []) test
all_kept (suc k) (b ∷ []) len other = absurd (omega (arith, len))
all_kept zero (b ∷ c ∷ s) len other = absurd (omega (arith, len))
all_kept (suc k) (b ∷ c ∷ s) len other = ap (λ t. b ∷ t) (all_kept k (c ∷ s) (omega (arith, len)) other)

pub no_longer : (s : List ℕ) → length (without_line_end s) ≤ length s
no_longer [] = omega arith
no_longer (b ∷ []) = grind arith
no_longer (b ∷ c ∷ s) = let more = no_longer (c ∷ s) in omega (arith, more)
