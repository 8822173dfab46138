-- Numbers whose shortest form has more bytes than one.
use Rattle.std.specs.Prelude.{ℕ, ℤ, pos, negsuc, ◌^◌, ◌≤◌}

abbrev pub IsWideNat : ℕ → Type 0
IsWideNat n = 2 ^ 7 ≤ n

abbrev pub IsWideInt : ℤ → Type 0
IsWideInt (pos n) = IsWideNat n
IsWideInt (negsuc n) = Unit {0}
