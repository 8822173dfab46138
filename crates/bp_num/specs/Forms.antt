-- The number forms of bin_prot ("Binary protocol specification", natural numbers and integers): which bytes are which number.
use Rattle.std.specs.Prelude.{◌≡◌, ℕ, ℤ, pos, negsuc, zero, suc, ◌-◌, ◌/◌, ◌%◌, ◌^◌, ◌<◌, ◌≤◌, nat_lt, if◌then◌else◌, List, [], ◌∷◌, ◌⊎◌}
use Rattle.bp_num.specs.declared.number.IntKind.{IntKind}
use Rattle.bp_num.specs.declared.number.IntKind.TheVariants.{Int63, Int32, Int64}

-- the k low bytes of n, the lowest first
abbrev pub little_endian : ℕ → ℕ → List ℕ
little_endian zero n = []
little_endian (suc k) n = n % 256 ∷ little_endian k (n / 256)

-- ---- natural numbers

-- the k bytes of a number of at most max, as a length of fixed width has them
abbrev pub Payload : ℕ → ℕ → ℕ → List ℕ → Type 0
Payload k max n s = (n ≤ max) × (n < 256 ^ k) × (s ≡ little_endian k n)

-- a code, and the payload that it announces
abbrev pub Coded : ℕ → (ℕ → List ℕ → Type 0) → ℕ → List ℕ → Type 0
Coded code L n s = (t : List ℕ) × (s ≡ code ∷ t) × L n t

-- the bytes s are a form of the nat0 n, which is at most max
abbrev pub IsNat : ℕ → ℕ → List ℕ → Type 0
IsNat max n s =
    (n < 128) × (n ≤ max) × (s ≡ n ∷ [])
    ⊎ Coded 254 (Payload 2 max) n s
    ⊎ Coded 253 (Payload 4 max) n s
    ⊎ Coded 252 (Payload 8 max) n s

-- the shortest form
abbrev pub written_nat : ℕ → List ℕ
written_nat n =
    if nat_lt n 128 then n ∷ []
    else if nat_lt n (2 ^ 16) then 254 ∷ little_endian 2 n
    else if nat_lt n (2 ^ 32) then 253 ∷ little_endian 4 n
    else 252 ∷ little_endian 8 n

-- ---- integers

-- how far n is from 0, or for a negative number from -1: n has k bytes in two's complement where this is below half of 256 ^ k
abbrev pub extent : ℤ → ℕ
extent (pos n) = n
extent (negsuc n) = n

abbrev pub IsNegative : ℤ → Type 0
IsNegative (pos n) = ⊥
IsNegative (negsuc n) = Unit {0}

-- n in k bytes, two's complement, the lowest first
abbrev pub signed_bytes : ℕ → ℤ → List ℕ
signed_bytes k (pos n) = little_endian k n
signed_bytes k (negsuc n) = little_endian k (256 ^ k - suc n)

-- the kinds: OCaml's int has 63 bits, an int32 has no form of eight bytes
abbrev pub limit_of : IntKind → ℕ
limit_of Int63 = 2 ^ 62
limit_of Int32 = 2 ^ 31
limit_of Int64 = 2 ^ 63

abbrev pub HasEightBytes : IntKind → Type 0
HasEightBytes Int63 = Unit {0}
HasEightBytes Int32 = ⊥
HasEightBytes Int64 = Unit {0}

-- the bytes s are a form of the int n of a kind
abbrev pub IsInt : IntKind → ℤ → List ℕ → Type 0
IsInt kind n s = (extent n < limit_of kind) ×
    (((m : ℕ) × (m < 128) × (n ≡ pos m) × (s ≡ m ∷ []))
    ⊎ IsNegative n × (extent n < 128) × (s ≡ 255 ∷ signed_bytes 1 n)
    ⊎ (extent n < 2 ^ 15) × (s ≡ 254 ∷ signed_bytes 2 n)
    ⊎ (extent n < 2 ^ 31) × (s ≡ 253 ∷ signed_bytes 4 n)
    ⊎ HasEightBytes kind × (s ≡ 252 ∷ signed_bytes 8 n))

abbrev pub wide_int : ℤ → List ℕ
wide_int n =
    if nat_lt (extent n) (2 ^ 15) then 254 ∷ signed_bytes 2 n
    else if nat_lt (extent n) (2 ^ 31) then 253 ∷ signed_bytes 4 n
    else 252 ∷ signed_bytes 8 n

-- the shortest form
abbrev pub written_int : ℤ → List ℕ
written_int (pos n) = if nat_lt n 128 then n ∷ [] else wide_int (pos n)
written_int (negsuc n) = if nat_lt n 128 then 255 ∷ signed_bytes 1 (negsuc n) else wide_int (negsuc n)
