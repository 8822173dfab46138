-- What stands in front of some bytes: a number, the front of one, or a first faulty byte with its reason.
use Rattle.std.specs.Prelude.{◌≡◌, ℕ, ℤ, pos, ◌+◌, ◌*◌, ◌<◌, ◌≤◌, nat_eq, if◌then◌else◌, List, [], ◌∷◌, ◌++◌, length, ◌⊎◌}
use Rattle.readers.specs.Reader.{Mapped, Stands, IsProperFront, IsFaultAt}
use Rattle.bp_num.specs.Forms.{IsNat, IsInt}
use Rattle.bp_num.specs.declared.number.IntKind.{IntKind}
use Rattle.bp_num.specs.declared.number.NumRead.{NumRead}
use Rattle.bp_num.specs.declared.number.NumRead.TheVariants.{Done, More, Bad}
use Rattle.bp_num.specs.declared.number.Why.{Why}
use Rattle.bp_num.specs.declared.number.Why.TheVariants.{Code, Sign, Range, Length}

-- the number of some bytes, the lowest first
abbrev pub low_first : List ℕ → ℕ
low_first [] = 0
low_first (b ∷ s) = b + 256 * low_first s

-- how many bytes follow a first byte of a nat0
abbrev pub width_of : ℕ → ℕ
width_of c = if nat_eq c 254 then 2 else if nat_eq c 253 then 4 else if nat_eq c 252 then 8 else 0

-- the byte b, one of k, makes the low bytes so far pass the limit
abbrev pub Passes : ℕ → ℕ → List ℕ → ℕ → Why → Type 0
Passes k max p b w = (w ≡ Length) × (length p < k) × (max < low_first (p ++ b ∷ []))

-- Why the byte b is at fault after the bytes p of a nat0: as a first byte it is no number and no code, or passes the limit itself;
-- later it makes the low bytes so far pass the limit. No byte after the last one of a number is at fault.
abbrev pub IsNatFault : ℕ → List ℕ → ℕ → Why → Type 0
IsNatFault max [] b w = (w ≡ Code) × (128 ≤ b) ⊎ (w ≡ Length) × (b < 128)
IsNatFault max (c ∷ p) b w = Passes (width_of c) max p b w

-- Why the byte b is at fault after the bytes p of an int: as a first byte; after `FF`; or as the last byte of eight. As a first
-- byte each byte has the reason, since the reason counts only where the byte is at fault.
abbrev pub IsIntFault : List ℕ → ℕ → Why → Type 0
IsIntFault [] b w = w ≡ Code
IsIntFault (c ∷ p) b w = (w ≡ Sign) × (c ≡ 255) × (p ≡ []) ⊎ (w ≡ Range) × (c ≡ 252) × (length p ≡ 7)

-- what an answer says of the bytes s, for numbers of the language L and reasons R
abbrev pub IsNumRead : (ℤ → List ℕ → Type 0) → (List ℕ → ℕ → Why → Type 0) → List ℕ → NumRead → Type 0
IsNumRead L R s (Done n k) = Stands L s n k
IsNumRead L R s More = IsProperFront L s
IsNumRead L R s (Bad k w) = IsFaultAt L R s k w

abbrev pub IsNatRead : ℕ → List ℕ → NumRead → Type 0
IsNatRead max s r = IsNumRead (Mapped pos (IsNat max)) (IsNatFault max) s r

abbrev pub IsIntRead : IntKind → List ℕ → NumRead → Type 0
IsIntRead kind s r = IsNumRead (IsInt kind) IsIntFault s r
