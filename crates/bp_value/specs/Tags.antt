-- The tag of a name: what tells the cases of a polymorphic variant apart.
use Rattle.std.specs.Prelude.{ℕ, ℤ, pos, ◌+◌, ◌*◌, ◌^◌, ◌%◌, ◌+ℤ◌, ◌-ℤ◌, ◌*ℤ◌, nat_lt, if◌then◌else◌, List, [], ◌∷◌, length}

-- the number whose digits to the base 223 are the bytes of the name
abbrev pub name_number : List ℕ → ℕ
name_number [] = 0
name_number (byte ∷ rest) = byte * 223 ^ length rest + name_number rest

-- the low 31 bits of a number, as a signed number of 31 bits
abbrev pub signed_low : ℕ → ℤ
signed_low n =
    if nat_lt (n % 2 ^ 31) (2 ^ 30) then pos (n % 2 ^ 31) else (pos (n % 2 ^ 31) -ℤ pos (2 ^ 31))

-- OCaml keeps the signed number h as 2h + 1
abbrev pub tag_of : List ℕ → ℤ
tag_of name = (pos 2 *ℤ signed_low (name_number name)) +ℤ pos 1
