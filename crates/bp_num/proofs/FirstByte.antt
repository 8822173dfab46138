-- The first byte of a number, by cases.
use Rattle.std.proofs.Common.{◌≡◌, ℕ, ◌<◌, ◌≤◌, ◌⊎◌, inl, inr, arith}
use Rattle.std.proofs.lemmas.Bool.{cases_lt}

-- a number of its own, a code, or neither
pub data FirstByte (b : ℕ) : Type 0 where
  small : b < 128 → FirstByte b
  one : b ≡ 255 → FirstByte b
  two : b ≡ 254 → FirstByte b
  four : b ≡ 253 → FirstByte b
  eight : b ≡ 252 → FirstByte b
  other : 128 ≤ b → b < 252 ⊎ 255 < b → FirstByte b

pub first_byte : (b : ℕ) → FirstByte b
first_byte b = elim (cases_lt b 128) [ inl lt ↦ small lt | inr ge ↦ from_128 ge ]
  where
    codes : 252 ≤ b → b ≤ 255 → FirstByte b
    codes ge le =
        elim (cases_lt b 253) [
          | inl lt ↦ eight (omega arith)
          | inr more ↦ elim (cases_lt b 254) [
            | inl lt ↦ four (omega arith)
            | inr most ↦ elim (cases_lt b 255) [ inl lt ↦ two (omega arith) | inr last ↦ one (omega arith) ]
          ]
        ]

    from_128 : 128 ≤ b → FirstByte b
    from_128 ge =
        elim (cases_lt b 252) [
          | inl lt ↦ other ge (inl lt)
          | inr code ↦ elim (cases_lt 255 b) [ inl gt ↦ other ge (inr gt) | inr le ↦ codes code le ]
        ]
