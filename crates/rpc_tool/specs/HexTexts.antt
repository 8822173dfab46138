-- Hex input: two digits of either case for each byte. Blanks may stand between the pairs, and line ends with them.
use Rattle.std.specs.Prelude.{◌≡◌, ℕ, ◌+◌, Bool, ◌||◌, nat_eq, List, [], ◌∷◌, ◌++◌, length}
use Rattle.readers.specs.Reader.{Each, Is, IsRefused}
use Rattle.bp_text_grammar.specs.Lexing.{IsHex}

abbrev pub is_hex_blank : ℕ → Bool
is_hex_blank b = nat_eq b 0x20 || (nat_eq b 0x0A || nat_eq b 0x0D)

abbrev pub AreHexBlanks : List ℕ → Type 0
AreHexBlanks s = Each (Is is_hex_blank) s

-- the text is of these bytes
abbrev pub IsHexText : List ℕ → List ℕ → Type 0
IsHexText [] s = AreHexBlanks s
IsHexText (b ∷ bytes) s = (blanks : List ℕ) × (pair : List ℕ) × (rest : List ℕ) × (s ≡ blanks ++ (pair ++ rest))
    × AreHexBlanks blanks × IsHex b pair × IsHexText bytes rest

-- The text is of no bytes: at this place the first byte stands after which none is, or the text ends within a pair.
abbrev pub IsBadHex : List ℕ → ℕ → Type 0
IsBadHex s at = (left : ℕ) × IsRefused IsHexText s left × (at + left ≡ length s)
