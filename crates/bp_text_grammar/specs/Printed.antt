-- How tokens are printed, and printed tokens one after another.
use Rattle.std.specs.Prelude.{◌≡◌, ℕ, ℤ, ◌/◌, ◌%◌, true, nat_lt, if◌then◌else◌, List, [], ◌∷◌, ◌++◌}
use Rattle.std.specs.List.{flat_map}
use Rattle.std.specs.Fmt.{signed_decimal, digit_glyph}
use Rattle.bp_text_grammar.specs.Tokens.{Token}
use Rattle.bp_text_grammar.specs.Lexing.{quote, prime, backslash, hex_mark, is_quoting, is_printable, IsToken, EndsBefore, AreBlanks}

-- A byte in quotes: both quotes and the backslash after a backslash, another printable byte as itself, and the others as two hex
-- digits. A number that is no byte stays as it is, so that what is printed as bytes was of bytes.
abbrev pub escaped : ℕ → List ℕ
escaped b =
    if is_quoting b then backslash ∷ b ∷ []
    else if is_printable b then b ∷ []
    else if nat_lt b 256 then backslash ∷ hex_mark ∷ digit_glyph true (b / 16) ∷ digit_glyph true (b % 16) ∷ []
    else b ∷ []

abbrev pub quoted_text : List ℕ → List ℕ
quoted_text bs = quote ∷ flat_map escaped bs ++ quote ∷ []

abbrev pub quoted_char : ℕ → List ℕ
quoted_char b = prime ∷ escaped b ++ prime ∷ []

abbrev pub decimal_text : ℤ → List ℕ
decimal_text n = signed_decimal n

-- s is bytes of the tokens one after another, with blanks after each, and some where the next byte would go on with the token
abbrev pub Laid : List Token → List ℕ → Type 0
Laid [] s = s ≡ []
Laid (t ∷ ts) s = (x : List ℕ) × (b : List ℕ) × (r : List ℕ) × (s ≡ x ++ (b ++ r)) × IsToken t x × EndsBefore t (b ++ r) × AreBlanks b × Laid ts r
