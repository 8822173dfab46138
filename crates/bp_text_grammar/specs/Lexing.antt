-- Which bytes are which token, and the tokens of a text. Blanks may stand between tokens and at both ends.
--
-- A minus is part of a number alone. For an arrow, as in `int -> bool`, give Token an Arrow whose bytes are a minus and a `>`, and which
-- anything may follow: a minus before `>` begins no number, so no other token changes.
use Rattle.std.specs.Prelude.{Option, Some, None, ◌≡◌, ◌≢◌, ℕ, ℤ, suc, pos, negsuc, ◌+◌, ◌*◌, ◌-◌, ◌≤◌, Bool, ◌&&◌, ◌||◌, not, nat_eq, if◌then◌else◌, List, [], ◌∷◌, ◌++◌, length, ◌⊎◌}
use Rattle.std.specs.Char.{is_ascii_alphabetic, is_ascii_digit}
use Rattle.std.specs.Int.{is_in_range}
use Rattle.bp_value.specs.Fits.{InRange}
use Rattle.readers.specs.Reader.{Each, Is, IsNot, Follows, IsProperFront, Then, Mapped, Branch, One, kept, this}
use Rattle.readers.specs.Until.{Until}
use Rattle.bp_text_grammar.specs.Tokens.{Token, Word, Number, Big, Text, Char, Mark, Wrong, OpenText, OpenChar}

-- ---- classes of bytes

abbrev pub blank : ℕ
blank = 0x20

abbrev pub minus : ℕ
minus = 0x2D

abbrev pub quote : ℕ
quote = 0x22

abbrev pub prime : ℕ
prime = 0x27

abbrev pub backslash : ℕ
backslash = 0x5C

abbrev pub underscore : ℕ
underscore = 0x5F

abbrev pub digit_zero : ℕ
digit_zero = 0x30

-- before two hex digits in quotes
abbrev pub hex_mark : ℕ
hex_mark = 0x78

abbrev pub starts_name : ℕ → Bool
starts_name b = is_ascii_alphabetic b || nat_eq b underscore

abbrev pub in_name : ℕ → Bool
in_name b = starts_name b || (is_ascii_digit b || nat_eq b prime)

-- `(` and `)`, `[` and `]`, `{` and `}`
abbrev pub is_bracket : ℕ → Bool
is_bracket b = nat_eq b 0x28 || (nat_eq b 0x29 || (nat_eq b 0x5B || (nat_eq b 0x5D || (nat_eq b 0x7B || nat_eq b 0x7D))))

-- `!`, `*`, `,`, `:`, `;`, `=`, the backtick and `|`
abbrev pub is_separator : ℕ → Bool
is_separator b =
    nat_eq b 0x21 || (nat_eq b 0x2A || (nat_eq b 0x2C || (nat_eq b 0x3A || (nat_eq b 0x3B || (nat_eq b 0x3D || (nat_eq b 0x60 || nat_eq b 0x7C))))))

abbrev pub is_punctuation : ℕ → Bool
is_punctuation b = is_bracket b || is_separator b

-- printable ASCII
abbrev pub is_printable : ℕ → Bool
is_printable b = is_in_range 0x20 0x7E b

-- ---- bytes in quotes

abbrev pub hex_digit : ℕ → Option ℕ
hex_digit c =
    if is_ascii_digit c then Some (c - 0x30)
    else if is_in_range 0x41 0x46 c then Some (c - 0x37)
    else if is_in_range 0x61 0x66 c then Some (c - 0x57)
    else None

-- two hex digits are a byte
abbrev pub IsHex : ℕ → List ℕ → Type 0
IsHex b s = Then (One hex_digit) (λ high. Mapped (λ low. 16 * high + low) (One hex_digit)) b s

abbrev pub is_quoting : ℕ → Bool
is_quoting b = nat_eq b quote || (nat_eq b prime || nat_eq b backslash)

-- a quote or a backslash after a backslash, or two hex digits after `\x`
abbrev pub IsEscape : ℕ → List ℕ → Type 0
IsEscape b s =
    Then (One (this backslash)) (λ u. Branch (Then (One (this hex_mark)) (λ v. IsHex)) (One (kept is_quoting))) b s

-- in quotes q another printable byte stands for itself
abbrev pub is_itself : ℕ → ℕ → Bool
is_itself q b = is_printable b && not (nat_eq b q || nat_eq b backslash)

-- the byte b stands in quotes q so
abbrev pub InQuotes : ℕ → ℕ → List ℕ → Type 0
InQuotes q b s = Branch IsEscape (One (kept (is_itself q))) b s

abbrev pub is_byte : ℕ → ℕ → Bool
is_byte c b = nat_eq b c

-- a text with its quotes, and a char with its own
abbrev pub IsQuotedText : List ℕ → List ℕ → Type 0
IsQuotedText bs s = Then (One (this quote)) (λ u. Until (is_byte quote) (InQuotes quote)) bs s

abbrev pub IsQuotedChar : ℕ → List ℕ → Type 0
IsQuotedChar b s = Then (One (this prime)) (λ u. Then (InQuotes prime) (λ c. Mapped (λ v. c) (One (this prime)))) b s

-- ---- names and numbers

abbrev pub IsWord : List ℕ → Type 0
IsWord [] = ⊥
IsWord (b ∷ bs) = Is starts_name b × Each (Is in_name) bs

-- the number that digits go on to, after those of n
abbrev pub value_on : ℕ → List ℕ → ℕ
value_on n [] = n
value_on n (d ∷ ds) = value_on (10 * n + (d - digit_zero)) ds

-- a zero stands alone
abbrev pub IsPlain : List ℕ → Type 0
IsPlain [] = ⊥
IsPlain (d ∷ ds) = d ≡ digit_zero → ds ≡ []

abbrev pub IsDigits : ℕ → List ℕ → Type 0
IsDigits n ds = (n ≡ value_on 0 ds) × Each (Is is_ascii_digit) ds × IsPlain ds

-- a minus stands before no zero
abbrev pub IsNumber : ℤ → List ℕ → Type 0
IsNumber (pos n) s = IsDigits n s
IsNumber (negsuc n) s = (ds : List ℕ) × (s ≡ minus ∷ ds) × IsDigits (suc n) ds

-- the range of a number that is kept, as bits below its sign
abbrev pub number_bits : ℕ
number_bits = 63

-- ---- tokens

-- the bytes x are the token
abbrev pub IsToken : Token → List ℕ → Type 0
IsToken (Word w) x = (x ≡ w) × IsWord w
IsToken (Number n) x = IsNumber n x × InRange number_bits n
IsToken Big x = (n : ℤ) × IsNumber n x × (InRange number_bits n → ⊥)
IsToken (Text w) x = IsQuotedText w x
IsToken (Char b) x = IsQuotedChar b x
IsToken (Mark b) x = (x ≡ b ∷ []) × Is is_punctuation b
IsToken Wrong x = ⊥
IsToken OpenText x = ⊥
IsToken OpenChar x = ⊥

-- what follows may not go on with the token
abbrev pub EndsBefore : Token → List ℕ → Type 0
EndsBefore (Word w) r = Follows (IsNot in_name) r
EndsBefore (Number n) r = Follows (IsNot is_ascii_digit) r
EndsBefore Big r = Follows (IsNot is_ascii_digit) r
EndsBefore (Text w) r = Unit {0}
EndsBefore (Char b) r = Unit {0}
EndsBefore (Mark b) r = Unit {0}
EndsBefore Wrong r = Unit {0}
EndsBefore OpenText r = Unit {0}
EndsBefore OpenChar r = Unit {0}

-- a token stands in front
abbrev pub BeginsToken : List ℕ → Type 0
BeginsToken y = (t : Token) × (x : List ℕ) × (r : List ℕ) × (y ≡ x ++ r) × IsToken t x × EndsBefore t r

-- the bytes begin a text of the language, and the end of all leaves it open
abbrev pub IsOpen : {A : Type 0} → (A → List ℕ → Type 0) → List ℕ → Type 0
IsOpen L y = (1 ≤ length y) × IsProperFront L y

-- something else than a blank and than a token stands in front
abbrev pub IsWrong : List ℕ → Type 0
IsWrong [] = ⊥
IsWrong (b ∷ s) = (b ≢ blank) × (BeginsToken (b ∷ s) → ⊥) × (IsOpen IsQuotedText (b ∷ s) → ⊥) × (IsOpen IsQuotedChar (b ∷ s) → ⊥)

-- y is all that is left, and no token stands in front of it
abbrev pub IsStuck : Token → List ℕ → Type 0
IsStuck Wrong y = IsWrong y
IsStuck OpenText y = IsOpen IsQuotedText y
IsStuck OpenChar y = IsOpen IsQuotedChar y
IsStuck (Word w) y = ⊥
IsStuck (Number n) y = ⊥
IsStuck Big y = ⊥
IsStuck (Text w) y = ⊥
IsStuck (Char b) y = ⊥
IsStuck (Mark b) y = ⊥

-- ---- the tokens of a text

-- a token, and the number of bytes from its first to the end of all
pub record Stamped : Type 0 where
  pub token : Token
  pub left : ℕ

abbrev pub AreBlanks : List ℕ → Type 0
AreBlanks s = Each (λ b. b ≡ blank) s

-- the token stands in front of y, and the property P has what stands after it
abbrev pub Foremost : Token → (List ℕ → Type 0) → List ℕ → Type 0
Foremost t P y = (x : List ℕ) × (r : List ℕ) × (y ≡ x ++ r) × IsToken t x × EndsBefore t r × P r

-- A text has the tokens. Where none stands the last one says so.
abbrev pub Lexes : List Stamped → List ℕ → Type 0
Lexes [] s = AreBlanks s
Lexes (t ∷ ts) s = (b : List ℕ) × (y : List ℕ) × (s ≡ b ++ y) × AreBlanks b × (t.left ≡ length y)
    × (Foremost t.token (Lexes ts) y ⊎ ((ts ≡ []) × IsStuck t.token y))
