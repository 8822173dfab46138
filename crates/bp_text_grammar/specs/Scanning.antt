-- The tokens of a text as a function of it.
use Rattle.std.specs.Prelude.{ℕ, ℤ, zero, suc, pos, negsuc, ◌+◌, ◌*◌, ◌^◌, Bool, true, false, not, nat_eq, nat_lt, if◌then◌else◌, List, [], ◌∷◌, length}
use Rattle.std.specs.Char.{is_ascii_digit}
use Rattle.readers.specs.Reader.{Outcome, whole, more, bad, after, mapped, one, branch, kept, this}
use Rattle.readers.specs.Until.{until}
use Rattle.bp_text_grammar.specs.Tokens.{Token, Word, Number, Big, Text, Char, Mark, Wrong, OpenText, OpenChar}
use Rattle.bp_text_grammar.specs.Lexing.{blank, minus, quote, prime, backslash, hex_mark, digit_zero, starts_name, in_name, is_punctuation, hex_digit, is_quoting, is_itself, is_byte, value_on, number_bits, Stamped}

-- ---- the readers of what stands in quotes

abbrev pub ByteReader : Type 0 → Type 0
ByteReader A = List ℕ → Outcome ℕ (Unit {0}) A

abbrev pub hex_at : ByteReader ℕ
hex_at s = after (one hex_digit tt s) (λ high u. mapped (λ low. 16 * high + low) (one hex_digit tt u))

abbrev pub escaped_at : ByteReader ℕ
escaped_at s = branch (is_byte hex_mark) (λ t. after (one (this hex_mark) tt t) (λ v. hex_at)) (one (kept is_quoting) tt) s

abbrev pub escape_at : ByteReader ℕ
escape_at s = after (one (this backslash) tt s) (λ u. escaped_at)

abbrev pub quoted_at : ℕ → ByteReader ℕ
quoted_at q s = branch (is_byte backslash) escape_at (one (kept (is_itself q)) tt) s

-- after the first quote
abbrev pub text_rest : ByteReader (List ℕ)
text_rest s = until (is_byte quote) tt (quoted_at quote) (length s) s

abbrev pub char_rest : ByteReader ℕ
char_rest s = after (quoted_at prime s) (λ b u. mapped (λ v. b) (one (this prime) tt u))

abbrev pub text_at : ByteReader (List ℕ)
text_at s = after (one (this quote) tt s) (λ u. text_rest)

abbrev pub char_at : ByteReader ℕ
char_at s = after (one (this prime) tt s) (λ u. char_rest)

-- ---- one token

-- a token and what stands after it, or the token that says why none stands
pub data Scanned : Type 0 where
  found : Token → List ℕ → Scanned
  stuck : Token → Scanned

-- the longest run of a class, and what stands after it
abbrev pub span : (ℕ → Bool) → List ℕ → List ℕ × List ℕ
span C [] = ([], [])
span C (b ∷ s) = if C b then (b ∷ (span C s).0, (span C s).1) else ([], b ∷ s)

abbrev pub is_plain : List ℕ → Bool
is_plain [] = false
is_plain (d ∷ []) = true
is_plain (d ∷ e ∷ ds) = not (nat_eq d digit_zero)

abbrev pub is_kept : ℤ → Bool
is_kept (pos n) = nat_lt n (2 ^ number_bits)
is_kept (negsuc n) = nat_lt n (2 ^ number_bits)

abbrev pub number_of : ℤ → Token
number_of n = if is_kept n then Number n else Big

-- the number of some digits, and with a minus before them
abbrev pub natural_found : List ℕ × List ℕ → Scanned
natural_found p = if is_plain p.0 then found (number_of (pos (value_on 0 p.0))) p.1 else stuck Wrong

abbrev pub negated : ℕ → List ℕ → Scanned
negated zero r = stuck Wrong
negated (suc n) r = found (number_of (negsuc n)) r

abbrev pub negative_found : List ℕ × List ℕ → Scanned
negative_found p = if is_plain p.0 then negated (value_on 0 p.0) p.1 else stuck Wrong

abbrev pub word_found : List ℕ × List ℕ → Scanned
word_found p = found (Word p.0) p.1

-- what was read in quotes is a token, or is left open, or is wrong
abbrev pub quoted_found : {A : Type 0} → (A → Token) → Token → Outcome ℕ (Unit {0}) A → Scanned
quoted_found made left (whole a r) = found (made a) r
quoted_found made left more = stuck left
quoted_found made left (bad n w) = stuck Wrong

-- what the first byte of a token says
pub data Kind : Type 0 where
  name : Kind
  digit : Kind
  negative : Kind
  text : Kind
  char : Kind
  mark : Kind
  other : Kind

abbrev pub kind_of : ℕ → Kind
kind_of b =
    if starts_name b then name
    else if is_ascii_digit b then digit
    else if nat_eq b minus then negative
    else if nat_eq b quote then text
    else if nat_eq b prime then char
    else if is_punctuation b then mark
    else other

abbrev pub scan_as : Kind → ℕ → List ℕ → Scanned
scan_as name b s = word_found (span in_name (b ∷ s))
scan_as digit b s = natural_found (span is_ascii_digit (b ∷ s))
scan_as negative b s = negative_found (span is_ascii_digit s)
scan_as text b s = quoted_found Text OpenText (text_rest s)
scan_as char b s = quoted_found Char OpenChar (char_rest s)
scan_as mark b s = found (Mark b) s
scan_as other b s = stuck Wrong

unfoldable pub scan : List ℕ → Scanned
scan [] = stuck Wrong
scan (b ∷ s) = scan_as (kind_of b) b s

-- ---- all tokens

abbrev pub after_blanks : List ℕ → List ℕ
after_blanks [] = []
after_blanks (b ∷ s) = if nat_eq b blank then after_blanks s else b ∷ s

abbrev pub stamped : Scanned → ℕ → (List ℕ → List Stamped) → List Stamped
stamped (found t r) n next = record { token = t; left = n } ∷ next r
stamped (stuck t) n next = record { token = t; left = n } ∷ []

abbrev pub from : List ℕ → (List ℕ → List Stamped) → List Stamped
from [] next = []
from (b ∷ s) next = stamped (scan (b ∷ s)) (length (b ∷ s)) next

-- at most k tokens
unfoldable pub lex_within : ℕ → List ℕ → List Stamped
lex_within zero s = []
lex_within (suc k) s = from (after_blanks s) (lex_within k)

-- no text has more tokens than bytes
abbrev pub lex : List ℕ → List Stamped
lex s = lex_within (length s) s
