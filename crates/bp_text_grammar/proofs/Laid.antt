-- Printed tokens are read again.
use Rattle.std.proofs.Common.{◌≡◌, refl, sym, ap, ◌∙◌, subst, Some, true, false, ℕ, ◌+◌, ◌/◌, ◌%◌, ◌-◌, ◌<◌, nat_lt, List, [], ◌∷◌, ◌++◌, length, map, append_assoc, inl, inr, arith}
use Rattle.std.specs.Char.{is_ascii_digit}
use Rattle.std.specs.Int.{is_in_range}
use Rattle.std.specs.List.{flat_map}
use Rattle.std.specs.Fmt.{digit_glyph}
use Rattle.readers.specs.Reader.{Each, Is, IsNot, IsByte, Follows}
use Rattle.readers.specs.Until.{Until}
use Rattle.readers.proofs.Readers.{each-join}
use Rattle.readers.proofs.Leaves.{is_or, pick_true, pick_false, this_same}
use Rattle.bp_text_grammar.specs.Tokens.{Token, Word, Number, Big, Text, Char, Mark, Wrong, OpenText, OpenChar}
use Rattle.bp_text_grammar.specs.Lexing.{blank, quote, prime, backslash, hex_mark, in_name, hex_digit, IsHex, is_quoting, is_printable, is_itself, InQuotes, is_byte, IsToken, EndsBefore, Stamped, AreBlanks, Lexes}
use Rattle.bp_text_grammar.specs.Scanning.{lex}
use Rattle.bp_text_grammar.specs.Printed.{escaped, quoted_text, quoted_char, Laid}
use Rattle.bp_text_grammar.proofs.Exact.{lexes_lex}

-- ---- bytes in quotes

small_glyph : (d : ℕ) → nat_lt d 10 ≡ true → hex_digit (digit_glyph true d) ≡ Some d
small_glyph d e =
    let is : digit_glyph true d ≡ 48 + d = pick_true (nat_lt d 10) _ _ e in
    let digit : is_ascii_digit (48 + d) ≡ true = grind arith in
    let back : (48 + d) - 48 ≡ d = omega arith in
    ap hex_digit is ∙ (pick_true (is_ascii_digit (48 + d)) _ _ digit ∙ ap (λ n. Some n) back)

large_glyph : (d : ℕ) → nat_lt d 10 ≡ false → d < 16 → hex_digit (digit_glyph true d) ≡ Some d
large_glyph d e lt =
    let is : digit_glyph true d ≡ 55 + d = pick_false (nat_lt d 10) _ _ e in
    let digit : is_ascii_digit (55 + d) ≡ false = grind arith in
    let letter : is_in_range 0x41 0x46 (55 + d) ≡ true = grind arith in
    let back : (55 + d) - 55 ≡ d = omega arith in
    ap hex_digit is
    ∙ (pick_false (is_ascii_digit (55 + d)) _ _ digit ∙ (pick_true (is_in_range 0x41 0x46 (55 + d)) _ _ letter ∙ ap (λ n. Some n) back))

glyph_is : (d : ℕ) → d < 16 → hex_digit (digit_glyph true d) ≡ Some d
glyph_is d lt = elim (is_or (nat_lt d 10)) [ inl e ↦ small_glyph d e | inr e ↦ large_glyph d e lt ]

hex_is : (b : ℕ) → b < 256 → IsHex b (digit_glyph true (b / 16) ∷ digit_glyph true (b % 16) ∷ [])
hex_is b lt =
    let high = digit_glyph true (b / 16) in
    let low = digit_glyph true (b % 16) in (
      b / 16,
      high ∷ [],
      low ∷ [],
      refl,
      (high, refl, glyph_is (b / 16) (omega arith)),
      (b % 16, omega arith, (low, refl, glyph_is (b % 16) (omega arith))),
    )

byte_is : (b : ℕ) → b < 256 → nat_lt b 256 ≡ true
byte_is b lt = grind arith

-- in either quotes
escape_is : (q b : ℕ) → Is is_quoting q → b < 256 → InQuotes q b (escaped b)
escape_is q b quotes lt = elim (is_or (is_quoting b)) [
  | inl e ↦ subst (λ s. InQuotes q b s) (sym (pick_true (is_quoting b) _ _ e)) (after_backslash e)
  | inr e ↦ subst (λ s. InQuotes q b s) (sym (pick_false (is_quoting b) _ _ e)) (elim (is_or (is_printable b)) [
    | inl p ↦ subst (λ s. InQuotes q b s) (sym (pick_true (is_printable b) _ _ p)) (itself e p)
    | inr p ↦ subst (λ s. InQuotes q b s) (sym (pick_false (is_printable b) _ _ p ∙ pick_true (nat_lt b 256) _ _ (byte_is b lt))) in_hex
  ])
]
  where
    after_backslash : is_quoting b ≡ true → InQuotes q b (backslash ∷ b ∷ [])
    after_backslash e =
        inl (tt, backslash ∷ [], b ∷ [], refl, (backslash, refl, this_same backslash), inr (b, refl, pick_true (is_quoting b) _ _ e))

    itself : is_quoting b ≡ false → is_printable b ≡ true → InQuotes q b (b ∷ [])
    itself e p = let is : is_itself q b ≡ true = grind arith in inr (b, refl, pick_true (is_itself q b) _ _ is)

    in_hex : InQuotes q b (backslash ∷ hex_mark ∷ digit_glyph true (b / 16) ∷ digit_glyph true (b % 16) ∷ [])
    in_hex =
        inl (
          tt,
          backslash ∷ [],
          hex_mark ∷ digit_glyph true (b / 16) ∷ digit_glyph true (b % 16) ∷ [],
          refl,
          (backslash, refl, this_same backslash),
          inl (tt, hex_mark ∷ [], digit_glyph true (b / 16) ∷ digit_glyph true (b % 16) ∷ [], refl, (hex_mark, refl, this_same hex_mark), hex_is b lt),
        )

escapes_are : (bs : List ℕ) → Each IsByte bs → Until (is_byte quote) (InQuotes quote) bs (flat_map escaped bs ++ quote ∷ [])
escapes_are [] are = (quote, refl, refl)
escapes_are (b ∷ bs) (is, are) =
    (escaped b, flat_map escaped bs ++ quote ∷ [], append_assoc (escaped b) (flat_map escaped bs) (quote ∷ []), escape_is quote b refl is, escapes_are bs are)

pub text_is_printed : (bs : List ℕ) → Each IsByte bs → IsToken (Text bs) (quoted_text bs)
text_is_printed bs are = (tt, quote ∷ [], flat_map escaped bs ++ quote ∷ [], refl, (quote, refl, this_same quote), escapes_are bs are)

pub char_is_printed : (b : ℕ) → b < 256 → IsToken (Char b) (quoted_char b)
char_is_printed b lt = (
  tt,
  prime ∷ [],
  escaped b ++ prime ∷ [],
  refl,
  (prime, refl, this_same prime),
  (b, escaped b, prime ∷ [], refl, escape_is prime b refl lt, (tt, refl, (prime, refl, this_same prime))),
)

-- ---- what may follow

no_digit : (r : List ℕ) → Follows (IsNot in_name) r → Follows (IsNot is_ascii_digit) r
no_digit [] next = tt
no_digit (b ∷ r) next = grind arith

-- a byte of no name, or a blank, follows every token
pub ends_apart : (t : Token) (r : List ℕ) → Follows (IsNot in_name) r → EndsBefore t r
ends_apart (Word w) r next = next
ends_apart (Number n) r next = no_digit r next
ends_apart Big r next = no_digit r next
ends_apart (Text w) r next = tt
ends_apart (Char c) r next = tt
ends_apart (Mark b) r next = tt
ends_apart Wrong r next = tt
ends_apart OpenText r next = tt
ends_apart OpenChar r next = tt

pub ends_blank : (t : Token) (r : List ℕ) → EndsBefore t (blank ∷ r)
ends_blank t r = ends_apart t (blank ∷ r) refl

-- ---- tokens one after another

pub laid_next : (t : Token) (ts : List Token) (x r : List ℕ) → IsToken t x → EndsBefore t r → Laid ts r → Laid (t ∷ ts) (x ++ r)
laid_next t ts x r is next laid = (x, [], r, refl, is, next, tt, laid)

pub laid_spaced : (t : Token) (ts : List Token) (x r : List ℕ) → IsToken t x → Laid ts r → Laid (t ∷ ts) (x ++ blank ∷ r)
laid_spaced t ts x r is laid = (x, blank ∷ [], r, refl, is, ends_blank t r, (refl, tt), laid)

-- blanks may stand before the tokens of a text
blanks_before : (us : List Stamped) (b r : List ℕ) → AreBlanks b → Lexes us r → Lexes us (b ++ r)
blanks_before [] b r blanks is = each-join (λ c. c ≡ blank) b r blanks is
blanks_before (u ∷ us) b r blanks (c, y, cut, more_blanks, left, is) =
    (b ++ c, y, ap (λ z. b ++ z) cut ∙ sym (append_assoc b c y), each-join (λ d. d ≡ blank) b c blanks more_blanks, left, is)

pub laid_lexes : (ts : List Token) (s : List ℕ) → Laid ts s → (us : List Stamped) × Lexes us s × (map (λ u. u.token) us ≡ ts)
laid_lexes [] s laid = ([], subst AreBlanks (sym laid) tt, refl)
laid_lexes (t ∷ ts) s (x, b, r, cut, is, next, blanks, laid) =
    let (us, lexes, same) = laid_lexes ts r laid in (
      record { token = t; left = length s } ∷ us,
      ([], s, refl, tt, refl, inl (x, b ++ r, cut, is, next, blanks_before us b r blanks lexes)),
      ap (λ vs. t ∷ vs) same,
    )

pub laid_lex : (ts : List Token) (s : List ℕ) → Laid ts s → map (λ u. u.token) (lex s) ≡ ts
laid_lex ts s laid = let (us, lexes, same) = laid_lexes ts s laid in ap (λ vs. map (λ u. u.token) vs) (sym (lexes_lex us s lexes)) ∙ same

-- ---- what is printed as bytes was of bytes

pub each_left : {S : Type 0} (P : S → Type 0) (s t : List S) → Each P (s ++ t) → Each P s
each_left P [] t each = tt
each_left P (b ∷ s) t each = (each.0, each_left P s t each.1)

pub each_right : {S : Type 0} (P : S → Type 0) (s t : List S) → Each P (s ++ t) → Each P t
each_right P [] t each = each
each_right P (b ∷ s) t each = each_right P s t each.1

escaped_byte : (b : ℕ) → Each IsByte (escaped b) → IsByte b
escaped_byte b each = elim (is_or (is_quoting b)) [
  | inl e ↦ let out : Each IsByte (backslash ∷ b ∷ []) = subst (Each IsByte) (pick_true (is_quoting b) _ _ e) each in out.1.0
  | inr e ↦ let rest = subst (Each IsByte) (pick_false (is_quoting b) _ _ e) each in elim (is_or (is_printable b)) [
    | inl p ↦ let out : Each IsByte (b ∷ []) = subst (Each IsByte) (pick_true (is_printable b) _ _ p) rest in out.0
    | inr p ↦ let last = subst (Each IsByte) (pick_false (is_printable b) _ _ p) rest in elim (is_or (nat_lt b 256)) [
      | inl lt ↦ below lt
      | inr not_lt ↦ let out : Each IsByte (b ∷ []) = subst (Each IsByte) (pick_false (nat_lt b 256) _ _ not_lt) last in out.0
    ]
  ]
]
  where
    below : nat_lt b 256 ≡ true → b < 256
    below lt = grind arith

escaped_bytes : (bs : List ℕ) → Each IsByte (flat_map escaped bs) → Each IsByte bs
escaped_bytes [] each = tt
escaped_bytes (b ∷ bs) each =
    (escaped_byte b (each_left IsByte (escaped b) (flat_map escaped bs) each), escaped_bytes bs (each_right IsByte (escaped b) (flat_map escaped bs) each))

pub quoted_text_bytes : (bs : List ℕ) → Each IsByte (quoted_text bs) → Each IsByte bs
quoted_text_bytes bs each = escaped_bytes bs (each_left IsByte (flat_map escaped bs) (quote ∷ []) each.1)

pub quoted_char_byte : (b : ℕ) → Each IsByte (quoted_char b) → IsByte b
quoted_char_byte b each = escaped_byte b (each_left IsByte (escaped b) (prime ∷ []) each.1)
