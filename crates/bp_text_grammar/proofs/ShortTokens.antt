-- A text has no more tokens than bytes, and no text in quotes among them is longer than all.
use Rattle.std.proofs.Common.{◌≡◌, sym, ap, ◌∙◌, subst, ℕ, suc, ◌+◌, ◌≤◌, List, [], ◌∷◌, length, inl, inr, arith}
use Rattle.std.proofs.lemmas.List.{length-append, length-map}
use Rattle.readers.specs.Reader.{Each}
use Rattle.readers.specs.Until.{Until}
use Rattle.bp_text_grammar.specs.Tokens.{Token, Word, Number, Big, Text, Char, Mark, Wrong, OpenText, OpenChar}
use Rattle.bp_text_grammar.specs.Lexing.{quote, is_byte, InQuotes, IsQuotedText, IsToken, IsStuck, Stamped, Lexes}
use Rattle.bp_text_grammar.specs.ValueTexts.{IsShort, AreShort}
use Rattle.bp_text_grammar.specs.WholeTexts.{seen, kinds}
use Rattle.bp_text_grammar.proofs.Quoted.{quoted_begins}
use Rattle.bp_text_grammar.proofs.Exact.{token_starts, stuck_starts}

until_short : (w s : List ℕ) → Until (is_byte quote) (InQuotes quote) w s → length w ≤ length s
until_short [] s is = omega arith
until_short (b ∷ w) s (t, u, cut, one, rest) =
    let (c, v, full, first) = quoted_begins b t one in
    let lens : length s ≡ length t + length u = ap length cut ∙ length-append t u in
    let some : length t ≡ suc (length v) = ap length full in
    let later : length w ≤ length u = until_short w u rest in
    omega arith

quoted_short : (w x : List ℕ) → IsQuotedText w x → length w ≤ length x
quoted_short w x (u, t, s, cut, one, rest) =
    let lens : length x ≡ length t + length s = ap length cut ∙ length-append t s in
    let later : length w ≤ length s = until_short w s rest in
    omega arith

module _ (m : ℕ) where
  token_short : (t : Token) (x : List ℕ) → IsToken t x → length x ≤ m → IsShort m (seen t)
  token_short (Text w) x is le = let short : length w ≤ length x = quoted_short w x is in omega arith
  token_short (Word w) x is le = tt
  token_short (Number n) x is le = tt
  token_short Big x is le = tt
  token_short (Char b) x is le = tt
  token_short (Mark b) x is le = tt
  token_short Wrong x is le = tt
  token_short OpenText x is le = absurd is
  token_short OpenChar x is le = absurd is

  stuck_short : (t : Token) (y : List ℕ) → IsStuck t y → IsShort m (seen t)
  stuck_short Wrong y is = tt
  stuck_short OpenText y is = omega arith
  stuck_short OpenChar y is = tt
  stuck_short (Text w) y is = absurd is
  stuck_short (Word w) y is = tt
  stuck_short (Number n) y is = tt
  stuck_short Big y is = tt
  stuck_short (Char b) y is = tt
  stuck_short (Mark b) y is = tt

  lexes_short : (ts : List Stamped) (s : List ℕ) → Lexes ts s → length s ≤ m → (length ts ≤ length s) × Each (IsShort m) (kinds ts)
  lexes_short [] s is le = (omega arith, tt)
  lexes_short (t ∷ ts) s (b, y, cut, blanks, left, inl (x, r, parts, token, ends, rest)) le =
      let (c, z, full, some) = token_starts t.token x token in
      let one : length s ≡ length b + length y = ap length cut ∙ length-append b y in
      let two : length y ≡ length x + length r = ap length parts ∙ length-append x r in
      let three : length x ≡ suc (length z) = ap length full in
      let (few, each) = lexes_short ts r rest (omega arith) in
      (omega arith, (token_short t.token x token (omega arith), each))
  lexes_short (t ∷ ts) s (b, y, cut, blanks, left, inr (last, stuck)) le =
      let (c, z, full, some) = stuck_starts t.token y stuck in
      let one : length s ≡ length b + length y = ap length cut ∙ length-append b y in
      let two : length y ≡ suc (length z) = ap length full in
      let none : length ts ≡ 0 = ap length last in
      (omega arith, (stuck_short t.token y stuck, subst (λ us. Each (IsShort m) (kinds us)) (sym last) tt))

pub text_short : (ts : List Stamped) (s : List ℕ) → Lexes ts s → AreShort (length s) (kinds ts)
text_short ts s is =
    let (few, each) = lexes_short (length s) ts s is (omega arith) in
    (omega (arith, length-map ts seen_token), each)
  where
    seen_token : Stamped → Token
    seen_token t = seen t.token
