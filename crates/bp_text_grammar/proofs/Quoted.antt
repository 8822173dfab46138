-- The readers of what stands in quotes are right.
use Rattle.std.proofs.Common.{◌≡◌, refl, Some, None, true, false, ℕ, ◌+◌, ◌*◌, nat_eq, List, [], ◌∷◌, ◌++◌, inl, inr, arith}
use Rattle.readers.specs.Reader.{Outcome, Any, Is, IsNot, Right, Plain, Then, Mapped, Branch, Begins, One, one, kept, this, after, mapped}
use Rattle.readers.specs.Until.{Until}
use Rattle.readers.proofs.Readers.{follows-any, right_mapped}
use Rattle.readers.proofs.Leaves.{is_or, pick_true, plain_then, plain_one, right_branch, this_is, this_same, then_begins, one_begins}
use Rattle.readers.proofs.Runs.{kept_is}
use Rattle.readers.proofs.Until.{plain_until}
use Rattle.bp_text_grammar.specs.Lexing.{quote, prime, backslash, hex_mark, hex_digit, IsHex, IsEscape, is_quoting, is_itself, InQuotes, is_byte, IsQuotedText, IsQuotedChar}
use Rattle.bp_text_grammar.specs.Scanning.{hex_at, escaped_at, escape_at, quoted_at, text_rest, char_rest, text_at, char_at}

-- a language that anything may follow, and its reader
abbrev pub Reads : {A : Type 0} → (A → List ℕ → Type 0) → (List ℕ → Outcome ℕ (Unit {0}) A) → Type 0
Reads L r = Right Any Any L Plain r

-- one after another, where some text of the second stands
reads_then : {A B : Type 0} (L : A → List ℕ → Type 0) (r : List ℕ → Outcome ℕ (Unit {0}) A) (M : A → B → List ℕ → Type 0)
    (f : A → List ℕ → Outcome ℕ (Unit {0}) B) → Reads L r → ((a : A) → Reads (M a) (f a)) → ((a : A) → (b : B) × (u : List ℕ) × M a b u)
    → Reads (Then L M) (λ s. after (r s) f)
reads_then L r M f one_right second some =
    plain_then Any Any Any L r M f one_right second (λ a t l. some a) (λ a b u v m e. follows-any (u ++ v))

reads_this : (c : ℕ) → Reads (One (this c)) (one (this c) tt)
reads_this c = plain_one Any (this c) tt c tt (this_same c)

this_text : (c : ℕ) → One (this c) tt (c ∷ [])
this_text c = (c, refl, this_same c)

this_begins : (c : ℕ) → Begins (Is (is_byte c)) (One (this c))
this_begins c = one_begins (Is (is_byte c)) (this c) (λ b u e. let same : b ≡ c = this_is c b u e in grind arith)

-- ---- escapes

reads_digit : Reads (One hex_digit) (one hex_digit tt)
reads_digit = plain_one Any hex_digit tt 0x30 0 refl

reads_hex : Reads IsHex hex_at
reads_hex =
    reads_then (One hex_digit) (one hex_digit tt) (λ high. Mapped (λ low. 16 * high + low) (One hex_digit))
    (λ high u. mapped (λ low. 16 * high + low) (one hex_digit tt u)) reads_digit
    (λ high. right_mapped Any Any (λ low. 16 * high + low) (One hex_digit) Plain (one hex_digit tt) reads_digit)
    (λ high. (16 * high + 0, 0x30 ∷ [], (0, refl, (0x30, refl, refl))))

hex_text : IsHex 0 (0x30 ∷ 0x30 ∷ [])
hex_text = (0, 0x30 ∷ [], 0x30 ∷ [], refl, (0x30, refl, refl), (0, refl, (0x30, refl, refl)))

abbrev Marked : ℕ → List ℕ → Type 0
Marked b s = Then (One (this hex_mark)) (λ v. IsHex) b s

abbrev Escaped : ℕ → List ℕ → Type 0
Escaped b s = Branch Marked (One (kept is_quoting)) b s

quoting_begins : Begins (IsNot (is_byte hex_mark)) (One (kept is_quoting))
quoting_begins = one_begins (IsNot (is_byte hex_mark)) (kept is_quoting) (λ b a e. let (same, is) = kept_is is_quoting b a e in grind arith)

reads_escaped : Reads Escaped escaped_at
reads_escaped =
    right_branch Any Any (is_byte hex_mark) Marked (One (kept is_quoting)) Plain (λ t. after (one (this hex_mark) tt t) (λ v. hex_at))
    (one (kept is_quoting) tt)
    (reads_then (One (this hex_mark)) (one (this hex_mark) tt) (λ v. IsHex) (λ v. hex_at) (reads_this hex_mark) (λ v. reads_hex)
    (λ v. (0, 0x30 ∷ 0x30 ∷ [], hex_text)))
    (plain_one Any (kept is_quoting) tt quote quote refl)
    (then_begins (Is (is_byte hex_mark)) (One (this hex_mark)) (λ v. IsHex) (this_begins hex_mark))
    quoting_begins
    (quote, quote ∷ [], inr (quote, refl, refl))

reads_escape : Reads IsEscape escape_at
reads_escape =
    reads_then (One (this backslash)) (one (this backslash) tt) (λ u. Escaped) (λ u. escaped_at) (reads_this backslash) (λ u. reads_escaped)
    (λ u. (quote, quote ∷ [], inr (quote, refl, refl)))

escape_begins : Begins (Is (is_byte backslash)) IsEscape
escape_begins = then_begins (Is (is_byte backslash)) (One (this backslash)) (λ u. Escaped) (this_begins backslash)

-- ---- a byte in quotes

itself_begins : (q : ℕ) → Begins (λ b. IsNot (is_byte backslash) b × IsNot (is_byte q) b) (One (kept (is_itself q)))
itself_begins q =
    one_begins (λ b. IsNot (is_byte backslash) b × IsNot (is_byte q) b) (kept (is_itself q))
    (λ b a e. let (same, is) = kept_is (is_itself q) b a e in grind arith)

-- some byte stands for itself in any quotes
some_itself : (q : ℕ) → (b : ℕ) × (kept (is_itself q) b ≡ Some b)
some_itself q = elim (is_or (nat_eq 0x20 q)) [
  | inl is ↦ (0x21, let kept_it : is_itself q 0x21 ≡ true = grind arith in pick_true (is_itself q 0x21) (Some 0x21) None kept_it)
  | inr is ↦ (0x20, let kept_it : is_itself q 0x20 ≡ true = grind arith in pick_true (is_itself q 0x20) (Some 0x20) None kept_it)
]

one_itself : (q : ℕ) → Reads (One (kept (is_itself q))) (one (kept (is_itself q)) tt)
one_itself q = let (b, is) = some_itself q in plain_one Any (kept (is_itself q)) tt b b is

escape_text : IsEscape quote (backslash ∷ quote ∷ [])
escape_text = (tt, backslash ∷ [], quote ∷ [], refl, this_text backslash, inr (quote, refl, refl))

pub reads_quoted : (q : ℕ) → Reads (InQuotes q) (quoted_at q)
reads_quoted q =
    right_branch Any Any (is_byte backslash) IsEscape (One (kept (is_itself q))) Plain escape_at (one (kept (is_itself q)) tt) reads_escape
    (one_itself q) escape_begins (λ b s l. let (c, t, cut, is) = itself_begins q b s l in (c, t, cut, is.0))
    (quote, backslash ∷ quote ∷ [], inl escape_text)

pub quoted_begins : Begins (λ c. IsNot (is_byte quote) c × Any c) (InQuotes quote)
quoted_begins b s (inl l) = let (c, t, cut, is) = escape_begins b s l in let isnt : is_byte quote c ≡ false = grind arith in (c, t, cut, (isnt, tt))
quoted_begins b s (inr l) = let (c, t, cut, is) = itself_begins quote b s l in (c, t, cut, (is.1, tt))

-- ---- texts and chars

pub reads_text_rest : Reads (Until (is_byte quote) (InQuotes quote)) text_rest
reads_text_rest =
    plain_until Any Any (is_byte quote) tt (InQuotes quote) (quoted_at quote) (reads_quoted quote) quoted_begins (λ c is. tt) quote refl

abbrev pub CharRest : ℕ → List ℕ → Type 0
CharRest b s = Then (InQuotes prime) (λ c. Mapped (λ v. c) (One (this prime))) b s

pub reads_char_rest : Reads CharRest char_rest
reads_char_rest =
    reads_then (InQuotes prime) (quoted_at prime) (λ c. Mapped (λ v. c) (One (this prime))) (λ c u. mapped (λ v. c) (one (this prime) tt u))
    (reads_quoted prime)
    (λ c. right_mapped Any Any (λ v. c) (One (this prime)) Plain (one (this prime) tt) (reads_this prime))
    (λ c. (c, prime ∷ [], (tt, refl, this_text prime)))

pub reads_text : Reads IsQuotedText text_at
reads_text =
    reads_then (One (this quote)) (one (this quote) tt) (λ u. Until (is_byte quote) (InQuotes quote)) (λ u. text_rest) (reads_this quote)
    (λ u. reads_text_rest) (λ u. ([], quote ∷ [], (quote, refl, refl)))

pub reads_char : Reads IsQuotedChar char_at
reads_char =
    reads_then (One (this prime)) (one (this prime) tt) (λ u. CharRest) (λ u. char_rest) (reads_this prime) (λ u. reads_char_rest)
    (λ u. (quote, backslash ∷ quote ∷ prime ∷ [], (quote, backslash ∷ quote ∷ [], prime ∷ [], refl, inl escape_text, (tt, refl, this_text prime))))

-- what they begin with
pub text_begins : Begins (Is (is_byte quote)) IsQuotedText
text_begins = then_begins (Is (is_byte quote)) (One (this quote)) (λ u. Until (is_byte quote) (InQuotes quote)) (this_begins quote)

pub char_begins : Begins (Is (is_byte prime)) IsQuotedChar
char_begins = then_begins (Is (is_byte prime)) (One (this prime)) (λ u. CharRest) (this_begins prime)
