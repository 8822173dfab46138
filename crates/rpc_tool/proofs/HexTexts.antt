-- Hex texts, byte by byte.
use Rattle.std.proofs.Common.{◌≡◌, refl, sym, ap, ◌∙◌, subst, true, false, Some, None, ℕ, ◌+◌, ◌*◌, List, [], ◌∷◌, ◌++◌, append_assoc, arith}
use Rattle.readers.specs.Reader.{Is}
use Rattle.readers.proofs.Readers.{each-join}
use Rattle.bp_text_grammar.specs.Lexing.{hex_digit, IsHex}
use Rattle.rpc_tool.specs.HexTexts.{is_hex_blank, AreHexBlanks, IsHexText}

-- the digit of a number
abbrev pub IsDigit : ℕ → ℕ → Type 0
IsDigit x c = hex_digit c ≡ Some x

-- ---- what the first byte of a text says

blank_no_digit : (b x : ℕ) → is_hex_blank b ≡ true → IsDigit x b → ⊥
blank_no_digit b x blank digit = grind (arith)

pair_parts : (b : ℕ) (pair : List ℕ) → IsHex b pair
    → (h : ℕ) × (l : ℕ) × (x : ℕ) × (y : ℕ) × (pair ≡ h ∷ l ∷ []) × IsDigit x h × IsDigit y l
pair_parts b pair (x, t, u, same, (h, high_is, high), (y, byte, (l, low_is, low))) =
    (h, l, x, y, same ∙ (ap (λ z. z ++ u) high_is ∙ ap (λ z. h ∷ z) low_is), high, low)

pub pair_of : (h l x y : ℕ) → IsDigit x h → IsDigit y l → IsHex (16 * x + y) (h ∷ l ∷ [])
pair_of h l x y high low = (x, h ∷ [], l ∷ [], refl, (h, refl, high), (y, refl, (l, refl, low)))

after_blank : (bytes : List ℕ) (b : ℕ) (s : List ℕ) → is_hex_blank b ≡ true → IsHexText bytes (b ∷ s) → IsHexText bytes s
after_blank [] b s blank text = text.1
after_blank (a ∷ bytes) b s blank ([], pair, rest, same, blanks, is, text) =
    let (h, l, x, y, pair_is, high, low) = pair_parts a pair is in
    let all : b ∷ s ≡ h ∷ l ∷ rest = same ∙ ap (λ z. z ++ rest) pair_is in
    let first : b ≡ h = cc in
    absurd (blank_no_digit h x (subst (λ z. is_hex_blank z ≡ true) first blank) high)
after_blank (a ∷ bytes) b s blank (c ∷ cs, pair, rest, same, blanks, is, text) =
    let tails : s ≡ cs ++ (pair ++ rest) = cc in
    (cs, pair, rest, tails, blanks.1, is, text)

after_blanks : (bytes blanks s : List ℕ) → AreHexBlanks blanks → IsHexText bytes (blanks ++ s) → IsHexText bytes s
after_blanks bytes [] s are text = text
after_blanks bytes (b ∷ blanks) s are text = after_blanks bytes blanks s are.1 (after_blank bytes b (blanks ++ s) are.0 text)

-- another digit follows a first one
pub after_digit : (bytes : List ℕ) (h x : ℕ) (s : List ℕ) → IsDigit x h → IsHexText bytes (h ∷ s)
    → (l : ℕ) × (y : ℕ) × (u : List ℕ) × (more : List ℕ) × (s ≡ l ∷ u) × IsDigit y l × IsHexText more u
after_digit [] h x s high text = absurd (blank_no_digit h x text.0 high)
after_digit (a ∷ bytes) h x s high ([], pair, rest, same, blanks, is, text) =
    let (g, l, w, y, pair_is, other, low) = pair_parts a pair is in
    let all : h ∷ s ≡ g ∷ l ∷ rest = same ∙ ap (λ z. z ++ rest) pair_is in
    let tails : s ≡ l ∷ rest = cc in
    (l, y, rest, bytes, tails, low, text)
after_digit (a ∷ bytes) h x s high (c ∷ cs, pair, rest, same, blanks, is, text) =
    let first : c ≡ h = cc in
    absurd (blank_no_digit h x (subst (λ z. is_hex_blank z ≡ true) first blanks.0) high)

-- nothing else is first
pub other_first : (bytes : List ℕ) (b : ℕ) (s : List ℕ) → hex_digit b ≡ None → is_hex_blank b ≡ false → IsHexText bytes (b ∷ s) → ⊥
other_first [] b s no_digit no_blank text = let blank : is_hex_blank b ≡ true = text.0 in cc
other_first (a ∷ bytes) b s no_digit no_blank ([], pair, rest, same, blanks, is, text) =
    let (h, l, x, y, pair_is, high, low) = pair_parts a pair is in
    let all : b ∷ s ≡ h ∷ l ∷ rest = same ∙ ap (λ z. z ++ rest) pair_is in
    let first : b ≡ h = cc in
    let digit : hex_digit b ≡ Some x = ap hex_digit first ∙ high in
    cc
other_first (a ∷ bytes) b s no_digit no_blank (c ∷ cs, pair, rest, same, blanks, is, text) =
    let first : c ≡ b = cc in
    let blank : is_hex_blank b ≡ true = subst (λ z. is_hex_blank z ≡ true) first blanks.0 in
    cc

-- ---- a text and what follows it

-- what follows a text in a text is one
pub rest_is : (bytes all s t : List ℕ) → IsHexText bytes s → IsHexText all (s ++ t) → (more : List ℕ) × IsHexText more t
rest_is [] all s t text whole = (all, after_blanks all s t text whole)
rest_is (b ∷ bytes) all s t (blanks, pair, rest, same, are, is, text) whole =
    let (h, l, x, y, pair_is, high, low) = pair_parts b pair is in
    let cut : s ++ t ≡ blanks ++ (h ∷ l ∷ (rest ++ t)) =
    ap (λ z. z ++ t) (same ∙ ap (λ z. blanks ++ (z ++ rest)) pair_is) ∙ append_assoc blanks (h ∷ l ∷ rest) t in
    let here = after_blanks all blanks (h ∷ l ∷ (rest ++ t)) are (subst (λ z. IsHexText all z) cut whole) in
    let (low_1, y_1, u, more, u_is, low_is, text_1) = after_digit all h x (l ∷ (rest ++ t)) high here in
    let tails : u ≡ rest ++ t = cc in
    rest_is bytes more rest t text (subst (λ z. IsHexText more z) tails text_1)

with_blanks : (bytes blanks s : List ℕ) → AreHexBlanks blanks → IsHexText bytes s → IsHexText bytes (blanks ++ s)
with_blanks [] blanks s are text = each-join (Is is_hex_blank) blanks s are text
with_blanks (b ∷ bytes) blanks s are (more, pair, rest, same, are_1, is, text) = (
  blanks ++ more,
  pair,
  rest,
  ap (λ z. blanks ++ z) same ∙ sym (append_assoc blanks more (pair ++ rest)),
  each-join (Is is_hex_blank) blanks more are are_1,
  is,
  text,
)

-- two texts are one
pub joined : (bytes more s t : List ℕ) → IsHexText bytes s → IsHexText more t → IsHexText (bytes ++ more) (s ++ t)
joined [] more s t text after = with_blanks more s t text after
joined (b ∷ bytes) more s t (blanks, pair, rest, same, are, is, text) after = (
  blanks,
  pair,
  rest ++ t,
  ap (λ z. z ++ t) same ∙ (append_assoc blanks (pair ++ rest) t ∙ ap (λ z. blanks ++ z) (append_assoc pair rest t)),
  are,
  is,
  joined bytes more rest t text after,
)

pub pair_text : (h l x y : ℕ) → IsDigit x h → IsDigit y l → IsHexText ((16 * x + y) ∷ []) (h ∷ l ∷ [])
pair_text h l x y high low = ([], h ∷ l ∷ [], [], refl, tt, pair_of h l x y high low, tt)
