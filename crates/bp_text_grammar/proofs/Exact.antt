-- Every text has exactly one list of tokens, and `lex` gives it.
use Rattle.std.proofs.Common.{◌≡◌, ◌≢◌, refl, sym, ap, ◌∙◌, subst, true, false, ℕ, ℤ, zero, pos, negsuc, suc, ◌+◌, ◌≤◌, nat_eq, List, [], ◌∷◌, ◌++◌, length, append_assoc, ◌⊎◌, inl, inr, arith}
use Rattle.std.proofs.lemmas.List.{append-nil, length-append}
use Rattle.std.specs.Char.{is_ascii_digit}
use Rattle.readers.specs.Reader.{Is, Follows, Begins}
use Rattle.readers.proofs.Readers.{each-join}
use Rattle.readers.proofs.Leaves.{is_or, pick_true, pick_false}
use Rattle.bp_text_grammar.specs.Tokens.{Token, Word, Number, Big, Text, Char, Mark, Wrong, OpenText, OpenChar}
use Rattle.bp_text_grammar.specs.Lexing.{blank, quote, prime, is_byte, IsQuotedText, IsQuotedChar, IsWord, IsDigits, IsNumber, IsToken, IsOpen, IsStuck, Stamped, AreBlanks, Foremost, Lexes}
use Rattle.bp_text_grammar.specs.Scanning.{Scanned, found, stuck, scan, after_blanks, stamped, from, lex_within, lex}
use Rattle.bp_text_grammar.proofs.Quoted.{text_begins, char_begins}
use Rattle.bp_text_grammar.proofs.Scans.{scan_sound, scan_complete, scan_stuck, stuck_scan}

-- ---- what tokens begin with

-- the first byte is no blank
abbrev pub Starts : List ℕ → Type 0
Starts y = (b : ℕ) × (s : List ℕ) × (y ≡ b ∷ s) × (b ≢ blank)

digits_start : (n : ℕ) (x : List ℕ) → IsDigits n x → Starts x
digits_start n [] (is, each, plain) = absurd plain
digits_start n (d ∷ x) (is, each, plain) = let digit : is_ascii_digit d ≡ true = each.0 in (d, x, refl, λ e. grind arith)

number_starts : (n : ℤ) (x : List ℕ) → IsNumber n x → Starts x
number_starts (pos n) x is = digits_start n x is
number_starts (negsuc n) x (ds, cut, is) = (0x2D, ds, cut, λ e. grind arith)

word_starts : (w : List ℕ) → IsWord w → Starts w
word_starts [] is = absurd is
word_starts (b ∷ w) (first, each) = (b, w, refl, λ e. grind arith)

pub token_starts : (t : Token) (x : List ℕ) → IsToken t x → Starts x
token_starts (Word w) x (same, is) = subst (λ y. Starts y) (sym same) (word_starts w is)
token_starts (Number n) x (is, within) = number_starts n x is
token_starts Big x (n, is, out) = number_starts n x is
token_starts (Text w) x is = let (b, s, cut, first) = text_begins w x is in (b, s, cut, λ e. grind arith)
token_starts (Char c) x is = let (b, s, cut, first) = char_begins c x is in (b, s, cut, λ e. grind arith)
token_starts (Mark b) x (same, is) = (b, [], same, λ e. grind arith)
token_starts Wrong x is = absurd is
token_starts OpenText x is = absurd is
token_starts OpenChar x is = absurd is

open_starts : {A : Type 0} (q : ℕ) (L : A → List ℕ → Type 0) → Begins (Is (is_byte q)) L → q ≢ blank → (y : List ℕ) → IsOpen L y → Starts y
open_starts q L begins other [] (some, front) = absurd (omega arith)
open_starts q L begins other (b ∷ y) (some, (a, c, x, l)) =
    let (d, s, cut, first) = begins a ((b ∷ y) ++ c ∷ x) l in
    let bd : b ≡ d = cc in
    let is : d ≡ q = grind arith in
    (b, y, refl, λ e. other (sym is ∙ (sym bd ∙ e)))

pub stuck_starts : (t : Token) (y : List ℕ) → IsStuck t y → Starts y
stuck_starts Wrong [] is = absurd is
stuck_starts Wrong (b ∷ s) (some, none, no_text, no_char) = (b, s, refl, some)
stuck_starts OpenText y is = open_starts quote IsQuotedText text_begins (λ e. grind arith) y is
stuck_starts OpenChar y is = open_starts prime IsQuotedChar char_begins (λ e. grind arith) y is
stuck_starts (Word w) y is = absurd is
stuck_starts (Number n) y is = absurd is
stuck_starts Big y is = absurd is
stuck_starts (Text w) y is = absurd is
stuck_starts (Char c) y is = absurd is
stuck_starts (Mark b) y is = absurd is

-- ---- blanks

pub blanks_off : (s : List ℕ) → (b : List ℕ) × (s ≡ b ++ after_blanks s) × AreBlanks b × Follows (λ c. c ≢ blank) (after_blanks s)
blanks_off [] = ([], refl, tt, tt)
blanks_off (c ∷ s) = elim (is_or (nat_eq c blank)) [ inl e ↦ goes_on e (blanks_off s) | inr e ↦ ends e ]
  where
    goes_on : nat_eq c blank ≡ true → (b : List ℕ) × (s ≡ b ++ after_blanks s) × AreBlanks b × Follows (λ d. d ≢ blank) (after_blanks s)
        → (b : List ℕ) × (c ∷ s ≡ b ++ after_blanks (c ∷ s)) × AreBlanks b × Follows (λ d. d ≢ blank) (after_blanks (c ∷ s))
    goes_on e (b, cut, blanks, next) =
        let is : c ≡ blank = grind arith in
        subst (λ y. (b : List ℕ) × (c ∷ s ≡ b ++ y) × AreBlanks b × Follows (λ d. d ≢ blank) y)
        (sym (pick_true (nat_eq c blank) (after_blanks s) (c ∷ s) e))
        (c ∷ b, ap (λ l. c ∷ l) cut, (is, blanks), next)

    ends : nat_eq c blank ≡ false → (b : List ℕ) × (c ∷ s ≡ b ++ after_blanks (c ∷ s)) × AreBlanks b × Follows (λ d. d ≢ blank) (after_blanks (c ∷ s))
    ends e =
        subst (λ y. (b : List ℕ) × (c ∷ s ≡ b ++ y) × AreBlanks b × Follows (λ d. d ≢ blank) y)
        (sym (pick_false (nat_eq c blank) (after_blanks s) (c ∷ s) e))
        ([], refl, tt, λ is. grind arith)

pub blanks_only : (b y : List ℕ) → AreBlanks b → Follows (λ c. c ≢ blank) y → after_blanks (b ++ y) ≡ y
blanks_only [] [] blanks next = refl
blanks_only [] (c ∷ y) blanks next = let isnt : nat_eq c blank ≡ false = grind arith in pick_false (nat_eq c blank) (after_blanks y) (c ∷ y) isnt
blanks_only (c ∷ b) y blanks next =
    let is : nat_eq c blank ≡ true = ap (λ z. nat_eq z blank) blanks.0 in
    pick_true (nat_eq c blank) (after_blanks (b ++ y)) (c ∷ b ++ y) is ∙ blanks_only b y blanks.1 next

starts_follow : (y : List ℕ) → Starts y → Follows (λ c. c ≢ blank) y
starts_follow y (b, s, cut, some) = subst (λ z. Follows (λ c. c ≢ blank) z) (sym cut) some

-- ---- lex gives tokens of the text

-- what is found, or stuck, after blanks
module _ (k : ℕ) (sound : (r : List ℕ) → length r ≤ k → Lexes (lex_within k r) r) where
  lexes_from : (b : List ℕ) (c : ℕ) (y : List ℕ) → AreBlanks b → c ≢ blank → length (c ∷ y) ≤ suc k → (o : Scanned) → scan (c ∷ y) ≡ o
      → Lexes (stamped o (length (c ∷ y)) (lex_within k)) (b ++ c ∷ y)
  lexes_from b c y blanks some le (found t r) e =
      let (x, cut, is, next) = scan_sound (c ∷ y) t r e in
      let (d, z, full, first) = token_starts t x is in
      let lens : length (c ∷ y) ≡ length x + length r = ap length cut ∙ length-append x r in
      let one : length x ≡ suc (length z) = ap length full in
      (b, c ∷ y, refl, blanks, refl, inl (x, r, cut, is, next, sound r (omega arith)))
  lexes_from b c y blanks some le (stuck t) e = (b, c ∷ y, refl, blanks, refl, inr (refl, scan_stuck c y t some e))

  lexes_after : (b y : List ℕ) → AreBlanks b → Follows (λ c. c ≢ blank) y → length y ≤ suc k → Lexes (from y (lex_within k)) (b ++ y)
  lexes_after b [] blanks next le = each-join (λ c. c ≡ blank) b [] blanks tt
  lexes_after b (c ∷ y) blanks next le = lexes_from b c y blanks next le (scan (c ∷ y)) refl

lexes_within : (k : ℕ) (s : List ℕ) → length s ≤ k → Lexes (lex_within k s) s
unfolding lex_within
lexes_within zero [] le = tt
lexes_within zero (c ∷ s) le = absurd (omega arith)
lexes_within (suc k) s le =
    let (b, cut, blanks, next) = blanks_off s in
    let lens : length s ≡ length b + length (after_blanks s) = ap length cut ∙ length-append b (after_blanks s) in
    subst (λ z. Lexes (from (after_blanks s) (lex_within k)) z) (sym cut)
    (lexes_after k (λ r less. lexes_within k r less) b (after_blanks s) blanks next (omega arith))

-- ---- and no other list is

-- the first token, after blanks
lex_first : (k : ℕ) (b y : List ℕ) → AreBlanks b → Starts y → lex_within (suc k) (b ++ y) ≡ stamped (scan y) (length y) (lex_within k)
unfolding lex_within
lex_first k b y blanks (c, z, cut, some) =
    ap (λ u. from u (lex_within k)) (blanks_only b y blanks (starts_follow y (c, z, cut, some)))
    ∙ (ap (λ u. from u (lex_within k)) cut ∙ ap (λ u. stamped (scan u) (length u) (lex_within k)) (sym cut))

pub lexes_only : (k : ℕ) (ts : List Stamped) (s : List ℕ) → length s ≤ k → Lexes ts s → ts ≡ lex_within k s
unfolding lex_within
lexes_only zero [] s le is = refl
lexes_only (suc k) [] s le is =
    ap (λ y. from y (lex_within k)) (sym (ap after_blanks (sym (append-nil s)) ∙ blanks_only s [] is tt))
lexes_only zero (t ∷ ts) s le (b, y, cut, blanks, left, is) = absurd (empty y cut is)
  where
    empty : (y : List ℕ) → s ≡ b ++ y → Foremost t.token (Lexes ts) y ⊎ ((ts ≡ []) × IsStuck t.token y) → ⊥
    empty y cut (inl (x, r, parts, token, next, rest)) =
        let (c, z, full, some) = token_starts t.token x token in
        let one : length s ≡ length b + length y = ap length cut ∙ length-append b y in
        let two : length y ≡ length x + length r = ap length parts ∙ length-append x r in
        let three : length x ≡ suc (length z) = ap length full in
        omega arith
    empty y cut (inr (last, stuck_is)) =
        let (c, z, full, some) = stuck_starts t.token y stuck_is in
        let one : length s ≡ length b + length y = ap length cut ∙ length-append b y in
        let two : length y ≡ suc (length z) = ap length full in
        omega arith
lexes_only (suc k) (t ∷ ts) s le (b, y, cut, blanks, left, inl (x, r, parts, token, next, rest)) =
    let (c, z, full, some) = token_starts t.token x token in
    let one : length s ≡ length b + length y = ap length cut ∙ length-append b y in
    let two : length y ≡ length x + length r = ap length parts ∙ length-append x r in
    let three : length x ≡ suc (length z) = ap length full in
    let starts : Starts y = (c, z ++ r, parts ∙ ap (λ u. u ++ r) full, some) in
    let here : scan y ≡ found t.token r = ap scan parts ∙ scan_complete t.token x r token next in
    let first : lex_within (suc k) s ≡ stamped (scan y) (length y) (lex_within k) = ap (lex_within (suc k)) cut ∙ lex_first k b y blanks starts in
    let later : ts ≡ lex_within k r = lexes_only k ts r (omega arith) rest in
    ap (λ us. t ∷ us) later
    ∙ (ap (λ (n : ℕ). record { token = t.token; left = n } ∷ lex_within k r) left
    ∙ sym (first ∙ ap (λ o. stamped o (length y) (lex_within k)) here))
lexes_only (suc k) (t ∷ ts) s le (b, y, cut, blanks, left, inr (last, is)) =
    let first : lex_within (suc k) s ≡ stamped (scan y) (length y) (lex_within k) =
    ap (lex_within (suc k)) cut ∙ lex_first k b y blanks (stuck_starts t.token y is) in
    ap (λ us. t ∷ us) last
    ∙ (ap (λ (n : ℕ). record { token = t.token; left = n } ∷ []) left
    ∙ sym (first ∙ ap (λ o. stamped o (length y) (lex_within k)) (stuck_scan t.token y is)))

-- ---- so each text has one list

pub lexes_some : (s : List ℕ) → Lexes (lex s) s
lexes_some s = lexes_within (length s) s (omega arith)

pub lexes_lex : (ts : List Stamped) (s : List ℕ) → Lexes ts s → ts ≡ lex s
lexes_lex ts s is = lexes_only (length s) ts s (omega arith) is

pub lexes_once : (ts us : List Stamped) (s : List ℕ) → Lexes ts s → Lexes us s → ts ≡ us
lexes_once ts us s one two = lexes_lex ts s one ∙ sym (lexes_lex us s two)

-- a bound that is large enough makes no difference
pub lex_same : (j k : ℕ) (s : List ℕ) → length s ≤ j → length s ≤ k → lex_within j s ≡ lex_within k s
lex_same j k s more_j more_k = lexes_only k (lex_within j s) s more_k (lexes_within j s more_j)

-- ---- places

-- a token stands so many bytes before the end as it says, and with those after it is what the rest of the text has
pub token_bytes : (ts us : List Stamped) (t : Stamped) (s : List ℕ) → Lexes (ts ++ t ∷ us) s
    → (p : List ℕ) × (y : List ℕ) × (s ≡ p ++ y) × (t.left ≡ length y) × Starts y × Lexes (t ∷ us) y
token_bytes [] us t s (b, y, cut, blanks, left, is) = (b, y, cut, left, starts is, ([], y, refl, tt, left, is))
  where
    starts : Foremost t.token (Lexes us) y ⊎ ((us ≡ []) × IsStuck t.token y) → Starts y
    starts (inl (x, r, parts, token, next, rest)) = let (c, z, full, some) = token_starts t.token x token in (c, z ++ r, parts ∙ ap (λ u. u ++ r) full, some)
    starts (inr (last, stuck_is)) = stuck_starts t.token y stuck_is
token_bytes (u ∷ ts) us t s (b, y, cut, blanks, left, inl (x, r, parts, token, next, rest)) =
    let (p, z, later, lens, starts, is) = token_bytes ts us t r rest in
    let whole_s : s ≡ (b ++ (x ++ p)) ++ z =
    cut ∙ (ap (λ v. b ++ v) (parts ∙ (ap (λ v. x ++ v) later ∙ sym (append_assoc x p z))) ∙ sym (append_assoc b (x ++ p) z)) in
    (b ++ (x ++ p), z, whole_s, lens, starts, is)
token_bytes (u ∷ ts) us t s (b, y, cut, blanks, left, inr (last, is)) = absurd (none ts last)
  where
    none : (vs : List Stamped) → vs ++ t ∷ us ≡ [] → ⊥
    none [] e = cc
    none (v ∷ vs) e = cc
