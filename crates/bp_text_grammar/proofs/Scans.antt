-- Scanning one token is exact: a token is found just where it stands in front, and else what is stuck says why.
use Rattle.std.proofs.Common.{◌≡◌, ◌≢◌, refl, sym, ap, ◌∙◌, subst, true, false, ℕ, ℤ, zero, pos, negsuc, suc, List, [], ◌∷◌, ◌++◌, ◌⊎◌, inl, inr, arith}
use Rattle.std.specs.Char.{is_ascii_digit}
use Rattle.readers.specs.Reader.{Outcome, whole, more, bad, Any, Is, IsNot, Follows}
use Rattle.readers.proofs.Readers.{each-any, follows-any}
use Rattle.readers.proofs.Leaves.{is_or, pick_true, pick_false, this_is, this_same}
use Rattle.readers.proofs.Places.{told_more, only_more}
use Rattle.bp_text_grammar.specs.Tokens.{Token, Word, Number, Big, Text, Char, Mark, Wrong, OpenText, OpenChar}
use Rattle.bp_text_grammar.specs.Lexing.{blank, minus, quote, prime, starts_name, in_name, IsQuotedText, IsQuotedChar, IsWord, value_on, IsDigits, IsNumber, IsToken, EndsBefore, BeginsToken, IsOpen, IsWrong, IsStuck}
use Rattle.bp_text_grammar.specs.Scanning.{text_rest, char_rest, text_at, char_at, Scanned, found, stuck, span, is_plain, number_of, natural_found, negated, negative_found, word_found, quoted_found, Kind, name, digit, negative, text, char, mark, other, kind_of, scan_as, scan}
use Rattle.bp_text_grammar.proofs.Quoted.{reads_text_rest, reads_char_rest, reads_text, reads_char, text_begins, char_begins}
use Rattle.bp_text_grammar.proofs.Pieces.{Says, kind_says, kind_is, starts_in_name, span_is, span_only, plain_by, plain_is, number_kept, number_big, number_token, number_ends}

pub scan_by : (k : Kind) (b : ℕ) (s : List ℕ) → Says k b → scan (b ∷ s) ≡ scan_as k b s
unfolding scan
scan_by k b s is = ap (λ j. scan_as j b s) (kind_is k b is)

-- ---- what is found stands in front

abbrev pub Scans : List ℕ → Token → List ℕ → Type 0
Scans s t r = (x : List ℕ) × (s ≡ x ++ r) × IsToken t x × EndsBefore t r

same_found : {s : List ℕ} {t u : Token} {r v : List ℕ} → found t r ≡ found u v → Scans s t r → Scans s u v
same_found {s = s} {t = t} {u = u} {r = r} {v = v} e is =
    let tu : t ≡ u = cc in
    let rv : r ≡ v = cc in
    subst (λ z. Scans s z v) tu (subst (λ z. Scans s t z) rv is)

name_scans : (b : ℕ) (s : List ℕ) → Is starts_name b → Scans (b ∷ s) (Word (span in_name (b ∷ s)).0) (span in_name (b ∷ s)).1
name_scans b s is =
    let (cut, each, next) = span_is in_name (b ∷ s) in
    let first : span in_name (b ∷ s) ≡ (b ∷ (span in_name s).0, (span in_name s).1) = pick_true (in_name b) _ _ (starts_in_name b is) in
    ((span in_name (b ∷ s)).0, cut, (refl, subst (λ (p : List ℕ × List ℕ). IsWord p.0) (sym first) (is, (span_is in_name s).1)), next)

abbrev digits_of : List ℕ → List ℕ × List ℕ
digits_of s = span is_ascii_digit s

digits_are : (s : List ℕ) → is_plain (digits_of s).0 ≡ true → IsDigits (value_on 0 (digits_of s).0) (digits_of s).0
digits_are s e = (refl, (span_is is_ascii_digit s).1, plain_by _ e)

natural_scans : (s : List ℕ) (t : Token) (r : List ℕ) → natural_found (digits_of s) ≡ found t r → Scans s t r
natural_scans s t r h = elim (is_or (is_plain (digits_of s).0)) [ inl e ↦ here e | inr e ↦ absurd (clash e) ]
  where
    here : is_plain (digits_of s).0 ≡ true → Scans s t r
    here e =
        let (cut, each, next) = span_is is_ascii_digit s in
        let n = pos (value_on 0 (digits_of s).0) in
        same_found (sym (pick_true (is_plain (digits_of s).0) (found (number_of n) (digits_of s).1) (stuck Wrong) e) ∙ h)
        ((digits_of s).0, cut, number_token n (digits_of s).0 (digits_are s e), number_ends n (digits_of s).1 next)

    clash : is_plain (digits_of s).0 ≡ false → ⊥
    clash e = let is : natural_found (digits_of s) ≡ stuck Wrong = pick_false (is_plain (digits_of s).0) _ _ e in cc

negative_scans : (s : List ℕ) (t : Token) (r : List ℕ) → negative_found (digits_of s) ≡ found t r → Scans (minus ∷ s) t r
negative_scans s t r h = elim (is_or (is_plain (digits_of s).0)) [ inl e ↦ here e (value_on 0 (digits_of s).0) refl | inr e ↦ absurd (clash e) ]
  where
    clash : is_plain (digits_of s).0 ≡ false → ⊥
    clash e = let is : negative_found (digits_of s) ≡ stuck Wrong = pick_false (is_plain (digits_of s).0) _ _ e in cc

    is_negated : is_plain (digits_of s).0 ≡ true → (v : ℕ) → value_on 0 (digits_of s).0 ≡ v → negated v (digits_of s).1 ≡ found t r
    is_negated e v is = ap (λ w. negated w (digits_of s).1) (sym is) ∙ (sym (pick_true (is_plain (digits_of s).0) (negated (value_on 0 (digits_of s).0) (digits_of s).1) (stuck Wrong) e) ∙ h)

    here : is_plain (digits_of s).0 ≡ true → (v : ℕ) → value_on 0 (digits_of s).0 ≡ v → Scans (minus ∷ s) t r
    here e zero is = let none : stuck Wrong ≡ found t r = is_negated e zero is in absurd cc
    here e (suc n) is =
        let (cut, each, next) = span_is is_ascii_digit s in
        same_found (is_negated e (suc n) is) (
          minus ∷ (digits_of s).0,
          ap (λ l. minus ∷ l) cut,
          number_token (negsuc n) (minus ∷ (digits_of s).0) ((digits_of s).0, refl, subst (λ v. IsDigits v (digits_of s).0) is (digits_are s e)),
          number_ends (negsuc n) (digits_of s).1 next,
        )

text_scans : (s : List ℕ) (t : Token) (r : List ℕ) → quoted_found Text OpenText (text_rest s) ≡ found t r → Scans (quote ∷ s) t r
text_scans s t r h = go (text_rest s) refl
  where
    go : (o : Outcome ℕ (Unit {0}) (List ℕ)) → text_rest s ≡ o → Scans (quote ∷ s) t r
    go (whole w u) e =
        let (x, cut, l, f) = reads_text_rest.sound s w u (each-any s) e in
        same_found (sym (ap (quoted_found Text OpenText) e) ∙ h)
        (quote ∷ x, ap (λ z. quote ∷ z) cut, (tt, quote ∷ [], x, refl, (quote, refl, this_same quote), l), tt)
    go more e = let none : stuck OpenText ≡ found t r = sym (ap (quoted_found Text OpenText) e) ∙ h in absurd cc
    go (bad n w) e = let none : stuck Wrong ≡ found t r = sym (ap (quoted_found Text OpenText) e) ∙ h in absurd cc

char_scans : (s : List ℕ) (t : Token) (r : List ℕ) → quoted_found Char OpenChar (char_rest s) ≡ found t r → Scans (prime ∷ s) t r
char_scans s t r h = go (char_rest s) refl
  where
    go : (o : Outcome ℕ (Unit {0}) ℕ) → char_rest s ≡ o → Scans (prime ∷ s) t r
    go (whole w u) e =
        let (x, cut, l, f) = reads_char_rest.sound s w u (each-any s) e in
        same_found (sym (ap (quoted_found Char OpenChar) e) ∙ h)
        (prime ∷ x, ap (λ z. prime ∷ z) cut, (tt, prime ∷ [], x, refl, (prime, refl, this_same prime), l), tt)
    go more e = let none : stuck OpenChar ≡ found t r = sym (ap (quoted_found Char OpenChar) e) ∙ h in absurd cc
    go (bad n w) e = let none : stuck Wrong ≡ found t r = sym (ap (quoted_found Char OpenChar) e) ∙ h in absurd cc

found_as : (k : Kind) (b : ℕ) (s : List ℕ) → Says k b → (t : Token) (r : List ℕ) → scan_as k b s ≡ found t r → Scans (b ∷ s) t r
found_as name b s is t r h = same_found h (name_scans b s is)
found_as digit b s is t r h = natural_scans (b ∷ s) t r h
found_as negative b s is t r h = subst (λ c. Scans (c ∷ s) t r) (sym is) (negative_scans s t r h)
found_as text b s is t r h = subst (λ c. Scans (c ∷ s) t r) (sym is) (text_scans s t r h)
found_as char b s is t r h = subst (λ c. Scans (c ∷ s) t r) (sym is) (char_scans s t r h)
found_as mark b s is t r h = same_found h (b ∷ [], refl, (refl, is), tt)
found_as other b s is t r h = absurd cc

pub scan_sound : (s : List ℕ) (t : Token) (r : List ℕ) → scan s ≡ found t r → Scans s t r
unfolding scan
scan_sound [] t r h = absurd cc
scan_sound (b ∷ s) t r h = found_as (kind_of b) b s (kind_says b) t r h

-- ---- what stands in front is found

digits_found : (n : ℕ) (x u : List ℕ) → IsDigits n x → Follows (IsNot is_ascii_digit) u → span is_ascii_digit (x ++ u) ≡ (x, u)
digits_found n x u (is, each, plain) next = span_only is_ascii_digit x u each next

natural_complete : (n : ℕ) (x u : List ℕ) → IsDigits n x → Follows (IsNot is_ascii_digit) u → scan (x ++ u) ≡ found (number_of (pos n)) u
natural_complete n [] u (is, each, plain) next = absurd plain
natural_complete n (d ∷ x) u (is, each, plain) next =
    scan_by digit d (x ++ u) each.0
    ∙ (ap natural_found (span_only is_ascii_digit (d ∷ x) u each next)
    ∙ (pick_true (is_plain (d ∷ x)) _ _ (plain_is (d ∷ x) plain) ∙ ap (λ v. found (number_of (pos v)) u) (sym is)))

negative_complete : (n : ℕ) (x u : List ℕ) → IsDigits (suc n) x → Follows (IsNot is_ascii_digit) u → scan (minus ∷ x ++ u) ≡ found (number_of (negsuc n)) u
negative_complete n x u (is, each, plain) next =
    scan_by negative minus (x ++ u) refl
    ∙ (ap negative_found (span_only is_ascii_digit x u each next)
    ∙ (pick_true (is_plain x) _ _ (plain_is x plain) ∙ ap (λ v. negated v u) (sym is)))

number_complete : (n : ℤ) (x u : List ℕ) → IsNumber n x → Follows (IsNot is_ascii_digit) u → scan (x ++ u) ≡ found (number_of n) u
number_complete (pos n) x u is next = natural_complete n x u is next
number_complete (negsuc n) x u (ds, cut, is) next = ap (λ y. scan (y ++ u)) cut ∙ negative_complete n ds u is next

word_complete : (w u : List ℕ) → IsWord w → Follows (IsNot in_name) u → scan (w ++ u) ≡ found (Word w) u
word_complete [] u name_is next = absurd name_is
word_complete (b ∷ w) u (first, each) next =
    scan_by name b (w ++ u) first ∙ ap word_found (span_only in_name (b ∷ w) u (starts_in_name b first, each) next)

text_complete : (w x u : List ℕ) → IsQuotedText w x → scan (x ++ u) ≡ found (Text w) u
text_complete w x u (o, t, v, cut, (b, e, h), l) =
    let first : b ≡ quote = this_is quote b o h in
    let whole_x : x ≡ quote ∷ v = cut ∙ (ap (λ y. y ++ v) e ∙ ap (λ c. c ∷ v) first) in
    ap (λ y. scan (y ++ u)) whole_x
    ∙ (scan_by text quote (v ++ u) refl ∙ ap (quoted_found Text OpenText) (reads_text_rest.complete w v u l (follows-any u)))

char_complete : (c : ℕ) (x u : List ℕ) → IsQuotedChar c x → scan (x ++ u) ≡ found (Char c) u
char_complete c x u (o, t, v, cut, (b, e, h), l) =
    let first : b ≡ prime = this_is prime b o h in
    let whole_x : x ≡ prime ∷ v = cut ∙ (ap (λ y. y ++ v) e ∙ ap (λ d. d ∷ v) first) in
    ap (λ y. scan (y ++ u)) whole_x
    ∙ (scan_by char prime (v ++ u) refl ∙ ap (quoted_found Char OpenChar) (reads_char_rest.complete c v u l (follows-any u)))

pub scan_complete : (t : Token) (x u : List ℕ) → IsToken t x → EndsBefore t u → scan (x ++ u) ≡ found t u
scan_complete (Word w) x u (same, is) next = ap (λ y. scan (y ++ u)) same ∙ word_complete w u is next
scan_complete (Number n) x u (is, within) next = number_complete n x u is next ∙ ap (λ t. found t u) (number_kept n within)
scan_complete Big x u (n, is, out) next = number_complete n x u is next ∙ ap (λ t. found t u) (number_big n out)
scan_complete (Text w) x u is next = text_complete w x u is
scan_complete (Char c) x u is next = char_complete c x u is
scan_complete (Mark b) x u (same, is) next = ap (λ y. scan (y ++ u)) same ∙ scan_by mark b u is
scan_complete Wrong x u is next = absurd is
scan_complete OpenText x u is next = absurd is
scan_complete OpenChar x u is next = absurd is

-- ---- where no token stands

pub open_text_scan : (y : List ℕ) → IsOpen IsQuotedText y → scan y ≡ stuck OpenText
open_text_scan [] (some, front) = absurd (omega arith)
open_text_scan (b ∷ s) (some, (w, c, x, l)) =
    let (d, t, cut, is) = text_begins w ((b ∷ s) ++ c ∷ x) l in
    let bd : b ≡ d = cc in
    let first : b ≡ quote = grind arith in
    let all : text_at (b ∷ s) ≡ more = only_more Any IsQuotedText _ text_at reads_text (b ∷ s) (each-any (b ∷ s)) (w, c, x, l) in
    scan_by text b s first
    ∙ ap (quoted_found Text OpenText) (subst (λ z. text_at (z ∷ s) ≡ more) first all)

pub open_char_scan : (y : List ℕ) → IsOpen IsQuotedChar y → scan y ≡ stuck OpenChar
open_char_scan [] (some, front) = absurd (omega arith)
open_char_scan (b ∷ s) (some, (w, c, x, l)) =
    let (d, t, cut, is) = char_begins w ((b ∷ s) ++ c ∷ x) l in
    let bd : b ≡ d = cc in
    let first : b ≡ prime = grind arith in
    let all : char_at (b ∷ s) ≡ more = only_more Any IsQuotedChar _ char_at reads_char (b ∷ s) (each-any (b ∷ s)) (w, c, x, l) in
    scan_by char b s first
    ∙ ap (quoted_found Char OpenChar) (subst (λ z. char_at (z ∷ s) ≡ more) first all)

-- what is wrong, or left open
abbrev StuckBy : Token → List ℕ → Type 0
StuckBy t y = (t ≡ Wrong) ⊎ (((t ≡ OpenText) × IsOpen IsQuotedText y) ⊎ ((t ≡ OpenChar) × IsOpen IsQuotedChar y))

text_stuck : (s : List ℕ) (t : Token) → quoted_found Text OpenText (text_rest s) ≡ stuck t → StuckBy t (quote ∷ s)
text_stuck s t h = go (text_rest s) refl
  where
    go : (o : Outcome ℕ (Unit {0}) (List ℕ)) → text_rest s ≡ o → StuckBy t (quote ∷ s)
    go (whole w u) e = let none : found (Text w) u ≡ stuck t = sym (ap (quoted_found Text OpenText) e) ∙ h in absurd cc
    go more e =
        let is : stuck OpenText ≡ stuck t = sym (ap (quoted_found Text OpenText) e) ∙ h in
        let same : t ≡ OpenText = cc in
        inr (inl (same, (omega arith, told_more Any IsQuotedText _ text_at reads_text (quote ∷ s) (each-any (quote ∷ s)) e)))
    go (bad n w) e =
        let is : stuck Wrong ≡ stuck t = sym (ap (quoted_found Text OpenText) e) ∙ h in
        let same : t ≡ Wrong = cc in
        inl same

char_stuck : (s : List ℕ) (t : Token) → quoted_found Char OpenChar (char_rest s) ≡ stuck t → StuckBy t (prime ∷ s)
char_stuck s t h = go (char_rest s) refl
  where
    go : (o : Outcome ℕ (Unit {0}) ℕ) → char_rest s ≡ o → StuckBy t (prime ∷ s)
    go (whole w u) e = let none : found (Char w) u ≡ stuck t = sym (ap (quoted_found Char OpenChar) e) ∙ h in absurd cc
    go more e =
        let is : stuck OpenChar ≡ stuck t = sym (ap (quoted_found Char OpenChar) e) ∙ h in
        let same : t ≡ OpenChar = cc in
        inr (inr (same, (omega arith, told_more Any IsQuotedChar _ char_at reads_char (prime ∷ s) (each-any (prime ∷ s)) e)))
    go (bad n w) e =
        let is : stuck Wrong ≡ stuck t = sym (ap (quoted_found Char OpenChar) e) ∙ h in
        let same : t ≡ Wrong = cc in
        inl same

natural_stuck : (p : List ℕ × List ℕ) (t : Token) → natural_found p ≡ stuck t → t ≡ Wrong
natural_stuck p t h = elim (is_or (is_plain p.0)) [
  | inl e ↦ clash _ _ (sym (pick_true (is_plain p.0) _ _ e) ∙ h)
  | inr e ↦ let is : natural_found p ≡ stuck Wrong = pick_false (is_plain p.0) _ _ e in cc
]
  where
    clash : (u : Token) (r : List ℕ) → found u r ≡ stuck t → t ≡ Wrong
    clash u r e = absurd cc

negated_stuck : (v : ℕ) (r : List ℕ) (t : Token) → negated v r ≡ stuck t → t ≡ Wrong
negated_stuck zero r t h = cc
negated_stuck (suc n) r t h = absurd cc

negative_stuck : (p : List ℕ × List ℕ) (t : Token) → negative_found p ≡ stuck t → t ≡ Wrong
negative_stuck p t h = elim (is_or (is_plain p.0)) [
  | inl e ↦ negated_stuck (value_on 0 p.0) p.1 t (sym (pick_true (is_plain p.0) _ _ e) ∙ h)
  | inr e ↦ let is : negative_found p ≡ stuck Wrong = pick_false (is_plain p.0) _ _ e in cc
]

stuck_as : (k : Kind) (b : ℕ) (s : List ℕ) → Says k b → (t : Token) → scan_as k b s ≡ stuck t → StuckBy t (b ∷ s)
stuck_as name b s is t h = absurd cc
stuck_as digit b s is t h = inl (natural_stuck (span is_ascii_digit (b ∷ s)) t h)
stuck_as negative b s is t h = inl (negative_stuck (span is_ascii_digit s) t h)
stuck_as text b s is t h = subst (λ c. StuckBy t (c ∷ s)) (sym is) (text_stuck s t h)
stuck_as char b s is t h = subst (λ c. StuckBy t (c ∷ s)) (sym is) (char_stuck s t h)
stuck_as mark b s is t h = absurd cc
stuck_as other b s is t h = inl cc

stuck_by : (b : ℕ) (s : List ℕ) (t : Token) → scan (b ∷ s) ≡ stuck t → StuckBy t (b ∷ s)
unfolding scan
stuck_by b s t h = stuck_as (kind_of b) b s (kind_says b) t h

pub scan_stuck : (b : ℕ) (s : List ℕ) (t : Token) → b ≢ blank → scan (b ∷ s) ≡ stuck t → IsStuck t (b ∷ s)
scan_stuck b s t some h = elim (stuck_by b s t h) [
  | inl e ↦ subst (λ u. IsStuck u (b ∷ s)) (sym e) (some, wrong e, no_text e, no_char e)
  | inr (inl (e, is)) ↦ subst (λ u. IsStuck u (b ∷ s)) (sym e) is
  | inr (inr (e, is)) ↦ subst (λ u. IsStuck u (b ∷ s)) (sym e) is
]
  where
    wrong : t ≡ Wrong → BeginsToken (b ∷ s) → ⊥
    wrong e (u, x, r, cut, is, next) =
        let other_way : scan (b ∷ s) ≡ found u r = ap scan cut ∙ scan_complete u x r is next in
        cc

    no_text : t ≡ Wrong → IsOpen IsQuotedText (b ∷ s) → ⊥
    no_text e is = let other_way : scan (b ∷ s) ≡ stuck OpenText = open_text_scan (b ∷ s) is in let clash : stuck Wrong ≡ stuck OpenText = cc in cc

    no_char : t ≡ Wrong → IsOpen IsQuotedChar (b ∷ s) → ⊥
    no_char e is = let other_way : scan (b ∷ s) ≡ stuck OpenChar = open_char_scan (b ∷ s) is in let clash : stuck Wrong ≡ stuck OpenChar = cc in cc

wrong_scan : (b : ℕ) (s : List ℕ) → IsWrong (b ∷ s) → scan (b ∷ s) ≡ stuck Wrong
wrong_scan b s (some, none, no_text, no_char) = go (scan (b ∷ s)) refl
  where
    go : (o : Scanned) → scan (b ∷ s) ≡ o → scan (b ∷ s) ≡ stuck Wrong
    go (found t r) e = let (x, cut, is, next) = scan_sound (b ∷ s) t r e in absurd (none (t, x, r, cut, is, next))
    go (stuck t) e = elim (stuck_by b s t e) [
      | inl is ↦ e ∙ ap stuck is
      | inr (inl (is, open_)) ↦ absurd (no_text open_)
      | inr (inr (is, open_)) ↦ absurd (no_char open_)
    ]

pub stuck_scan : (t : Token) (y : List ℕ) → IsStuck t y → scan y ≡ stuck t
stuck_scan Wrong [] is = absurd is
stuck_scan Wrong (b ∷ s) is = wrong_scan b s is
stuck_scan OpenText y is = open_text_scan y is
stuck_scan OpenChar y is = open_char_scan y is
stuck_scan (Word w) y is = absurd is
stuck_scan (Number n) y is = absurd is
stuck_scan Big y is = absurd is
stuck_scan (Text w) y is = absurd is
stuck_scan (Char c) y is = absurd is
stuck_scan (Mark b) y is = absurd is
