-- What the first byte of a token says, runs of bytes, and digits.
use Rattle.std.proofs.Common.{◌≡◌, ◌≢◌, refl, sym, ap, ◌∙◌, subst, Bool, true, false, not, ◌||◌, if◌then◌else◌, ℕ, ℤ, pos, negsuc, ◌<◌, ◌^◌, nat_eq, List, [], ◌∷◌, ◌++◌, ◌⊎◌, inl, inr, arith}
use Rattle.std.proofs.lemmas.Int.{ints}
use Rattle.std.specs.Char.{is_ascii_digit}
use Rattle.bp_value.specs.Fits.{InRange}
use Rattle.readers.specs.Reader.{Each, Is, IsNot, Follows}
use Rattle.readers.proofs.Leaves.{is_or, pick_true, pick_false}
use Rattle.bp_text_grammar.specs.Tokens.{Number, Big}
use Rattle.bp_text_grammar.specs.Lexing.{minus, quote, prime, digit_zero, starts_name, in_name, is_bracket, is_separator, is_punctuation, IsPlain, IsNumber, IsToken, EndsBefore, number_bits}
use Rattle.bp_text_grammar.specs.Scanning.{Kind, name, digit, negative, text, char, mark, other, kind_of, span, is_plain, is_kept, number_of}

-- ---- the first byte

abbrev pub Says : Kind → ℕ → Type 0
Says name b = Is starts_name b
Says digit b = Is is_ascii_digit b
Says negative b = b ≡ minus
Says text b = b ≡ quote
Says char b = b ≡ prime
Says mark b = Is is_punctuation b
Says other b = IsNot starts_name b × IsNot is_ascii_digit b × (b ≢ minus) × (b ≢ quote) × (b ≢ prime) × IsNot is_punctuation b

says_if : (t : Bool) (k l : Kind) (b : ℕ) → (t ≡ true → Says k b) → (t ≡ false → Says l b) → Says (if t then k else l) b
says_if true k l b left right = left refl
says_if false k l b left right = right refl

pub kind_says : (b : ℕ) → Says (kind_of b) b
kind_says b =
    says_if (starts_name b) name _ b (λ e. e) (λ a.
    says_if (is_ascii_digit b) digit _ b (λ e. e) (λ d.
    says_if (nat_eq b minus) negative _ b (λ e. grind arith) (λ m.
    says_if (nat_eq b quote) text _ b (λ e. grind arith) (λ q.
    says_if (nat_eq b prime) char _ b (λ e. grind arith) (λ p.
    says_if (is_punctuation b) mark other b (λ e. e) (λ u.
    (a, d, (λ e. grind arith), (λ e. grind arith), (λ e. grind arith), u)))))))

pub digit_starts_none : (b : ℕ) → Is is_ascii_digit b → IsNot starts_name b
digit_starts_none b is = grind arith

or_true : (x y : Bool) → (x || y) ≡ true → (x ≡ true) ⊎ (y ≡ true)
or_true true y e = inl refl
or_true false y e = inr e

abbrev IsMark : ℕ → Type 0
IsMark b =
    IsNot starts_name b × IsNot is_ascii_digit b × IsNot (λ c. nat_eq c minus) b × IsNot (λ c. nat_eq c quote) b × IsNot (λ c. nat_eq c prime) b

bracket_is_mark : (b : ℕ) → Is is_bracket b → IsMark b
bracket_is_mark b is = (grind arith, grind arith, grind arith, grind arith, grind arith)

this_is_mark : (c b : ℕ) → nat_eq b c ≡ true → IsMark c → IsMark b
this_is_mark c b e is = let same : c ≡ b = grind arith in subst IsMark same is

abbrev is_late : ℕ → Bool
is_late b = nat_eq b 0x3A || (nat_eq b 0x3B || (nat_eq b 0x3D || (nat_eq b 0x60 || nat_eq b 0x7C)))

late_is_mark : (b : ℕ) → is_late b ≡ true → IsMark b
late_is_mark b is = (grind arith, grind arith, grind arith, grind arith, grind arith)

separator_is_mark : (b : ℕ) → Is is_separator b → IsMark b
separator_is_mark b is = elim (or_true (nat_eq b 0x21) _ is) [
  | inl e ↦ this_is_mark 0x21 b e (refl, refl, refl, refl, refl)
  | inr f ↦ elim (or_true (nat_eq b 0x2A) _ f) [
    | inl e ↦ this_is_mark 0x2A b e (refl, refl, refl, refl, refl)
    | inr g ↦ elim (or_true (nat_eq b 0x2C) (is_late b) g) [
      | inl e ↦ this_is_mark 0x2C b e (refl, refl, refl, refl, refl)
      | inr late ↦ late_is_mark b late
    ]
  ]
]

is_mark : (b : ℕ) → Is is_punctuation b → IsMark b
is_mark b is = elim (or_true (is_bracket b) (is_separator b) is) [ inl e ↦ bracket_is_mark b e | inr e ↦ separator_is_mark b e ]

pub kind_is : (k : Kind) (b : ℕ) → Says k b → kind_of b ≡ k
kind_is name b is = pick_true (starts_name b) _ _ is
kind_is digit b is = pick_false (starts_name b) _ _ (digit_starts_none b is) ∙ pick_true (is_ascii_digit b) _ _ is
kind_is negative b is = ap kind_of is
kind_is text b is = ap kind_of is
kind_is char b is = ap kind_of is
kind_is mark b is =
    let (a, d, m, q, p) = is_mark b is in
    pick_false (starts_name b) _ _ a ∙ (pick_false (is_ascii_digit b) _ _ d ∙ (pick_false (nat_eq b minus) _ _ m
    ∙ (pick_false (nat_eq b quote) _ _ q ∙ (pick_false (nat_eq b prime) _ _ p ∙ pick_true (is_punctuation b) _ _ is))))
kind_is other b (a, d, m, q, p, u) =
    let nm : nat_eq b minus ≡ false = grind arith in
    let nq : nat_eq b quote ≡ false = grind arith in
    let np : nat_eq b prime ≡ false = grind arith in
    pick_false (starts_name b) _ _ a ∙ (pick_false (is_ascii_digit b) _ _ d ∙ (pick_false (nat_eq b minus) _ _ nm
    ∙ (pick_false (nat_eq b quote) _ _ nq ∙ (pick_false (nat_eq b prime) _ _ np ∙ pick_false (is_punctuation b) _ _ u))))

pub starts_in_name : (b : ℕ) → Is starts_name b → Is in_name b
starts_in_name b is = ap (λ t. t || (is_ascii_digit b || nat_eq b prime)) is

-- ---- runs

pub span_is : (C : ℕ → Bool) (s : List ℕ)
    → (s ≡ (span C s).0 ++ (span C s).1) × Each (Is C) (span C s).0 × Follows (IsNot C) (span C s).1
span_is C [] = (refl, tt, tt)
span_is C (b ∷ s) = elim (is_or (C b)) [ inl e ↦ goes_on e (span_is C s) | inr e ↦ ends e ]
  where
    goes_on : C b ≡ true → (s ≡ (span C s).0 ++ (span C s).1) × Each (Is C) (span C s).0 × Follows (IsNot C) (span C s).1
        → (b ∷ s ≡ (span C (b ∷ s)).0 ++ (span C (b ∷ s)).1) × Each (Is C) (span C (b ∷ s)).0 × Follows (IsNot C) (span C (b ∷ s)).1
    goes_on e (cut, each, next) =
        subst (λ (p : List ℕ × List ℕ). (b ∷ s ≡ p.0 ++ p.1) × Each (Is C) p.0 × Follows (IsNot C) p.1) (sym (pick_true (C b) _ _ e))
        (ap (λ l. b ∷ l) cut, (e, each), next)

    ends : C b ≡ false → (b ∷ s ≡ (span C (b ∷ s)).0 ++ (span C (b ∷ s)).1) × Each (Is C) (span C (b ∷ s)).0 × Follows (IsNot C) (span C (b ∷ s)).1
    ends e =
        subst (λ (p : List ℕ × List ℕ). (b ∷ s ≡ p.0 ++ p.1) × Each (Is C) p.0 × Follows (IsNot C) p.1) (sym (pick_false (C b) _ _ e))
        (refl, tt, e)

pub span_only : (C : ℕ → Bool) (t u : List ℕ) → Each (Is C) t → Follows (IsNot C) u → span C (t ++ u) ≡ (t, u)
span_only C [] [] each next = refl
span_only C [] (b ∷ u) each next = pick_false (C b) _ _ next
span_only C (b ∷ t) u each next =
    pick_true (C b) _ _ each.0 ∙ ap (λ (p : List ℕ × List ℕ). (b ∷ p.0, p.1)) (span_only C t u each.1 next)

-- ---- numbers

pub plain_by : (ds : List ℕ) → is_plain ds ≡ true → IsPlain ds
plain_by [] e = absurd cc
plain_by (d ∷ []) e = λ zero_first. refl
plain_by (d ∷ c ∷ ds) e = λ zero_first. absurd (grind arith)

pub plain_is : (ds : List ℕ) → IsPlain ds → is_plain ds ≡ true
plain_is [] none = absurd none
plain_is (d ∷ []) alone = refl
plain_is (d ∷ c ∷ ds) alone = elim (is_or (nat_eq d digit_zero)) [
  | inl e ↦ let none : c ∷ ds ≡ [] = alone (grind arith) in absurd cc
  | inr e ↦ ap not e
]

kept_by : (n : ℤ) → is_kept n ≡ true → InRange number_bits n
kept_by (pos n) e = let lt : n < 2 ^ 63 = grind arith in (omega (arith, ints), omega (arith, ints))
kept_by (negsuc n) e = let lt : n < 2 ^ 63 = grind arith in (omega (arith, ints), omega (arith, ints))

kept_if : (n : ℤ) → InRange number_bits n → is_kept n ≡ true
kept_if (pos n) (low, high) = let lt : n < 2 ^ 63 = omega (arith, ints) in grind arith
kept_if (negsuc n) (low, high) = let lt : n < 2 ^ 63 = omega (arith, ints) in grind arith

pub number_kept : (n : ℤ) → InRange number_bits n → number_of n ≡ Number n
number_kept n within = pick_true (is_kept n) (Number n) Big (kept_if n within)

pub number_big : (n : ℤ) → (InRange number_bits n → ⊥) → number_of n ≡ Big
number_big n out = pick_false (is_kept n) (Number n) Big (elim (is_or (is_kept n)) [
  | inl e ↦ absurd (out (kept_by n e))
  | inr e ↦ e
])

pub number_token : (n : ℤ) (x : List ℕ) → IsNumber n x → IsToken (number_of n) x
number_token n x is = elim (is_or (is_kept n)) [
  | inl e ↦ subst (λ t. IsToken t x) (sym (pick_true (is_kept n) (Number n) Big e)) (is, kept_by n e)
  | inr e ↦ subst (λ t. IsToken t x) (sym (pick_false (is_kept n) (Number n) Big e)) (n, is, λ within. out e within)
]
  where
    out : is_kept n ≡ false → InRange number_bits n → ⊥
    out e within = let kept : is_kept n ≡ true = kept_if n within in cc

pub number_ends : (n : ℤ) (r : List ℕ) → Follows (IsNot is_ascii_digit) r → EndsBefore (number_of n) r
number_ends n r next = elim (is_or (is_kept n)) [
  | inl e ↦ subst (λ t. EndsBefore t r) (sym (pick_true (is_kept n) (Number n) Big e)) next
  | inr e ↦ subst (λ t. EndsBefore t r) (sym (pick_false (is_kept n) (Number n) Big e)) next
]
