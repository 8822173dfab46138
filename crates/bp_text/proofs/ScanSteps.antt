-- What the scanning of one token gives, by what the code has found out.
use Rattle.std.proofs.Common.{◌≡◌, refl, sym, ap, ◌∙◌, subst, cond, Bool, true, false, not, ℕ, ℤ, suc, pos, negsuc, ◌+◌, ◌*◌, ◌-◌, ◌<◌, ◌≤◌, nat_lt, List, [], ◌∷◌, length, take, drop, get_or, inl, inr, arith}
use Rattle.std.proofs.lemmas.List.{length-append, take_rest}
use Rattle.std.proofs.lemmas.List.Recursion.{is_position_or_len}
use Rattle.std.proofs.Math.Seq.{take-append_seam, drop-append_seam}
use Rattle.std.specs.Option.{unwrap_or}
use Rattle.std.specs.List.{position, position_or_len}
use Rattle.std.specs.Char.{is_ascii_digit}
use Rattle.readers.specs.Reader.{Each, Is}
use Rattle.readers.proofs.Leaves.{is_or, pick_true, pick_false}
use Rattle.bp_text_grammar.specs.Tokens as grammar
use Rattle.bp_text_grammar.specs.Lexing.{minus, value_on, IsPlain, IsNumber}
use Rattle.bp_text_grammar.specs.Scanning.{Scanned, found, stuck, span, is_plain, number_of, natural_found, negated, negative_found, Kind, scan_as, scan}
use Rattle.bp_text_grammar.proofs.Pieces.{Says, span_is, plain_by, plain_is}
use Rattle.bp_text_grammar.proofs.Scans.{scan_by}
use Rattle.bp_text.specs.declared.token.Token.{Token}
use Rattle.bp_text.specs.Given.{token_of, is_negative, IsScanned, IsRun}
use Rattle.bp_text.proofs.Cursors.{tail_of, head_cut}

-- ---- runs

abbrev run_len : (ℕ → Bool) → List ℕ → ℕ
run_len C s = length (span C s).0

run_step : (C : ℕ → Bool) (b : ℕ) (s : List ℕ) → run_len C (b ∷ s) ≡ cond (not (C b)) 0 (1 + run_len C s)
run_step C b s = elim (is_or (C b)) [
  | inl e ↦ let one : suc (run_len C s) ≡ 1 + run_len C s = omega arith in
      ap (λ (p : List ℕ × List ℕ). length p.0) (pick_true (C b) _ _ e) ∙ (one ∙ sym (ap (λ t. cond (not t) 0 (1 + run_len C s)) e))
  | inr e ↦ ap (λ (p : List ℕ × List ℕ). length p.0) (pick_false (C b) _ _ e) ∙ sym (ap (λ t. cond (not t) 0 (1 + run_len C s)) e)
]

run_is : (C : ℕ → Bool) (s : List ℕ) → IsRun C s (run_len C s)
run_is C s =
    let (cut, each, next) = span_is C s in
    let lens : length s ≡ run_len C s + length (span C s).1 = ap length cut ∙ length-append (span C s).0 (span C s).1 in
    let front : take (run_len C s) s ≡ (span C s).0 = ap (take (run_len C s)) cut ∙ take-append_seam (span C s).0 (span C s).1 in
    let back : drop (run_len C s) s ≡ (span C s).1 = ap (drop (run_len C s)) cut ∙ drop-append_seam (span C s).0 (span C s).1 in
    (omega arith, ap (λ x. (x, (span C s).1)) (sym front) ∙ ap (λ y. (take (run_len C s) s, y)) (sym back))

-- the first byte of another class ends the run
pub run_ends : (C : ℕ → Bool) (s : List ℕ) (n : ℕ) → n ≡ unwrap_or (position (λ b. not (C b)) s) (length s) → IsRun C s n
run_ends C s n e = subst (λ m. IsRun C s m) (sym (e ∙ same)) (run_is C s)
  where
    first : run_len C s ≡ position_or_len (λ b. not (C b)) s
    first = is_position_or_len (run_len C) (λ b. not (C b)) refl (run_step C) s

    all : nat_lt (position_or_len (λ b. not (C b)) s) (length s) ≡ false → run_len C s ≡ position_or_len (λ b. not (C b)) s
        → run_len C s ≤ length s → length s ≡ run_len C s
    all ge is le = grind arith

    same : unwrap_or (position (λ b. not (C b)) s) (length s) ≡ run_len C s
    same = elim (is_or (nat_lt (position_or_len (λ b. not (C b)) s) (length s))) [
      | inl lt ↦ ap (λ o. unwrap_or o (length s)) (pick_true _ _ _ lt) ∙ sym first
      | inr ge ↦ ap (λ o. unwrap_or o (length s)) (pick_false _ _ _ ge) ∙ all ge first (run_is C s).0
    ]

-- ---- one token

pub next_is : (o p : Scanned) (token : Token) (rest : List ℕ) → o ≡ p → IsScanned p token rest → IsScanned o token rest
next_is o p token rest e is = subst (λ q. IsScanned q token rest) (sym e) is

pub scan_none : (s : List ℕ) → length s < 1 → scan s ≡ stuck grammar.Wrong
unfolding scan
scan_none [] none = refl
scan_none (b ∷ s) none = absurd (omega arith)

pub scan_first : (k : Kind) (s : List ℕ) → 1 ≤ length s → Says k (get_or s 0 0) → scan s ≡ scan_as k (get_or s 0 0) (tail_of s)
scan_first k s some says = ap scan (head_cut s some) ∙ scan_by k (get_or s 0 0) (tail_of s) says

-- the digits in front, which are no zero before others
pub natural_is : (s x r : List ℕ) (n : ℕ) (token : Token) → IsRun is_ascii_digit s n → x ≡ take n s → r ≡ drop n s → is_plain x ≡ true
    → ((z : ℤ) → IsNumber z x → token_of token ≡ number_of z) → IsScanned (natural_found (span is_ascii_digit s)) token r
natural_is s x r n token (le, run) front back plain given =
    let parts : span is_ascii_digit s ≡ (x, r) = run ∙ (ap (λ y. (y, drop n s)) (sym front) ∙ ap (λ y. (x, y)) (sym back)) in
    let each : Each (Is is_ascii_digit) x = subst (λ (p : List ℕ × List ℕ). Each (Is is_ascii_digit) p.0) parts (span_is is_ascii_digit s).1 in
    next_is (natural_found (span is_ascii_digit s)) (found (number_of (pos (value_on 0 x))) r) token r
    (ap natural_found parts ∙ pick_true (is_plain x) _ _ plain)
    (given (pos (value_on 0 x)) (refl, each, plain_by x plain), refl)

-- the digits after a minus, of which the first is no zero
value_grows : (n : ℕ) (ds : List ℕ) → n ≤ value_on n ds
value_grows n [] = omega arith
value_grows n (d ∷ ds) = omega (arith, value_grows (10 * n + (d - 48)) ds)

some_value : (ds : List ℕ) → is_negative (minus ∷ ds) ≡ true → (m : ℕ) × (value_on 0 ds ≡ suc m) × IsPlain ds
some_value [] is = absurd cc
some_value (d ∷ ds) is =
    let low : 49 ≤ d = grind arith in
    let grows : 10 * 0 + (d - 48) ≤ value_on (10 * 0 + (d - 48)) ds = value_grows (10 * 0 + (d - 48)) ds in
    (value_on 0 (d ∷ ds) - 1, omega arith, λ zero_first. absurd (omega arith))

-- a minus and the run behind it
signed_run : (b s x r : List ℕ) (n : ℕ) → b ≡ minus ∷ s → IsRun is_ascii_digit (tail_of b) n → x ≡ take (1 + n) b → r ≡ drop (1 + n) b
    → (ds : List ℕ) × (x ≡ minus ∷ ds) × (span is_ascii_digit s ≡ (ds, r))
signed_run b s x r n cut (le, run) front back =
    let tail : tail_of b ≡ s = ap tail_of cut ∙ take_rest (minus ∷ s) 1 in
    let one : 1 + n ≡ suc n = omega arith in
    let after : r ≡ drop n s = back ∙ (ap (λ y. drop (1 + n) y) cut ∙ ap (λ m. drop m (minus ∷ s)) one) in (
      take n s,
      front ∙ (ap (λ y. take (1 + n) y) cut ∙ ap (λ m. take m (minus ∷ s)) one),
      ap (span is_ascii_digit) (sym tail) ∙ (run ∙ (ap (λ y. (take n y, drop n y)) tail ∙ ap (λ y. (take n s, y)) (sym after))),
    )

pub negative_is : (b s x r : List ℕ) (n : ℕ) (token : Token) → b ≡ minus ∷ s → IsRun is_ascii_digit (tail_of b) n → x ≡ take (1 + n) b
    → r ≡ drop (1 + n) b → is_negative x ≡ true → ((z : ℤ) → IsNumber z x → token_of token ≡ number_of z)
    → IsScanned (negative_found (span is_ascii_digit s)) token r
negative_is b s x r n token cut run front back is given =
    let (ds, text, parts) = signed_run b s x r n cut run front back in
    let each : Each (Is is_ascii_digit) ds = subst (λ (p : List ℕ × List ℕ). Each (Is is_ascii_digit) p.0) parts (span_is is_ascii_digit s).1 in
    let (m, value, plain) = some_value ds (ap is_negative (sym text) ∙ is) in
    next_is (negative_found (span is_ascii_digit s)) (found (number_of (negsuc m)) r) token r
    (ap negative_found parts ∙ (pick_true (is_plain ds) _ _ (plain_is ds plain) ∙ ap (λ v. negated v r) value))
    (given (negsuc m) (ds, text, (sym value, each, plain)), refl)
