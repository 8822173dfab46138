-- What parsing a number gives.
use Rattle.std.proofs.Common.{◌≡◌, refl, sym, ap, ◌∙◌, subst, ℕ, ℤ, pos, negsuc, suc, ◌<◌, ◌≤◌, ◌^◌, List, [], ◌∷◌, length, Result, Ok, Err, w64, to_z, of_z, arith}
use Rattle.std.proofs.lemmas.Int.{ints}
use Rattle.std.proofs.lemmas.List.Elements.{All-nil, All-cons}
use Rattle.std.proofs.lemmas.Result.{OkIff-at_ok, OkIff-at_err}
use Rattle.std.proofs.lemmas.Str.{IsUtf8-from_ascii}
use Rattle.std.proofs.lemmas.Str.Ascii.{IsAscii-from_all}
use Rattle.std.proofs.lemmas.Str.Parse.{parse_signed_digits, parse_signed_minus}
use Rattle.std.proofs.Math.IntN.{neg_ℤ}
use Rattle.std.specs.Char.{is_ascii_digit}
use Rattle.std.specs.List.{All}
use Rattle.std.specs.Result.{OkIff}
use Rattle.std.specs.Str.{IsUtf8}
use Rattle.std.specs.Str.Parse.{ParsesSigned}
use Rattle.bp_value.specs.Fits.{InRange}
use Rattle.readers.specs.Reader.{Each, Is}
use Rattle.bp_text_grammar.specs.Tokens as grammar
use Rattle.bp_text_grammar.specs.Lexing.{minus, value_on, IsDigits, IsNumber, number_bits}
use Rattle.bp_text_grammar.specs.Scanning.{number_of}
use Rattle.bp_text_grammar.proofs.Decimals.{numerals}
use Rattle.bp_text_grammar.proofs.Pieces.{number_kept, number_big}

digits_small : (ds : List ℕ) → Each (Is is_ascii_digit) ds → All (λ b. b < 128) ds
digits_small [] each = All-nil (λ b. b < 128)
digits_small (d ∷ ds) (is, each) = All-cons (λ b. b < 128) d ds (grind arith) (digits_small ds each)

number_small : (n : ℤ) (s : List ℕ) → IsNumber n s → All (λ b. b < 128) s
number_small (pos n) s is = digits_small s is.1
number_small (negsuc n) s (ds, cut, is) =
    subst (λ x. All (λ b. b < 128) x) (sym cut) (All-cons (λ b. b < 128) minus ds (omega arith) (digits_small ds is.1))

pub number_utf8 : (n : ℤ) (s : List ℕ) → IsNumber n s → IsUtf8 s
number_utf8 n s is = IsUtf8-from_ascii s (IsAscii-from_all s (number_small n s is))

same_result : {E : Type 0} (r : Result ℤ E) (P Q : Type 0) (v w : ℤ) → (P → Q) → (Q → P) → v ≡ w → OkIff r P v → OkIff r Q w
same_result (Ok z) P Q v w into out same (is, e) = (into is, e ∙ same)
same_result (Err e) P Q v w into out same none = λ q. none (out q)

some_digits : (n : ℕ) (s : List ℕ) → IsDigits n s → 0 < length s
some_digits n [] (is, each, plain) = absurd plain
some_digits n (d ∷ s) (is, each, plain) = omega arith

negative_parsed : {E : Type 0} (n : ℕ) (ds : List ℕ) (r : Result ℤ E) → ParsesSigned w64 10 (minus ∷ ds) r → IsDigits (suc n) ds
    → OkIff r (InRange number_bits (negsuc n)) (negsuc n)
negative_parsed n ds r h is =
    let some : 0 < length ds = some_digits (suc n) ds is in
    let same : suc n ≡ value_on 0 ds = is.0 in
    let number : neg_ℤ (pos (value_on 0 ds)) ≡ negsuc n = ap (λ m. neg_ℤ (pos m)) (sym same) in
    same_result r (Each (Is is_ascii_digit) ds × (0 < length ds) × (value_on 0 ds ≤ 2 ^ 63)) (InRange number_bits (negsuc n))
    (neg_ℤ (pos (value_on 0 ds))) (negsuc n)
    (λ p. let lt : n < 2 ^ 63 = omega (arith, p.2) in (omega (arith, ints), omega (arith, ints)))
    (λ q. let le : value_on 0 ds ≤ 2 ^ 63 = omega (arith, ints, q.0) in (is.1, some, le)) number
    (parse_signed_minus numerals w64 (minus ∷ ds) r h refl)

-- a number within 64 bits is given, and another is refused
pub number_parsed : {E : Type 0} (n : ℤ) (s : List ℕ) (r : Result ℤ E) → ParsesSigned w64 10 s r → IsNumber n s
    → OkIff r (InRange number_bits n) n
number_parsed (pos n) s r h is =
    let some : 0 < length s = some_digits n s is in
    let same : n ≡ value_on 0 s = is.0 in
    same_result r ((0 < length s) × (value_on 0 s < 2 ^ 63)) (InRange number_bits (pos n)) (pos (value_on 0 s)) (pos n)
    (λ p. let lt : n < 2 ^ 63 = omega (arith, p.1) in (omega (arith, ints), omega (arith, ints)))
    (λ q. (some, omega (arith, ints, q.1))) (ap (λ m. pos m) (sym same))
    (parse_signed_digits numerals w64 s r h is.1)
number_parsed (negsuc n) s r h (ds, cut, is) = negative_parsed n ds r (subst (λ x. ParsesSigned w64 10 x r) cut h) is

pub number_given : {E : Type 0} (n z : ℤ) (s : List ℕ) (r : Result ℤ E) → ParsesSigned w64 10 s r → IsNumber n s → r ≡ Ok z
    → grammar.Number (to_z w64 (of_z w64 z)) ≡ number_of n
number_given n z s r h is e =
    let (within, same) = OkIff-at_ok r (InRange number_bits n) n z (number_parsed n s r h is) e in
    ap (λ m. grammar.Number (to_z w64 (of_z w64 m))) same ∙ (ap (λ m. grammar.Number m) (word_is n within) ∙ sym (number_kept n within))
  where
    word_is : (m : ℤ) → InRange number_bits m → to_z w64 (of_z w64 m) ≡ m
    word_is m (low, high) = omega (arith, ints)

pub number_refused : {E : Type 0} (n : ℤ) (s : List ℕ) (r : Result ℤ E) (d : E) → ParsesSigned w64 10 s r → IsNumber n s → r ≡ Err d
    → grammar.Big ≡ number_of n
number_refused n s r d h is e = sym (number_big n (λ within. OkIff-at_err r (InRange number_bits n) n d (number_parsed n s r h is) e within))
