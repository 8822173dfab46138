-- The decimal digits of a number are a token of it.
use Rattle.std.proofs.Common.{refl, sym, subst, ℕ, ℤ, zero, suc, pos, negsuc, ◌<◌, ◌^◌, List, [], ◌∷◌, get_or, arith}
use Rattle.std.proofs.lemmas.Int.{ints}
use Rattle.std.proofs.lemmas.Str.Parse.{IsNumeralModel, numerals_by_fold}
use Rattle.std.proofs.lemmas.Fmt.{digits_decimal, digits_value-decimal, decimal_digit, first_decimal}
use Rattle.std.proofs.Common.{rules}
use Rattle.std.specs.Fmt.{decimal}
use Rattle.std.specs.Char.{is_ascii_digit}
use Rattle.bp_value.specs.Fits.{InRange}
use Rattle.readers.specs.Reader.{Each, Is}
use Rattle.bp_text_grammar.specs.Tokens.{Number}
use Rattle.bp_text_grammar.specs.Lexing.{value_on, IsPlain, IsDigits, IsNumber, IsToken, number_bits}
use Rattle.bp_text_grammar.specs.Printed.{decimal_text}

-- what std says of digits holds of these
pub numerals : IsNumeralModel (λ ds. Each (Is is_ascii_digit) ds) (λ ds. value_on 0 ds)
numerals = numerals_by_fold _ (search rules) value_on (search rules)

plain_first : (ds : List ℕ) → 48 < get_or ds 0 0 → IsPlain ds
plain_first [] more = absurd (omega arith)
plain_first (d ∷ ds) more = λ zero_first. absurd (omega arith)

decimal_plain : (n : ℕ) → n < 2 ^ 64 → IsPlain (decimal n)
decimal_plain zero lt = subst IsPlain (sym (decimal_digit 0 (omega arith))) (λ zero_first. refl)
decimal_plain (suc n) lt = plain_first (decimal (suc n)) (first_decimal (suc n) (omega arith) lt)

decimal_is : (n : ℕ) → n < 2 ^ 64 → IsDigits n (decimal n)
decimal_is n lt = (sym (digits_value-decimal numerals n lt), digits_decimal numerals n lt, decimal_plain n lt)

pub decimal_number : (n : ℤ) → InRange number_bits n → IsNumber n (decimal_text n)
decimal_number (pos n) (low, high) = decimal_is n (omega (arith, ints))
decimal_number (negsuc n) (low, high) = (decimal (suc n), refl, decimal_is (suc n) (omega (arith, ints)))

pub number_is_printed : (n : ℤ) → InRange number_bits n → IsToken (Number n) (decimal_text n)
number_is_printed n within = (decimal_number n within, within)
