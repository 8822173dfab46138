-- The last digit stands after all others.
use Rattle.std.proofs.Common.{◌≡◌, ◌+◌, ◌/◌, ◌%◌, [], ◌∷◌, arith}
use Rattle.std.specs.Fmt.{decimal}
use Rattle.std.proofs.lemmas.Fmt.{decimal_step, decimal_digit}
use Rattle.bp_text.proofs.Appending.{appends_then}
use Rattle.bp_text.proofs.printing.+append_digits.Goals.{then-number-ge10+in_ok-append_digits, else-number-ge10}
use Rattle.bp_text.proofs.printing.+append_digits.Goals as goal

pub returns : goal.returns
returns t c =
    let n = c.args.number in
    elim c.if-number-ge10.branch [
      | then-number-ge10+in_ok-append_digits w ↦
          rw (decimal_step n (omega arith) (omega arith))
          (appends_then (decimal (n / 10)) ((48 + n % 10) ∷ []) _ _ _ _ w.in_ok-append_digits.ensures (rw w.out-is at c.append_byte.ensures))
      | else-number-ge10 w ↦
          let same : n % 10 ≡ n = omega arith in
          rw (decimal_digit n (omega arith)) (rw (w.out-is, same) at c.append_byte.ensures)
    ]
