-- What was copied so far is the front of what is to be copied.
use Rattle.std.proofs.Common.{◌≡◌, take}
use Rattle.bp_value.proofs.copying.+values.Given as goal

abbrev pub invariant-values_copy-loop-value : goal.invariant-values_copy-loop-value
invariant-values_copy-loop-value l = l.copies.items ≡ take l.value-index l.value-items
