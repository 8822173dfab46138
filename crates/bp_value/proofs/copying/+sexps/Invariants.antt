-- What was copied so far is the front of what is to be copied.
use Rattle.std.proofs.Common.{◌≡◌, take}
use Rattle.bp_value.proofs.copying.+sexps.Given as goal

abbrev pub invariant-sexps_copy-loop-sexp : goal.invariant-sexps_copy-loop-sexp
invariant-sexps_copy-loop-sexp l = l.copies.items ≡ take l.sexp-index l.sexp-items
