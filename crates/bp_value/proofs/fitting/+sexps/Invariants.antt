-- What was seen so far fits.
use Rattle.std.proofs.Common.{take}
use Rattle.std.specs.List.{All}
use Rattle.bp_value.specs.Fits.{FitsSexp}
use Rattle.bp_value.proofs.fitting.+sexps.Given as goal

abbrev pub invariant-sexps_fit-loop-sexp : goal.invariant-sexps_fit-loop-sexp
invariant-sexps_fit-loop-sexp l = All (FitsSexp l.max_len l.depth) (take l.sexp-index l.sexps)
