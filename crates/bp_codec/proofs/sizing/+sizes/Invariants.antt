-- What is left after the items so far leads to what is left after all.
use Rattle.std.proofs.Common.{drop}
use Rattle.std.specs.List.{flat_map}
use Rattle.bp_grammar.specs.Written.{written_sexp}
use Rattle.bp_codec.proofs.Leaving.{Uses}
use Rattle.bp_codec.proofs.sizing.+sizes.Given as goal

abbrev pub invariant-after_sexps-loop-sexp : goal.invariant-after_sexps-loop-sexp
invariant-after_sexps-loop-sexp l = Uses l.fn.room (flat_map written_sexp l.sexps) l.left (flat_map written_sexp (drop l.sexp-index l.sexps))
