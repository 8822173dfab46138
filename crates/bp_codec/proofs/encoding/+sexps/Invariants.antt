-- What comes of the items that are left comes of all.
use Rattle.std.proofs.Common.{drop}
use Rattle.std.specs.List.{flat_map}
use Rattle.bp_grammar.specs.Written.{written_sexp}
use Rattle.bp_codec.proofs.Putting.{Leads}
use Rattle.bp_codec.proofs.encoding.+sexps.Given as goal

abbrev pub invariant-put_sexps-loop-sexp : goal.invariant-put_sexps-loop-sexp
invariant-put_sexps-loop-sexp l =
    Leads l.bound (flat_map written_sexp l.sexps) l.fn.out.items (flat_map written_sexp (drop l.sexp-index l.sexps)) l.out.items
