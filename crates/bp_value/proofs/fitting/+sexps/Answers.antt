-- By the depth that is left, and by the variant.
use Rattle.std.proofs.Common.{◌-◌, refl, arith}
use Rattle.std.specs.List.{All}
use Rattle.bp_value.specs.Fits.{FitsSexp}
use Rattle.bp_value.proofs.FitSteps.{sexp_none, sexp_atom, sexp_list, within, above, all_more, all_done}
use Rattle.bp_value.proofs.fitting.+sexps.Goals as goal

pub sexp_fits-returns-then-depth-eq0 : goal.sexp_fits-returns-then-depth-eq0
sexp_fits-returns-then-depth-eq0 t c = sexp_none _ _ _ c.if-depth-eq0.true

pub sexp_fits-returns-in-Atom : goal.sexp_fits-returns-in-Atom
sexp_fits-returns-in-Atom t c =
    sexp_atom _ _ (c.args.depth - 1) _ _ _ (omega arith) c.in-Atom.is c.len.ensures

pub sexp_fits-returns-then-len-max_len : goal.sexp_fits-returns-then-len-max_len
sexp_fits-returns-then-len-max_len t c =
    sexp_list _ _ (c.args.depth - 1) _ _ _ (omega arith) c.in-List.is
    (within (All (FitsSexp c.args.max_len (c.args.depth - 1))) _ _ _ _ c.len-in-List.ensures
    c.if-len-max_len.true (rw c.as_slice.ensures at c.sexps_fit.ensures))

pub sexp_fits-returns-else-len-max_len : goal.sexp_fits-returns-else-len-max_len
sexp_fits-returns-else-len-max_len t c =
    sexp_list _ _ (c.args.depth - 1) _ _ _ (omega arith) c.in-List.is
    (above (All (FitsSexp c.args.max_len (c.args.depth - 1))) _ _ _ c.len-in-List.ensures
    c.if-len-max_len.false)

pub sexps_fit-loop-sexp-preserved : goal.sexps_fit-loop-sexp-preserved
sexps_fit-loop-sexp-preserved t c =
    all_more (FitsSexp c.args.max_len c.args.depth) _ _ _ _ c.loop-sexp-test.true c.sexp-item.is
    c.loop-sexp.invariant c.sexp_fits.ensures c.if-not-sexp_fits.false

pub sexps_fit-returns : goal.sexps_fit-returns
sexps_fit-returns t c = (
  λ b. all_done (FitsSexp c.args.max_len c.args.depth) _ _ c.loop-sexp-test.false
      c.loop-sexp.invariant,
  λ all. refl,
)
