-- By the variant; in the loop, item by item.
use Rattle.std.proofs.Common.{refl, [], ◌∷◌, length, arith}
use Rattle.std.specs.List.{flat_map}
use Rattle.bp_num.specs.Forms.{written_nat}
use Rattle.bp_grammar.specs.Written.{written_bytes, written_sexp}
use Rattle.bp_grammar.proofs.Written.{written_sexp-Atom, written_sexp-List}
use Rattle.bp_codec.proofs.WrittenLayers.{rest_next, rest_done}
use Rattle.bp_codec.proofs.Leaving.{taken_then, not_taken, uses_next, uses_none, uses_done}
use Rattle.bp_codec.proofs.sizing.+sizes.Goals as goal

pub after_sexp-returns-in_err-checked_sub-in-Atom : goal.after_sexp-returns-in_err-checked_sub-in-Atom
after_sexp-returns-in_err-checked_sub-in-Atom t c =
    rw (c.in-Atom.is, written_sexp-Atom)
    (not_taken _ 1 (0 ∷ []) refl (written_bytes c.in-Atom.text) _ c.from_residual.ensures c.in_err-checked_sub-in-Atom.ensures)

pub after_sexp-returns-in_ok-checked_sub-in-Atom : goal.after_sexp-returns-in_ok-checked_sub-in-Atom
after_sexp-returns-in_ok-checked_sub-in-Atom t c =
    rw (c.in-Atom.is, written_sexp-Atom)
    (taken_then _ 1 (0 ∷ []) refl _ (written_bytes c.in-Atom.text) _ c.in_ok-checked_sub-in-Atom.ensures (rw c.as_slice.ensures at c.after_bytes.ensures))

pub after_sexp-returns-in_err-checked_sub-in-List : goal.after_sexp-returns-in_err-checked_sub-in-List
after_sexp-returns-in_err-checked_sub-in-List t c =
    let items = c.in-List.items in
    let long = rw c.len.ensures at c.nat_len-front.ensures in
    rw (c.in-List.is, written_sexp-List)
    (not_taken _ _ (1 ∷ written_nat (length items)) (omega (arith, long)) (flat_map written_sexp items) _ c.from_residual-in_err-checked_sub-in-List.ensures
    c.in_err-checked_sub-in-List.ensures)

pub after_sexp-returns-in_ok-checked_sub-in-List : goal.after_sexp-returns-in_ok-checked_sub-in-List
after_sexp-returns-in_ok-checked_sub-in-List t c =
    let items = c.in-List.items in
    let long = rw c.len.ensures at c.nat_len-front.ensures in
    rw (c.in-List.is, written_sexp-List)
    (taken_then _ _ (1 ∷ written_nat (length items)) (omega (arith, long)) _ (flat_map written_sexp items) _ c.in_ok-checked_sub-in-List.ensures
    (rw c.as_slice-in-List.ensures at c.after_sexps.ensures))

pub after_sexps-loop-sexp-preserved : goal.after_sexps-loop-sexp-preserved
after_sexps-loop-sexp-preserved t c =
    uses_next _ _ _ _ c.loop-sexp.invariant _ _ _ (rest_next written_sexp _ _ _ _ c.loop-sexp-test.true c.sexp-item.is refl) c.in_ok-left.ensures

pub after_sexps-returns-in_err-left : goal.after_sexps-returns-in_err-left
after_sexps-returns-in_err-left t c =
    uses_none _ _ _ _ c.loop-sexp.invariant _ _ _ (rest_next written_sexp _ _ _ _ c.loop-sexp-test.true c.sexp-item.is refl)
    c.from_residual.ensures c.in_err-left.ensures

pub after_sexps-returns : goal.after_sexps-returns
after_sexps-returns t c = uses_done _ _ _ _ c.loop-sexp.invariant (rest_done written_sexp _ _ c.loop-sexp-test.false)
