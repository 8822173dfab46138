-- By the variant; in the loop, item by item.
use Rattle.std.proofs.Common.{refl, [], ◌∷◌, length}
use Rattle.std.specs.List.{flat_map}
use Rattle.bp_num.specs.Forms.{written_nat}
use Rattle.bp_grammar.specs.Written.{written_bytes, written_list, written_sexp}
use Rattle.bp_grammar.proofs.Written.{written_sexp-Atom, written_sexp-List}
use Rattle.bp_codec.proofs.WrittenLayers.{rest_next, rest_done}
use Rattle.bp_codec.proofs.Putting.{puts_then, puts_failed, leads_next, leads_failed, leads_done}
use Rattle.bp_codec.proofs.encoding.+sexps.Goals as goal

pub put_sexp-returns-in_err-put_byte-in-Atom : goal.put_sexp-returns-in_err-put_byte-in-Atom
put_sexp-returns-in_err-put_byte-in-Atom t c =
    rw (c.in-Atom.is, written_sexp-Atom) (puts_failed _ (0 ∷ []) (written_bytes c.in-Atom.text) _ _ _ _ c.from_residual.ensures.1 c.in_err-put_byte-in-Atom.ensures)

pub put_sexp-returns-in_ok-put_byte-in-Atom : goal.put_sexp-returns-in_ok-put_byte-in-Atom
put_sexp-returns-in_ok-put_byte-in-Atom t c =
    rw (c.in-Atom.is, written_sexp-Atom)
    (puts_then _ (0 ∷ []) (written_bytes c.in-Atom.text) _ _ _ _ c.in_ok-put_byte-in-Atom.ensures (rw c.as_slice.ensures at c.put_bytes.ensures))

pub put_sexp-returns-in_err-put_byte-in-List : goal.put_sexp-returns-in_err-put_byte-in-List
put_sexp-returns-in_err-put_byte-in-List t c =
    rw (c.in-List.is, written_sexp-List)
    (puts_failed _ (1 ∷ []) (written_list written_sexp c.in-List.items) _ _ _ _ c.from_residual-in_err-put_byte-in-List.ensures.1 c.in_err-put_byte-in-List.ensures)

pub put_sexp-returns-in_err-put_nat-in-List : goal.put_sexp-returns-in_err-put_nat-in-List
put_sexp-returns-in_err-put_nat-in-List t c =
    let items = c.in-List.items in
    rw (c.in-List.is, written_sexp-List)
    (puts_then _ (1 ∷ []) (written_list written_sexp items) _ _ _ _ c.in_ok-put_byte-in-List.ensures
    (puts_failed _ (written_nat (length items)) (flat_map written_sexp items) _ _ _ _ c.from_residual-in_err-put_nat-in-List.ensures.1
    (rw c.len.ensures at c.in_err-put_nat-in-List.ensures)))

pub put_sexp-returns-in_ok-put_nat-in-List : goal.put_sexp-returns-in_ok-put_nat-in-List
put_sexp-returns-in_ok-put_nat-in-List t c =
    let items = c.in-List.items in
    rw (c.in-List.is, written_sexp-List)
    (puts_then _ (1 ∷ []) (written_list written_sexp items) _ _ _ _ c.in_ok-put_byte-in-List.ensures
    (puts_then _ (written_nat (length items)) (flat_map written_sexp items) _ _ _ _ (rw c.len.ensures at c.in_ok-put_nat-in-List.ensures)
    (rw c.as_slice-in-List.ensures at c.put_sexps.ensures)))

pub put_sexps-loop-sexp-preserved : goal.put_sexps-loop-sexp-preserved
put_sexps-loop-sexp-preserved t c =
    leads_next _ _ _ _ _ c.loop-sexp.invariant _ _ _ (rest_next written_sexp _ _ _ _ c.loop-sexp-test.true c.sexp-item.is refl) c.in_ok-put_sexp.ensures

pub put_sexps-returns-in_err-put_sexp : goal.put_sexps-returns-in_err-put_sexp
put_sexps-returns-in_err-put_sexp t c =
    leads_failed _ _ _ _ _ c.loop-sexp.invariant _ _ _ _ _ (rest_next written_sexp _ _ _ _ c.loop-sexp-test.true c.sexp-item.is refl)
    c.from_residual.ensures.1 c.in_err-put_sexp.ensures

pub put_sexps-returns : goal.put_sexps-returns
put_sexps-returns t c = leads_done _ _ _ _ _ c.loop-sexp.invariant (rest_done written_sexp _ _ c.loop-sexp-test.false)
