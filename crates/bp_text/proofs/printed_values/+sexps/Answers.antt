-- By the variant; in the loop, item by item.
use Rattle.std.proofs.Common.{ap, ◌+◌, Ok, Err, [], ◌∷◌, ◌++◌, map}
use Rattle.std.proofs.lemmas.List.{length-map}
use Rattle.bp_text_grammar.specs.Texts.{round_open, round_close}
use Rattle.bp_text.specs.Printing.{lead}
use Rattle.bp_text.proofs.Appending.{appends_then, leads_start, leads_next, leads_failed, leads_last, mapped_at, rest_next, rest_done, rest_of}
use Rattle.bp_text.proofs.ValueBytes.{blank_text, sexp_text, sexp_text-Atom, sexp_text-List, all_items_bytes}
use Rattle.bp_text.proofs.printed_values.+sexps.Goals as goal

pub append_sexp-returns-in-Atom : goal.append_sexp-returns-in-Atom
append_sexp-returns-in-Atom t c = rw (c.in-Atom.is, sexp_text-Atom) (rw c.as_slice.ensures at c.append_quoted.ensures)

pub append_sexp-returns-in-List : goal.append_sexp-returns-in-List
append_sexp-returns-in-List t c = rw (c.in-List.is, sexp_text-List) (rw c.as_slice-in-List.ensures at c.append_sexps.ensures)

pub append_sexps-loop-place-init : goal.append_sexps-loop-place-init
append_sexps-loop-place-init t c =
    leads_start (round_open ∷ []) _ _ _ _ (ap (λ s. round_open ∷ s) (all_items_bytes c.args.sexps.now)) c.in_ok-append_byte.ensures

pub append_sexps-loop-place-preserved : goal.append_sexps-loop-place-preserved
append_sexps-loop-place-preserved t c =
    let sexps = c.args.sexps.now in
    let i = c.loop-place.place in
    let text = sexp_text c.index-sexps-place.result in
    leads_next _ _ _ _ c.loop-place.invariant (lead blank_text i ++ text) (rest_of blank_text (map sexp_text sexps) (i + 1) ++ round_close ∷ []) _
    (rest_next blank_text (map sexp_text sexps) i text (round_close ∷ []) (mapped_at sexp_text sexps i _ c.loop-place-test.true c.index-sexps-place.is))
    (appends_then (lead blank_text i) text _ _ _ (Ok tt) c.in_ok-append_lead.ensures c.in_ok-append_sexp.ensures)

pub append_sexps-returns-in_err-append_sexp : goal.append_sexps-returns-in_err-append_sexp
append_sexps-returns-in_err-append_sexp t c =
    let sexps = c.args.sexps.now in
    let i = c.loop-place.place in
    let text = sexp_text c.index-sexps-place.result in
    leads_failed _ _ _ _ c.loop-place.invariant (lead blank_text i ++ text) (rest_of blank_text (map sexp_text sexps) (i + 1) ++ round_close ∷ []) _ _ _
    (rest_next blank_text (map sexp_text sexps) i text (round_close ∷ []) (mapped_at sexp_text sexps i _ c.loop-place-test.true c.index-sexps-place.is))
    c.from_residual-in_err-append_sexp.ensures.1
    (appends_then (lead blank_text i) text _ _ _ (Err _) c.in_ok-append_lead.ensures c.in_err-append_sexp.ensures)

pub append_sexps-returns : goal.append_sexps-returns
append_sexps-returns t c =
    let texts = map sexp_text c.args.sexps.now in
    leads_last _ _ _ _ c.loop-place.invariant (round_close ∷ []) _ _
    (rest_done blank_text texts c.loop-place.place (round_close ∷ []) (rw (length-map c.args.sexps.now sexp_text) c.loop-place-test.false))
    c.append_byte-2.ensures
