-- By the first token; within a list, item by item.
use Rattle.std.proofs.Common.{◌≡◌, sym, true, ◌<◌, arith}
use Rattle.bp_text_grammar.specs.Texts.{round_close, is_mark}
use Rattle.bp_text.specs.Unread.{ahead, is_first}
use Rattle.bp_text.proofs.Readings.{told, shown, handed, halted, same, next, made, unmade}
use Rattle.bp_text.proofs.Turns.{inner_start, inner_goes, inner_fails, inner_closes, inner_stays, sexp_atom, sexp_list, no_more_ahead, taken_fewer}
use Rattle.bp_text.proofs.sexps.+sexps.Goals as goal
use Rattle.bp_text.proofs.sexps.+sexps.Goals.{inside-then-items-test+else-not-is_mark, inside-else-items-test}

pub inside-items-init : goal.inside-items-init
inside-items-init t c = inner_start _ _ _ c.new-items.ensures.items

pub inside-items-preserved : goal.inside-items-preserved
inside-items-preserved t c =
    rw c.in_ok-push-in-Ok.ensures.items
    (inner_goes _ _ _ _ _ c.items.invariant _ _ c.items-test.true c.if-not-is_mark.ensures c.in-Ok.ensures.reads c.in-Ok.ensures.fewer)

pub inside-returns-in-Err : goal.inside-returns-in-Err
inside-returns-in-Err t c =
    inner_fails _ _ _ _ _ c.items.invariant _ _ c.items-test.true c.if-not-is_mark.ensures c.in-Err.ensures.reads

pub inside-returns-in_err-pass_mark : goal.inside-returns-in_err-pass_mark
inside-returns-in_err-pass_mark t c =
    let ends : 0 < c.args.depth → is_first (is_mark round_close) (ahead c.items.cursor) ≡ true = λ some. elim c.items-test.branch [
      | inside-then-items-test+else-not-is_mark w ↦ sym w.if-not-is_mark.ensures
      | inside-else-items-test w ↦ absurd (omega (arith, w.items-test.false))
    ] in
    halted _ _ _ _ _ c.from_residual-in_err-pass_mark.ensures.1 (inner_stays _ _ _ _ _ c.items.invariant _ _ ends c.in_err-pass_mark.ensures)

pub inside-returns : goal.inside-returns
inside-returns t c =
    let ends : 0 < c.args.depth → is_first (is_mark round_close) (ahead c.items.cursor) ≡ true = λ some. elim c.items-test.branch [
      | inside-then-items-test+else-not-is_mark w ↦ sym w.if-not-is_mark.ensures
      | inside-else-items-test w ↦ absurd (omega (arith, w.items-test.false))
    ] in
    rw c.from_vec.ensures (inner_closes _ _ _ _ _ c.items.invariant _ ends c.in_ok-pass_mark.ensures)

-- ---- one of them

pub sexp-returns-in_err-text-clause-reads : goal.sexp-returns-in_err-text-clause-reads
sexp-returns-in_err-text-clause-reads t c =
    handed _ _ _ _ _ c.from_residual.ensures.1
    (same (sexp_atom _ (ahead c.args.cursor.now) c.requires c.if-not-is_mark.ensures) (unmade _ (told _ _ _ _ c.in_err-text.ensures)))

pub sexp-returns-then-not-is_mark-clause-reads : goal.sexp-returns-then-not-is_mark-clause-reads
sexp-returns-then-not-is_mark-clause-reads t c =
    shown _ _ _ _ (same (sexp_atom _ (ahead c.args.cursor.now) c.requires c.if-not-is_mark.ensures) (made _ (told _ _ _ _ c.in_ok-text.ensures)))

pub sexp-returns-in_err-inside-clause-reads : goal.sexp-returns-in_err-inside-clause-reads
sexp-returns-in_err-inside-clause-reads t c =
    handed _ _ _ _ _ c.from_residual-in_err-inside.ensures.1
    (same (sexp_list _ (ahead c.args.cursor.now) c.requires c.if-not-is_mark.ensures)
    (next _ (told _ _ _ _ c.in_ok-pass.ensures) (unmade _ (told _ _ _ _ c.in_err-inside.ensures))))

pub sexp-returns-clause-reads : goal.sexp-returns-clause-reads
sexp-returns-clause-reads t c =
    shown _ _ _ _
    (same (sexp_list _ (ahead c.args.cursor.now) c.requires c.if-not-is_mark.ensures)
    (next _ (told _ _ _ _ c.in_ok-pass.ensures) (made _ (told _ _ _ _ c.in_ok-inside.ensures))))

pub sexp-returns-clause-fewer : goal.sexp-returns-clause-fewer
sexp-returns-clause-fewer t c =
    omega (arith, taken_fewer _ _ c.in_ok-pass.ensures.1, no_more_ahead _ _ c.in_ok-inside.ensures.0)
