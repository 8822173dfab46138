use Rattle.std.proofs.Common.{sym, ap, subst, true, false, length, Err}
use Rattle.bp_value.specs.Fits.{Fits}
use Rattle.bp_value.specs.Form.{form_of}
use Rattle.bp_text_grammar.specs.WholeTexts.{IsValueText, IsValueRefused}
use Rattle.bp_text_grammar.specs.Scanning.{lex}
use Rattle.bp_text.specs.Unread.{left_of}
use Rattle.bp_text.specs.ValueAnswers.{refused_by, GivesValue, RefusesValue}
use Rattle.bp_text.proofs.Verdicts.{opens_is, value_left, value_good, value_within, value_only, value_open, value_refused, refused_only}
use Rattle.bp_text.proofs.value_texts.read_value.Goals as goal

-- ---- the text leaves a token open

pub returns-in-Ok-clause-only : goal.returns-in-Ok-clause-only
returns-in-Ok-clause-only c =
    let f = form_of c.args.shape.now in
    let old = c.in_ok-cursor.cursor in
    let new = c.whole_value.new.cursor in
    let opened = opens_is old new c.args.text.now true c.in_ok-cursor.ensures.text c.in_ok-cursor.ensures.opens c.in-Ok.ensures.0
    (c.if-is_open.ensures (value_left f c.requires old new c.in-Ok.field-0 c.in-Ok.ensures)) in
    λ v text. (value_open f c.requires old new c.in-Ok.field-0 c.in-Ok.ensures opened).1 v (subst (λ s. IsValueText f v s) (sym c.in_ok-cursor.ensures.text) text)

pub returns-in-Ok-clause-refused : goal.returns-in-Ok-clause-refused
returns-in-Ok-clause-refused c =
    let f = form_of c.args.shape.now in
    let old = c.in_ok-cursor.cursor in
    let new = c.whole_value.new.cursor in
    let opened = opens_is old new c.args.text.now true c.in_ok-cursor.ensures.text c.in_ok-cursor.ensures.opens c.in-Ok.ensures.0
    (c.if-is_open.ensures (value_left f c.requires old new c.in-Ok.field-0 c.in-Ok.ensures)) in
    subst (λ s. IsValueRefused f s (length s)) c.in_ok-cursor.ensures.text (value_open f c.requires old new c.in-Ok.field-0 c.in-Ok.ensures opened).0

-- ---- it is a text

pub returns-in-Ok-2-clause-good : goal.returns-in-Ok-2-clause-good
returns-in-Ok-2-clause-good c =
    let f = form_of c.args.shape.now in
    let old = c.in_ok-cursor.cursor in
    let new = c.whole_value.new.cursor in
    let closed = opens_is old new c.args.text.now false c.in_ok-cursor.ensures.text c.in_ok-cursor.ensures.opens c.in-Ok.ensures.0
    (c.if-is_open.ensures (value_left f c.requires old new c.in-Ok.field-0 c.in-Ok.ensures)) in
    subst (λ s. IsValueText f c.in-Ok.field-0 s) c.in_ok-cursor.ensures.text (value_good f c.requires old new c.in-Ok.field-0 c.in-Ok.ensures closed)

pub returns-in-Ok-2-clause-fits : goal.returns-in-Ok-2-clause-fits
returns-in-Ok-2-clause-fits c =
    subst (λ s. Fits (length s) (form_of c.args.shape.now) c.in-Ok.field-0) c.in_ok-cursor.ensures.text
    (value_within (form_of c.args.shape.now) c.requires c.in_ok-cursor.cursor c.whole_value.new.cursor c.in-Ok.field-0 c.in-Ok.ensures)

pub returns-in-Ok-2-clause-only : goal.returns-in-Ok-2-clause-only
returns-in-Ok-2-clause-only c = λ v text.
    value_only (form_of c.args.shape.now) c.requires c.in_ok-cursor.cursor c.whole_value.new.cursor v c.in-Ok.field-0 c.in-Ok.ensures
    (subst (λ s. IsValueText (form_of c.args.shape.now) v s) (sym c.in_ok-cursor.ensures.text) text)

-- ---- it is none

pub returns-clause-only : goal.returns-clause-only
returns-clause-only c = λ v text.
    let f = form_of c.args.shape.now in
    let old = c.in_ok-cursor.cursor in
    let new = c.whole_value.new.cursor in
    rw (c.refusal.ensures, c.left.ensures)
    (subst (λ n. GivesValue v (Err (refused_by c.in-Err.halt n (left_of (lex new.rest))))) (ap length c.in_ok-cursor.ensures.text)
    (refused_only f c.requires old new c.in-Err.halt v c.in-Err.ensures (subst (λ s. IsValueText f v s) (sym c.in_ok-cursor.ensures.text) text)))

pub returns-clause-refused : goal.returns-clause-refused
returns-clause-refused c =
    let f = form_of c.args.shape.now in
    let old = c.in_ok-cursor.cursor in
    let new = c.whole_value.new.cursor in
    rw (c.refusal.ensures, c.left.ensures)
    (subst (λ s. RefusesValue f s (refused_by c.in-Err.halt (length s) (left_of (lex new.rest)))) c.in_ok-cursor.ensures.text
    (value_refused f c.requires old new c.in-Err.halt c.in-Err.ensures))
