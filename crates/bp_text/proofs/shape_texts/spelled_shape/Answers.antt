use Rattle.std.proofs.Common.{sym, ap, ◌∙◌, subst, length, Err}
use Rattle.bp_text_grammar.specs.Scanning.{lex}
use Rattle.bp_text_grammar.specs.Texts.{BadText}
use Rattle.bp_text_grammar.specs.ShapeTexts.{IsShapeTokens, IsShapeFault, whole_shape_at}
use Rattle.bp_text_grammar.specs.WholeTexts.{has_open, IsTextOf, IsRefusedText}
use Rattle.bp_text_grammar.proofs.RightShapes.{right_whole_shape}
use Rattle.bp_text.specs.TextAnswers.{error_of, IsReadAs}
use Rattle.bp_text.specs.Unread.{left_of}
use Rattle.bp_text.proofs.WholeSteps.{got_text, got_open, got_halt}
use Rattle.bp_text.proofs.shape_texts.spelled_shape.Goals as goal

pub returns-in-Ok : goal.returns-in-Ok
returns-in-Ok c =
    let all = c.in_ok-tokens.ensures.text in
    subst (λ s. IsRefusedText IsShapeTokens IsShapeFault s (length s) BadText) all
    (got_open IsShapeTokens IsShapeFault whole_shape_at right_whole_shape c.in_ok-tokens.tokens c.only_shape.new.tokens c.in-Ok.field-0
    c.in-Ok.ensures
    (c.in_ok-tokens.ensures.opens ∙ ap (λ s. has_open (lex s)) (sym all)) c.is_open.result c.is_open.ensures c.if-is_open.true)

pub returns-in-Ok-2 : goal.returns-in-Ok-2
returns-in-Ok-2 c =
    let all = c.in_ok-tokens.ensures.text in
    subst (λ s. IsTextOf IsShapeTokens c.in-Ok.field-0 s) all
    (got_text IsShapeTokens IsShapeFault whole_shape_at right_whole_shape c.in_ok-tokens.tokens c.only_shape.new.tokens c.in-Ok.field-0
    c.in-Ok.ensures
    (c.in_ok-tokens.ensures.opens ∙ ap (λ s. has_open (lex s)) (sym all)) c.is_open.result c.is_open.ensures c.if-is_open.false)

pub returns : goal.returns
returns c =
    rw (c.refusal.ensures, c.left.ensures)
    (subst (λ s. IsReadAs IsShapeTokens IsShapeFault s (Err (error_of c.in-Err.halt (length s) (left_of (lex c.only_shape.new.tokens.rest)))))
    c.in_ok-tokens.ensures.text
    (got_halt IsShapeTokens IsShapeFault whole_shape_at right_whole_shape c.in_ok-tokens.tokens c.only_shape.new.tokens c.in-Err.halt
    c.in-Err.ensures))
