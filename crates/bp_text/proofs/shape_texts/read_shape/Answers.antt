use Rattle.std.proofs.Common.{sym, subst}
use Rattle.std.proofs.lemmas.Result.{err_from_is_err_and}
use Rattle.bp_value.specs.Form.{form_of}
use Rattle.bp_value.specs.Faults.{IsGood}
use Rattle.bp_text_grammar.specs.ShapeTexts.{IsShapeTokens, IsShapeFault, whole_shape_at}
use Rattle.bp_text_grammar.proofs.RightShapes.{right_whole_shape}
use Rattle.bp_text_grammar.proofs.WholeReads.{one_text}
use Rattle.bp_text.proofs.WholeSteps.{read_given}
use Rattle.bp_text.proofs.shape_texts.read_shape.Goals as goal

pub returns-in_err-shape-clause-only : goal.returns-in_err-shape-clause-only
returns-in_err-shape-clause-only c = λ shape spelled good.
    let p = err_from_is_err_and c.from_residual.result c.from_residual.ensures.1 in
    rw (p.1, p.2) (read_given IsShapeTokens IsShapeFault shape c.args.text.now c.in_err-shape.field-0.0 c.in_err-shape.ensures spelled)

pub returns-in-Ok-clause-only : goal.returns-in-Ok-clause-only
returns-in-Ok-clause-only c = λ shape spelled good.
    one_text IsShapeTokens IsShapeFault whole_shape_at right_whole_shape c.in_ok-shape.shape shape c.args.text.now c.in_ok-shape.ensures spelled

pub returns-in-Err-clause-only : goal.returns-in-Err-clause-only
returns-in-Err-clause-only c = λ shape spelled good.
    let same = one_text IsShapeTokens IsShapeFault whole_shape_at right_whole_shape c.in_ok-shape.shape shape c.args.text.now
    c.in_ok-shape.ensures spelled in
    let passed = c.in-Err.ensures.good.1 (subst (λ s. IsGood (form_of s)) (sym same) good) in
    absurd cc
