use Rattle.std.proofs.Common.{sym, ap, ◌∙◌, Some}
use Rattle.bp_text_grammar.specs.ShapeTexts.{name_of}
use Rattle.bp_text.specs.Given.{token_of}
use Rattle.bp_text.proofs.PartSteps.{leaf_looked, name_is}
use Rattle.bp_text.proofs.shape_parts.name.Goals as goal

pub returns : goal.returns
returns c =
    leaf_looked name_of c.args.tokens.now c.take.new.self c.in_ok-take.field-0 (token_of c.in-Some-Word.field-0.now) c.in-Some-Word.ensures.0
    c.in_ok-name-in-Some-Word.name c.in-Some-Word.ensures.1
    (ap (λ t. name_of (token_of t)) c.in-Some-Word.field-0-is ∙ (name_is c.in-Some-Word.word.now c.if-word-le-MAX_NAME.true ∙ ap Some
    (sym c.in_ok-name-in-Some-Word.ensures))) c.in_ok-take.ensures
