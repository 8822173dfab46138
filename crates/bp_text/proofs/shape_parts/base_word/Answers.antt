use Rattle.std.proofs.Common.{sym, ap, ◌∙◌}
use Rattle.bp_text_grammar.specs.ShapeTexts.{base_of}
use Rattle.bp_text.specs.Given.{token_of}
use Rattle.bp_text.proofs.PartSteps.{base_taken}
use Rattle.bp_text.proofs.shape_parts.base_word.Goals as goal

pub returns : goal.returns
returns c =
    base_taken c.args.tokens.now c.take.new.self c.in_ok-take.field-0 (token_of c.in-Some-Word.field-0.now) c.in-Some-Word.ensures.0
    c.in-Some-base_named.base c.in-Some-Word.ensures.1 (ap (λ t. base_of (token_of t)) c.in-Some-Word.field-0-is ∙
    (sym c.base_named.ensures ∙ c.in-Some-base_named.is)) c.in_ok-take.ensures
