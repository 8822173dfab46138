use Rattle.std.proofs.Common.{sym, subst}
use Rattle.bp_text_grammar.specs.Lexing.{IsNumber}
use Rattle.bp_text.proofs.NumberSteps.{number_utf8, number_given, number_refused}
use Rattle.bp_text.proofs.scanning.number.Goals as goal

pub returns-in_default : goal.returns-in_default
returns-in_default c = λ n is. absurd (c.in_default.ensures.cases.0 (number_utf8 n c.args.text.now is))

pub returns-in-Ok-parse : goal.returns-in-Ok-parse
returns-in-Ok-parse c = λ n is.
    number_given n c.in-Ok-parse.number c.in-Ok.text.now c.parse.result c.parse.ensures.value.0
    (subst (λ s. IsNumber n s) (sym c.in-Ok.ensures.cases.0) is) c.in-Ok-parse.is

pub returns-in-Err : goal.returns-in-Err
returns-in-Err c = λ n is.
    number_refused n c.in-Ok.text.now c.parse.result c.in-Err.field-0 c.parse.ensures.value.0
    (subst (λ s. IsNumber n s) (sym c.in-Ok.ensures.cases.0) is) c.in-Err.is
