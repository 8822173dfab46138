-- No value reads where the text is refused.
use Rattle.std.proofs.Common.{sym, subst, Err}
use Rattle.bp_value.specs.Form.{form_of}
use Rattle.bp_text_grammar.specs.WholeTexts.{IsValueText}
use Rattle.bp_text.specs.ValueAnswers.{GivesValue}
use Rattle.rpc_schema.proofs.behaviours.constant.Goals as goal

pub returns-in-Err-BadText-clause-takes : goal.returns-in-Err-BadText-clause-takes
returns-in-Err-BadText-clause-takes c = (
  (λ a u is. subst (λ e. GivesValue is.0 (Err e)) c.in-Err-BadText.field-0-is
      (c.in-Err-BadText.ensures.only is.0 (subst (λ s. IsValueText (form_of c.args.desc.now.first) is.0 s) (sym c.rest.ensures) is.2))),
  c.skip_blanks.ensures,
)
