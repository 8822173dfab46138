use Rattle.bp_text_grammar.specs.ValueTexts.{value_at}
use Rattle.bp_text.proofs.Readings.{told, shown, handed, next, fails, made, unmade}
use Rattle.bp_text.proofs.values.unit.Goals as goal

pub returns-in_err-pass_mark : goal.returns-in_err-pass_mark
unfolding value_at
returns-in_err-pass_mark c = handed _ _ _ _ _ c.from_residual.ensures.1 (fails _ (told _ _ _ _ c.in_err-pass_mark.ensures))

pub returns-in_err-pass_mark-2 : goal.returns-in_err-pass_mark-2
unfolding value_at
returns-in_err-pass_mark-2 c =
    handed _ _ _ _ _ c.from_residual-in_err-pass_mark-2.ensures.1
    (next _ (told _ _ _ _ c.in_ok-pass_mark.ensures) (unmade _ (told _ _ _ _ c.in_err-pass_mark-2.ensures)))

pub returns : goal.returns
unfolding value_at
returns c = shown _ _ _ _ (next _ (told _ _ _ _ c.in_ok-pass_mark.ensures) (made _ (told _ _ _ _ c.in_ok-pass_mark-2.ensures)))
