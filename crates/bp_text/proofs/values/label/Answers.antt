use Rattle.bp_text.proofs.Readings.{told, shown, next}
use Rattle.bp_text.proofs.values.label.Goals as goal

pub returns : goal.returns
returns c = shown _ _ _ _ (next _ (told _ _ _ _ c.in_ok-pass_word.ensures) (told _ _ _ _ c.pass_mark.ensures))
