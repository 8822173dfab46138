use Rattle.bp_text_grammar.specs.ValueTexts.{value_at}
use Rattle.bp_text.proofs.OneToken.{char_reads}
use Rattle.bp_text.proofs.Readings.{told, shown, handed, same, made, unmade}
use Rattle.bp_text.proofs.values.char.Goals as goal

pub returns-in_err-take_as : goal.returns-in_err-take_as
unfolding value_at
returns-in_err-take_as c =
    handed _ _ _ _ _ c.from_residual.ensures.1
    (same (char_reads _ _ c.first_byte-byte.ensures) (unmade _ (told _ _ _ _ c.in_err-take_as.ensures.reads)))

pub returns : goal.returns
unfolding value_at
returns c = shown _ _ _ _ (same (char_reads _ _ c.first_byte-byte.ensures) (made _ (told _ _ _ _ c.in_ok-take_as.ensures.reads)))
