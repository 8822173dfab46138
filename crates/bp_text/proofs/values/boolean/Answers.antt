use Rattle.std.proofs.Common.{sym}
use Rattle.bp_text_grammar.specs.ValueTexts.{value_at}
use Rattle.bp_text.specs.Unread.{ahead}
use Rattle.bp_text.proofs.OneToken.{bool_true, bool_false}
use Rattle.bp_text.proofs.Readings.{told, shown, handed, same, made, unmade}
use Rattle.bp_text.proofs.values.boolean.Goals as goal

pub returns-then-is_word : goal.returns-then-is_word
unfolding value_at
returns-then-is_word c = shown _ _ _ _ (same (bool_true (ahead c.args.cursor.now) (sym c.if-is_word.ensures)) (made _ (told _ _ _ _ c.in_ok-pass.ensures)))

pub returns-in_err-pass_word : goal.returns-in_err-pass_word
unfolding value_at
returns-in_err-pass_word c =
    handed _ _ _ _ _ c.from_residual-in_err-pass_word.ensures.1
    (same (bool_false (ahead c.args.cursor.now) (sym c.if-is_word.ensures)) (unmade _ (told _ _ _ _ c.in_err-pass_word.ensures)))

pub returns : goal.returns
unfolding value_at
returns c = shown _ _ _ _ (same (bool_false (ahead c.args.cursor.now) (sym c.if-is_word.ensures)) (made _ (told _ _ _ _ c.in_ok-pass_word.ensures)))
