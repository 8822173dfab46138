use Rattle.std.proofs.Common.{sym, ap, ◌∙◌, subst}
use Rattle.bp_text_grammar.specs.Scanning.{lex}
use Rattle.bp_text_grammar.specs.WholeTexts.{kinds}
use Rattle.bp_text.specs.Unread.{ahead, IsAhead}
use Rattle.bp_text.proofs.Ahead.{next_kinds}
use Rattle.bp_text.proofs.cursor.Cursor.first.Goals as goal

pub returns-in-Some : goal.returns-in-Some
returns-in-Some c =
    let s = c.self.inside.after.now in (
      kinds (lex c.in-Some.ahead.rest.now),
      sym (ap ahead c.self.view_is) ∙ next_kinds s c.in-Some.ahead (subst (λ n. IsAhead s n) c.in-Some.is c.self.invariant),
    )
