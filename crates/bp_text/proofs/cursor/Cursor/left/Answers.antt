use Rattle.std.proofs.Common.{ap, ◌∙◌, subst}
use Rattle.bp_text_grammar.specs.Scanning.{lex}
use Rattle.bp_text.specs.Unread.{Unread, left_of, IsAhead}
use Rattle.bp_text.proofs.Ahead.{next_left}
use Rattle.bp_text.proofs.cursor.Cursor.left.Goals as goal

pub returns-in-Some : goal.returns-in-Some
returns-in-Some c =
    let s = c.self.inside.after.now in
    next_left s c.in-Some.ahead (subst (λ n. IsAhead s n) c.in-Some.is c.self.invariant) ∙ ap (λ (u : Unread). left_of (lex u.rest)) c.self.view_is
