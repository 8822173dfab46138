use Rattle.std.proofs.Common.{sym, ap, ◌∙◌, subst, ◌||◌, Ok}
use Rattle.bp_text_grammar.specs.Scanning.{lex}
use Rattle.bp_text_grammar.specs.WholeTexts.{has_open}
use Rattle.bp_text.specs.declared.cursor.Ahead.{Ahead}
use Rattle.bp_text.specs.Unread.{Unread, IsAhead, TakesFirst}
use Rattle.bp_text.proofs.Ahead.{first_taken, none_is, some_is}
use Rattle.bp_text.proofs.cursor.Cursor.take.Goals as goal
use Rattle.bp_text.proofs.cursor.Cursor.take.Goals.{in-Some-replace, in-None}

pub returns : goal.returns
returns c =
    let s = c.self.inside.after.now in
    let next = c.in-Some.ahead in
    let new : Unread = record { rest = next.rest.now; opens = (c.self.inside.opened || next.opened) || has_open (lex next.rest.now) } in
    let taken : TakesFirst c.args.self.now new (Ok next.token) = subst (λ old. TakesFirst old new (Ok next.token)) c.self.view_is
    (first_taken s c.self.inside.opened next (subst (λ n. IsAhead s n) c.in-Some.is c.self.invariant)) in
    elim c.match-replace.branch [
      | in-Some-replace w ↦
          let same = some_is w.in-Some-replace.ahead next (sym w.in-Some-replace.is ∙ (c.replace.ensures.value ∙ c.in-Some.is)) in
          subst (λ r. TakesFirst c.args.self.now new r) (sym (w.result-is ∙ ap (λ (a : Ahead). Ok a.token) same)) taken
      | in-None w ↦ absurd (none_is next (sym w.in-None.is ∙ (c.replace.ensures.value ∙ c.in-Some.is)))
    ]
