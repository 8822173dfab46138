use Rattle.std.proofs.Common.{rules, ◌≡◌, subst}
use Rattle.std.specs.Prelude.{Some, None, IfOk, MatchOption}
use Rattle.rpc_meeting.specs.Deeds.{find_label}
use Rattle.rpc_meeting.specs.Menus.{called_versions}
use Rattle.rpc_meeting.specs.declared.answer.Refusal.TheVariants as why
use Rattle.rpc_meeting.specs.declared.answer.StepAnswer.TheVariants.{Refused}
use Rattle.rpc_schedule.specs.declared.event.Event.TheVariants as ev
use Rattle.rpc_schema.specs.Choice.{IsChoice, menu_value}
use Rattle.rpc_pair.specs.Made.{dispatches_of, made_dispatch}
use Rattle.rpc_pair.specs.Pairs.{PairState, Comes, IsDeedAt}
use Rattle.rpc_pair.specs.Standing.{booked_menu}
use Rattle.rpc_pair.proofs.Coming.{best_taken, ok_comes, seen_none, seen_some}
use Rattle.rpc_pair.proofs.ComingActs.{best_comes, best_menu, best_version_none}
use Rattle.rpc_pair.proofs.pair.Pair.ask_best.Goals as goal

pub returns-then-is_some : goal.returns-then-is_some
returns-then-is_some c =
    let p : PairState = record { book = c.self.inside.book; server = c.self.inside.server; now = c.self.inside.moment; moved = c.self.inside.moved } in
    let seen : MatchOption c.under.result (find_label c.args.label.now (dispatches_of p.book) ≡ None) (λ m. find_label c.args.label.now (dispatches_of p.book) ≡ Some (made_dispatch m.now))
    = subst (λ l. MatchOption c.under.result (find_label l (dispatches_of p.book) ≡ None) (λ m. find_label l (dispatches_of p.book) ≡ Some (made_dispatch m.now))) c.as_slice.ensures
    c.under.ensures.found in
    let (d, here) = seen_some (find_label c.args.label.now (dispatches_of p.book)) c.under.result (λ m. made_dispatch m.now) (search rules) seen in
    subst (λ (q : PairState). Comes (IsDeedAt q (ev.Best c.args.label.now c.args.name.now c.args.text.now)) q (Refused why.LabelTaken) q) c.self.view_is
    (best_taken p c.args.label.now c.args.name.now c.args.text.now d here)

pub returns-in_default : goal.returns-in_default
returns-in_default c =
    let p : PairState = record { book = c.self.inside.book; server = c.self.inside.server; now = c.self.inside.moment; moved = c.self.inside.moved } in
    let seen : MatchOption c.under.result (find_label c.args.label.now (dispatches_of p.book) ≡ None) (λ m. find_label c.args.label.now (dispatches_of p.book) ≡ Some (made_dispatch m.now))
    = subst (λ l. MatchOption c.under.result (find_label l (dispatches_of p.book) ≡ None) (λ m. find_label l (dispatches_of p.book) ≡ Some (made_dispatch m.now))) c.as_slice.ensures
    c.under.ensures.found in
    let free : find_label c.args.label.now (dispatches_of p.book) ≡ None = seen_none (find_label c.args.label.now (dispatches_of p.book)) c.under.result (λ m. made_dispatch m.now)
    (search rules) seen in
    let none : booked_menu p.book ≡ None = search rules in
    subst (λ (q : PairState). Comes (IsDeedAt q (ev.Best c.args.label.now c.args.name.now c.args.text.now)) q (Refused why.NoMenu) q) c.self.view_is
    (best_menu p c.args.label.now c.args.name.now c.args.text.now free none)

pub returns-in-Some-best : goal.returns-in-Some-best
returns-in-Some-best c =
    let p : PairState = record { book = c.self.inside.book; server = c.self.inside.server; now = c.self.inside.moment; moved = c.self.inside.moved } in
    let seen : MatchOption c.under.result (find_label c.args.label.now (dispatches_of p.book) ≡ None) (λ m. find_label c.args.label.now (dispatches_of p.book) ≡ Some (made_dispatch m.now))
    = subst (λ l. MatchOption c.under.result (find_label l (dispatches_of p.book) ≡ None) (λ m. find_label l (dispatches_of p.book) ≡ Some (made_dispatch m.now))) c.as_slice.ensures
    c.under.ensures.found in
    let free : find_label c.args.label.now (dispatches_of p.book) ≡ None = seen_none (find_label c.args.label.now (dispatches_of p.book)) c.under.result (λ m. made_dispatch m.now)
    (search rules) seen in
    let here : booked_menu p.book ≡ Some (menu_value c.in-Some.menu.entries) = search rules in
    let choice : IsChoice (called_versions p.server.rules.entries c.args.name.now) c.in-Some.menu.entries c.args.name.now (Some c.in-Some-best.version) = search rules in
    subst (λ (q : PairState). IfOk c.ask_line.result (λ answer. Comes (IsDeedAt q (ev.Best c.args.label.now c.args.name.now c.args.text.now)) q answer c.ask_line.new.self)) c.self.view_is
    (ok_comes c.ask_line.result (λ answer comes. best_comes p c.args.label.now c.args.name.now c.args.text.now free c.in-Some.menu.entries here c.in-Some-best.version answer c.ask_line.new.self
    choice comes) (search (rules, c.ask_line.ensures)))

pub returns : goal.returns
returns c =
    let p : PairState = record { book = c.self.inside.book; server = c.self.inside.server; now = c.self.inside.moment; moved = c.self.inside.moved } in
    let seen : MatchOption c.under.result (find_label c.args.label.now (dispatches_of p.book) ≡ None) (λ m. find_label c.args.label.now (dispatches_of p.book) ≡ Some (made_dispatch m.now))
    = subst (λ l. MatchOption c.under.result (find_label l (dispatches_of p.book) ≡ None) (λ m. find_label l (dispatches_of p.book) ≡ Some (made_dispatch m.now))) c.as_slice.ensures
    c.under.ensures.found in
    let free : find_label c.args.label.now (dispatches_of p.book) ≡ None = seen_none (find_label c.args.label.now (dispatches_of p.book)) c.under.result (λ m. made_dispatch m.now)
    (search rules) seen in
    let here : booked_menu p.book ≡ Some (menu_value c.in-Some.menu.entries) = search rules in
    let own : c.deref.result.now ≡ called_versions p.server.rules.entries c.args.name.now = search rules in
    let name : c.as_slice-3.result.now ≡ c.args.name.now = search rules in
    let choice : IsChoice (called_versions p.server.rules.entries c.args.name.now) c.in-Some.menu.entries c.args.name.now None
    = subst (λ o. IsChoice o c.in-Some.menu.entries c.args.name.now None) own (subst (λ n. IsChoice c.deref.result.now c.in-Some.menu.entries n None) name
    (subst (IsChoice c.deref.result.now c.in-Some.menu.entries c.as_slice-3.result.now) c.in-None.is c.best.ensures)) in
    subst (λ (q : PairState). Comes (IsDeedAt q (ev.Best c.args.label.now c.args.name.now c.args.text.now)) q (Refused why.NoVersion) q) c.self.view_is
    (best_version_none p c.args.label.now c.args.name.now c.args.text.now free c.in-Some.menu.entries here choice)
