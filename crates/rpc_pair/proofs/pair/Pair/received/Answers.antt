use Rattle.std.proofs.Common.{rules, ◌≡◌, sym, subst}
use Rattle.std.specs.Prelude.{Some, None}
use Rattle.rpc_meeting.specs.Deeds.{find_label}
use Rattle.rpc_book.specs.Calls.{IsReceived}
use Rattle.rpc_pair.specs.Made.{dispatches_of, made_dispatch}
use Rattle.rpc_pair.specs.Pairs.{PairState, ShowsLabel}
use Rattle.rpc_pair.proofs.Showing.{shows_none, shows_some}
use Rattle.rpc_pair.proofs.Sights.{world_shown}
use Rattle.rpc_pair.proofs.pair.Pair.received.Goals as goal

pub returns-in_err-made-clause-shows : goal.returns-in_err-made-clause-shows
returns-in_err-made-clause-shows c =
    let b = c.self.inside.book in
    let none : find_label c.args.label.now (dispatches_of b) ≡ None = search rules in
    let is : c.from_residual.result ≡ None = search rules in
    subst (λ (q : PairState). ShowsLabel q.book c.args.label.now c.from_residual.result) c.self.view_is
    (subst (ShowsLabel b c.args.label.now) (sym is) (shows_none b c.self.invariant.kept c.args.label.now none))

pub returns-in_err-made-clause-world : goal.returns-in_err-made-clause-world
returns-in_err-made-clause-world c = world_shown c.args.self.now c.args.label.now c.from_residual.result (returns-in_err-made-clause-shows c)

pub returns-clause-shows : goal.returns-clause-shows
returns-clause-shows c =
    let b = c.self.inside.book in
    let here : find_label c.args.label.now (dispatches_of b) ≡ Some (made_dispatch c.in_ok-made.made.now) = search rules in
    let received : IsReceived b c.in_ok-made.made.now.id c.received.result = search (rules, c.received.ensures) in
    subst (λ (q : PairState). ShowsLabel q.book c.args.label.now c.received.result) c.self.view_is
    (shows_some b c.self.invariant.kept c.args.label.now c.in_ok-made.ensures.sound.ids c.in_ok-made.made.now c.received.result here received)

pub returns-clause-world : goal.returns-clause-world
returns-clause-world c = world_shown c.args.self.now c.args.label.now c.received.result (returns-clause-shows c)
