use Rattle.std.proofs.Common.{rules, ◌≡◌, subst}
use Rattle.std.specs.Prelude.{Some, None, MatchOption}
use Rattle.rpc_meeting.specs.Deeds.{find_label}
use Rattle.rpc_meeting.specs.declared.answer.Refusal.TheVariants as why
use Rattle.rpc_meeting.specs.declared.answer.StepAnswer.TheVariants.{Refused}
use Rattle.rpc_schedule.specs.declared.event.Event.TheVariants as ev
use Rattle.rpc_pair.specs.Made.{dispatches_of, made_dispatch}
use Rattle.rpc_pair.specs.Pairs.{PairState, Comes, IsDeedAt}
use Rattle.rpc_pair.proofs.Coming.{ask_taken, seen_some}
use Rattle.rpc_pair.proofs.pair.Pair.ask.Goals as goal

pub returns-then-is_some : goal.returns-then-is_some
returns-then-is_some c =
    let p : PairState = record { book = c.self.inside.book; server = c.self.inside.server; now = c.self.inside.moment; moved = c.self.inside.moved } in
    let (d, here) = seen_some (find_label c.args.label.now (dispatches_of p.book)) c.under.result (λ m. made_dispatch m.now) (search rules)
    (subst (λ l. MatchOption c.under.result (find_label l (dispatches_of p.book) ≡ None) (λ m. find_label l (dispatches_of p.book) ≡ Some (made_dispatch m.now))) c.as_slice.ensures
    c.under.ensures.found) in
    subst (λ (q : PairState). Comes (IsDeedAt q (ev.Ask c.args.label.now c.args.name.now c.args.version c.args.text.now)) q (Refused why.LabelTaken) q) c.self.view_is
    (ask_taken p c.args.label.now c.args.name.now c.args.version c.args.text.now d here)
