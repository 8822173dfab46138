use Rattle.std.proofs.Common.{rules, ◌≡◌, sym, subst, true, false}
use Rattle.std.specs.Prelude.{Some, None, IfOk}
use Rattle.rpc_meeting.specs.Deeds.{find_label}
use Rattle.rpc_meeting.specs.declared.answer.Refusal.TheVariants as why
use Rattle.rpc_meeting.specs.declared.answer.StepAnswer.TheVariants.{Refused}
use Rattle.rpc_pair.specs.Made.{dispatches_of, made_dispatch}
use Rattle.rpc_pair.specs.Pairs.{PairState, Comes, IsDeedAt, with_server}
use Rattle.rpc_msg.specs.declared.shared.Limits.{Limits}
use Rattle.rpc_pair.specs.Asked.{ServerTells}
use Rattle.rpc_pair.specs.Tellings.{is_told_of, act_told, told_event, told_form}
use Rattle.rpc_pair.proofs.Coming.{ok_comes}
use Rattle.rpc_pair.proofs.ComingActs.{tell_comes, tell_none, tell_wrong}
use Rattle.rpc_pair.proofs.pair.Pair.tell.Goals as goal

pub returns-in_default : goal.returns-in_default
returns-in_default c =
    let p : PairState = record { book = c.self.inside.book; server = c.self.inside.server; now = c.self.inside.moment; moved = c.self.inside.moved } in
    let here : find_label c.args.label.now (dispatches_of p.book) ≡ None = search rules in
    subst (λ (q : PairState). Comes (IsDeedAt q (told_event c.args.telling c.args.label.now c.args.text.now)) q (Refused why.NoSuchLabel) q) c.self.view_is
    (tell_none p c.args.telling c.args.label.now c.args.text.now here)

pub returns-then-not-is_of : goal.returns-then-not-is_of
returns-then-not-is_of c =
    let p : PairState = record { book = c.self.inside.book; server = c.self.inside.server; now = c.self.inside.moment; moved = c.self.inside.moved } in
    let here : find_label c.args.label.now (dispatches_of p.book) ≡ Some (made_dispatch c.in-Some.made.now) = search rules in
    let kind : is_told_of c.args.telling c.in-Some.made.now.desc.kind ≡ false = search rules in
    subst (λ (q : PairState). Comes (IsDeedAt q (told_event c.args.telling c.args.label.now c.args.text.now)) q (Refused why.WrongKind) q) c.self.view_is
    (tell_wrong p c.args.telling c.args.label.now c.args.text.now (made_dispatch c.in-Some.made.now) here kind)

pub returns : goal.returns
returns c =
    let p : PairState = record { book = c.self.inside.book; server = c.self.inside.server; now = c.self.inside.moment; moved = c.self.inside.moved } in
    let here : find_label c.args.label.now (dispatches_of p.book) ≡ Some (made_dispatch c.in-Some.made.now) = search rules in
    let kind : is_told_of c.args.telling c.in-Some.made.now.desc.kind ≡ true = search rules in
    let did : IfOk c.tell_text.result (λ answer. ServerTells c.self.inside.server c.self.inside.limits.max_message c.in-Some.made.now.id (told_form c.args.telling c.in-Some.made.now.desc)
    (act_told c.args.telling) c.args.text.now answer c.tell_text.new.server) = search (rules, c.tell_text.ensures.did) in
    subst (λ (q : PairState). IfOk c.tell_text.result (λ answer. Comes (IsDeedAt q (told_event c.args.telling c.args.label.now c.args.text.now)) q answer (with_server p c.tell_text.new.server)))
    c.self.view_is
    (ok_comes c.tell_text.result (λ answer tells. tell_comes p c.args.telling c.args.label.now c.args.text.now (made_dispatch c.in-Some.made.now) answer c.tell_text.new.server here kind
    (subst (λ (l : Limits). ServerTells p.server l.max_message c.in-Some.made.now.id (told_form c.args.telling c.in-Some.made.now.desc) (act_told c.args.telling) c.args.text.now answer
    c.tell_text.new.server) (sym c.self.invariant.client_limits) tells))
    did)
