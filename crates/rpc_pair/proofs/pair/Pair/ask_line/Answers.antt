use Rattle.std.proofs.Common.{rules, ◌≡◌, sym, subst, true, false}
use Rattle.std.specs.Prelude.{Some, None, IfOk}
use Rattle.rpc_meeting.specs.declared.answer.Refusal.TheVariants as why
use Rattle.rpc_meeting.specs.declared.answer.StepAnswer.TheVariants.{Refused}
use Rattle.rpc_pair.specs.Pairs.{PairState, AsksLineOf, Comes, with_book}
use Rattle.rpc_schema.specs.Entries.{AreEntries}
use Rattle.rpc_meeting.specs.Menus.{is_called}
use Rattle.rpc_meeting.specs.Talks.{line_named}
use Rattle.rpc_msg.specs.declared.shared.Limits.{Limits}
use Rattle.rpc_pair.specs.Asked.{BookAsks}
use Rattle.rpc_pair.proofs.Coming.{line_comes, none_comes, ok_comes, other_comes}
use Rattle.rpc_pair.proofs.Owning.{line_own}
use Rattle.rpc_pair.proofs.pair.Pair.ask_line.Goals as goal

pub call_text-requires-clause-own : goal.call_text-requires-clause-own
call_text-requires-clause-own c =
    let entries : AreEntries c.self.inside.server.rules.entries = subst AreEntries c.schema.ensures c.entries.ensures.each in
    let here : line_named c.self.inside.server.rules.entries c.args.name.now c.args.version ≡ Some c.in-Some.entry.now = search rules in
    line_own c.self.inside.server.rules.entries c.args.name.now c.args.version c.in-Some.entry.now entries here

pub returns-in-Some : goal.returns-in-Some
returns-in-Some c =
    let p : PairState = record { book = c.self.inside.book; server = c.self.inside.server; now = c.self.inside.moment; moved = c.self.inside.moved } in
    let here : line_named p.server.rules.entries c.args.name.now c.args.version ≡ Some c.in-Some.entry.now = search rules in
    let called : is_called c.in-Some.entry.now.side ≡ true = search rules in
    subst (λ (q : PairState). IfOk c.call_text.result (λ answer. Comes (AsksLineOf q c.args.label.now c.args.text.now c.args.name.now c.args.version) q answer (with_book p c.call_text.new.book)))
    c.self.view_is
    (ok_comes c.call_text.result (λ answer asks. line_comes p c.args.label.now c.args.text.now c.args.name.now c.args.version c.in-Some.entry.now answer c.call_text.new.book here called
    (subst (λ (l : Limits). BookAsks p.book l.max_message c.args.label.now c.in-Some.entry.now.desc c.args.text.now answer c.call_text.new.book) (sym c.self.invariant.client_limits) asks))
    c.call_text.ensures.did)

pub returns-in_default : goal.returns-in_default
returns-in_default c =
    let p : PairState = record { book = c.self.inside.book; server = c.self.inside.server; now = c.self.inside.moment; moved = c.self.inside.moved } in
    let here : line_named p.server.rules.entries c.args.name.now c.args.version ≡ Some c.in-Some.entry.now = search rules in
    let called : is_called c.in-Some.entry.now.side ≡ false = search rules in
    subst (λ (q : PairState). Comes (AsksLineOf q c.args.label.now c.args.text.now c.args.name.now c.args.version) q (Refused why.NoSuchRpc) q) c.self.view_is
    (other_comes p c.args.label.now c.args.text.now c.args.name.now c.args.version c.in-Some.entry.now here called)

pub returns-in_default-2 : goal.returns-in_default-2
returns-in_default-2 c =
    let p : PairState = record { book = c.self.inside.book; server = c.self.inside.server; now = c.self.inside.moment; moved = c.self.inside.moved } in
    let here : line_named p.server.rules.entries c.args.name.now c.args.version ≡ None = search rules in
    subst (λ (q : PairState). Comes (AsksLineOf q c.args.label.now c.args.text.now c.args.name.now c.args.version) q (Refused why.NoSuchRpc) q) c.self.view_is
    (none_comes p c.args.label.now c.args.text.now c.args.name.now c.args.version here)
