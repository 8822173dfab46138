-- The same, as the code has a client: its limits, its calls and its end.
use Rattle.std.proofs.Common.{◌≡◌, refl, sym, ap, ◌∙◌, subst, ℕ, ◌&&◌, Bool, true, false, List}
use Rattle.std.specs.Prelude.{Option, Some, None, Result, Ok, Err, IfOk, OnErr}
use Rattle.std.specs.Option.{is_none, is_some}
use Rattle.std.proofs.Common.{ℤ}
use Rattle.rpc_talk.specs.Parts.{unless_closed}
use Rattle.rpc_msg.specs.declared.shared.Received.{Received}
use Rattle.readers.specs.Reader.{Each, IsByte}
use Rattle.bp_value.specs.declared.memory.OutOfMemory.{OutOfMemory}
use Rattle.rpc_msg.specs.declared.shared.CloseCause.{CloseCause}
use Rattle.rpc_msg.specs.declared.shared.FeedError.{FeedError}
use Rattle.rpc_msg.specs.declared.shared.Limits.{Limits}
use Rattle.rpc_msg.specs.declared.shared.Ticked.{Ticked}
use Rattle.rpc_msg.specs.declared.shared.Ticket.{Ticket}
use Rattle.rpc_schema.specs.declared.desc.RpcDesc.{RpcDesc}
use Rattle.rpc_end.specs.Ends.{EndState, after_tick, is_closed, is_link_open, shut, taken_out, tick_answer}
use Rattle.rpc_client.specs.declared.entry.Took.{Took}
use Rattle.bp_value.specs.declared.value.Value.{Value}
use Rattle.rpc_client.specs.declared.error.DispatchError.{DispatchError}
use Rattle.rpc_client.specs.Clients.{ClientState, next_query, IsClientFed, IsDispatched}
use Rattle.rpc_client.specs.Kept.{FeedsGot, HasGot, KeepsGot, TakesHeld, ReceivesHeld}
use Rattle.rpc_client.specs.Rows.{Row, IsCallable}
use Rattle.rpc_client.specs.Tables.{TakesRow, ShownOf, find_row}
use Rattle.rpc_client.proofs.Dispatches.{dispatch_got}
use Rattle.rpc_client.proofs.Gots.{feed_got, shut_got, take_got, take_out_got, tick_got, took_held, shown_held}

abbrev pub client : Limits → List Row → EndState → ClientState
client limits rows link = record { limits = limits; rows = rows; link = link }

-- the value of a client is that of its parts
module _ (old : ClientState) (limits : Limits) (rows : List Row) (link : EndState) (same : client limits rows link ≡ old) where
  as_parts : (new : ClientState) → KeepsGot (client limits rows link) new → KeepsGot old new
  as_parts new keeps = subst (λ o. KeepsGot o new) same keeps

  pub shut_keeps : (new : EndState) (why : CloseCause) → new ≡ shut link why → KeepsGot old (client limits rows new)
  shut_keeps new why is = as_parts (client limits rows new) (subst (λ e. KeepsGot (client limits rows link) (client limits rows e)) (sym is) (shut_got (client limits rows link) why))

  pub take_out_keeps : (new : EndState) (count : ℕ) → new ≡ taken_out link count → KeepsGot old (client limits rows new)
  take_out_keeps new count is =
      as_parts (client limits rows new) (subst (λ e. KeepsGot (client limits rows link) (client limits rows e)) (sym is) (take_out_got (client limits rows link) count))

  pub tick_keeps : (r : Result Ticked OutOfMemory) (new : EndState) (now : ℕ) → IfOk r (λ t. (t ≡ tick_answer link now) × (new ≡ after_tick link now)) → OnErr r (new ≡ link)
      → KeepsGot old (client limits rows new)
  tick_keeps (Ok t) new now (row_told, is) err =
      as_parts (client limits rows new) (subst (λ e. KeepsGot (client limits rows link) (client limits rows e)) (sym is) (tick_got (client limits rows link) now))
  tick_keeps (Err e) new now ok is = as_parts (client limits rows new) (subst (λ e. KeepsGot (client limits rows link) (client limits rows e)) (sym is) (λ got has. has))

  pub take_keeps : (id : ℤ) (answer : Took) (new : List Row) → TakesRow (is_closed link) rows id answer new → KeepsGot old (client limits new link)
  take_keeps id answer new takes = as_parts (client limits new link) (take_got (client limits rows link) id answer (client limits new link) takes refl)

  pub take_holds : (id : ℤ) (answer : Took) (new : List Row) → TakesRow (is_closed link) rows id answer new → TakesHeld old id answer
  take_holds id answer new takes = subst (λ o. TakesHeld o id answer) same (took_held (client limits rows link) id answer new takes)

  pub received_holds : (id : ℤ) (shown : Option Received) → ShownOf (unless_closed (is_closed link)) (find_row id rows) shown → ReceivesHeld old id shown
  received_holds id shown shows = subst (λ o. ReceivesHeld o id shown) same (shown_held (client limits rows link) id shown shows)

open_none : (e : EndState) → is_link_open e ≡ true → e.cause ≡ None
open_none e is = by e.greeted e.cause is
  where
    by : (greeted : Bool) (o : Option CloseCause) → (greeted && is_none o) ≡ true → o ≡ None
    by true None e = refl
    by true (Some why) e = absurd cc
    by false o e = absurd cc

pub dispatch_keeps : (old new : ClientState) (d : RpcDesc) (v : Value) (answer : Result Ticket DispatchError) → IsCallable d → IsDispatched old d v answer new → KeepsGot old new
dispatch_keeps old new d v (Err why) callable (refuses, is) got has = subst (λ x. HasGot x got) (sym is) has
dispatch_keeps old new d v (Ok ticket) callable (can, id, is) got has =
    subst (λ x. HasGot x got) (sym is) (dispatch_got old d (next_query old d v) got callable (open_none old.link can.0.0.0.0) has)

pub feed_keeps : (old new : ClientState) (piece : List ℕ) (now : ℕ) (answer : Result ℕ FeedError) → Each IsByte piece → IsClientFed old piece now answer new → FeedsGot old piece answer new
feed_keeps old new piece now answer bytes did got has = feed_got old piece now answer new got bytes has did
