-- The line of a query that a server keeps is one that is answered.
use Rattle.std.proofs.Common.{◌≡◌, refl, sym, ap, ◌∙◌, Bool, true, false, if◌then◌else◌, List, [], ◌∷◌, inl, inr}
use Rattle.std.specs.Prelude.{Some}
use Rattle.rpc_msg.specs.declared.message.Answer.{Answer}
use Rattle.rpc_schema.specs.Choice.{is_offered}
use Rattle.rpc_schema.specs.declared.desc.Entry.{Entry}
use Rattle.rpc_schema.specs.declared.desc.RpcDesc.{RpcDesc}
use Rattle.rpc_talk.specs.Acts.{is_menu}
use Rattle.rpc_meeting.specs.Talks.{Common, Answerer, Dispatch, Served, Menu, Nobody, Listener, Handler, answerer, answerer_at, answerer_by, line_named}
use Rattle.rpc_meeting.proofs.Calls.{Ask, IsCall, IsKnown, Owed}
use Rattle.rpc_meeting.proofs.Look.{no_some}
use Rattle.rpc_meeting.proofs.Owners.{IsOk}

-- the line of the procedure, which the end that answers has
pub record IsAnswered (r : Common) (d : RpcDesc) : Type 0 where
  pub entry : Entry
  pub here : line_named r.entries d.name d.version ≡ Some entry
  pub is_desc : entry.desc ≡ d
  pub offered : is_offered entry.side ≡ true

module _ (r : Common) (ok : IsOk r) where
  -- the line of a procedure that a handler answers
  pub handler_line : (d desc : RpcDesc) → IsKnown r d → answerer r d.name d.version ≡ Handler desc → IsAnswered r d
  handler_line d desc (inl menu) by_it =
      let is_one : is_menu d.name d.version ≡ true = ap (λ (x : RpcDesc). is_menu x.name x.version) menu ∙ ok.own in
      let line : Menu ≡ Handler desc = sym (ap (λ b. if b then Menu else answerer_at (line_named r.entries d.name d.version)) is_one) ∙ by_it in
      absurd cc
  handler_line d desc (inr (e, here, same)) by_it = record { entry = e; here = here; is_desc = same; offered = by (is_offered e.side) refl }
    where
      no_menu : (b : Bool) → is_menu d.name d.version ≡ b → is_menu d.name d.version ≡ false
      no_menu true menu = absurd (no_some e (sym (ok.menu d.name d.version menu) ∙ here))
      no_menu false other = other

      answers : answerer r d.name d.version ≡ answerer_by (is_offered e.side) e.desc
      answers = ap (λ b. if b then Menu else answerer_at (line_named r.entries d.name d.version)) (no_menu (is_menu d.name d.version) refl) ∙ ap answerer_at here

      by : (b : Bool) → is_offered e.side ≡ b → b ≡ true
      by true side = refl
      by false side = absurd (let line : Nobody ≡ Handler desc = sym (answers ∙ ap (λ b. answerer_by b e.desc) side) ∙ by_it in cc)

  -- that of a query that the server keeps
  pub kept_line : (d : Dispatch) (q : Served) (asks came : List Ask) (answers : List Answer) → IsCall r d asks came (Some q) answers → IsAnswered r d.desc
  kept_line d q asks [] answers call = absurd (no_some q (sym (call.before refl).0))
  kept_line d q asks (x ∷ came) answers call = by (answerer r d.desc.name d.desc.version) refl (call.after x came refl)
    where
      by : (o : Answerer) → answerer r d.desc.name d.desc.version ≡ o → Owed o r d (Some q) answers → IsAnswered r d.desc
      by Menu e owed = absurd (no_some q (sym owed.0))
      by Nobody e owed = absurd (no_some q (sym owed.0))
      by Listener e owed = absurd (no_some q (sym owed.0))
      by (Handler desc) e owed = handler_line d.desc desc call.known e
