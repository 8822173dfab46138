-- Who answers the query of a procedure that a client knows.
use Rattle.std.proofs.Common.{◌≡◌, refl, sym, ap, ◌∙◌, ℕ, ℤ, pos, Bool, true, false, if◌then◌else◌, List, [], ◌∷◌, inl, inr}
use Rattle.std.specs.Prelude.{Some, None}
use Rattle.bp_value.specs.Fits.{Fits}
use Rattle.bp_value.specs.Form.{Form, form_of}
use Rattle.bp_value.specs.declared.value.Value.{Value}
use Rattle.bp_grammar.specs.Written.{written}
use Rattle.rpc_msg.specs.declared.message.Answer.{Answer}
use Rattle.rpc_msg.specs.Forms.{part_form}
use Rattle.rpc_msg.specs.Values.{eof_value}
use Rattle.rpc_schema.specs.declared.desc.Entry.{Entry}
use Rattle.rpc_schema.specs.declared.desc.RpcDesc.{RpcDesc}
use Rattle.rpc_schema.specs.Choice.{is_offered, menu_description}
use Rattle.rpc_schema.specs.Entries.{menu_name}
use Rattle.rpc_talk.specs.Acts.{Act, answer_by, is_menu, is_short, response, suits}
use Rattle.rpc_talk.specs.Acts as acts
use Rattle.rpc_talk.specs.Parts.{is_stream, is_tracked}
use Rattle.rpc_talk.specs.Said.{Eof, part_said, said_behind, says_in}
use Rattle.rpc_meeting.specs.Steps.{wrong_time}
use Rattle.rpc_meeting.specs.Talks.{Common, Menu, Listener, Handler, abort_body, act_said, line_named, is_abort_query, menu_answer, answerer, answerer_at, answerer_by, query_body}
use Rattle.rpc_meeting.proofs.Calls.{AreClear, IsKnown}

-- the value of an act fits its form
abbrev pub IsGiven : ℕ → RpcDesc → Act → Type 0
IsGiven m d (acts.Reply v) = Fits m (form_of d.first) v
IsGiven m d (acts.Begin v) = Fits m (form_of d.first) v
IsGiven m d (acts.Decline v) = Fits m (form_of d.error) v
IsGiven m d (acts.Give v) = Fits m (form_of d.item) v
IsGiven m d (acts.Fail text) = Unit {0}
IsGiven m d acts.End = Unit {0}
IsGiven m d acts.Stop = Unit {0}

-- What the talk rests on: no line of the schema is the menu; what is written is read back, the menu's answer and each act's; and a
-- query is an abort just where it was written as one.
pub record IsOk (r : Common) : Type 0 where
  pub menu : (tag : List ℕ) (version : ℤ) → is_menu tag version ≡ true → line_named r.entries tag version ≡ None
  pub own : is_menu menu_name (pos 1) ≡ true
  pub clear : (id : ℤ) → AreClear (says_in r.limits.max_message menu_description (menu_answer r id ∷ []))
  pub eof : (f : Form) → part_said r.limits.max_message f (written part_form eof_value) ≡ Eof
  pub first : (d : RpcDesc) (id : ℤ) (act : Act) → IsKnown r d → IsGiven r.limits.max_message d act → suits act d.kind ≡ true → wrong_time act false ≡ None
      → is_short r.limits.max_message (response id (answer_by d act)) ≡ true → said_behind r.limits.max_message d [] (answer_by d act) ≡ act_said act
  pub later : (d : RpcDesc) (id : ℤ) (act : Act) (b : Answer) (before : List Answer) → IsKnown r d → IsGiven r.limits.max_message d act → is_stream d.kind ≡ true
      → suits act d.kind ≡ true → wrong_time act true ≡ None → is_short r.limits.max_message (response id (answer_by d act)) ≡ true
      → said_behind r.limits.max_message d (b ∷ before) (answer_by d act) ≡ act_said act
  pub calls : (d : RpcDesc) (id : ℤ) (v : Value) → IsKnown r d
      → is_abort_query r.entries (record { tag = d.name; version = d.version; id = id; body = query_body d v }) ≡ false
  pub aborts : (d : RpcDesc) (id : ℤ) → IsKnown r d → is_stream d.kind ≡ true
      → is_abort_query r.entries (record { tag = d.name; version = d.version; id = id; body = abort_body }) ≡ true

by_menu : (offered tracked : Bool) (d : RpcDesc) → answerer_by offered d ≡ Menu → is_tracked d.kind ≡ tracked → ⊥
by_menu false tracked d e t = cc
by_menu true true d e t = let line : Handler d ≡ Menu = ap (λ b. if b then Handler d else Listener) (sym t) ∙ e in cc
by_menu true false d e t = let line : Listener ≡ Menu = ap (λ b. if b then Handler d else Listener) (sym t) ∙ e in cc

by_handler : (offered tracked : Bool) (d desc : RpcDesc) → answerer_by offered d ≡ Handler desc → is_tracked d.kind ≡ tracked → (desc ≡ d) × (is_tracked d.kind ≡ true)
by_handler false tracked d desc e t = absurd cc
by_handler true true d desc e t =
    let line : Handler d ≡ Handler desc = ap (λ b. if b then Handler d else Listener) (sym t) ∙ e in
    let same : desc ≡ d = cc in
    (same, t)
by_handler true false d desc e t = absurd (let line : Listener ≡ Handler desc = ap (λ b. if b then Handler d else Listener) (sym t) ∙ e in cc)

by_listener : (offered tracked : Bool) (d : RpcDesc) → answerer_by offered d ≡ Listener → is_tracked d.kind ≡ tracked → is_tracked d.kind ≡ false
by_listener false tracked d e t = absurd cc
by_listener true true d e t = absurd (let line : Handler d ≡ Listener = ap (λ b. if b then Handler d else Listener) (sym t) ∙ e in cc)
by_listener true false d e t = t

-- a line of the schema is no menu
line_owner : (r : Common) (d : RpcDesc) (e : Entry) → IsOk r → line_named r.entries d.name d.version ≡ Some e → e.desc ≡ d → answerer r d.name d.version ≡ answerer_by (is_offered e.side) d
line_owner r d e ok here same = by (is_menu d.name d.version) refl
  where
    by : (b : Bool) → is_menu d.name d.version ≡ b → (if is_menu d.name d.version then Menu else answerer_at (line_named r.entries d.name d.version)) ≡ answerer_by (is_offered e.side) d
    by true is = absurd (let line : None ≡ Some e = sym (ok.menu d.name d.version is) ∙ here in cc)
    by false is =
        ap (λ b. if b then Menu else answerer_at (line_named r.entries d.name d.version)) is
        ∙ (ap answerer_at here ∙ ap (answerer_by (is_offered e.side)) same)

menu_owner : (r : Common) → IsOk r → answerer r menu_name (pos 1) ≡ Menu
menu_owner r ok = ap (λ b. if b then Menu else answerer_at (line_named r.entries menu_name (pos 1))) ok.own

pub owner_menu : (r : Common) (d : RpcDesc) → IsOk r → IsKnown r d → answerer r d.name d.version ≡ Menu → d ≡ menu_description
owner_menu r d ok (inl is) e = is
owner_menu r d ok (inr (line, here, same)) e = absurd (by_menu (is_offered line.side) (is_tracked d.kind) d (sym (line_owner r d line ok here same) ∙ e) refl)

pub owner_handler : (r : Common) (d desc : RpcDesc) → IsOk r → IsKnown r d → answerer r d.name d.version ≡ Handler desc → (desc ≡ d) × (is_tracked d.kind ≡ true)
owner_handler r d desc ok (inl is) e =
    absurd (let line : Menu ≡ Handler desc = sym (menu_owner r ok) ∙ (ap (λ (x : RpcDesc). answerer r x.name x.version) (sym is) ∙ e) in cc)
owner_handler r d desc ok (inr (line, here, same)) e = by_handler (is_offered line.side) (is_tracked d.kind) d desc (sym (line_owner r d line ok here same) ∙ e) refl

pub owner_listener : (r : Common) (d : RpcDesc) → IsOk r → IsKnown r d → answerer r d.name d.version ≡ Listener → is_tracked d.kind ≡ false
owner_listener r d ok (inl is) e =
    absurd (let line : Menu ≡ Listener = sym (menu_owner r ok) ∙ (ap (λ (x : RpcDesc). answerer r x.name x.version) (sym is) ∙ e) in cc)
owner_listener r d ok (inr (line, here, same)) e = by_listener (is_offered line.side) (is_tracked d.kind) d (sym (line_owner r d line ok here same) ∙ e) refl
