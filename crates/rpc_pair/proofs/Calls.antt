-- What a server does with a query that went up: with a call what its answerer does, and an abort stops what is open.
use Rattle.std.proofs.Common.{◌≡◌, refl, sym, ap, ◌∙◌, subst, ℕ, Bool, true, false, nat_le, if◌then◌else◌, inl, inr}
use Rattle.std.specs.Prelude.{Some, slice_get}
use Rattle.std.specs.List.{position_or_len}
use Rattle.bp_value.specs.declared.value.Value.{Value}
use Rattle.rpc_msg.specs.declared.message.Query.{Query}
use Rattle.rpc_msg.specs.declared.shared.CloseCause.TheVariants as cause
use Rattle.rpc_schema.specs.Choice.{is_offered}
use Rattle.rpc_schema.specs.Entries.{menu_name}
use Rattle.rpc_schema.specs.declared.desc.Entry.{Entry}
use Rattle.rpc_schema.specs.declared.desc.RpcDesc.{RpcDesc}
use Rattle.rpc_talk.specs.Acts.{is_menu, is_served, response}
use Rattle.rpc_talk.specs.Asks.{Asks, Calls, Aborts, asks_in, is_abort}
use Rattle.rpc_talk.specs.Parts.{is_stream, is_tracked}
use Rattle.rpc_meeting.specs.Talks.{Common, Answerer, Menu, Nobody, Listener, Handler, answerer, answerer_at, answerer_by, is_entry, line_named, menu_answer, nobody_answer}
use Rattle.rpc_meeting.proofs.Asking.{found_is}
use Rattle.rpc_meeting.proofs.Calls.{IsKnown}
use Rattle.rpc_meeting.proofs.Carried.{IsAbortTo, IsAsking, IsCallTo}
use Rattle.rpc_meeting.proofs.Lines.{most}
use Rattle.rpc_meeting.proofs.Look.{no_some}
use Rattle.rpc_server.specs.Hearing.{heard_asks, heard_by, heard_menu, heard_new, heard_open, heard_query, heard_some, aborts_some, is_named_by}
use Rattle.rpc_server.specs.declared.hearing.Heard.{Heard}
use Rattle.rpc_server.specs.declared.hearing.Heard.TheVariants as does
use Rattle.rpc_server.specs.declared.table.Standing.TheVariants.{Open}
use Rattle.rpc_pair.specs.Rules.{IsOfSchema, rules_of}
use Rattle.rpc_pair.specs.Stands.{line_place}
use Rattle.rpc_pair.proofs.Places.{owner_line, owner_menu, owner_nobody, place_line}
use Rattle.rpc_pair.proofs.AskReads.{abort_read, call_read, menu_read}
use Rattle.rpc_pair.proofs.Schemas.{schema_ok}
use Rattle.rpc_pair.proofs.Basics.{three_true}

-- by who answers it in the world
abbrev pub call_heard : Answerer → Common → Query → ℕ → Value → Heard
call_heard Menu r q place v = does.Answered (response q.id (menu_answer r q.id))
call_heard Nobody r q place v = does.Answered (response q.id (nobody_answer r q))
call_heard Listener r q place v = does.Noted place v
call_heard (Handler d) r q place v = does.Asked place v

-- there is room where its handler answers it
abbrev pub HasRoom : Answerer → Common → ℕ → Type 0
HasRoom Menu r count = Unit {0}
HasRoom Nobody r count = Unit {0}
HasRoom Listener r count = Unit {0}
HasRoom (Handler d) r count = nat_le r.limits.max_open count ≡ false

module _ (r : Common) (is : IsOfSchema r) (q : Query) (a : IsAsking r q) where
  -- the line of its name and version, where it is no menu
  pub line_here : (e : Entry) → line_named r.entries a.desc.name a.desc.version ≡ Some e → line_named r.entries q.tag q.version ≡ Some e
  line_here e here = ap (λ n. line_named r.entries n q.version) a.tag ∙ (ap (line_named r.entries a.desc.name) a.version ∙ here)

  no_menu : (e : Entry) → line_named r.entries q.tag q.version ≡ Some e → is_menu q.tag q.version ≡ false
  no_menu e here = by (is_menu q.tag q.version) refl
    where
      by : (b : Bool) → is_menu q.tag q.version ≡ b → b ≡ false
      by true menu = absurd (no_some e (sym ((schema_ok r is).menu q.tag q.version menu) ∙ here))
      by false other = refl

  place_same : position_or_len (is_served q.tag q.version) r.entries ≡ line_place r.entries a.desc
  place_same = ap (λ n. position_or_len (is_served n q.version) r.entries) a.tag ∙ ap (λ v. position_or_len (is_served a.desc.name v) r.entries) a.version

  -- who answers a line, in the world
  pub line_answerer : (e : Entry) → line_named r.entries q.tag q.version ≡ Some e → answerer r q.tag q.version ≡ answerer_by (is_offered e.side) e.desc
  line_answerer e here = ap (λ b. if b then Menu else answerer_at (line_named r.entries q.tag q.version)) (no_menu e here) ∙ ap answerer_at here

  -- what the server does with a query to a line that is answered, by what it reads
  line_heard : (count : ℕ) (e : Entry) (asks : Asks) → line_named r.entries q.tag q.version ≡ Some e → e.desc ≡ a.desc → is_offered e.side ≡ true → asks_in (most r) a.desc q.body ≡ asks
      → heard_new (rules_of r) count q ≡ heard_asks (is_tracked e.desc.kind) (rules_of r) count q.id (line_place r.entries a.desc) asks
  line_heard count e asks here is_desc offered reads =
      let place = position_or_len (is_served q.tag q.version) r.entries in
      ap (heard_by (rules_of r) count q) (owner_line r.entries q.tag q.version e here offered (no_menu e here))
      ∙ (ap (heard_some (rules_of r) count q place) (place_line r.entries q.tag q.version e here offered)
      ∙ (ap (λ d. heard_asks (is_tracked e.desc.kind) (rules_of r) count q.id place (asks_in (most r) d q.body)) is_desc
      ∙ (ap (heard_asks (is_tracked e.desc.kind) (rules_of r) count q.id place) reads
      ∙ ap (λ p. heard_asks (is_tracked e.desc.kind) (rules_of r) count q.id p asks) place_same)))

  -- ---- a call

  module _ (call : IsCallTo r a.desc q) (count : ℕ) where
    abbrev does_as : Answerer → Heard
    does_as o = call_heard o r q (line_place r.entries a.desc) call.0

    offered_heard : (tracked : Bool) (d : RpcDesc) → HasRoom (if tracked then Handler d else Listener) r count
        → heard_asks tracked (rules_of r) count q.id (line_place r.entries a.desc) (Calls call.0) ≡ does_as (if tracked then Handler d else Listener)
    offered_heard true d room = ap (λ b. if b then does.Faulty (cause.TooManyOpen r.limits.max_open) else does.Asked (line_place r.entries a.desc) call.0) room
    offered_heard false d room = refl

    entry_heard : (e : Entry) → line_named r.entries q.tag q.version ≡ Some e → e.desc ≡ a.desc → (b : Bool) → is_offered e.side ≡ b
        → HasRoom (answerer_by b e.desc) r count → heard_new (rules_of r) count q ≡ does_as (answerer_by b e.desc)
    entry_heard e here is_desc true offered room =
        line_heard count e (Calls call.0) here is_desc offered (call_read r is a.desc q a.known call) ∙ offered_heard (is_tracked e.desc.kind) e.desc room
    entry_heard e here is_desc false not_offered room =
        ap (heard_by (rules_of r) count q) (owner_nobody r.entries q.tag q.version is.entries.apart (no_menu e here) (Some e) here not_offered)

    known_heard : IsKnown r a.desc → HasRoom (answerer r q.tag q.version) r count → heard_new (rules_of r) count q ≡ does_as (answerer r q.tag q.version)
    known_heard (inl menu) room =
        let is_one : is_menu q.tag q.version ≡ true
        = ap (λ n. is_menu n q.version) (a.tag ∙ ap (λ (d : RpcDesc). d.name) menu)
        ∙ (ap (is_menu menu_name) (a.version ∙ ap (λ (d : RpcDesc). d.version) menu) ∙ (schema_ok r is).own) in
        let answers : answerer r q.tag q.version ≡ Menu = ap (λ b. if b then Menu else answerer_at (line_named r.entries q.tag q.version)) is_one in
        ap (heard_by (rules_of r) count q) (owner_menu r.entries q.tag q.version is_one)
        ∙ (ap (heard_menu (rules_of r) q.id) (menu_read r is a.desc q menu call) ∙ ap does_as (sym answers))
    known_heard (inr (e, here, is_desc)) room =
        let there = line_here e here in
        let answers = line_answerer e there in
        entry_heard e there is_desc (is_offered e.side) refl (subst (λ o. HasRoom o r count) answers room) ∙ ap does_as (sym answers)

    -- what the server does with it is what the world's answerer does
    pub new_heard : HasRoom (answerer r q.tag q.version) r count → heard_new (rules_of r) count q ≡ does_as (answerer r q.tag q.version)
    new_heard room = known_heard a.known room

  -- ---- an abort

  module _ (abort : IsAbortTo a.desc q) (count : ℕ) (e : Entry) (here : line_named r.entries a.desc.name a.desc.version ≡ Some e) (is_desc : e.desc ≡ a.desc)
      (offered : is_offered e.side ≡ true) where
    -- nothing is done where its query is over
    pub over_heard : heard_new (rules_of r) count q ≡ does.Ignored
    over_heard = line_heard count e Aborts (line_here e here) is_desc offered (abort_read r is a.desc q a.known abort)

    aborts_here : aborts_some (most r) q (slice_get r.entries (line_place r.entries a.desc)) ≡ true
    aborts_here =
        ap (λ p. aborts_some (most r) q (slice_get r.entries p)) (sym place_same)
        ∙ (ap (aborts_some (most r) q) (place_line r.entries q.tag q.version e (line_here e here) offered)
        ∙ three_true (is_stream e.desc.kind) (is_named_by q e) (is_abort (asks_in (most r) e.desc q.body)) (ap (λ (d : RpcDesc). is_stream d.kind) is_desc ∙ abort.0)
        (found_is (is_entry q.tag q.version) r.entries e (line_here e here))
        (ap (λ d. is_abort (asks_in (most r) d q.body)) is_desc ∙ ap is_abort (abort_read r is a.desc q a.known abort)))

    -- and it stops one that has begun
    pub stop_heard : heard_query (rules_of r) (Open (line_place r.entries a.desc) true) count q ≡ does.Stopped
    stop_heard = ap (λ b. heard_open b true q.id) aborts_here
