-- What each message on its way is: up go queries with values of their shapes and aborts of streams, down what handlers say and what the
-- server answers by itself.
use Rattle.std.proofs.Common.{◌≡◌, refl, sym, ap, ◌∙◌, subst, ℕ, ℤ, Bool, true, false, if◌then◌else◌, List, [], ◌∷◌, ◌++◌, ◌⊎◌, inl, inr}
use Rattle.std.specs.Prelude.{Option, Some, None, fold}
use Rattle.std.specs.List.{cons_option}
use Rattle.std.specs.Ordering.{int_eq}
use Rattle.readers.specs.Reader.{Each}
use Rattle.bp_grammar.specs.Written.{written}
use Rattle.bp_value.specs.Fits.{Fits, InRange}
use Rattle.bp_value.specs.Form.{form_of}
use Rattle.bp_value.specs.declared.value.Value.{Value}
use Rattle.rpc_msg.specs.declared.message.Answer.TheVariants as answer
use Rattle.rpc_msg.specs.declared.message.Query.{Query}
use Rattle.rpc_msg.specs.declared.message.Response.{Response}
use Rattle.rpc_msg.specs.declared.message.Message.{Message}
use Rattle.rpc_msg.specs.declared.message.Message.TheVariants as message
use Rattle.rpc_schema.specs.declared.desc.RpcDesc.{RpcDesc}
use Rattle.rpc_schema.specs.Choice.{menu_shape, menu_value}
use Rattle.rpc_talk.specs.Acts.{Act, answer_by, fitting, is_short, response, unimplemented}
use Rattle.rpc_talk.specs.Acts as acts
use Rattle.rpc_talk.specs.Parts.{is_stream}
use Rattle.rpc_meeting.specs.Steps.{may_be_long}
use Rattle.rpc_meeting.specs.Talks.{Common, Dispatch, Served, Talk, Answerer, Menu, Nobody, Listener, Handler, abort_body, answerer, asked_by, down_beat, find_query, heard_up, is_abort_query, query_body, query_of, stop_query, stopped, stops_one, told_stopped, up_beat, with_abort, with_answer, with_dispatch}
use Rattle.rpc_meeting.proofs.Calls.{Ask, IsKnown, ask_by, asks_of}
use Rattle.rpc_meeting.proofs.Lines.{most}
use Rattle.rpc_meeting.proofs.Look.{each_push, find_key, same}
use Rattle.rpc_meeting.proofs.Sound.{query_key}

-- ---- what goes up

-- its data is that of a value of the shape; its message was short enough
abbrev pub IsCallTo : Common → RpcDesc → Query → Type 0
IsCallTo r d q = (v : Value) × Fits (most r) (form_of d.query) v × (q.body ≡ query_body d v) × (is_short (most r) (message.Query q) ≡ true)

-- it aborts a stream
abbrev pub IsAbortTo : RpcDesc → Query → Type 0
IsAbortTo d q = (is_stream d.kind ≡ true) × (q.body ≡ abort_body)

-- a query of a procedure that the client knows
pub record IsAsking (r : Common) (q : Query) : Type 0 where
  pub desc : RpcDesc
  pub known : IsKnown r desc
  pub tag : q.tag ≡ desc.name
  pub version : q.version ≡ desc.version
  pub id : InRange 62 q.id
  pub says : IsCallTo r desc q ⊎ IsAbortTo desc q

-- a heartbeat, or a query of the client
abbrev pub IsUp : Common → Message → Type 0
IsUp r message.Heartbeat = Unit {0}
IsUp r (message.Query q) = IsAsking r q
IsUp r (message.Response a) = ⊥

-- ---- what goes down

-- what an act says; only an end of a stream was not looked at for its length
abbrev pub IsOfAct : Common → Response → Type 0
IsOfAct r a = (d : RpcDesc) × (act : Act) × (a.result ≡ answer_by d act) × (may_be_long act ≡ true → is_short (most r) (message.Response a) ≡ true)

-- the data of the menu, and that nobody has a procedure
abbrev pub IsOfMenu : Common → Response → Type 0
IsOfMenu r a = (bytes : List ℕ) × (a.result ≡ fitting (most r) a.id (answer.Ok bytes))

-- that nobody has a procedure which the client knows
abbrev pub IsOfNobody : Common → Response → Type 0
IsOfNobody r a = (d : RpcDesc) × IsKnown r d × (a.result ≡ fitting (most r) a.id (unimplemented d.name d.version))

-- a heartbeat, or an answer under an id that a query had
abbrev pub IsDown : Common → Message → Type 0
IsDown r message.Heartbeat = Unit {0}
IsDown r (message.Query q) = ⊥
IsDown r (message.Response a) = InRange 62 a.id × (IsOfAct r a ⊎ (IsOfMenu r a ⊎ IsOfNobody r a))

-- all that goes up and all that goes down is so
pub record AreCarried (r : Common) (t : Talk) : Type 0 where
  pub ups : Each (IsUp r) t.ups
  pub downs : Each (IsDown r) t.downs

-- ---- one of them

-- the next one that comes
pub next_each : (P : Message → Type 0) (came rest : List Message) (a : Message) → Each P (came ++ a ∷ rest) → P a
next_each P [] rest a all = all.0
next_each P (b ∷ came) rest a all = next_each P came rest a all.1

-- an id that is asked with is in range
pub asked_range : (r : Common) (id : ℤ) (log : List Message) (x : Ask) (xs : List Ask) → Each (IsUp r) log → asks_of r.entries id log ≡ x ∷ xs → InRange 62 id
asked_range r id [] x xs all e = absurd cc
asked_range r id (message.Heartbeat ∷ log) x xs all e = asked_range r id log x xs all.1 e
asked_range r id (message.Response a ∷ log) x xs all e = absurd all.0
asked_range r id (message.Query q ∷ log) x xs all e = by (int_eq q.id id) refl e (asked_range r id log x xs all.1)
  where
    by : (b : Bool) → int_eq q.id id ≡ b → cons_option (if b then Some (ask_by (is_abort_query r.entries q) q.tag q.version) else None) (asks_of r.entries id log) ≡ x ∷ xs
        → (asks_of r.entries id log ≡ x ∷ xs → InRange 62 id) → InRange 62 id
    by true at e later = subst (InRange 62) (same q.id id at) all.0.id
    by false at e later = later e

-- ---- each effect on the talk

module _ (r : Common) (t : Talk) (c : AreCarried r t) where
  -- a dispatch: its query goes up
  pub carried_dispatched : (d : Dispatch) (v : Value) → IsKnown r d.desc → InRange 62 d.id → Fits (most r) (form_of d.desc.query) v
      → is_short (most r) (query_of d v) ≡ true → AreCarried r (with_dispatch t d v)
  carried_dispatched d v known id fits short = record {
    ups = each_push (IsUp r) t.ups (query_of d v) c.ups
        (record { desc = d.desc; known = known; tag = refl; version = refl; id = id; says = inl (v, fits, refl, short) });
    downs = c.downs;
  }

  -- an abort of a stream goes up
  pub carried_aborted : (d : Dispatch) (n : ℕ) → IsKnown r d.desc → InRange 62 d.id → is_stream d.desc.kind ≡ true → AreCarried r (with_abort t d n)
  carried_aborted d n known id stream = record {
    ups = each_push (IsUp r) t.ups _ c.ups
        (record { desc = d.desc; known = known; tag = refl; version = refl; id = id; says = inr (stream, refl) });
    downs = c.downs;
  }

  -- what an act says goes down, where it is short or the end of a stream
  pub carried_acted : (q : Served) (act : Act) → InRange 62 q.id → (may_be_long act ≡ true → is_short (most r) (response q.id (answer_by q.desc act)) ≡ true)
      → AreCarried r (with_answer t q act)
  carried_acted q act id short = record {
    ups = c.ups;
    downs = each_push (IsDown r) t.downs (response q.id (answer_by q.desc act)) c.downs (id, inl (q.desc, act, refl, short));
  }

  -- an act was refused because its query was stopped: nothing goes out
  pub carried_told : (id : ℤ) → AreCarried r (told_stopped t id)
  carried_told id = record { ups = c.ups; downs = c.downs }

  -- a heartbeat goes up, or down
  pub carried_up_beat : AreCarried r (up_beat t)
  carried_up_beat = record { ups = each_push (IsUp r) t.ups message.Heartbeat c.ups tt; downs = c.downs }

  pub carried_down_beat : AreCarried r (down_beat t)
  carried_down_beat = record { ups = c.ups; downs = each_push (IsDown r) t.downs message.Heartbeat c.downs tt }

  -- ---- a message comes to the server

  carried_asked : (q : Query) → IsAsking r q → (o : Answerer) → AreCarried r (asked_by o r t q)
  carried_asked q is Menu = record {
    ups = c.ups;
    downs = each_push (IsDown r) t.downs _ c.downs (is.id, inr (inl (written (form_of menu_shape) (menu_value r.menu), refl)));
  }
  carried_asked q is Nobody = record {
    ups = c.ups;
    downs = each_push (IsDown r) t.downs _ c.downs (
      is.id,
      inr (inr (
        is.desc,
        is.known,
        ap (λ x. fitting (most r) q.id (unimplemented x q.version)) is.tag ∙ ap (λ x. fitting (most r) q.id (unimplemented is.desc.name x)) is.version,
      )),
    );
  }
  carried_asked q is Listener = c
  carried_asked q is (Handler desc) = record { ups = c.ups; downs = c.downs }

  carried_stopped : (id : ℤ) → InRange 62 id → (o : Option Served) → find_query id t.queries ≡ o → AreCarried r (stop_query t o)
  carried_stopped id within None here = c
  carried_stopped id within (Some p) here = by (stops_one p)
    where
      by : (b : Bool) → AreCarried r (if b then with_answer t p acts.Stop else t)
      by true = carried_acted p acts.Stop (subst (InRange 62) (sym (find_key query_key id t.queries p here)) within) (λ e. absurd cc)
      by false = c

  -- any message that goes up: what the server says to it goes down
  pub carried_heard : (a : Message) → IsUp r a → AreCarried r (heard_up r t a)
  carried_heard message.Heartbeat is = c
  carried_heard (message.Response a) is = absurd is
  carried_heard (message.Query q) is = by (is_abort_query r.entries q)
    where
      by : (b : Bool) → AreCarried r (if b then stopped t q.id else asked_by (answerer r q.tag q.version) r t q)
      by true = carried_stopped q.id is.id (find_query q.id t.queries) refl
      by false = carried_asked q is (answerer r q.tag q.version)

each_behind : (P : Message → Type 0) (came rest : List Message) → Each P (came ++ rest) → Each P rest
each_behind P [] rest all = all
each_behind P (a ∷ came) rest all = each_behind P came rest all.1

each_front : (P : Message → Type 0) (log rest : List Message) → Each P (log ++ rest) → Each P log
each_front P [] rest all = tt
each_front P (a ∷ log) rest all = (all.0, each_front P log rest all.1)

-- some messages, one after the other
pub carried_all : (r : Common) (t : Talk) (came log rest : List Message) → came ++ (log ++ rest) ≡ t.ups → AreCarried r t → AreCarried r (fold (heard_up r) t log)
carried_all r t came log rest cut c = by t log c (each_front (IsUp r) log rest (each_behind (IsUp r) came (log ++ rest) (subst (Each (IsUp r)) (sym cut) c.ups)))
  where
    by : (t : Talk) (log : List Message) → AreCarried r t → Each (IsUp r) log → AreCarried r (fold (heard_up r) t log)
    by t [] c all = c
    by t (a ∷ log) c all = by (heard_up r t a) log (carried_heard r t c a all.0) all.1
