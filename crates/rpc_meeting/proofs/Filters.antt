-- What a log asks and answers with an id, and how that grows with the log.
use Rattle.std.proofs.Common.{◌≡◌, refl, ap, ◌∙◌, ℤ, false, if◌then◌else◌, List, [], ◌∷◌, ◌++◌}
use Rattle.std.specs.Prelude.{Option, Some, None}
use Rattle.std.specs.List.{filter_map, cons_option}
use Rattle.std.specs.Ordering.{int_eq}
use Rattle.std.proofs.lemmas.List.{append-nil}
use Rattle.std.proofs.lemmas.List.Elements.{filter_map-append}
use Rattle.rpc_msg.specs.declared.message.Answer.{Answer}
use Rattle.rpc_msg.specs.declared.message.Query.{Query}
use Rattle.rpc_msg.specs.declared.message.Message.{Message}
use Rattle.rpc_msg.specs.declared.message.Message.TheVariants as message
use Rattle.rpc_schema.specs.declared.desc.Entry.{Entry}
use Rattle.rpc_log.specs.Logs.{response_for, responses_of}
use Rattle.rpc_talk.specs.Acts.{response}
use Rattle.rpc_meeting.specs.Talks.{is_abort_query}
use Rattle.rpc_meeting.proofs.Calls.{ask_by, ask_for, asks_of}
use Rattle.rpc_meeting.proofs.Look.{itself}

one : {X : Type 0} (f : Message → Option X) (a : Message) (o : Option X) → f a ≡ o → filter_map f (a ∷ []) ≡ cons_option o []
one f a o e = ap (λ x. cons_option x []) e

grows : {X : Type 0} (f : Message → Option X) (log : List Message) (a : Message) (o : Option X) → f a ≡ o → filter_map f (log ++ a ∷ []) ≡ filter_map f log ++ cons_option o []
grows f log a o e = filter_map-append f log (a ∷ []) ∙ ap (λ xs. filter_map f log ++ xs) (one f a o e)

stays : {X : Type 0} (f : Message → Option X) (log : List Message) (a : Message) → f a ≡ None → filter_map f (log ++ a ∷ []) ≡ filter_map f log
stays f log a e = grows f log a None e ∙ append-nil (filter_map f log)

-- ---- answers

pub answers_same : (id : ℤ) (log : List Message) (a : Answer) → responses_of id (log ++ response id a ∷ []) ≡ responses_of id log ++ a ∷ []
answers_same id log a = grows (response_for id) log (response id a) (Some a) (ap (λ b. if b then Some a else None) (itself id))

pub answers_other : (id i : ℤ) (log : List Message) (a : Answer) → int_eq i id ≡ false → responses_of id (log ++ response i a ∷ []) ≡ responses_of id log
answers_other id i log a e = stays (response_for id) log (response i a) (ap (λ b. if b then Some a else None) e)

pub answers_beat : (id : ℤ) (log : List Message) → responses_of id (log ++ message.Heartbeat ∷ []) ≡ responses_of id log
answers_beat id log = stays (response_for id) log message.Heartbeat refl

-- ---- asks

pub asks_same : (es : List Entry) (id : ℤ) (log : List Message) (q : Query) → q.id ≡ id → asks_of es id (log ++ message.Query q ∷ []) ≡ asks_of es id log ++ ask_by (is_abort_query es q) q.tag q.version ∷ []
asks_same es id log q e =
    grows (ask_for es id) log (message.Query q) (Some (ask_by (is_abort_query es q) q.tag q.version))
    (ap (λ i. if int_eq i id then Some (ask_by (is_abort_query es q) q.tag q.version) else None) e
    ∙ ap (λ b. if b then Some (ask_by (is_abort_query es q) q.tag q.version) else None) (itself id))

pub asks_other : (es : List Entry) (id : ℤ) (log : List Message) (q : Query) → int_eq q.id id ≡ false → asks_of es id (log ++ message.Query q ∷ []) ≡ asks_of es id log
asks_other es id log q e = stays (ask_for es id) log (message.Query q) (ap (λ b. if b then Some (ask_by (is_abort_query es q) q.tag q.version) else None) e)

pub asks_beat : (es : List Entry) (id : ℤ) (log : List Message) → asks_of es id (log ++ message.Heartbeat ∷ []) ≡ asks_of es id log
asks_beat es id log = stays (ask_for es id) log message.Heartbeat refl

pub asks_response : (es : List Entry) (id : ℤ) (log : List Message) (a : Message) → ask_for es id a ≡ None → asks_of es id (log ++ a ∷ []) ≡ asks_of es id log
asks_response es id log a e = stays (ask_for es id) log a e

-- ---- the parts of a log

pub asks_join : (es : List Entry) (id : ℤ) (log later : List Message) → asks_of es id (log ++ later) ≡ asks_of es id log ++ asks_of es id later
asks_join es id log later = filter_map-append (ask_for es id) log later

pub answers_join : (id : ℤ) (log later : List Message) → responses_of id (log ++ later) ≡ responses_of id log ++ responses_of id later
answers_join id log later = filter_map-append (response_for id) log later
