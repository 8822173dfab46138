-- What two ends said to each other, and what each message that reaches the server does. No bytes, no moments, no closes.
use Rattle.std.specs.Prelude.{ℕ, ◌+◌, ◌*◌, ℤ, pos, Bool, true, false, not, ◌&&◌, List, [], ◌∷◌, ◌++◌, map, filter, length, Option, Some, None, if◌then◌else◌}
use Rattle.std.specs.List.{find, list_any}
use Rattle.std.specs.Str.{bytes_eq}
use Rattle.std.specs.Ordering.{int_eq}
use Rattle.bp_value.specs.declared.value.Value.{Value}
use Rattle.bp_value.specs.declared.value.Sexp.TheVariants as sexp
use Rattle.bp_value.specs.Form.{Form, form_of}
use Rattle.bp_grammar.specs.Written.{written}
use Rattle.rpc_msg.specs.declared.data.StreamQuery.TheVariants as stream
use Rattle.rpc_msg.specs.declared.message.Answer.{Answer}
use Rattle.rpc_msg.specs.declared.message.Answer.TheVariants as answer
use Rattle.rpc_msg.specs.declared.message.RpcError.TheVariants as error
use Rattle.rpc_msg.specs.declared.message.Query.{Query}
use Rattle.rpc_msg.specs.declared.message.Message.{Message}
use Rattle.rpc_msg.specs.declared.message.Message.TheVariants as message
use Rattle.rpc_msg.specs.declared.shared.Limits.{Limits}
use Rattle.rpc_msg.specs.Forms.{stream_query_form}
use Rattle.rpc_msg.specs.Values.{stream_query_value}
use Rattle.rpc_schema.specs.declared.desc.Entry.{Entry}
use Rattle.rpc_schema.specs.declared.desc.Kind.{Kind}
use Rattle.rpc_schema.specs.declared.desc.Kind.TheVariants.{Plain, OneWay, Pipe, State}
use Rattle.rpc_schema.specs.declared.desc.Listing.{Listing}
use Rattle.rpc_schema.specs.declared.desc.RpcDesc.{RpcDesc}
use Rattle.rpc_schema.specs.Choice.{is_offered, menu_shape, menu_value}
use Rattle.rpc_log.specs.Logs.{responses_of}
use Rattle.rpc_talk.specs.Acts.{Act, Reply, Fail, Begin, Decline, Give, End, Stop, answer_by, fitting, is_menu, response, unimplemented}
use Rattle.rpc_talk.specs.Parts.{CallParts, Held, goes_on, held_by, is_ended, is_stream, is_tracked, kind_parts, parts_of}
use Rattle.rpc_talk.specs.Said.{Said}
use Rattle.rpc_talk.specs.Welcome.{Call}
use Rattle.rpc_talk.specs.Said as said

-- ---- what both ends have in common

-- the lines of a schema, the limits, and the menu of those lines
pub record Common : Type 0 where
  pub entries : List Entry
  pub limits : Limits
  pub menu : List Listing

abbrev pub is_entry : List ℕ → ℤ → Entry → Bool
is_entry tag version e = bytes_eq e.desc.name tag && int_eq e.desc.version version

-- the line of this name and version
abbrev pub line_named : List Entry → List ℕ → ℤ → Option Entry
line_named entries tag version = find (is_entry tag version) entries

-- ---- dispatches

-- a dispatch that was made; `cut` is how many parts it had when it was aborted
pub record Dispatch : Type 0 where
  pub label : List ℕ
  pub id : ℤ
  pub desc : RpcDesc
  pub cut : Option ℕ

abbrev pub find_made : ℤ → List Dispatch → Option Dispatch
find_made id made = find (λ (d : Dispatch). int_eq d.id id) made

-- what the answers to a dispatch are read by
abbrev pub called_by : Dispatch → Call
called_by d = record { id = d.id; desc = d.desc }

abbrev pub all_called : List Dispatch → List Call
all_called made = map called_by made

-- Ids: twice the number of tracked dispatches made before; for a one-way one twice the number of one-way ones, plus 1.
abbrev pub is_tracked_dispatch : Dispatch → Bool
is_tracked_dispatch d = is_tracked d.desc.kind

abbrev pub tracked_of : List Dispatch → ℕ
tracked_of made = length (filter is_tracked_dispatch made)

abbrev pub one_ways_of : List Dispatch → ℕ
one_ways_of made = length (filter (λ d. not (is_tracked_dispatch d)) made)

abbrev pub sort_number : Bool → List Dispatch → ℤ
sort_number true made = pos (2 * tracked_of made)
sort_number false made = pos (2 * one_ways_of made + 1)

abbrev pub new_id : List Dispatch → Kind → ℤ
new_id made kind = sort_number (is_tracked kind) made

-- ---- what goes up

-- the data of a query, each number and length in its shortest form; that of a stream holds a text, or says that it is aborted
abbrev pub stream_body : Form → Value → List ℕ
stream_body f v = written stream_query_form (stream_query_value (stream.Query (written f v)))

abbrev pub abort_body : List ℕ
abort_body = written stream_query_form (stream_query_value stream.Abort)

abbrev pub query_body_by : Kind → Form → Value → List ℕ
query_body_by Plain f v = written f v
query_body_by OneWay f v = written f v
query_body_by Pipe f v = stream_body f v
query_body_by State f v = stream_body f v

abbrev pub query_body : RpcDesc → Value → List ℕ
query_body d v = query_body_by d.kind (form_of d.query) v

abbrev pub query_to : RpcDesc → ℤ → List ℕ → Message
query_to d id body = message.Query (record { tag = d.name; version = d.version; id = id; body = body })

abbrev pub query_of : Dispatch → Value → Message
query_of d v = query_to d.desc d.id (query_body d.desc v)

abbrev pub abort_of : Dispatch → Message
abort_of d = query_to d.desc d.id abort_body

-- ---- what a handler says

-- a tracked query that reached the server; `told` is set once an act on it was refused because it was stopped
pub record Served : Type 0 where
  pub id : ℤ
  pub desc : RpcDesc
  pub acts : List Act
  pub told : Bool

abbrev pub find_query : ℤ → List Served → Option Served
find_query id queries = find (λ (q : Served). int_eq q.id id) queries

-- what an act says, as it is read
abbrev pub act_said : Act → Said
act_said (Reply v) = said.Reply v
act_said (Fail text) = said.Failed (error.Uncaught (sexp.Atom text))
act_said (Begin v) = said.Begun v
act_said (Decline v) = said.Declined v
act_said (Give v) = said.Item v
act_said End = said.Eof
act_said Stop = said.Eof

-- the parts and the mark of what was said by these acts
abbrev pub acts_parts : RpcDesc → List Act → CallParts
acts_parts d acts = kind_parts d.kind (map act_said acts)

abbrev pub said_parts : Served → CallParts
said_parts q = acts_parts q.desc q.acts

abbrev pub is_nil : {X : Type 0} → List X → Bool
is_nil [] = true
is_nil (x ∷ xs) = false

abbrev pub goes_on_still : Served → Bool
goes_on_still q = goes_on (said_parts q).mark

abbrev pub is_begun : Served → Bool
is_begun q = not (is_nil (said_parts q).parts)

abbrev pub is_stop : Act → Bool
is_stop (Reply v) = false
is_stop (Fail text) = false
is_stop (Begin v) = false
is_stop (Decline v) = false
is_stop (Give v) = false
is_stop End = false
is_stop Stop = true

-- an abort ended it, and no act on it was refused for that yet
abbrev pub is_stopped : Served → Bool
is_stopped q = list_any is_stop q.acts && not q.told

-- ---- the talk

-- what each end wrote after its header, the dispatches made, and the tracked queries that reached the server
pub record Talk : Type 0 where
  pub ups : List Message
  pub downs : List Message
  pub made : List Dispatch
  pub queries : List Served

abbrev pub first_talk : Talk
first_talk = record { ups = []; downs = []; made = []; queries = [] }

-- Changes of one element, by id.
abbrev pub cut_at : ℤ → ℕ → Dispatch → Dispatch
cut_at id n d = record { label = d.label; id = d.id; desc = d.desc; cut = if int_eq d.id id then Some n else d.cut }

abbrev pub with_act : ℤ → Act → Served → Served
with_act id act q = record { id = q.id; desc = q.desc; acts = if int_eq q.id id then q.acts ++ act ∷ [] else q.acts; told = q.told }

abbrev pub with_told : ℤ → Served → Served
with_told id q = record { id = q.id; desc = q.desc; acts = q.acts; told = if int_eq q.id id then true else q.told }

-- Effects. Each is named, and each touches as few fields as it can.
abbrev pub with_dispatch : Talk → Dispatch → Value → Talk
with_dispatch t d v = record { ups = t.ups ++ query_of d v ∷ []; downs = t.downs; made = t.made ++ d ∷ []; queries = t.queries }

abbrev pub with_abort : Talk → Dispatch → ℕ → Talk
with_abort t d n = record { ups = t.ups ++ abort_of d ∷ []; downs = t.downs; made = map (cut_at d.id n) t.made; queries = t.queries }

abbrev pub with_answer : Talk → Served → Act → Talk
with_answer t q act = record {
  ups = t.ups;
  downs = t.downs ++ response q.id (answer_by q.desc act) ∷ [];
  made = t.made;
  queries = map (with_act q.id act) t.queries;
}

abbrev pub told_stopped : Talk → ℤ → Talk
told_stopped t id = record { ups = t.ups; downs = t.downs; made = t.made; queries = map (with_told id) t.queries }

abbrev pub with_own_answer : Talk → ℤ → Answer → Talk
with_own_answer t id a = record { ups = t.ups; downs = t.downs ++ response id a ∷ []; made = t.made; queries = t.queries }

abbrev pub entered : Talk → Served → Talk
entered t q = record { ups = t.ups; downs = t.downs; made = t.made; queries = t.queries ++ q ∷ [] }

abbrev pub up_beat : Talk → Talk
up_beat t = record { ups = t.ups ++ message.Heartbeat ∷ []; downs = t.downs; made = t.made; queries = t.queries }

abbrev pub down_beat : Talk → Talk
down_beat t = record { ups = t.ups; downs = t.downs ++ message.Heartbeat ∷ []; made = t.made; queries = t.queries }

-- ---- a message that has wholly moved to the server

-- who answers a query that is no abort
pub data Answerer : Type 0 where
  Menu : Answerer
  Nobody : Answerer
  Listener : Answerer
  Handler : RpcDesc → Answerer

abbrev pub answerer_by : Bool → RpcDesc → Answerer
answerer_by false d = Nobody
answerer_by true d = if is_tracked d.kind then Handler d else Listener

abbrev pub answerer_at : Option Entry → Answerer
answerer_at None = Nobody
answerer_at (Some e) = answerer_by (is_offered e.side) e.desc

abbrev pub answerer : Common → List ℕ → ℤ → Answerer
answerer r tag version = if is_menu tag version then Menu else answerer_at (line_named r.entries tag version)

-- the answer to the menu, where it is not too long
abbrev pub menu_answer : Common → ℤ → Answer
menu_answer r id = fitting r.limits.max_message id (answer.Ok (written (form_of menu_shape) (menu_value r.menu)))

abbrev pub nobody_answer : Common → Query → Answer
nobody_answer r q = fitting r.limits.max_message q.id (unimplemented q.tag q.version)

abbrev pub new_query : Query → RpcDesc → Served
new_query q d = record { id = q.id; desc = d; acts = []; told = false }

abbrev pub asked_by : Answerer → Common → Talk → Query → Talk
asked_by Menu r t q = with_own_answer t q.id (menu_answer r q.id)
asked_by Nobody r t q = with_own_answer t q.id (nobody_answer r q)
asked_by Listener r t q = t
asked_by (Handler d) r t q = entered t (new_query q d)

-- an abort of a stream that has begun and has no ending stops it
abbrev pub stops_one : Served → Bool
stops_one q = is_stream q.desc.kind && goes_on_still q && is_begun q

abbrev pub stop_query : Talk → Option Served → Talk
stop_query t None = t
stop_query t (Some q) = if stops_one q then with_answer t q Stop else t

abbrev pub stopped : Talk → ℤ → Talk
stopped t id = stop_query t (find_query id t.queries)

abbrev pub is_stream_at : Option Entry → Bool
is_stream_at None = false
is_stream_at (Some e) = is_stream e.desc.kind

-- the data of a stream's query that says that it is aborted
abbrev pub is_abort_query : List Entry → Query → Bool
is_abort_query entries q = is_stream_at (line_named entries q.tag q.version) && bytes_eq q.body abort_body

abbrev pub query_heard_up : Common → Talk → Query → Talk
query_heard_up r t q = if is_abort_query r.entries q then stopped t q.id else asked_by (answerer r q.tag q.version) r t q

abbrev pub heard_up : Common → Talk → Message → Talk
heard_up r t message.Heartbeat = t
heard_up r t (message.Query q) = query_heard_up r t q
heard_up r t (message.Response a) = t

-- ---- what a dispatch received

-- where these messages came down
abbrev pub parts_in : ℕ → List Message → Dispatch → CallParts
parts_in m come d = parts_of m d.desc (responses_of d.id come)

abbrev pub received : ℕ → List Message → Bool → Dispatch → Held
received m come closed d = held_by (parts_in m come d) d.cut closed

-- the tracked dispatches that have no ending yet, aborted or not
abbrev pub waits_still : ℕ → List Message → Dispatch → Bool
waits_still m come d = is_tracked_dispatch d && not (is_ended (parts_in m come d).mark)

abbrev pub waiting_count : ℕ → List Message → List Dispatch → ℕ
waiting_count m come made = length (filter (waits_still m come) made)

abbrev pub open_queries : List Served → ℕ
open_queries queries = length (filter goes_on_still queries)
