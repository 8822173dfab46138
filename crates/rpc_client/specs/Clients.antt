-- What is seen of a client, and what each of its calls does.
use Rattle.std.specs.Prelude.{◌≡◌, ℕ, ◌+◌, ◌*◌, ◌≤◌, ◌<◌, ◌^◌, ℤ, Bool, true, false, not, ◌&&◌, nat_le, List, [], ◌∷◌, ◌++◌, length, Option, Some, None, Result, Ok, Err, ◌⊎◌, if◌then◌else◌}
use Rattle.std.specs.List.{count_by}
use Rattle.std.specs.Option.{is_some, is_none}
use Rattle.bp_grammar.specs.Written.{written}
use Rattle.bp_value.specs.declared.value.Value.{Value}
use Rattle.bp_value.specs.Fits.{Fits}
use Rattle.bp_value.specs.Form.{form_of}
use Rattle.rpc_msg.specs.declared.data.StreamQuery.TheVariants as stream
use Rattle.rpc_msg.specs.declared.message.Message.{Message}
use Rattle.rpc_msg.specs.declared.message.Message.TheVariants as message
use Rattle.rpc_msg.specs.declared.message.Query.{Query}
use Rattle.rpc_msg.specs.declared.shared.CloseCause.{CloseCause}
use Rattle.rpc_msg.specs.declared.shared.Ending.{Ending}
use Rattle.rpc_msg.specs.declared.shared.FeedError.{FeedError}
use Rattle.rpc_msg.specs.declared.shared.FeedError.TheVariants as feed
use Rattle.rpc_msg.specs.declared.shared.Limits.{Limits}
use Rattle.rpc_msg.specs.declared.shared.Received.{Received}
use Rattle.rpc_msg.specs.declared.shared.Ticket.{Ticket}
use Rattle.rpc_msg.specs.Forms.{stream_query_form}
use Rattle.rpc_msg.specs.Limits.{AreLimits}
use Rattle.rpc_msg.specs.Values.{stream_query_value}
use Rattle.rpc_schema.specs.declared.desc.RpcDesc.{RpcDesc}
use Rattle.rpc_talk.specs.Acts.{fitting, is_short, response, unimplemented}
use Rattle.rpc_talk.specs.Parts.{is_stream, is_tracked, unless_closed}
use Rattle.rpc_end.specs.Ends.{EndState, first_end, heard, is_closed, is_link_open, said, shut}
use Rattle.rpc_end.specs.Taking.{taken_back, IsNextOf}
use Rattle.rpc_end.specs.declared.end.Got.{Got}
use Rattle.rpc_end.specs.declared.end.Next.{Next}
use Rattle.rpc_end.specs.declared.end.Next.TheVariants as next
use Rattle.rpc_client.specs.declared.error.AbortError.{AbortError}
use Rattle.rpc_client.specs.declared.error.AbortError.TheVariants as refused
use Rattle.rpc_client.specs.declared.error.DispatchError.{DispatchError}
use Rattle.rpc_client.specs.declared.error.DispatchError.TheVariants as dispatch
use Rattle.rpc_client.specs.declared.entry.Took.{Took}
use Rattle.rpc_client.specs.Rows.{Row, new_row}
use Rattle.rpc_client.specs.Tables.{find_row, is_waited_for, next_call_id, next_number, call_query, query_data, refusal_at, rows_heard, AbortsIn, ShownOf, TakesRow}

-- the limits; the calls that were made, in order; the end of the connection
pub record ClientState : Type 0 where
  pub limits : Limits
  pub rows : List Row
  pub link : EndState

-- what every client keeps
pub record IsClient (bounds : Limits) (rows : List Row) (e : EndState) : Type 0 where
  pub ranges : AreLimits bounds
  pub max : e.max ≡ bounds.max_message

abbrev pub first_client : Limits → ℕ → ClientState
first_client limits now = record { limits = limits; rows = []; link = first_end limits now }

abbrev pub with_link : ClientState → EndState → ClientState
with_link c e = record c { link = e }

abbrev pub with_rows : ClientState → List Row → ClientState
with_rows c rows = record c { rows = rows }

-- ---- what a message does

-- the rows behind it, what the client says, and why it closes
pub record Hearing : Type 0 where
  pub rows : List Row
  pub answer : Option Message
  pub cause : Option CloseCause

abbrev pub quiet : List Row → Hearing
quiet rows = record { rows = rows; answer = None; cause = None }

abbrev pub by_rows : List Row → Result (List Row) CloseCause → Hearing
by_rows rows (Ok new) = quiet new
by_rows rows (Err why) = record { rows = rows; answer = None; cause = Some why }

-- that a client has no procedure of this name and version, or that this is too long to say
abbrev pub no_procedure : ℕ → Query → Message
no_procedure m q = response q.id (fitting m q.id (unimplemented q.tag q.version))

abbrev pub hearing : ℕ → List Row → Message → Hearing
hearing m rows message.Heartbeat = quiet rows
hearing m rows (message.Query q) = record { rows = rows; answer = Some (no_procedure m q); cause = None }
hearing m rows (message.Response r) = by_rows rows (rows_heard m rows r.id r.result)

abbrev pub answering : EndState → Option Message → EndState
answering e None = e
answering e (Some a) = said e a

abbrev pub closed_for : EndState → Option CloseCause → EndState
closed_for e None = e
closed_for e (Some why) = shut e why

-- the end behind a message that came
abbrev pub end_behind : EndState → ℕ → Hearing → EndState
end_behind e now h = closed_for (heard (answering e h.answer) now) h.cause

abbrev pub client_behind : ClientState → EndState → ℕ → Hearing → ClientState
client_behind c e now h = record c { rows = h.rows; link = end_behind e now h }

abbrev pub fed : ℕ → Option CloseCause → Result ℕ FeedError
fed used None = Ok used
fed used (Some why) = Err (feed.Closed why)

-- ---- a feed

-- the end took no message: a part of a frame or the header, or what closes it
abbrev pub PassesOn : ClientState → List ℕ → ℕ → Result ℕ FeedError → ClientState → Type 0
PassesOn old piece now (Ok used) new = IsNextOf old.link piece now (Ok (next.Part used)) new.link × (new ≡ with_link old new.link)
PassesOn old piece now (Err why) new = IsNextOf old.link piece now (Err why) new.link × (new ≡ with_link old new.link)

-- it took a message, which was heard
pub record HearsOne (old : ClientState) (piece : List ℕ) (now : ℕ) (answer : Result ℕ FeedError) (new : ClientState) : Type 0 where
  pub got : Got
  pub behind : EndState
  pub took : IsNextOf old.link piece now (Ok (next.Message got)) behind
  pub answer_is : answer ≡ fed got.used (hearing old.limits.max_message old.rows got.message).cause
  pub new_is : new ≡ client_behind old behind now (hearing old.limits.max_message old.rows got.message)

abbrev pub IsClientFed : ClientState → List ℕ → ℕ → Result ℕ FeedError → ClientState → Type 0
IsClientFed old piece now answer new = PassesOn old piece now answer new ⊎ HearsOne old piece now answer new

-- what was heard of a message: the rows, and the answer to it that goes out
abbrev pub with_hearing : ClientState → Hearing → ClientState
with_hearing c h = record c { rows = h.rows; link = answering c.link h.answer }

-- a message that came was heard, or its bytes were given back
abbrev pub TakesIn : ClientState → Got → ℕ → Result ℕ FeedError → ClientState → Type 0
TakesIn old got now (Err feed.OutOfMemory) new = new ≡ with_link old (taken_back old.link got)
TakesIn old got now (Err (feed.Closed why)) new =
    (Err (feed.Closed why) ≡ fed got.used (hearing old.limits.max_message old.rows got.message).cause)
    × (new ≡ client_behind old old.link now (hearing old.limits.max_message old.rows got.message))
TakesIn old got now (Ok used) new =
    (Ok used ≡ fed got.used (hearing old.limits.max_message old.rows got.message).cause)
    × (new ≡ client_behind old old.link now (hearing old.limits.max_message old.rows got.message))

-- ---- a dispatch

-- the message of the next call
abbrev pub next_query : ClientState → RpcDesc → Value → Message
next_query c d v = call_query d (next_call_id d.kind c.rows) (query_data d v)

-- as many calls wait for an answer as may, and the next would too
abbrev pub is_full : ClientState → RpcDesc → Bool
is_full c d = is_tracked d.kind && nat_le c.limits.max_open (count_by is_waited_for c.rows)

-- what a dispatch asks for, one after the other: an open end, a value that fits, a message that is short enough, room, and an id
abbrev pub CanAsk : ClientState → RpcDesc → Value → Type 0
CanAsk c d v = (is_link_open c.link ≡ true) × Fits c.limits.max_message (form_of d.query) v

abbrev pub CanSay : ClientState → RpcDesc → Value → Type 0
CanSay c d v = CanAsk c d v × (is_short c.limits.max_message (next_query c d v) ≡ true)

abbrev pub CanKeep : ClientState → RpcDesc → Value → Type 0
CanKeep c d v = CanSay c d v × (is_full c d ≡ false)

abbrev pub HasId : ClientState → RpcDesc → Value → Type 0
HasId c d v = CanKeep c d v × (next_number d.kind c.rows ≤ 2 ^ 61)

-- the first of these that is not there
abbrev pub RefusesCall : ClientState → RpcDesc → Value → DispatchError → Type 0
RefusesCall c d v dispatch.Closed = is_closed c.link ≡ true
RefusesCall c d v dispatch.NotOpen = (is_closed c.link ≡ false) × (c.link.greeted ≡ false)
RefusesCall c d v dispatch.BadValue = (is_link_open c.link ≡ true) × (Fits c.limits.max_message (form_of d.query) v → ⊥)
RefusesCall c d v (dispatch.TooLong most) = CanAsk c d v × (is_short c.limits.max_message (next_query c d v) ≡ false) × (most ≡ c.limits.max_message)
RefusesCall c d v (dispatch.TooManyOpen count) = CanSay c d v × (is_full c d ≡ true) × (count ≡ c.limits.max_open)
RefusesCall c d v (dispatch.IdsSpent id) = CanKeep c d v × (2 ^ 61 < next_number d.kind c.rows) × (id ≡ next_call_id d.kind c.rows)
RefusesCall c d v dispatch.OutOfMemory = Unit {0}

-- the query of the next call is too long, or memory ran out
abbrev pub IsLong : ClientState → RpcDesc → Value → DispatchError → Type 0
IsLong c d v dispatch.Closed = ⊥
IsLong c d v dispatch.NotOpen = ⊥
IsLong c d v dispatch.BadValue = ⊥
IsLong c d v (dispatch.TooLong most) = (is_short c.limits.max_message (next_query c d v) ≡ false) × (most ≡ c.limits.max_message)
IsLong c d v (dispatch.TooManyOpen count) = ⊥
IsLong c d v (dispatch.IdsSpent id) = ⊥
IsLong c d v dispatch.OutOfMemory = Unit {0}

-- there is room for one more call, and an id
abbrev pub IsRoom : ClientState → RpcDesc → Result (Unit {0}) DispatchError → Type 0
IsRoom c d (Ok u) = (is_full c d ≡ false) × (next_number d.kind c.rows ≤ 2 ^ 61)
IsRoom c d (Err dispatch.Closed) = ⊥
IsRoom c d (Err dispatch.NotOpen) = ⊥
IsRoom c d (Err dispatch.BadValue) = ⊥
IsRoom c d (Err (dispatch.TooLong most)) = ⊥
IsRoom c d (Err (dispatch.TooManyOpen count)) = (is_full c d ≡ true) × (count ≡ c.limits.max_open)
IsRoom c d (Err (dispatch.IdsSpent id)) = (is_full c d ≡ false) × (2 ^ 61 < next_number d.kind c.rows) × (id ≡ next_call_id d.kind c.rows)
IsRoom c d (Err dispatch.OutOfMemory) = ⊥

-- one more call, whose query goes out
abbrev pub with_call : ClientState → RpcDesc → Message → ClientState
with_call c d query = record c { rows = c.rows ++ new_row (next_call_id d.kind c.rows) d ∷ []; link = said c.link query }

abbrev pub after_dispatch : ClientState → RpcDesc → Value → ClientState
after_dispatch c d v = with_call c d (next_query c d v)

abbrev pub IsDispatched : ClientState → RpcDesc → Value → Result Ticket DispatchError → ClientState → Type 0
IsDispatched old d v (Ok ticket) new = HasId old d v × (ticket.id ≡ next_call_id d.kind old.rows) × (new ≡ after_dispatch old d v)
IsDispatched old d v (Err why) new = RefusesCall old d v why × (new ≡ old)

-- ---- what is taken, and what is there

abbrev pub TakesCall : ClientState → ℤ → Took → ClientState → Type 0
TakesCall old id answer new = TakesRow (is_closed old.link) old.rows id answer new.rows × (new ≡ with_rows old new.rows)

-- what is shown of the call with an id
abbrev pub ShowsCall : ClientState → ℤ → Option Received → Type 0
ShowsCall c id shown = ShownOf (unless_closed (is_closed c.link)) (find_row id c.rows) shown

-- ---- aborts

abbrev pub RefusesAbort : ClientState → ℤ → AbortError → Type 0
RefusesAbort c id refused.Closed = is_closed c.link ≡ true
RefusesAbort c id refused.Stranger = (is_closed c.link ≡ false) × (refusal_at (find_row id c.rows) ≡ Some refused.Stranger)
RefusesAbort c id refused.AlreadyEnded = (is_closed c.link ≡ false) × (refusal_at (find_row id c.rows) ≡ Some refused.AlreadyEnded)
RefusesAbort c id refused.NotStream = (is_closed c.link ≡ false) × (refusal_at (find_row id c.rows) ≡ Some refused.NotStream)
RefusesAbort c id refused.NotBegun = (is_closed c.link ≡ false) × (refusal_at (find_row id c.rows) ≡ Some refused.NotBegun)
RefusesAbort c id refused.OutOfMemory = Unit {0}

-- the stream is cut, and its abort goes out
abbrev pub IsAborted : ClientState → ℤ → Result (Unit {0}) AbortError → ClientState → Type 0
IsAborted old id (Ok u) new =
    (is_closed old.link ≡ false) × AbortsIn old.rows old.link id (Ok u) new.rows new.link × (new.limits ≡ old.limits)
IsAborted old id (Err why) new = RefusesAbort old id why × (new ≡ old)
