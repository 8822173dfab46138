-- What a dispatch, a take and an abort do to a book.
use Rattle.std.specs.Prelude.{◌≡◌, ℕ, ◌+◌, ◌*◌, ◌≤◌, ◌<◌, ◌^◌, ℤ, pos, Bool, true, false, not, ◌&&◌, nat_le, List, [], ◌∷◌, ◌++◌, length, drop, Option, Some, None, Result, Ok, Err, if◌then◌else◌}
use Rattle.std.specs.List.{count_by}
use Rattle.std.specs.Option.{is_some, option_copied}
use Rattle.bp_value.specs.declared.value.Value.{Value}
use Rattle.bp_value.specs.Fits.{Fits}
use Rattle.bp_value.specs.Form.{form_of}
use Rattle.rpc_msg.specs.declared.message.Message.{Message}
use Rattle.rpc_msg.specs.declared.shared.Part.{Part}
use Rattle.rpc_msg.specs.declared.shared.Received.{Received}
use Rattle.rpc_msg.specs.declared.shared.Ticket.{Ticket}
use Rattle.rpc_log.specs.Logs.{responses_of}
use Rattle.rpc_schema.specs.declared.desc.Kind.{Kind}
use Rattle.rpc_schema.specs.declared.desc.RpcDesc.{RpcDesc}
use Rattle.rpc_talk.specs.Acts.{is_short}
use Rattle.rpc_talk.specs.Parts.{Held, is_ended, is_stream, is_tracked}
use Rattle.rpc_end.specs.Ends.{is_closed, is_link_open, said}
use Rattle.rpc_client.specs.declared.entry.Took.{Took}
use Rattle.rpc_client.specs.declared.entry.Took.TheVariants as took
use Rattle.rpc_client.specs.declared.error.AbortError.{AbortError}
use Rattle.rpc_client.specs.declared.error.AbortError.TheVariants as refused
use Rattle.rpc_client.specs.declared.error.DispatchError.{DispatchError}
use Rattle.rpc_client.specs.declared.error.DispatchError.TheVariants as dispatch
use Rattle.rpc_client.specs.Rows.{is_sent, took_of}
use Rattle.rpc_client.specs.Tables.{abort_data, call_query, query_data}
use Rattle.rpc_book.specs.declared.made.Made.{Made}
use Rattle.rpc_book.specs.Books.{BookState, Booked, changed, find_booked, has_booked_id, held_in, messages_of, parts_booked, with_made}

-- ---- a dispatch

abbrev pub awaits_answer : Booked → Bool
awaits_answer d = is_tracked d.made.desc.kind

abbrev pub is_one_way : Booked → Bool
is_one_way d = not (is_tracked d.made.desc.kind)

-- a dispatch that is answered has twice the number of those before it as its id, and a one-way one the odd number behind
abbrev pub id_number : Bool → List Booked → ℕ
id_number true made = 2 * count_by awaits_answer made
id_number false made = 2 * count_by is_one_way made + 1

abbrev pub next_id_number : Kind → List Booked → ℕ
next_id_number kind made = id_number (is_tracked kind) made

abbrev pub next_id : Kind → List Booked → ℤ
next_id kind made = pos (next_id_number kind made)

-- its last answer was not accepted yet
abbrev pub is_unfinished : BookState → Booked → Bool
is_unfinished b d = is_tracked d.made.desc.kind && not (is_ended (parts_booked b d).mark)

-- as many dispatches are unfinished as may, and the next would be too
abbrev pub is_book_full : BookState → RpcDesc → Bool
is_book_full b d = is_tracked d.kind && nat_le b.limits.max_open (count_by (is_unfinished b) b.made)

abbrev pub booked_query : BookState → RpcDesc → Value → Message
booked_query b d v = call_query d (next_id d.kind b.made) (query_data d v)

-- what a dispatch asks for, one after the other: an open end, a value that fits, a message that is short enough, room, and an id
abbrev pub MayAsk : BookState → RpcDesc → Value → Type 0
MayAsk b d v = (is_link_open b.link ≡ true) × Fits b.limits.max_message (form_of d.query) v

abbrev pub MaySay : BookState → RpcDesc → Value → Type 0
MaySay b d v = MayAsk b d v × (is_short b.limits.max_message (booked_query b d v) ≡ true)

abbrev pub MayKeep : BookState → RpcDesc → Value → Type 0
MayKeep b d v = MaySay b d v × (is_book_full b d ≡ false)

abbrev pub MayDispatch : BookState → RpcDesc → Value → Type 0
MayDispatch b d v = MayKeep b d v × (next_id_number d.kind b.made ≤ 2 ^ 61)

-- the first of these that is not there
abbrev pub RefusesBooking : BookState → RpcDesc → Value → DispatchError → Type 0
RefusesBooking b d v dispatch.Closed = is_closed b.link ≡ true
RefusesBooking b d v dispatch.NotOpen = (is_closed b.link ≡ false) × (b.link.greeted ≡ false)
RefusesBooking b d v dispatch.BadValue = (is_link_open b.link ≡ true) × (Fits b.limits.max_message (form_of d.query) v → ⊥)
RefusesBooking b d v (dispatch.TooLong most) = MayAsk b d v × (is_short b.limits.max_message (booked_query b d v) ≡ false) × (most ≡ b.limits.max_message)
RefusesBooking b d v (dispatch.TooManyOpen count) = MaySay b d v × (is_book_full b d ≡ true) × (count ≡ b.limits.max_open)
RefusesBooking b d v (dispatch.IdsSpent id) = MayKeep b d v × (2 ^ 61 < next_id_number d.kind b.made) × (id ≡ next_id d.kind b.made)
RefusesBooking b d v dispatch.OutOfMemory = Unit {0}

abbrev pub new_booked : List ℕ → ℤ → RpcDesc → Booked
new_booked label id d = record { made = record { label = label; id = id; desc = d; cut = None; taken = 0 }; handed = false }

-- one more dispatch, whose query goes out
abbrev pub after_booking : BookState → List ℕ → RpcDesc → Value → BookState
after_booking b label d v = record b { made = b.made ++ new_booked label (next_id d.kind b.made) d ∷ []; link = said b.link (booked_query b d v) }

-- no dispatch has the id, and nothing that came answers it
pub record IsFresh (b : BookState) (id : ℤ) : Type 0 where
  pub unused : find_booked id b.made ≡ None
  pub unanswered : responses_of id (messages_of b) ≡ []

abbrev pub IsBooked : BookState → List ℕ → RpcDesc → Value → Result Ticket DispatchError → BookState → Type 0
IsBooked old label d v (Ok ticket) new =
    MayDispatch old d v × (ticket.id ≡ next_id d.kind old.made) × (new ≡ after_booking old label d v) × IsFresh old ticket.id
IsBooked old label d v (Err why) new = RefusesBooking old d v why × (new ≡ old)

-- ---- what is taken, and what is shown

-- the next part that was not taken, or else the ending, once; that a one-way dispatch was sent each time
abbrev pub took_next : Bool → List Part → Held → Took
took_next true left h = took.Over
took_next false left h = took_of left h.ending false

abbrev pub answer_for : BookState → Option Booked → Took
answer_for b None = took.Stranger
answer_for b (Some d) = took_next d.handed (drop d.made.taken (held_in b d).parts) (held_in b d)

-- what was handed out is counted
abbrev pub with_count : Took → Made → Made
with_count (took.Part p) made = record made { taken = made.taken + 1 }
with_count took.NotYet made = made
with_count (took.Ended e) made = made
with_count took.Over made = made
with_count took.Stranger made = made

abbrev pub is_handed : Bool → Took → Bool
is_handed handed (took.Part p) = handed
is_handed handed took.NotYet = handed
is_handed handed (took.Ended e) = if is_sent e then handed else true
is_handed handed took.Over = handed
is_handed handed took.Stranger = handed

abbrev pub after_took : Took → Booked → Booked
after_took answer d = record { made = with_count answer d.made; handed = is_handed d.handed answer }

abbrev pub IsTakenOf : BookState → ℤ → Took → BookState → Type 0
IsTakenOf old id answer new = (answer ≡ answer_for old (find_booked id old.made)) × (new ≡ with_made old (changed (has_booked_id id) (after_took answer) old.made))

-- all that was not taken of what a dispatch holds is shown; nothing where no dispatch has the id, and where its ending was handed out
abbrev pub ShowsBooked : BookState → Option Received → Option Booked → Type 0
ShowsBooked b shown None = shown ≡ None
ShowsBooked b None (Some d) = d.handed ≡ true
ShowsBooked b (Some shown) (Some d) =
    (d.handed ≡ false) × (shown.parts.now ≡ drop d.made.taken (held_in b d).parts) × (option_copied shown.ending ≡ (held_in b d).ending)

abbrev pub IsReceived : BookState → ℤ → Option Received → Type 0
IsReceived b id shown = ShowsBooked b shown (find_booked id b.made)

-- ---- an abort

abbrev pub has_part : List Part → Bool
has_part [] = false
has_part (p ∷ ps) = true

-- why a dispatch that holds this cannot be aborted, if it cannot
abbrev pub held_refusal : Kind → Held → Option AbortError
held_refusal kind h =
    if is_some h.ending then Some refused.AlreadyEnded
    else if not (is_stream kind) then Some refused.NotStream
    else if not (has_part h.parts) then Some refused.NotBegun
    else None

abbrev pub refusal_for : BookState → Option Booked → Option AbortError
refusal_for b None = Some refused.Stranger
refusal_for b (Some d) = held_refusal d.made.desc.kind (held_in b d)

abbrev pub cut_refusal : BookState → ℤ → Option AbortError
cut_refusal b id = if is_closed b.link then Some refused.Closed else refusal_for b (find_booked id b.made)

-- a dispatch is cut behind so many parts
abbrev pub cut_to : ℕ → Booked → Booked
cut_to count d = record d { made = record d.made { cut = Some count } }

-- it is cut behind the parts that it holds, and its abort goes out
abbrev pub Aborts : BookState → ℤ → Option Booked → BookState → Type 0
Aborts old id None new = ⊥
Aborts old id (Some d) new =
    new ≡ record old {
      made = changed (has_booked_id id) (cut_to (length (held_in old d).parts)) old.made;
      link = said old.link (call_query d.made.desc id abort_data);
    }

-- memory may run out, whatever stands
abbrev pub RefusesCut : Option AbortError → AbortError → Type 0
RefusesCut why refused.Closed = why ≡ Some refused.Closed
RefusesCut why refused.Stranger = why ≡ Some refused.Stranger
RefusesCut why refused.AlreadyEnded = why ≡ Some refused.AlreadyEnded
RefusesCut why refused.NotStream = why ≡ Some refused.NotStream
RefusesCut why refused.NotBegun = why ≡ Some refused.NotBegun
RefusesCut why refused.OutOfMemory = Unit {0}

abbrev pub IsAbortedAt : BookState → ℤ → Result (Unit {0}) AbortError → BookState → Type 0
IsAbortedAt old id (Ok u) new = (cut_refusal old id ≡ None) × Aborts old id (find_booked id old.made) new
IsAbortedAt old id (Err why) new = RefusesCut (cut_refusal old id) why × (new ≡ old)
