-- What is seen of a book, and what the bytes that it got make of its dispatches.
use Rattle.std.specs.Prelude.{◌≡◌, ◌≢◌, ℕ, ◌≤◌, ◌^◌, ℤ, Bool, true, false, List, [], ◌∷◌, length, map, drop, Option, None, if◌then◌else◌}
use Rattle.std.specs.List.{find}
use Rattle.std.specs.Option.{is_some}
use Rattle.std.specs.Ordering.{int_eq}
use Rattle.readers.specs.Reader.{Each, IsByte}
use Rattle.rpc_frame.specs.Streams.{bodies}
use Rattle.rpc_msg.specs.declared.message.Message.{Message}
use Rattle.rpc_msg.specs.declared.shared.CloseCause.{CloseCause}
use Rattle.rpc_msg.specs.declared.shared.Limits.{Limits}
use Rattle.rpc_log.specs.Logs.{log_of, opens, responses_of}
use Rattle.rpc_talk.specs.Causes.{cause_of}
use Rattle.rpc_talk.specs.Parts.{CallParts, Held, parts_of}
use Rattle.rpc_talk.specs.Welcome.{Call, accepted, held}
use Rattle.rpc_end.specs.Ends.{EndState, first_end, is_closed}
use Rattle.rpc_end.specs.Taken.{HasTaken}
use Rattle.rpc_client.specs.Kept.{IsCutWithin}
use Rattle.rpc_book.specs.declared.made.Made.{Made}

-- a dispatch, and whether its ending was handed out
pub record Booked : Type 0 where
  pub made : Made
  pub handed : Bool

-- the limits; the dispatches, in the order in which they were made; the bytes that came; the end of the connection
pub record BookState : Type 0 where
  pub limits : Limits
  pub made : List Booked
  pub got : List ℕ
  pub link : EndState

abbrev pub first_book : Limits → ℕ → BookState
first_book limits now = record { limits = limits; made = []; got = []; link = first_end limits now }

abbrev pub with_connection : BookState → EndState → BookState
with_connection b e = record b { link = e }

abbrev pub with_made : BookState → List Booked → BookState
with_made b made = record b { made = made }

-- ---- dispatches

abbrev pub has_booked_id : ℤ → Booked → Bool
has_booked_id id d = int_eq d.made.id id

abbrev pub find_booked : ℤ → List Booked → Option Booked
find_booked id made = find (has_booked_id id) made

-- the first that passes a test is changed
abbrev pub changed : {X : Type 0} → (X → Bool) → (X → X) → List X → List X
changed p f [] = []
changed p f (x ∷ xs) = if p x then f x ∷ xs else x ∷ changed p f xs

-- no two have the same id
abbrev pub HaveDistinctIds : List Booked → Type 0
HaveDistinctIds [] = Unit {0}
HaveDistinctIds (d ∷ made) = Each (λ other. other.made.id ≢ d.made.id) made × HaveDistinctIds made

-- ---- what the bytes make of them

abbrev pub call_of : Booked → Call
call_of d = record { id = d.made.id; desc = d.made.desc }

abbrev pub calls_of : List Booked → List Call
calls_of made = map call_of made

-- the messages that came, and those of them that are accepted
abbrev pub messages_of : BookState → List Message
messages_of b = log_of b.limits.max_message b.got

abbrev pub accepted_in : BookState → List Message
accepted_in b = accepted b.limits.max_message (calls_of b.made) (messages_of b)

-- what the accepted answers make of a dispatch, and what it holds: no more than it had when it was aborted
abbrev pub parts_booked : BookState → Booked → CallParts
parts_booked b d = parts_of b.limits.max_message d.made.desc (responses_of d.made.id (accepted_in b))

abbrev pub held_in : BookState → Booked → Held
held_in b d = held b.limits.max_message (calls_of b.made) (messages_of b) (call_of d) d.made.cut (is_closed b.link)

-- the fault that stands first in the bytes, if there is one
abbrev pub fault_of : BookState → Option CloseCause
fault_of b = cause_of b.limits.max_message (calls_of b.made) b.got

-- the first body is a header of version 1
abbrev pub begins : ℕ → List (List ℕ) → Bool
begins m [] = false
begins m (head ∷ later) = opens m head

abbrev pub got_header : BookState → Bool
got_header b = begins b.limits.max_message (bodies b.limits.max_message b.got)

-- ---- what holds of every book

-- the parts that were taken of a dispatch are there, and those that it had when it was aborted; where its ending was handed out, it has one and no part is left
pub record IsSoundBooked (b : BookState) (d : Booked) : Type 0 where
  pub taken : d.made.taken ≤ length (held_in b d).parts
  pub cut : IsCutWithin d.made.cut (parts_booked b d).parts
  pub handed : d.handed ≡ true → (drop d.made.taken (held_in b d).parts ≡ []) × (is_some (held_in b d).ending ≡ true)

-- while it has no cause its end took just these bytes, with their bodies and messages; all messages are accepted, no byte is at fault, and a first
-- body is the header
pub record HasNoFault (b : BookState) : Type 0 where
  pub took : HasTaken b.link b.got (bodies b.limits.max_message b.got) (messages_of b)
  pub accepted : accepted_in b ≡ messages_of b
  pub fault : fault_of b ≡ None
  pub header : b.link.greeted ≡ got_header b

pub record IsSound (b : BookState) : Type 0 where
  pub max : b.link.max ≡ b.limits.max_message
  pub room : length b.got ≤ 2 ^ 30
  pub bytes : Each IsByte b.got
  pub made : Each (IsSoundBooked b) b.made
  pub ids : HaveDistinctIds b.made
  pub going : b.link.cause ≡ None → HasNoFault b
