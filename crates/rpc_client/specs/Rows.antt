-- What is seen of a call that a client made, and what an answer to it does.
use Rattle.std.specs.Prelude.{◌≡◌, ℕ, ◌+◌, ℤ, Bool, true, false, not, ◌&&◌, ◌||◌, List, [], ◌∷◌, ◌++◌, length, Option, Some, None, Result, Ok, Err, if◌then◌else◌}
use Rattle.std.specs.Option.{is_some, option_copied, option_or}
use Rattle.rpc_msg.specs.declared.message.Answer.{Answer}
use Rattle.rpc_msg.specs.declared.shared.CloseCause.{CloseCause}
use Rattle.rpc_msg.specs.declared.shared.CloseCause.TheVariants as cause
use Rattle.rpc_msg.specs.declared.shared.Ending.{Ending}
use Rattle.rpc_msg.specs.declared.shared.Ending.TheVariants as ending
use Rattle.rpc_msg.specs.declared.shared.Part.{Part}
use Rattle.rpc_msg.specs.declared.shared.Part.TheVariants as part
use Rattle.rpc_msg.specs.declared.shared.Received.{Received}
use Rattle.rpc_schema.specs.declared.desc.RpcDesc.{RpcDesc}
use Rattle.rpc_talk.specs.Parts.{takes_reply, is_stream, is_tracked, unless_closed}
use Rattle.rpc_talk.specs.Said.{Said, Reply, Begun, Declined, Item, Eof, Unreadable, Failed, answer_said, first_by, later_by}
use Rattle.rpc_talk.specs.Welcome.{is_error}
use Rattle.bp_value.specs.Faults.{IsGood}
use Rattle.bp_value.specs.Form.{form_of}
use Rattle.bp_value.specs.Fits.{InRange}
use Rattle.rpc_client.specs.declared.entry.Phase.{Phase}
use Rattle.rpc_client.specs.declared.entry.Phase.TheVariants as phase
use Rattle.rpc_client.specs.declared.reading.Saying.{Saying}
use Rattle.rpc_client.specs.declared.reading.Saying.TheVariants as saying
use Rattle.rpc_client.specs.declared.error.AbortError.{AbortError}
use Rattle.rpc_client.specs.declared.error.AbortError.TheVariants as refused
use Rattle.rpc_client.specs.declared.entry.Took.{Took}
use Rattle.rpc_client.specs.declared.entry.Took.TheVariants as took

-- its id and procedure; how many parts it had when it was aborted; how many were taken, and whether its ending was; the parts and
-- the ending that were not; how far its answers have come
pub record Row : Type 0 where
  pub id : ℤ
  pub desc : RpcDesc
  pub cut : Option ℕ
  pub taken : ℕ
  pub handed : Bool
  pub waiting : List Part
  pub ending : Option Ending
  pub phase : Phase

-- a procedure that can be called: its shapes are good, and its version is an int
pub record IsCallable (d : RpcDesc) : Type 0 where
  pub version : InRange 62 d.version
  pub query : IsGood (form_of d.query)
  pub first : IsGood (form_of d.first)
  pub item : IsGood (form_of d.item)
  pub error : IsGood (form_of d.error)

-- ---- new calls

-- a one-way call has its ending from the start
abbrev pub first_ending : Bool → Option Ending
first_ending true = None
first_ending false = Some ending.Sent

abbrev pub new_row : ℤ → RpcDesc → Row
new_row id desc = record {
  id = id;
  desc = desc;
  cut = None;
  taken = 0;
  handed = false;
  waiting = [];
  ending = first_ending (is_tracked desc.kind);
  phase = phase.First;
}

-- ---- answers

abbrev pub is_at_first : Phase → Bool
is_at_first phase.First = true
is_at_first phase.Begun = false
is_at_first phase.Done = false

abbrev pub is_done : Phase → Bool
is_done phase.First = false
is_done phase.Begun = false
is_done phase.Done = true

-- an answer to it is waited for
abbrev pub is_row_open : Row → Bool
is_row_open row = is_tracked row.desc.kind && not (is_done row.phase)

-- behind an abort no part is kept, and no ending
abbrev pub part_added : Bool → List Part → Part → List Part
part_added false ps p = ps ++ p ∷ []
part_added true ps p = ps

abbrev pub ending_added : Bool → Option Ending → Ending → Option Ending
ending_added false old e = Some e
ending_added true old e = old

abbrev pub with_part : Row → Part → Row
with_part row p = record row { waiting = part_added (is_some row.cut) row.waiting p; phase = phase.Begun }

abbrev pub with_waiting : Row → List Part → Row
with_waiting row ps = record row { waiting = ps }

abbrev pub finished : Row → Ending → Row
finished row e = record row { ending = ending_added (is_some row.cut) row.ending e; phase = phase.Done }

-- what is said to a call that goes on
abbrev pub row_told : Row → Said → Result Row CloseCause
row_told row (Reply v) = Ok (finished row (ending.Reply v))
row_told row (Begun v) = Ok (with_part row (part.First v))
row_told row (Declined v) = Ok (finished row (ending.Declined v))
row_told row (Item v) = Ok (with_part row (part.Item v))
row_told row Eof = Ok (finished row ending.Eof)
row_told row (Failed e) = Ok (finished row (ending.Failed e))
row_told row (Unreadable why) =
    if takes_reply row.desc.kind then Ok (finished row (ending.BadReply why)) else Err (cause.BadStreamData row.id why)

-- how the next answer is read
abbrev pub next_reading : Phase → ℕ → RpcDesc → List ℕ → Said
next_reading phase.First m d = first_by d.kind m d
next_reading phase.Begun m d = later_by d.kind m d
next_reading phase.Done m d = later_by d.kind m d

abbrev pub next_said : ℕ → Row → Answer → Said
next_said m row a = answer_said (next_reading row.phase m row.desc) a

-- a one-way call takes errors, and another call what comes until it is over; else the client closes
abbrev pub row_answered : ℕ → Row → Answer → Result Row CloseCause
row_answered m row a =
    if is_tracked row.desc.kind then
    (if is_done row.phase then Err (cause.UnknownId row.id) else row_told row (next_said m row a))
    else (if is_error a then Ok row else Err (cause.UnknownId row.id))

-- it became what an answer makes of it, or stands and why the client closes is told
abbrev pub Becomes : {A : Type 0} → Result A CloseCause → A → Option CloseCause → A → Type 0
Becomes (Ok row) old why new = (why ≡ None) × (new ≡ row)
Becomes (Err cause) old why new = (why ≡ Some cause) × (new ≡ old)

-- what the code calls what an answer says
abbrev pub said_of : Saying → Said
said_of (saying.Reply v) = Reply v
said_of (saying.Begun v) = Begun v
said_of (saying.Declined v) = Declined v
said_of (saying.Item v) = Item v
said_of saying.Eof = Eof
said_of (saying.Unreadable why) = Unreadable why
said_of (saying.Failed e) = Failed e

-- ---- what is taken

-- the oldest of some parts was taken, if there was one
abbrev pub IsFrontTaken : List Part → Option Part → List Part → Type 0
IsFrontTaken old None new = (old ≡ []) × (new ≡ old)
IsFrontTaken old (Some p) new = old ≡ p ∷ new

-- the ending that is left, or that the client is closed
abbrev pub ending_left : Option Ending → Bool → Option Ending
ending_left (Some e) closed = Some e
ending_left None closed = unless_closed closed

abbrev pub took_of : List Part → Option Ending → Bool → Took
took_of (p ∷ ps) e handed = took.Part p
took_of [] e true = took.Over
took_of [] None false = took.NotYet
took_of [] (Some e) false = took.Ended e

abbrev pub answer_taken : Bool → Row → Took
answer_taken closed row = took_of row.waiting (ending_left row.ending closed) row.handed

-- that a one-way call was sent is told again at each take
abbrev pub is_sent : Ending → Bool
is_sent (ending.Reply v) = false
is_sent (ending.Failed e) = false
is_sent (ending.BadReply why) = false
is_sent (ending.Declined v) = false
is_sent ending.Eof = false
is_sent ending.Aborted = false
is_sent ending.Sent = true
is_sent ending.Closed = false

abbrev pub handed_out : Row → Ending → Row
handed_out row e = if is_sent e then record row { ending = Some ending.Sent } else record row { ending = None; handed = true }

abbrev pub row_taken : Row → List Part → Option Ending → Bool → Row
row_taken row (p ∷ ps) e handed = record row { waiting = ps; taken = row.taken + 1 }
row_taken row [] e true = row
row_taken row [] None false = row
row_taken row [] (Some e) false = handed_out row e

abbrev pub after_take : Bool → Row → Row
after_take closed row = row_taken row row.waiting (ending_left row.ending closed) row.handed

-- what was not taken yet, of a call whose ending was not
abbrev pub ShowsRow : Row → Option Ending → Option Received → Type 0
ShowsRow row closed None = row.handed ≡ true
ShowsRow row closed (Some shown) = (row.handed ≡ false) × (shown.parts.now ≡ row.waiting) × (option_copied shown.ending ≡ option_or row.ending closed)

-- ---- aborts

-- why it cannot be aborted, if it cannot
abbrev pub abort_refusal : Row → Option AbortError
abort_refusal row =
    if row.handed || is_some row.ending then Some refused.AlreadyEnded
    else if not (is_stream row.desc.kind) then Some refused.NotStream
    else if is_at_first row.phase then Some refused.NotBegun
    else None

abbrev pub row_aborted : Row → Row
row_aborted row = record row { cut = Some (row.taken + length row.waiting); ending = Some ending.Aborted }
