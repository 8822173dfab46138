-- Why a client closes: the first fault of the bytes that it gets.
use Rattle.std.specs.Prelude.{ℕ, ◌+◌, ◌-◌, ℤ, ◌&&◌, List, [], ◌∷◌, ◌++◌, length, drop, Option, Some, None, if◌then◌else◌}
use Rattle.std.specs.Option.{option_map}
use Rattle.readers.specs.Reader.{Outcome, whole, more, bad}
use Rattle.bp_num.specs.declared.number.Why.{Why}
use Rattle.rpc_frame.specs.Frames.{frames, frame_at}
use Rattle.rpc_frame.specs.States.{stream_place}
use Rattle.rpc_frame.specs.Streams.{bodies}
use Rattle.rpc_msg.specs.declared.fault.MsgFault.{MsgFault}
use Rattle.rpc_msg.specs.declared.fault.MsgFault.TheVariants as fault
use Rattle.rpc_msg.specs.declared.message.Answer.{Answer}
use Rattle.rpc_msg.specs.declared.message.Header.{Header}
use Rattle.rpc_msg.specs.declared.message.Message.{Message}
use Rattle.rpc_msg.specs.declared.message.Message.TheVariants as message
use Rattle.rpc_msg.specs.declared.shared.CloseCause.{CloseCause}
use Rattle.rpc_msg.specs.declared.shared.CloseCause.TheVariants as cause
use Rattle.rpc_msg.specs.Forms.{header_form, message_form}
use Rattle.rpc_schema.specs.declared.desc.RpcDesc.{RpcDesc}
use Rattle.rpc_log.specs.Readings.{header_in, message_in, fault_in, has_one}
use Rattle.rpc_log.specs.Logs.{responses_of}
use Rattle.rpc_talk.specs.Said.{Said, Reply, Begun, Declined, Item, Eof, Unreadable, Failed, said_behind}
use Rattle.rpc_talk.specs.Parts.{parts_of, goes_on, is_stream}
use Rattle.rpc_talk.specs.Welcome.{Call, find_call, is_welcome}

-- ---- places in a stream

-- the fault of a body that begins at this place of a stream; places stay at the last value of a u64
abbrev pub placed : ℕ → MsgFault → MsgFault
placed start (fault.Bad at why) = fault.Bad (stream_place (start + at)) why
placed start (fault.Cut at) = fault.Cut (stream_place (start + at))
placed start (fault.Trailing at) = fault.Trailing (stream_place (start + at))

-- ---- frames

-- where a byte is at fault, among so many
abbrev pub fault_place : ℕ → Outcome ℕ Why (List ℕ) → Option ℕ
fault_place count (whole body rest) = None
fault_place count more = None
fault_place count (bad n w) = Some (count - n)

-- what stands in a stream behind its whole frames
abbrev pub behind_frames : ℕ → List ℕ → List ℕ
behind_frames m stream = drop (length (frames (bodies m stream))) stream

-- the first length byte behind them that makes a length pass the limit
abbrev pub too_long_at : ℕ → List ℕ → Option ℕ
too_long_at m stream = fault_place (length stream) (frame_at m (behind_frames m stream))

-- ---- headers and messages

abbrev pub bad_header : ℕ → List ℕ → Option CloseCause
bad_header m body = option_map (λ why. cause.BadHeader (placed 8 why)) (fault_in m header_form body)

abbrev pub bad_message : ℕ → ℕ → List ℕ → Option CloseCause
bad_message m start body = option_map (λ why. cause.BadMessage (placed start why)) (fault_in m message_form body)

-- data that cannot be read is its stream's fault; whatever else is not welcome has the id of no call that goes on
abbrev pub said_cause : ℤ → Said → CloseCause
said_cause id (Unreadable why) = cause.BadStreamData id why
said_cause id (Reply v) = cause.UnknownId id
said_cause id (Begun v) = cause.UnknownId id
said_cause id (Declined v) = cause.UnknownId id
said_cause id (Item v) = cause.UnknownId id
said_cause id Eof = cause.UnknownId id
said_cause id (Failed e) = cause.UnknownId id

abbrev pub answer_cause : ℕ → ℤ → RpcDesc → List Answer → Answer → CloseCause
answer_cause m id d before a =
    if is_stream d.kind && goes_on (parts_of m d before).mark then said_cause id (said_behind m d before a) else cause.UnknownId id

abbrev pub response_cause : ℕ → ℤ → Option Call → List Answer → Answer → CloseCause
response_cause m id None before a = cause.UnknownId id
response_cause m id (Some call) before a = answer_cause m id call.desc before a

-- why a message that is not welcome closes a client
abbrev pub unwelcome : ℕ → List Call → List Message → Message → Option CloseCause
unwelcome m calls before message.Heartbeat = None
unwelcome m calls before (message.Query q) = None
unwelcome m calls before (message.Response r) = Some (response_cause m r.id (find_call r.id calls) (responses_of r.id before) r.result)

-- ---- the first fault of a stream

-- what one message does: it is at fault, or those behind it may be
abbrev pub message_cause : Option CloseCause → ℕ → List Call → List Message → Option CloseCause → Option Message → Option CloseCause
message_cause unread m calls before later None = unread
message_cause unread m calls before later (Some a) = if is_welcome m calls before a then later else unwelcome m calls before a

abbrev pub with_message : List Message → Option Message → List Message
with_message before None = before
with_message before (Some a) = before ++ a ∷ []

-- of these bodies, behind the messages before, the frame of the first of which begins at this place; `end` is the fault of what stands behind
abbrev pub cause_after : Option CloseCause → ℕ → List Call → List Message → ℕ → List (List ℕ) → Option CloseCause
cause_after end m calls before start [] = end
cause_after end m calls before start (body ∷ later) =
    message_cause (bad_message m (start + 8) body) m calls before
    (cause_after end m calls (with_message before (message_in m body)) (start + 8 + length body) later) (message_in m body)

abbrev pub header_cause : Option CloseCause → Option CloseCause → Option Header → Option CloseCause
header_cause unread later None = unread
header_cause unread later (Some header) = if has_one header then later else Some cause.NoCommonProtocol

abbrev pub cause_in : Option CloseCause → ℕ → List Call → List (List ℕ) → Option CloseCause
cause_in end m calls [] = end
cause_in end m calls (head ∷ later) = header_cause (bad_header m head) (cause_after end m calls [] (8 + length head) later) (header_in m head)

abbrev pub frame_cause : ℕ → List ℕ → Option CloseCause
frame_cause m stream = option_map (λ at. cause.BadFrame (stream_place at)) (too_long_at m stream)

-- the fault that stands first in the bytes that a client got, if there is one
abbrev pub cause_of : ℕ → List Call → List ℕ → Option CloseCause
cause_of m calls stream = cause_in (frame_cause m stream) m calls (bodies m stream)
