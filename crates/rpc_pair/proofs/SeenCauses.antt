-- Which causes the bytes of a stream have.
use Rattle.std.proofs.Common.{◌≡◌, subst, ℕ, ◌+◌, ℤ, Bool, true, false, ◌&&◌, if◌then◌else◌, List, [], ◌∷◌, length}
use Rattle.std.specs.Prelude.{Option, Some, None}
use Rattle.std.specs.Option.{option_map}
use Rattle.rpc_frame.specs.States.{stream_place}
use Rattle.rpc_frame.specs.Streams.{bodies}
use Rattle.rpc_msg.specs.Forms.{header_form, message_form}
use Rattle.rpc_msg.specs.declared.fault.MsgFault.{MsgFault}
use Rattle.rpc_msg.specs.declared.message.Answer.{Answer}
use Rattle.rpc_msg.specs.declared.message.Header.{Header}
use Rattle.rpc_msg.specs.declared.message.Message.{Message}
use Rattle.rpc_msg.specs.declared.message.Message.TheVariants as message
use Rattle.rpc_msg.specs.declared.shared.CloseCause.{CloseCause}
use Rattle.rpc_msg.specs.declared.shared.CloseCause.TheVariants as cause
use Rattle.rpc_log.specs.Logs.{responses_of}
use Rattle.rpc_log.specs.Readings.{fault_in, has_one, header_in, message_in}
use Rattle.rpc_talk.specs.Causes.{bad_header, bad_message, cause_after, cause_in, cause_of, frame_cause, header_cause, message_cause, placed, response_cause, said_cause, too_long_at, unwelcome, with_message}
use Rattle.rpc_talk.specs.Parts.{goes_on, is_stream, parts_of}
use Rattle.rpc_talk.specs.Said.{Said, Reply, Begun, Declined, Item, Eof, Unreadable, Failed, said_behind}
use Rattle.rpc_talk.specs.Welcome.{Call, find_call, is_welcome}

-- something in the bytes that came is at fault
abbrev pub IsFault : CloseCause → Type 0
IsFault (cause.BadFrame at) = Unit {0}
IsFault (cause.BadHeader why) = Unit {0}
IsFault cause.NoCommonProtocol = Unit {0}
IsFault (cause.BadMessage why) = Unit {0}
IsFault (cause.UnknownId id) = Unit {0}
IsFault (cause.BadStreamData id why) = Unit {0}
IsFault _ = ⊥

abbrev pub IsFaultIfAny : Option CloseCause → Type 0
IsFaultIfAny None = Unit {0}
IsFaultIfAny (Some why) = IsFault why

frame_fault : (m : ℕ) (s : List ℕ) → IsFaultIfAny (frame_cause m s)
frame_fault m s = by (too_long_at m s)
  where
    by : (o : Option ℕ) → IsFaultIfAny (option_map (λ at. cause.BadFrame (stream_place at)) o)
    by None = tt
    by (Some at) = tt

header_fault : (m : ℕ) (body : List ℕ) → IsFaultIfAny (bad_header m body)
header_fault m body = by (fault_in m header_form body)
  where
    by : (o : Option MsgFault) → IsFaultIfAny (option_map (λ why. cause.BadHeader (placed 8 why)) o)
    by None = tt
    by (Some why) = tt

message_fault : (m start : ℕ) (body : List ℕ) → IsFaultIfAny (bad_message m start body)
message_fault m start body = by (fault_in m message_form body)
  where
    by : (o : Option MsgFault) → IsFaultIfAny (option_map (λ why. cause.BadMessage (placed start why)) o)
    by None = tt
    by (Some why) = tt

said_fault : (id : ℤ) (said : Said) → IsFault (said_cause id said)
said_fault id (Reply v) = tt
said_fault id (Begun v) = tt
said_fault id (Declined v) = tt
said_fault id (Item v) = tt
said_fault id Eof = tt
said_fault id (Unreadable why) = tt
said_fault id (Failed e) = tt

answer_fault : (m : ℕ) (id : ℤ) (found : Option Call) (before : List Answer) (a : Answer) → IsFault (response_cause m id found before a)
answer_fault m id None before a = tt
answer_fault m id (Some call) before a = by (is_stream call.desc.kind && goes_on (parts_of m call.desc before).mark)
  where
    by : (b : Bool) → IsFault (if b then said_cause id (said_behind m call.desc before a) else cause.UnknownId id)
    by true = said_fault id (said_behind m call.desc before a)
    by false = tt

unwelcome_fault : (m : ℕ) (calls : List Call) (before : List Message) (a : Message) → IsFaultIfAny (unwelcome m calls before a)
unwelcome_fault m calls before message.Heartbeat = tt
unwelcome_fault m calls before (message.Query q) = tt
unwelcome_fault m calls before (message.Response r) = answer_fault m r.id (find_call r.id calls) (responses_of r.id before) r.result

module _ (m : ℕ) (calls : List Call) (end : Option CloseCause) (end_is : IsFaultIfAny end) where
  after_fault : (bs : List (List ℕ)) (before : List Message) (start : ℕ) → IsFaultIfAny (cause_after end m calls before start bs)
  after_fault [] before start = end_is
  after_fault (body ∷ bs) before start = by (message_in m body) (after_fault bs)
    where
      by : (o : Option Message) → ((b : List Message) (n : ℕ) → IsFaultIfAny (cause_after end m calls b n bs))
          → IsFaultIfAny (message_cause (bad_message m (start + 8) body) m calls before (cause_after end m calls (with_message before o) (start + 8 + length body) bs) o)
      by None later = message_fault m (start + 8) body
      by (Some a) later = welcome (is_welcome m calls before a)
        where
          welcome : (b : Bool) → IsFaultIfAny (if b then cause_after end m calls (with_message before (Some a)) (start + 8 + length body) bs else unwelcome m calls before a)
          welcome true = later (with_message before (Some a)) (start + 8 + length body)
          welcome false = unwelcome_fault m calls before a

  in_fault : (bs : List (List ℕ)) → IsFaultIfAny (cause_in end m calls bs)
  in_fault [] = end_is
  in_fault (head ∷ bs) = by (header_in m head)
    where
      by : (o : Option Header) → IsFaultIfAny (header_cause (bad_header m head) (cause_after end m calls [] (8 + length head) bs) o)
      by None = header_fault m head
      by (Some header) = opened (has_one header)
        where
          opened : (b : Bool) → IsFaultIfAny (if b then cause_after end m calls [] (8 + length head) bs else Some cause.NoCommonProtocol)
          opened true = after_fault bs [] (8 + length head)
          opened false = tt

-- the cause that a stream gives is a fault of it
pub is_fault : (m : ℕ) (calls : List Call) (s : List ℕ) (why : CloseCause) → cause_of m calls s ≡ Some why → IsFault why
is_fault m calls s why is = subst IsFaultIfAny is (in_fault m calls (frame_cause m s) (frame_fault m s) (bodies m s))
