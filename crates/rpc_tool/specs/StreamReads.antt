-- What is read of one side's stream: the frame of a header, and then frames of messages, up to the end or up to what cannot be read.
use Rattle.std.specs.Prelude.{◌≡◌, ◌≢◌, ℕ, ◌+◌, ◌<◌, ◌≤◌, ◌^◌, List, [], ◌∷◌, ◌++◌, length, None, Result, Ok, Err, ◌⊎◌}
use Rattle.readers.specs.Reader.{IsProperFront, IsFaultAt}
use Rattle.bp_num.specs.declared.number.Why.TheVariants.{Length}
use Rattle.bp_value.specs.Form.{Form}
use Rattle.bp_grammar.specs.Spells.{Spells}
use Rattle.rpc_frame.specs.Frames.{frame, frames, IsFrame, FrameWhy}
use Rattle.rpc_frame.specs.States.{FrameState}
use Rattle.rpc_frame.specs.declared.error.FrameError.{FrameError}
use Rattle.rpc_frame.specs.declared.error.FrameError.TheVariants as frame_error
use Rattle.rpc_frame.specs.Streams.{AreWithin}
use Rattle.rpc_msg.specs.Bodies.{behind, IsMsgFault}
use Rattle.rpc_msg.specs.Forms.{header_form, message_form}
use Rattle.rpc_msg.specs.Limits.{usual_limits}
use Rattle.rpc_msg.specs.Values.{header_value, message_value, HasOne}
use Rattle.rpc_msg.specs.declared.fault.MsgFault.{MsgFault}
use Rattle.rpc_msg.specs.declared.message.Header.{Header}
use Rattle.rpc_msg.specs.declared.message.Message.{Message}
use Rattle.rpc_msg.specs.declared.shared.CloseCause.{CloseCause}
use Rattle.rpc_msg.specs.declared.shared.CloseCause.TheVariants as cause
use Rattle.rpc_tool.specs.HexTexts.{IsHexText}
use Rattle.rpc_tool.specs.StreamLines.{header_line, told_lines, stop_line}
use Rattle.rpc_tool.specs.ValueCommands.{IsHexRefusal}
use Rattle.rpc_tool.specs.declared.stream_reading.Stop.{Stop}
use Rattle.rpc_tool.specs.declared.stream_reading.Stop.TheVariants as stop
use Rattle.rpc_tool.specs.declared.stream_reading.StreamError.{StreamError}
use Rattle.rpc_tool.specs.declared.stream_reading.StreamError.TheVariants as error

-- the most bytes of a body and of a text in it, and the most versions
abbrev pub longest : ℕ
longest = usual_limits.max_message

-- ---- what is read

abbrev pub IsHeader : Header → List ℕ → Type 0
IsHeader header body = Spells longest header_form (header_value header) body

abbrev pub IsMessage : Message → List ℕ → Type 0
IsMessage message body = Spells longest message_form (message_value message) body

-- each message has a body
abbrev pub AreMessages : List Message → List (List ℕ) → Type 0
AreMessages [] [] = Unit {0}
AreMessages (m ∷ ms) (b ∷ bs) = IsMessage m b × AreMessages ms bs
AreMessages ms bs = ⊥

-- a header that has version 1, and messages; the rest of the stream is left
pub record HasRead (stream : List ℕ) (header : Header) (messages : List Message) (rest : List ℕ) : Type 0 where
  pub first : List ℕ
  pub bodies : List (List ℕ)
  pub whole : stream ≡ frames (first ∷ bodies) ++ rest
  pub short : AreWithin longest (first ∷ bodies)
  pub header_is : IsHeader header first
  pub has_one : HasOne header
  pub messages_are : AreMessages messages bodies

-- ---- what cannot be read, of the rest of a stream that begins at a place in it

-- the frame of a body stands in front
abbrev pub IsInFront : List ℕ → List ℕ → Type 0
IsInFront body s = (length body ≤ longest) × (more : List ℕ) × (s ≡ frame body ++ more)

-- no frame does: the stream ends first, or a length is too long
abbrev pub HasNoFrame : ℕ → List ℕ → Stop → Type 0
HasNoFrame place s (stop.Cut at) = IsProperFront (IsFrame longest) s × (at ≡ place + length s)
HasNoFrame place s (stop.Closed (cause.BadFrame at)) = (k : ℕ) × IsFaultAt (IsFrame longest) (FrameWhy longest) s k Length × (at ≡ place + k)
HasNoFrame place s other = ⊥

-- the body of the first frame is no spelling of a form; its bytes stand behind the eight of the length
abbrev pub HasBadBody : Form → (MsgFault → CloseCause) → ℕ → List ℕ → Stop → Type 0
HasBadBody f told place s why =
    (body : List ℕ) × (fault : MsgFault) × IsInFront body s × IsMsgFault longest f body fault × (why ≡ stop.Closed (told (behind (place + 8) fault)))

-- no header comes
abbrev pub NoHeader : ℕ → List ℕ → Stop → Type 0
NoHeader place s why = HasNoFrame place s why ⊎ HasBadBody header_form cause.BadHeader place s why

-- no message comes
abbrev pub NoMessage : ℕ → List ℕ → Stop → Type 0
NoMessage place s why = HasNoFrame place s why ⊎ HasBadBody message_form cause.BadMessage place s why

-- ---- whole streams

-- all is read, and these are its lines
abbrev pub IsWholeStream : List ℕ → List ℕ → Type 0
IsWholeStream stream text = (header : Header) × (messages : List Message) × HasRead stream header messages [] × (text ≡ told_lines header messages)

-- the header has no version 1
abbrev pub IsForeign : Header → List ℕ → Type 0
IsForeign header stream = (body : List ℕ) × IsInFront body stream × IsHeader header body × (HasOne header → ⊥)

-- a header and messages were read, and no further message
pub record IsReadUpTo (stream : List ℕ) (header : Header) (messages : List Message) (why : Stop) : Type 0 where
  pub rest : List ℕ
  pub place : ℕ
  pub are_read : HasRead stream header messages rest
  pub left : rest ≢ []
  pub place_is : place + length rest ≡ length stream
  pub none : NoMessage place rest why

-- A stream cannot be read whole; before that it has these lines.
abbrev pub StopsAfter : List ℕ → List ℕ → Stop → Type 0
StopsAfter stream lines why =
    (NoHeader 0 stream why × (lines ≡ []))
    ⊎ (((header : Header) × IsForeign header stream × (lines ≡ header_line header) × (why ≡ stop.Closed cause.NoCommonProtocol))
    ⊎ ((header : Header) × (messages : List Message) × IsReadUpTo stream header messages why × (lines ≡ told_lines header messages)))

-- ---- the command

-- the input is hex of a stream that is read whole
abbrev pub AreFramesTold : List ℕ → List ℕ → Type 0
AreFramesTold input text = (stream : List ℕ) × IsHexText stream input × IsWholeStream stream text

-- it is no hex, or hex of a stream that is not
abbrev pub AreFramesRefused : List ℕ → List ℕ → Type 0
AreFramesRefused input text =
    IsHexRefusal input text
    ⊎ ((stream : List ℕ) × (lines : List ℕ) × (why : Stop) × IsHexText stream input × StopsAfter stream lines why × (text ≡ lines ++ stop_line why))

-- ---- frame by frame

-- a reader of frames stands before the rest of a stream, in which no place is above the last of a u64
pub record IsBefore (rest : List ℕ) (r : FrameState) : Type 0 where
  pub limit : r.max ≡ longest
  pub empty : r.held ≡ []
  pub going : r.failed ≡ None
  pub near : r.place + length rest < 2 ^ 64

-- why a stream stops where a reader of frames does
abbrev pub stopped_by : FrameError → StreamError
stopped_by (frame_error.Failed at) = error.Stopped (stop.Closed (cause.BadFrame at))
stopped_by (frame_error.TooLong at) = error.Stopped (stop.Closed (cause.BadFrame at))
stopped_by frame_error.OutOfMemory = error.OutOfMemory

-- the bytes are those of a body
abbrev pub IsThis : List ℕ → List ℕ → Type 0
IsThis body bytes = body ≡ bytes

-- the frame in front was taken, and L says what its body is
pub record IsNextFrame {A : Type 0} (L : A → List ℕ → Type 0) (a : A) (old : FrameState) (s : List ℕ) (new : FrameState) (rest : List ℕ) : Type 0 where
  pub body : List ℕ
  pub cut : s ≡ frame body ++ rest
  pub short : length body ≤ longest
  pub is : L a body
  pub before : IsBefore rest new
  pub place : new.place + length rest ≡ old.place + length s

-- it was, or F says why it was not
abbrev pub GivesNext : {A : Type 0} → (A → List ℕ → Type 0) → (ℕ → List ℕ → Stop → Type 0) → FrameState → List ℕ → Result A StreamError → FrameState → List ℕ → Type 0
GivesNext L F old s (Ok a) new rest = IsNextFrame L a old s new rest
GivesNext L F old s (Err (error.Stopped why)) new rest = F old.place s why
GivesNext L F old s (Err error.OutOfMemory) new rest = Unit {0}

-- the lines of a stream were appended to a list
abbrev pub AppendsLines : List ℕ → List ℕ → List ℕ → Result (Unit {0}) StreamError → Type 0
AppendsLines stream old new (Ok u) = (text : List ℕ) × IsWholeStream stream text × (new ≡ old ++ text)
AppendsLines stream old new (Err (error.Stopped why)) = (lines : List ℕ) × StopsAfter stream lines why × (new ≡ old ++ lines)
AppendsLines stream old new (Err error.OutOfMemory) = Unit {0}
