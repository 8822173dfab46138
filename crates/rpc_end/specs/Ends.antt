-- What is seen of an end of a connection, whether it calls or answers: bytes come in and are cut into frames, messages go out, moments
-- pass, and it closes once.
use Rattle.std.specs.Prelude.{◌≡◌, ℕ, ◌+◌, ◌≤◌, ◌^◌, Bool, true, false, ◌&&◌, List, [], ◌++◌, length, drop, min, Option, Some, None, ◌⊎◌, if◌then◌else◌}
use Rattle.std.specs.Option.{is_some, is_none}
use Rattle.readers.specs.Reader.{Stands, IsProperFront, IsFaultAt}
use Rattle.bp_num.specs.declared.number.Why.TheVariants.{Length}
use Rattle.rpc_frame.specs.Frames.{frame, IsFrame, FrameWhy}
use Rattle.rpc_frame.specs.States.{stream_place, missing}
use Rattle.rpc_msg.specs.declared.beat.BeatAct.{BeatAct}
use Rattle.rpc_msg.specs.declared.beat.BeatAct.TheVariants as act
use Rattle.rpc_msg.specs.declared.message.Message.{Message}
use Rattle.rpc_msg.specs.declared.message.Message.TheVariants as message
use Rattle.rpc_msg.specs.declared.shared.CloseCause.{CloseCause}
use Rattle.rpc_msg.specs.declared.shared.CloseCause.TheVariants as cause
use Rattle.rpc_msg.specs.declared.shared.Limits.{Limits}
use Rattle.rpc_msg.specs.declared.shared.Ticked.{Ticked}
use Rattle.rpc_msg.specs.declared.shared.Ticked.TheVariants as ticked
use Rattle.rpc_msg.specs.Beats.{BeatState, new_beat, heard_at, beat_of, after_beat}
use Rattle.rpc_log.specs.Readings.{header_in}
use Rattle.rpc_talk.specs.Acts.{body_of, own_header}
use Rattle.rpc_talk.specs.Causes.{bad_header, bad_message, header_cause}

-- the most bytes of a body; the bytes behind the last whole frame; how many bytes were taken, and how many of them were in whole frames
-- (both stay at the last value of a u64); whether a header was read; the moments; why it is closed; the bytes that are to go out
pub record EndState : Type 0 where
  pub max : ℕ
  pub held : List ℕ
  pub place : ℕ
  pub start : ℕ
  pub greeted : Bool
  pub beat : BeatState
  pub cause : Option CloseCause
  pub output : List ℕ

-- what every end keeps: `failed` is where its reader of frames stopped
pub record IsEnd (at_most : ℕ) (held : List ℕ) (start : ℕ) (greeted : Bool) (cause : Option CloseCause) (failed : Option ℕ) : Type 0 where
  pub limit : at_most ≤ 2 ^ 30
  pub front : IsProperFront (IsFrame at_most) held
  pub going : cause ≡ None → failed ≡ None
  pub opening : greeted ≡ false → start ≡ 0

abbrev pub is_closed : EndState → Bool
is_closed e = is_some e.cause

-- it has read a header, and is not closed
abbrev pub is_link_open : EndState → Bool
is_link_open e = e.greeted && is_none e.cause

-- ---- what goes out

abbrev pub first_end : Limits → ℕ → EndState
first_end limits now = record {
  max = limits.max_message;
  held = [];
  place = 0;
  start = 0;
  greeted = false;
  beat = new_beat limits.beat_every limits.beat_timeout now;
  cause = None;
  output = frame own_header;
}

-- a message's frame goes out
abbrev pub said : EndState → Message → EndState
said e a = record e { output = e.output ++ frame (body_of a) }

-- the oldest bytes that are to go out are taken, as many as there is room for
abbrev pub out_count : ℕ → List ℕ → ℕ
out_count room output = min room (length output)

abbrev pub taken_out : EndState → ℕ → EndState
taken_out e count = record e { output = drop count e.output }

-- ---- closes

abbrev pub closed_by : EndState → CloseCause → EndState
closed_by e why = record e { cause = Some why }

-- a cause is kept
abbrev pub shut_by : EndState → CloseCause → Option CloseCause → EndState
shut_by e why (Some old) = e
shut_by e why None = closed_by e why

abbrev pub shut : EndState → CloseCause → EndState
shut e why = shut_by e why e.cause

-- ---- moments

abbrev pub ticked_as : BeatAct → Ticked
ticked_as act.Quiet = ticked.Quiet
ticked_as act.Send = ticked.Sent
ticked_as (act.Late last now) = ticked.Late last now

abbrev pub tick_answer : EndState → ℕ → Ticked
tick_answer e now = if is_closed e then ticked.Closed else ticked_as (beat_of e.beat now (is_link_open e))

-- a heartbeat goes out, or the end closes
abbrev pub after_act : EndState → BeatAct → EndState
after_act e act.Quiet = e
after_act e act.Send = said e message.Heartbeat
after_act e (act.Late last now) = closed_by e (cause.Late last now)

abbrev pub with_beat : EndState → BeatState → EndState
with_beat e beat = record e { beat = beat }

abbrev pub acted : EndState → ℕ → BeatAct → EndState
acted e now what = after_act (with_beat e (after_beat e.beat now what)) what

abbrev pub after_tick : EndState → ℕ → EndState
after_tick e now = if is_closed e then e else acted e now (beat_of e.beat now (is_link_open e))

-- ---- what comes in

-- a frame goes on at the end of a piece
abbrev pub FrameGoesOn : EndState → List ℕ → Type 0
FrameGoesOn e piece = IsProperFront (IsFrame e.max) (e.held ++ piece)

-- the first bytes of a piece, so many, are the last of a frame of this body
abbrev pub EndsFrame : EndState → List ℕ → List ℕ → ℕ → Type 0
EndsFrame e piece body used = Stands (IsFrame e.max) (e.held ++ piece) body (length e.held + used)

-- the byte behind the first n of a piece makes a length too long
abbrev pub PassesLimit : EndState → List ℕ → ℕ → Type 0
PassesLimit e piece n = IsFaultAt (IsFrame e.max) (FrameWhy e.max) (e.held ++ piece) (length e.held + n) Length

-- how many bytes are missing to the end of a length or of a frame; none of an end that is closed
abbrev pub wanted_of : EndState → ℕ
wanted_of e = if is_closed e then 0 else missing e.held

-- a feed of the piece takes n bytes, where memory does not run out
abbrev pub WouldTakeOf : EndState → List ℕ → Option CloseCause → ℕ → Type 0
WouldTakeOf e piece (Some why) n = n ≡ 0
WouldTakeOf e piece None n =
    ((body : List ℕ) × EndsFrame e piece body n)
    ⊎ (FrameGoesOn e piece × (n ≡ length piece)
    ⊎ ((k : ℕ) × PassesLimit e piece k × (n ≡ k + 1)))

-- so many bytes were taken, and these stand behind the last whole frame
abbrev pub holding : EndState → List ℕ → ℕ → EndState
holding e held used = record e { held = held; place = stream_place (e.place + used) }

-- a whole frame was heard
abbrev pub heard : EndState → ℕ → EndState
heard e now = record e { start = e.place; greeted = true; beat = heard_at e.beat now }

-- why a body is neither the header nor the message that comes next
abbrev pub unread : EndState → List ℕ → Option CloseCause
unread e body = if e.greeted then bad_message e.max (e.start + 8) body else header_cause (bad_header e.max body) None (header_in e.max body)
