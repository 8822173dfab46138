-- The world of two ends and two wires: what was said, the bytes moved and taken, the ends and their moments.
use Rattle.std.specs.Prelude.{ℕ, zero, suc, ◌+◌, ◌-◌, ◌^◌, min, max, Bool, ◌&&◌, ◌||◌, List, [], ◌∷◌, length, drop, map, fold, Option, Some, None, if◌then◌else◌, nat_eq, nat_le, nat_lt}
use Rattle.std.specs.Option.{is_some}
use Rattle.rpc_frame.specs.Frames.{frame, frames}
use Rattle.rpc_msg.specs.declared.message.Message.{Message}
use Rattle.rpc_talk.specs.Acts.{body_of, own_header}
use Rattle.rpc_meeting.specs.Talks.{Common, Talk, first_talk, heard_up, up_beat, down_beat}

-- ---- frames

-- the bytes of a message's frame
abbrev pub size : Message → ℕ
size a = length (frame (body_of a))

abbrev pub header_size : ℕ
header_size = length (frame own_header)

-- the bytes of all frames of a log
abbrev pub total : List Message → ℕ
total [] = 0
total (a ∷ later) = size a + total later

-- the longest prefix of a log whose frames take at most n bytes together
abbrev pub whole : List Message → ℕ → List Message
whole [] n = []
whole (a ∷ later) n = if nat_le (size a) n then a ∷ whole later (n - size a) else []

-- ---- the world

-- why an end is closed in this world: no fault of the other end is among the reasons
pub data Reason : Type 0 where
  Late : ℕ → ℕ → Reason
  EndOfInput : Reason
  ClosedHere : Reason
  JournalFull : ℕ → Reason

-- one end: why it is closed, if it is, and when it last heard a frame and last sent a heartbeat
pub record Side : Type 0 where
  pub cause : Option Reason
  pub heard : ℕ
  pub sent : ℕ

-- `up` and `down` are the bytes moved, and `got` those that the client took
pub record World : Type 0 where
  pub talk : Talk
  pub up : ℕ
  pub down : ℕ
  pub got : ℕ
  pub client : Side
  pub server : Side
  pub now : ℕ

abbrev pub first_side : Side
first_side = record { cause = None; heard = 0; sent = 0 }

abbrev pub first_world : World
first_world = record { talk = first_talk; up = 0; down = 0; got = 0; client = first_side; server = first_side; now = 0 }

abbrev pub is_shut : Side → Bool
is_shut s = is_some s.cause

-- the messages that came wholly to the server, and to the client
abbrev pub arrived : World → List Message
arrived w = whole w.talk.ups (w.up - header_size)

abbrev pub come : World → List Message
come w = whole w.talk.downs (w.got - header_size)

-- an end is open once the other end's header has wholly moved to it
abbrev pub has_header : ℕ → Bool
has_header n = nat_le header_size n

-- whole frames among the first n bytes, the header's among them
abbrev pub frame_count : List Message → ℕ → ℕ
frame_count log n = (if has_header n then 1 else 0) + length (whole log (n - header_size))

-- the end of the last whole frame among the first n bytes
abbrev pub boundary : List Message → ℕ → ℕ
boundary log n = if has_header n then header_size + total (whole log (n - header_size)) else 0

abbrev pub flying : List Message → ℕ → ℕ
flying log n = header_size + total log - n

-- ---- movements

-- the most bytes that a client's journal holds
abbrev pub journal : ℕ
journal = 2 ^ 30

-- the moment last heard, where a movement brought a whole frame
abbrev pub heard_since : Side → ℕ → ℕ → ℕ → ℕ
heard_since s now before after = if nat_lt before after then now else s.heard

-- the server hears the messages that the piece brings whole
abbrev pub up_talk : Common → World → ℕ → Talk
up_talk r w n = fold (heard_up r) w.talk (drop (length (arrived w)) (whole w.talk.ups (w.up + n - header_size)))

abbrev pub up_piece : Common → World → ℕ → World
up_piece r w n = record {
  talk = up_talk r w n;
  up = w.up + n;
  down = w.down;
  got = w.got;
  client = w.client;
  server = record { cause = w.server.cause; heard = heard_since w.server w.now (frame_count w.talk.ups w.up) (frame_count w.talk.ups (w.up + n)); sent = w.server.sent };
  now = w.now;
}

-- the client takes a piece frame by frame; what would pass the limit is not taken, and closes it
abbrev pub took_bytes : World → ℕ → ℕ
took_bytes w n = if nat_le (w.got + n) journal then w.got + n else max w.got (boundary w.talk.downs journal)

abbrev pub full_cause : World → ℕ → Option Reason
full_cause w n = if nat_le (w.got + n) journal then w.client.cause else Some (JournalFull (took_bytes w n))

abbrev pub down_piece : World → ℕ → World
down_piece w n = record {
  talk = w.talk;
  up = w.up;
  down = w.down + n;
  got = took_bytes w n;
  client = record { cause = full_cause w n; heard = heard_since w.client w.now (frame_count w.talk.downs w.got) (frame_count w.talk.downs (took_bytes w n)); sent = w.client.sent };
  server = w.server;
  now = w.now;
}

-- n bytes in pieces of at most `by`, until the end that gets them is closed; `fuel` is at least the number of pieces
abbrev pub up_pieces : ℕ → Common → World → ℕ → ℕ → World
up_pieces zero r w n by = w
up_pieces (suc fuel) r w n by = if is_shut w.server || nat_eq n 0 then w else up_pieces fuel r (up_piece r w (min n by)) (n - min n by) by

abbrev pub down_pieces : ℕ → World → ℕ → ℕ → World
down_pieces zero w n by = w
down_pieces (suc fuel) w n by = if is_shut w.client || nat_eq n 0 then w else down_pieces fuel (down_piece w (min n by)) (n - min n by) by

-- ---- moments and closes

abbrev pub set_client : World → Side → World
set_client w s = record w { client = s }

abbrev pub set_server : World → Side → World
set_server w s = record w { server = s }

abbrev pub set_now : World → ℕ → World
set_now w n = record w { now = n }

abbrev pub set_talk : World → Talk → World
set_talk w t = record w { talk = t }

-- an end closes once
abbrev pub close_side : Side → Reason → Side
close_side s why = if is_shut s then s else record s { cause = Some why }

abbrev pub sent_at : Side → ℕ → Side
sent_at s now = record s { sent = now }

abbrev pub is_late : Common → ℕ → Side → Bool
is_late r now s = nat_lt r.limits.beat_timeout (now - s.heard)

abbrev pub is_due : Common → ℕ → Side → Bool
is_due r now s = nat_le r.limits.beat_every (now - s.sent)

abbrev pub tick_client : Common → World → World
tick_client r w =
    if is_shut w.client then w
    else if is_late r w.now w.client then set_client w (close_side w.client (Late w.client.heard w.now))
    else if has_header w.got && is_due r w.now w.client then set_talk (set_client w (sent_at w.client w.now)) (up_beat w.talk)
    else w

abbrev pub tick_server : Common → World → World
tick_server r w =
    if is_shut w.server then w
    else if is_late r w.now w.server then set_server w (close_side w.server (Late w.server.heard w.now))
    else if has_header w.up && is_due r w.now w.server then set_talk (set_server w (sent_at w.server w.now)) (down_beat w.talk)
    else w

-- ---- bytes

-- all that an end wrote: its header, and the frames of a log
abbrev pub stream_of : List Message → List ℕ
stream_of log = frames (own_header ∷ map body_of log)

-- the bodies whose frames are whole among its first n bytes
abbrev pub came_bodies : List Message → ℕ → List (List ℕ)
came_bodies log n = if has_header n then own_header ∷ map body_of (whole log (n - header_size)) else []

-- and their messages
abbrev pub came_log : List Message → ℕ → List Message
came_log log n = if has_header n then whole log (n - header_size) else []
