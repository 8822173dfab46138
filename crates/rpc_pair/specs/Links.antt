-- What is seen of an end of a connection stands for its side of the world: why it is closed, whether it has a header, and its moments.
use Rattle.std.specs.Prelude.{◌≡◌, ℕ, ◌≤◌, false, ◌&&◌, List, [], ◌∷◌, if◌then◌else◌}
use Rattle.std.specs.Option.{option_map}
use Rattle.rpc_msg.specs.declared.message.Message.{Message}
use Rattle.rpc_msg.specs.declared.message.Message.TheVariants as message
use Rattle.rpc_msg.specs.declared.shared.CloseCause.{CloseCause}
use Rattle.rpc_msg.specs.declared.shared.CloseCause.TheVariants as cause
use Rattle.rpc_end.specs.Ends.{EndState}
use Rattle.rpc_meeting.specs.Talks.{Common}
use Rattle.rpc_meeting.specs.Worlds.{Reason, Late, EndOfInput, ClosedHere, JournalFull, Side, close_side, has_header, is_due, is_late, is_shut, sent_at}

abbrev pub cause_as : Reason → CloseCause
cause_as (Late last now) = cause.Late last now
cause_as EndOfInput = cause.EndOfInput
cause_as ClosedHere = cause.ClosedHere
cause_as (JournalFull got) = cause.JournalFull got

-- n bytes came to it, and it is this moment now
pub record LinkStands (r : Common) (n : ℕ) (side : Side) (now : ℕ) (e : EndState) : Type 0 where
  pub max : e.max ≡ r.limits.max_message
  pub cause : e.cause ≡ option_map cause_as side.cause
  pub greeted : is_shut side ≡ false → e.greeted ≡ has_header n
  pub every : e.beat.every ≡ r.limits.beat_every
  pub timeout : e.beat.timeout ≡ r.limits.beat_timeout
  pub seen : e.beat.latest ≤ now
  pub heard : e.beat.heard ≡ side.heard
  pub sent : e.beat.sent ≡ side.sent

-- ---- a moment

-- the side behind a moment: it closes, or a heartbeat goes out, or nothing happens
abbrev pub ticked_side : Common → ℕ → ℕ → Side → Side
ticked_side r n now side =
    if is_shut side then side
    else if is_late r now side then close_side side (Late side.heard now)
    else if has_header n && is_due r now side then sent_at side now
    else side

-- what goes out
abbrev pub beats : Common → ℕ → ℕ → Side → List Message
beats r n now side =
    if is_shut side then []
    else if is_late r now side then []
    else if has_header n && is_due r now side then message.Heartbeat ∷ []
    else []
