-- The heartbeat rule. Moments and spans are milliseconds.
use Rattle.std.specs.Prelude.{ℕ, ◌-◌, ◌≤◌, max, Bool, ◌&&◌, nat_lt, nat_le, if◌then◌else◌}
use Rattle.rpc_msg.specs.declared.beat.BeatAct.{BeatAct}
use Rattle.rpc_msg.specs.declared.beat.BeatAct.TheVariants as act

-- the two spans, the greatest moment seen, and the moments at which something was last heard and a heartbeat last sent
pub record BeatState : Type 0 where
  pub every : ℕ
  pub timeout : ℕ
  pub latest : ℕ
  pub heard : ℕ
  pub sent : ℕ

-- what was heard and sent, was so at moments seen
pub record IsBeat (latest heard sent : ℕ) : Type 0 where
  pub heard_seen : heard ≤ latest
  pub sent_seen : sent ≤ latest

-- both spans begin when the end is made
abbrev pub new_beat : ℕ → ℕ → ℕ → BeatState
new_beat every timeout now = record { every = every; timeout = timeout; latest = now; heard = now; sent = now }

-- a moment below the greatest seen counts as the greatest seen
abbrev pub moment : BeatState → ℕ → ℕ
moment b now = max b.latest now

abbrev pub heard_at : BeatState → ℕ → BeatState
heard_at b now = record b { latest = moment b now; heard = moment b now }

-- the other end was silent for too long; or a heartbeat is due, where one may be sent
abbrev pub beat_of : BeatState → ℕ → Bool → BeatAct
beat_of b now may_send =
    if nat_lt b.timeout (moment b now - b.heard) then act.Late b.heard (moment b now)
    else if may_send && nat_le b.every (moment b now - b.sent) then act.Send
    else act.Quiet

abbrev pub after_beat : BeatState → ℕ → BeatAct → BeatState
after_beat b now act.Quiet = record b { latest = moment b now }
after_beat b now act.Send = record b { latest = moment b now; sent = moment b now }
after_beat b now (act.Late last at) = record b { latest = moment b now }
