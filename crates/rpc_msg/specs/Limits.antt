-- What an end allows, and in which ranges.
use Rattle.std.specs.Prelude.{ℕ, ◌≤◌, ◌^◌}
use Rattle.rpc_msg.specs.declared.shared.Limits.{Limits}

abbrev pub usual_limits : Limits
usual_limits = record { max_message = 104857600; max_open = 65536; beat_every = 10000; beat_timeout = 30000 }

abbrev pub IsWithin : ℕ → ℕ → ℕ → Type 0
IsWithin low high n = (low ≤ n) × (n ≤ high)

pub record AreLimits (l : Limits) : Type 0 where
  pub message : IsWithin 1024 (2 ^ 30) l.max_message
  pub count : IsWithin 1 (2 ^ 20) l.max_open
  pub every : IsWithin 1 (2 ^ 40) l.beat_every
  pub timeout : IsWithin 1 (2 ^ 40) l.beat_timeout
