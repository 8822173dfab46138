use Rattle.std.proofs.Common.{◌%◌, ◌^◌, ◌≤◌}
use Rattle.bp_num.proofs.reading.passing_place.Given as goal

-- the bytes below the place do not pass
abbrev pub invariant-loop-place : goal.invariant-loop-place
invariant-loop-place l = l.low % 256 ^ l.place ≤ l.max
