-- The items so far are the same.
use Rattle.std.proofs.Common.{◌≡◌, take}
use Rattle.bp_value.proofs.comparing.items_same.Given as goal

abbrev pub invariant-loop-place : goal.invariant-loop-place
invariant-loop-place g l = take l.place l.items ≡ take l.place l.others
