use Rattle.std.proofs.Common.{◌≡◌, ℕ, ◌<◌, List, ◌++◌, length}
use Rattle.bp_codec.specs.declared.levels.Left.TheVariants as left
use Rattle.bp_codec.specs.declared.levels.Makes.{Makes}
use Rattle.bp_codec.specs.Plan.{Reading}
use Rattle.bp_codec.specs.Keeping.{LeavesSome}
use Rattle.bp_codec.specs.Leaves.{number_value}
use Rattle.bp_codec.specs.Levels.{Onward, fills}
use Rattle.bp_codec.proofs.leaves.numbers.Given as goal

-- what is left reads on, whatever follows
abbrev pub invariant-numbers : goal.invariant-numbers
invariant-numbers l = record {
  some : 0 < l.initial.count → 0 < l.count;
  keeps : (m : ℕ) (reading : ℕ → Reading) (node : ℕ) (k : Makes) (onward : Onward) → 0 < l.initial.count → ((t : List ℕ) → reading node t ≡ number_value l.kind t) → (x : List ℕ)
      → fills m reading (left.Items node l.initial.count) k l.initial.values.items onward (l.initial.rest.now ++ x) ≡ fills m reading (left.Items node l.count) k l.values.items onward (l.rest.now ++ x);
  some_left : LeavesSome l.initial.rest.now l.rest.now;
}

abbrev pub decreases-numbers : goal.decreases-numbers
decreases-numbers l = length l.rest.now
