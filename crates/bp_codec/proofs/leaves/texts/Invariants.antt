use Rattle.std.proofs.Common.{◌≡◌, ℕ, ◌<◌, List, ◌++◌, length}
use Rattle.bp_codec.specs.declared.levels.Left.TheVariants as left
use Rattle.bp_codec.specs.declared.levels.Makes.{Makes}
use Rattle.bp_codec.specs.Plan.{Reading}
use Rattle.bp_codec.specs.Keeping.{LeavesSome}
use Rattle.bp_codec.specs.Leaves.{text_value}
use Rattle.bp_codec.specs.Levels.{Onward, fills}
use Rattle.bp_codec.proofs.leaves.texts.Given as goal

-- what is left reads on, whatever follows
abbrev pub invariant-texts : goal.invariant-texts
invariant-texts l = record {
  some : 0 < l.initial.count → 0 < l.count;
  keeps : (m : ℕ) (reading : ℕ → Reading) (node : ℕ) (k : Makes) (onward : Onward) → 0 < l.initial.count → ((t : List ℕ) → reading node t ≡ text_value l.max t) → (x : List ℕ)
      → fills m reading (left.Items node l.initial.count) k l.initial.values.items onward (l.initial.rest.now ++ x) ≡ fills m reading (left.Items node l.count) k l.values.items onward (l.rest.now ++ x);
  some_left : LeavesSome l.initial.rest.now l.rest.now;
}

abbrev pub decreases-texts : goal.decreases-texts
decreases-texts l = length l.rest.now
