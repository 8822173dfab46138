use Rattle.std.proofs.Common.{◌≡◌, ℕ, List, ◌++◌, length}
use Rattle.bp_codec.specs.Keeping.{LeavesSome}
use Rattle.bp_codec.specs.Opened.{opened, Reaches}
use Rattle.bp_codec.specs.Plan.{Reading, AreRead}
use Rattle.bp_codec.proofs.open.Open.run.Given as goal

-- what is open reads on as it did, whatever follows
abbrev pub invariant-values : goal.invariant-values
invariant-values l = record {
  keeps : (reading : ℕ → Reading) → AreRead l.max l.plan.nodes.items l.plan.tags.items reading → (x : List ℕ)
      → opened l.max reading l.initial.self (l.initial.rest.now ++ x) ≡ opened l.max reading l.self (l.rest.now ++ x);
  reaches : Reaches (length l.plan.nodes.items) l.self;
  some_left : LeavesSome l.initial.rest.now l.rest.now;
}

abbrev pub decreases-values : goal.decreases-values
decreases-values l = length l.rest.now
