use Rattle.std.proofs.Common.{◌≡◌, ◌≢◌, ℕ, ◌-◌, List, length}
use Rattle.bp_codec.specs.Plan.{Reading, AreRead}
use Rattle.bp_codec.specs.Levels.{next_of}
use Rattle.bp_codec.specs.Opened.{opened, Reaches}
use Rattle.bp_codec.specs.declared.levels.Next.{Next}
use Rattle.bp_codec.specs.declared.levels.Next.TheVariants as next
use Rattle.bp_codec.proofs.open.Open.descend.Given as goal

-- what was opened so far reads as before
abbrev pub invariant-parts : goal.invariant-parts
invariant-parts l = record {
  stands : next_of l.self.top.left ≡ l.next;
  some : l.next ≢ next.Nothing;
  reaches : Reaches (length l.plan.nodes.items) l.self;
  same : (m : ℕ) (reading : ℕ → Reading) → AreRead m l.plan.nodes.items l.plan.tags.items reading → (s : List ℕ) → opened m reading l.initial.self s ≡ opened m reading l.self s;
}

-- each node stands behind the one before it
abbrev pub place_of : Next → ℕ
place_of (next.Node i) = i
place_of _ = 0

abbrev pub decreases-parts : goal.decreases-parts
decreases-parts l = length l.plan.nodes.items - place_of l.next
