-- No entry so far is the one that is sought.
use Rattle.std.proofs.Common.{ℕ, ◌<◌}
use Rattle.rpc_schema.specs.Choice.{StandsAt}
use Rattle.rpc_schema.proofs.schema.Schema.find.Given as goal

abbrev pub invariant-loop-place : goal.invariant-loop-place
invariant-loop-place l = (p : ℕ) → p < l.place → StandsAt l.entry-items l.name l.version l.side p → ⊥
