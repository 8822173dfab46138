-- None of the names so far is the one looked for.
use Rattle.std.proofs.Common.{◌≢◌, ◌<◌, ℕ, slice_get}
use Rattle.bp_value.specs.Named.{names_of}
use Rattle.bp_value.proofs.naming.Names.earlier.Given as goal

abbrev pub invariant-loop-first : goal.invariant-loop-first
invariant-loop-first l =
    (k : ℕ) → k < l.first → slice_get (names_of l.self) k ≢ slice_get (names_of l.self) l.second
