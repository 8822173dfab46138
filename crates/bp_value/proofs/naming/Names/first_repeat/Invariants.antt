-- No two of the names so far are one.
use Rattle.std.proofs.Common.{◌≢◌, ◌<◌, ℕ, slice_get}
use Rattle.bp_value.specs.Named.{names_of}
use Rattle.bp_value.proofs.naming.Names.first_repeat.Given as goal

abbrev pub invariant-loop-second : goal.invariant-loop-second
invariant-loop-second l =
    (a b : ℕ) → a < b → b < l.second → slice_get (names_of l.self) a ≢ slice_get (names_of l.self) b
