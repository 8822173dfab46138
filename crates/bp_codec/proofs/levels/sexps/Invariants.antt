use Rattle.std.proofs.Common.{◌≡◌, map}
use Rattle.bp_codec.specs.Levels.{sexp_of}
use Rattle.bp_codec.proofs.levels.sexps.Given as goal

-- the S-expressions of the values so far
abbrev pub invariant-loop-value : goal.invariant-loop-value
invariant-loop-value l = l.all.items ≡ map sexp_of l.yielded
