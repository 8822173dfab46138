-- The names so far are names.
use Rattle.std.proofs.Common.{take}
use Rattle.std.specs.List.{All}
use Rattle.bp_value.specs.Names.{IsShapeName}
use Rattle.bp_value.specs.Named.{names_of}
use Rattle.bp_value.proofs.naming.Names.first_bad.Given as goal

abbrev pub invariant-loop-place : goal.invariant-loop-place
invariant-loop-place l = All IsShapeName (take l.place (names_of l.self))
