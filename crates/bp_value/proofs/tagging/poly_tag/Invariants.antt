-- The hash is the low 32 bits of the number of the name's bytes so far.
use Rattle.std.proofs.Common.{◌≡◌, ◌%◌, ◌^◌, take}
use Rattle.bp_value.specs.Tags.{name_number}
use Rattle.bp_value.proofs.tagging.poly_tag.Given as goal

abbrev pub invariant-loop-byte : goal.invariant-loop-byte
invariant-loop-byte l = l.hash ≡ name_number (take l.byte-index l.name) % 2 ^ 32
