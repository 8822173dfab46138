-- The bytes so far are bytes of names.
use Rattle.std.proofs.Common.{take}
use Rattle.std.specs.List.{All}
use Rattle.bp_value.specs.Names.{IsNameByte}
use Rattle.bp_value.proofs.naming.are_name_bytes.Given as goal

abbrev pub invariant-loop-byte : goal.invariant-loop-byte
invariant-loop-byte l = All IsNameByte (take l.byte-index l.bytes)
