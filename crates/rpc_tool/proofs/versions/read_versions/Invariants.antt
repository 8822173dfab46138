-- The parts so far spell the versions so far.
use Rattle.std.proofs.Common.{take}
use Rattle.std.specs.List.{AllZip}
use Rattle.rpc_schema.specs.SchemaLines.{SpellsVersion}
use Rattle.rpc_schema.specs.Reading.{slices}
use Rattle.rpc_tool.proofs.versions.read_versions.Given as goal

abbrev pub invariant-loop-part : goal.invariant-loop-part
invariant-loop-part l = AllZip SpellsVersion l.own.items (take l.part-index (slices l.part-items))
