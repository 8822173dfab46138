-- The lines so far are those of the entries so far.
use Rattle.std.proofs.Common.{take}
use Rattle.std.specs.List.{All}
use Rattle.rpc_schema.specs.Entries.{IsEntry}
use Rattle.rpc_schema.specs.SchemaTexts.{AreEntryLines}
use Rattle.rpc_schema.specs.Reading.{slices, Marks}
use Rattle.rpc_schema.proofs.ReadingSteps.{kept}
use Rattle.rpc_schema.proofs.reading.read_entries.Given as goal

abbrev pub invariant-loop-index : goal.invariant-loop-index
invariant-loop-index l = record {
  marks : Marks l.seen l.entries.items;
  lines : AreEntryLines l.entries.items (kept (take l.index (slices l.lines)));
  each : All IsEntry l.entries.items;
}
