-- The lines so far are those of the events so far.
use Rattle.std.proofs.Common.{take}
use Rattle.std.specs.List.{AllZip}
use Rattle.rpc_schema.specs.TextLines.{lines_kept}
use Rattle.rpc_schema.specs.Reading.{slices}
use Rattle.rpc_schedule.specs.Schedules.{IsLinedEvent}
use Rattle.rpc_schedule.proofs.reading.read_events.Given as goal

abbrev pub invariant-loop-index : goal.invariant-loop-index
invariant-loop-index l = AllZip IsLinedEvent l.events.items (lines_kept l.first (take l.index (slices l.lines)))
