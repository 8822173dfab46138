-- What is written where a schedule is refused.
use Rattle.std.specs.Prelude.{◌≡◌, ℕ, List, [], ◌++◌, codes}
use Rattle.std.specs.Fmt.{decimal}
use Rattle.rpc_schema.specs.TextLines.{text_lines}
use Rattle.rpc_schedule.specs.declared.error.ScheduleError.{ScheduleError}
use Rattle.rpc_schedule.specs.declared.error.ScheduleError.TheVariants as error
use Rattle.rpc_schedule.specs.Schedules.{RefusesSchedule}
use Rattle.rpc_tool.specs.Lines.{line_about}

-- the line of the input, and what is wrong with it; nothing, where memory ran out
abbrev pub schedule_refused : ScheduleError → List ℕ
schedule_refused (error.BadLine number at) = line_about number (codes "refused at " ++ decimal at)
schedule_refused (error.Twice number) = line_about number (codes "twice")
schedule_refused error.OutOfMemory = []

-- it says what is wrong with the input
abbrev pub IsFault : ScheduleError → Type 0
IsFault (error.BadLine number at) = Unit {0}
IsFault (error.Twice number) = Unit {0}
IsFault error.OutOfMemory = ⊥

-- the line is that of the first fault of the input
abbrev pub IsScheduleRefusal : List ℕ → List ℕ → Type 0
IsScheduleRefusal input text = (e : ScheduleError) × IsFault e × RefusesSchedule (text_lines input) e × (text ≡ schedule_refused e)
