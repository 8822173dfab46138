-- What the reading of a schedule keeps from line to line.
use Rattle.std.specs.Prelude.{◌≡◌, ℕ, List, [], ◌∷◌, ◌++◌, true, false, ◌⊎◌}
use Rattle.bp_value.specs.declared.value.Value.{Value}
use Rattle.bp_value.specs.declared.value.Value.TheVariants as val
use Rattle.rpc_schema.specs.TextLines.{Numbered, is_skipped}
use Rattle.rpc_schema.specs.declared.error.SchemaError.{SchemaError}
use Rattle.rpc_schema.specs.declared.error.SchemaError.TheVariants as schema_error
use Rattle.rpc_schedule.specs.declared.event.Event.{Event}
use Rattle.rpc_schedule.specs.declared.event.Lined.{Lined}
use Rattle.rpc_schedule.specs.declared.error.ScheduleError.{ScheduleError}
use Rattle.rpc_schedule.specs.declared.error.ScheduleError.TheVariants as error
use Rattle.rpc_schedule.specs.EventLines.{IsLineOfEvent, IsEventRefusedAt}
use Rattle.rpc_schedule.specs.Schedules.{IsBadEventLine}

-- the value is that of a text
abbrev pub IsTextValue : Value → Type 0
IsTextValue v = (text : List ℕ) × (v ≡ val.Text text)

-- what is wrong with a schema is wrong with its schedule
abbrev pub of_schema : SchemaError → ScheduleError
of_schema (schema_error.BadLine line at) = error.BadLine line at
of_schema (schema_error.Twice line) = error.Twice line
of_schema schema_error.OutOfMemory = error.OutOfMemory

-- the line is that of no event
abbrev pub RefusesEvent : ℕ → List ℕ → ScheduleError → Type 0
RefusesEvent number bytes (error.BadLine line at) = (line ≡ number) × IsEventRefusedAt bytes at
RefusesEvent number bytes (error.Twice line) = ⊥
RefusesEvent number bytes error.OutOfMemory = Unit {0}

-- the event of the line was added
abbrev pub AddsEvent : ℕ → List ℕ → List Lined → List Lined → Type 0
AddsEvent number bytes old new = (e : Event) × (new ≡ old ++ record { line = number; event = e } ∷ []) × IsLineOfEvent e bytes []

-- one line of the text: it says nothing, or its event was added
abbrev pub FollowsEventLine : ℕ → List ℕ → List Lined → List Lined → Type 0
FollowsEventLine number bytes old new = ((is_skipped bytes ≡ true) × (new ≡ old)) ⊎ ((is_skipped bytes ≡ false) × AddsEvent number bytes old new)

abbrev pub RefusesNextEvent : ℕ → List ℕ → ScheduleError → Type 0
RefusesNextEvent number bytes e = (is_skipped bytes ≡ false) × RefusesEvent number bytes e

-- why the lines are no events
abbrev pub RefusesEvents : List Numbered → ScheduleError → Type 0
RefusesEvents ls (error.BadLine number at) = IsBadEventLine ls number at
RefusesEvents ls (error.Twice number) = ⊥
RefusesEvents ls error.OutOfMemory = Unit {0}
