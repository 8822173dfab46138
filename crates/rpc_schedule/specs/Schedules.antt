-- Texts of schedules, and the first line at fault.
use Rattle.std.specs.Prelude.{◌≡◌, ◌≢◌, ℕ, ◌+◌, List, [], ◌∷◌, ◌++◌, length, codes, Result, Ok, Err, ◌⊎◌}
use Rattle.std.specs.List.{All, AllZip}
use Rattle.rpc_schema.specs.declared.desc.Entry.{Entry}
use Rattle.rpc_schema.specs.TextLines.{Numbered, text_lines, lines_kept}
use Rattle.rpc_schema.specs.SchemaTexts.{AreEntryLines, IsBadSchemaLine, IsTwice}
use Rattle.rpc_schedule.specs.declared.event.Lined.{Lined}
use Rattle.rpc_schedule.specs.declared.error.ScheduleError.{ScheduleError}
use Rattle.rpc_schedule.specs.declared.error.ScheduleError.TheVariants as error
use Rattle.rpc_schedule.specs.declared.schedule.Schedule.{Schedule}
use Rattle.rpc_schedule.specs.EventLines.{IsLineOfEvent, IsGoodEvent, IsEventRefusedAt}

-- ---- the line between the schema and the events

abbrev pub schema_end : List ℕ
schema_end = codes "--"

abbrev pub NoMark : List (List ℕ) → Type 0
NoMark ls = All (λ l. l ≢ schema_end) ls

-- the lines before the first `--`, and those after it
pub record IsCut (ls heads behind : List (List ℕ)) : Type 0 where
  pub place : ls ≡ heads ++ schema_end ∷ behind
  pub first : NoMark heads

-- the lines before the first `--`, or all where there is none
abbrev pub IsSchemaPart : List (List ℕ) → List (List ℕ) → Type 0
IsSchemaPart ls heads = ((behind : List (List ℕ)) × IsCut ls heads behind) ⊎ (NoMark ls × (heads ≡ ls))

-- the lines of the schema that say something, and those of the events, with their numbers in the text
abbrev pub schema_lines : List (List ℕ) → List Numbered
schema_lines heads = lines_kept 1 heads

abbrev pub event_lines : List (List ℕ) → List (List ℕ) → List Numbered
event_lines heads behind = lines_kept (length heads + 2) behind

-- ---- schedules

-- the event is that of the line, to the line's end
abbrev pub IsLinedEvent : Lined → Numbered → Type 0
IsLinedEvent e l = (e.line ≡ l.number) × IsLineOfEvent e.event l.bytes []

abbrev pub AreGoodEvents : List Lined → Type 0
AreGoodEvents es = All (λ e. IsGoodEvent e.event) es

-- a line for each entry, `--`, and a line for each event
pub record AreScheduleLines (schedule : Schedule) (ls : List (List ℕ)) : Type 0 where
  pub heads : List (List ℕ)
  pub behind : List (List ℕ)
  pub cut : IsCut ls heads behind
  pub schema : AreEntryLines schedule.schema (schema_lines heads)
  pub events : AllZip IsLinedEvent schedule.events (event_lines heads behind)

abbrev pub IsScheduleText : Schedule → List ℕ → Type 0
IsScheduleText schedule text = AreScheduleLines schedule (text_lines text)

-- ---- the first line at fault

-- it is one of the schema, and refused at this byte
abbrev pub IsBadInSchema : List (List ℕ) → ℕ → ℕ → Type 0
IsBadInSchema ls number at = (heads : List (List ℕ)) × IsSchemaPart ls heads × IsBadSchemaLine (schema_lines heads) number at

-- all lines are of a schema, and `--` is missing: refused at the first byte of the line after the last
abbrev pub LacksMark : List (List ℕ) → ℕ → ℕ → Type 0
LacksMark ls number at =
    NoMark ls × ((es : List Entry) × AreEntryLines es (schema_lines ls)) × (number ≡ length ls + 1) × (at ≡ 0)

-- of some lines of events the first that is of no event is refused at this byte
pub record IsBadEventLine (ls : List Numbered) (number at : ℕ) : Type 0 where
  pub before : List Numbered
  pub bytes : List ℕ
  pub behind : List Numbered
  pub cut : ls ≡ before ++ record { number = number; bytes = bytes } ∷ behind
  pub events : List Lined
  pub good : AllZip IsLinedEvent events before
  pub refused : IsEventRefusedAt bytes at

-- it is one of the events
pub record IsBadInEvents (ls : List (List ℕ)) (number at : ℕ) : Type 0 where
  pub heads : List (List ℕ)
  pub behind : List (List ℕ)
  pub cut : IsCut ls heads behind
  pub entries : List Entry
  pub schema : AreEntryLines entries (schema_lines heads)
  pub event : IsBadEventLine (event_lines heads behind) number at

abbrev pub IsBadScheduleLine : List (List ℕ) → ℕ → ℕ → Type 0
IsBadScheduleLine ls number at = IsBadInSchema ls number at ⊎ (LacksMark ls number at ⊎ IsBadInEvents ls number at)

-- it has the name and version of an earlier line of the schema
abbrev pub IsTwiceInSchema : List (List ℕ) → ℕ → Type 0
IsTwiceInSchema ls number = (heads : List (List ℕ)) × IsSchemaPart ls heads × IsTwice (schema_lines heads) number

-- ---- answers

abbrev pub RefusesSchedule : List (List ℕ) → ScheduleError → Type 0
RefusesSchedule ls (error.BadLine number at) = IsBadScheduleLine ls number at
RefusesSchedule ls (error.Twice number) = IsTwiceInSchema ls number
RefusesSchedule ls error.OutOfMemory = Unit {0}

-- this schedule is given, if memory does not run out
abbrev pub GivesSchedule : Schedule → Result Schedule ScheduleError → Type 0
GivesSchedule schedule (Ok given) = given ≡ schedule
GivesSchedule schedule (Err error.OutOfMemory) = Unit {0}
GivesSchedule schedule (Err e) = ⊥
