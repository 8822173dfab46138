-- What each status of a run means, whatever the command.
use Rattle.std.specs.Prelude.{Option, ◌≡◌, ◌<◌, ◌↔◌, ℕ, List, [], ◌++◌, take, codes, String, ◌⊎◌, Result, Ok, Err, IsOk, IfSome, Bool, true, length, ⊤}
use Rattle.std.specs.declared.alloc.Global.{Global}
use Rattle.rpc_schedule.specs.declared.schedule.Schedule.{Schedule}
use Rattle.rpc_schedule.specs.Schedules.{IsScheduleText}
use Rattle.rpc_tool.specs.Lines.{line}
use Rattle.rpc_tool.specs.Limits.{most_input}
use Rattle.rpc_tool.specs.Commands.{IsNamed, IsDone, IsRefusal, IsReplay, MeetsWires}
use Rattle.std.specs.Io.KnownBytes.{IsAtEnd}
use Rattle.bp_base.specs.Whole.{Came}
use Rattle.rpc_tool.specs.ShapeRefusals.{shape_refused}
use Rattle.rpc_tool.specs.Replayed.{FreshOver, HonestOver, ReportedOver, ReplayedOver}
use Rattle.rpc_tool.specs.declared.command.Command.{Command}
use Rattle.rpc_tool.specs.declared.command.Misuse.{Misuse}
use Rattle.rpc_tool.specs.declared.command.Misuse.TheVariants as misuse
use Rattle.bp_value.specs.declared.OutOfMemory as oom
use Rattle.rpc_tool.specs.declared.answers.Answer.{Answer}
use Rattle.rpc_tool.specs.declared.answers.Answer.TheVariants as answer
use Rattle.rpc_tool.specs.declared.status.Status.{Status}
use Rattle.rpc_tool.specs.declared.status.Status.TheVariants.{Done, Refused, BadShape, Usage, ReadFault, WriteFault, WireFault, OutOfMemory, TooLong}

-- the exit status
abbrev pub code_of : Status → ℕ
code_of Done = 0
code_of Refused = 1
code_of BadShape = 1
code_of Usage = 2
code_of ReadFault = 3
code_of WriteFault = 4
code_of WireFault = 5
code_of OutOfMemory = 6
code_of TooLong = 7

-- the line where words name no command
abbrev pub usage_line : List ℕ
usage_line = line (codes "usage: "
    ++ codes "rpc show SHAPE | write SHAPE | frames | menu NAME VERSIONS | replay | gen N")

-- A text is a report of a schedule, by what two wires told before and tell now: over fresh wires it
-- shows what they gave, and over honest ones it is the text of the replay.
abbrev pub ReportsOver : {W : Type 0} → (W → Type 0) → (W → Option (List ℕ)) → (W → Option (List ℕ))
    → W → W → W → W → Schedule → List ℕ → Type 0
ReportsOver honest sent given up_old up_new down_old down_new s text =
    (FreshOver sent given up_old down_old → ReportedOver sent given up_new down_new s text)
    × (HonestOver honest sent given up_old down_old
    → ReplayedOver sent given up_new down_new s text)

-- A text is what a run has to write at a status, by the command that its words name: the usage line where they are of no form,
-- a line where the word for a shape is refused, and else what the command writes once it is done or where it refuses its input.
abbrev pub IsAnswer : (Schedule → List ℕ → Type 0) → Result Command Misuse → List ℕ → Status → List ℕ → Type 0
IsAnswer Reports (Err misuse.Usage) input Usage text = text ≡ usage_line
IsAnswer Reports (Err (misuse.BadShape error)) input BadShape text = text ≡ shape_refused error
IsAnswer Reports (Ok command) input Done text = IsDone Reports command input text
IsAnswer Reports (Ok command) input Refused text = IsRefusal command input text
IsAnswer Reports named input status text = ⊥

-- the words name a command that comes to use its wires
abbrev pub MayUseWires : Result Command Misuse → List ℕ → Type 0
MayUseWires (Ok command) input = MeetsWires command input
MayUseWires (Err e) input = ⊥

-- memory may run out: the words name a command, or it ran out as a word of one was read
abbrev pub MayRunOut : Result Command Misuse → Type 0
MayRunOut (Ok command) = ⊤
MayRunOut (Err misuse.Usage) = ⊥
MayRunOut (Err (misuse.BadShape error)) = ⊤
MayRunOut (Err misuse.OutOfMemory) = ⊤

-- What a run says at a status, where `Writes text` is that exactly this text was put to the output:
-- an answer, or a front of one where writing failed, or nothing.
abbrev pub IsSaid : (Schedule → List ℕ → Type 0) → Result Command Misuse → List ℕ → (List ℕ → Type 0) → Status → Type 0
IsSaid Reports named input Writes Done = (text : List ℕ) × IsAnswer Reports named input Done text × Writes text
IsSaid Reports named input Writes Refused = (text : List ℕ) × IsAnswer Reports named input Refused text × Writes text
IsSaid Reports named input Writes BadShape = (text : List ℕ) × IsAnswer Reports named input BadShape text × Writes text
IsSaid Reports named input Writes Usage = (text : List ℕ) × IsAnswer Reports named input Usage text × Writes text
IsSaid Reports named input Writes WriteFault =
    (status : Status) × (text : List ℕ) × (count : ℕ) × IsAnswer Reports named input status text × Writes (take count text)
IsSaid Reports named input Writes WireFault = MayUseWires named input × Writes []
IsSaid Reports named input Writes ReadFault = IsOk named × Writes []
IsSaid Reports named input Writes OutOfMemory = MayRunOut named × Writes []
IsSaid Reports named input Writes TooLong = IsOk named × Writes []

-- the statuses at which the input was read to its end
abbrev pub IsReadWhole : Status → Type 0
IsReadWhole Done = ⊤
IsReadWhole Refused = ⊤
IsReadWhole WireFault = ⊤
IsReadWhole status = ⊥

-- the statuses of which the program says something on standard error, and their codes
abbrev pub IsTrouble : Status → Type 0
IsTrouble ReadFault = ⊤
IsTrouble WriteFault = ⊤
IsTrouble OutOfMemory = ⊤
IsTrouble TooLong = ⊤
IsTrouble status = ⊥

abbrev pub IsTroubleCode : ℕ → Type 0
IsTroubleCode code = (status : Status) × IsTrouble status × (code ≡ code_of status)

-- What the code of a run means. `left` is what its input had to give, where told; `Ended` is that it is at its end now;
-- `Comes bytes` is that these bytes came from it, and `Writes text` that exactly this text was put to the output.
pub record Means (Reports : Schedule → List ℕ → Type 0) (Comes : List ℕ → Type 0) (left : Option (List ℕ)) (Ended : Type 0)
    (Writes : List ℕ → Type 0) (words : List (String Global)) (code : ℕ) : Type 0 where
  -- the command that the words name, or why they name none
  pub named : Result Command Misuse
  pub is_named : IsNamed words named
  -- the status, of which the code is the answer
  pub status : Status
  pub coded : code ≡ code_of status
  -- the bytes of input that came
  pub bytes : List ℕ
  pub came : Comes bytes
  -- they are too many exactly where the status says so
  pub too_long : status ≡ TooLong ↔ most_input < length bytes
  -- they are the whole input, and it has ended, where it was read to its end
  pub whole : IsReadWhole status → IfSome left (λ text. bytes ≡ text)
  pub ended : IsReadWhole status → Ended
  -- what was written
  pub said : IsSaid Reports named bytes Writes status

-- the same of an input before and after a run: of what it gave, what it has left, and whether it has ended
abbrev pub MeansFor : {I : Type 0} → (Schedule → List ℕ → Type 0) → (I → Option (List ℕ)) → (I → Option (List ℕ)) → (I → Bool) → I → I
    → (List ℕ → Type 0) → List (String Global) → ℕ → Type 0
MeansFor Reports given left ended old new Writes words code =
    Means Reports (Came given left old new) (left old) ((ended new ≡ true) × IsAtEnd (left new)) Writes words code

-- what the status of a command means, whatever words name it
abbrev pub MeansOf : {I : Type 0} → (Schedule → List ℕ → Type 0) → (I → Option (List ℕ)) → (I → Option (List ℕ)) → (I → Bool) → I → I
    → (List ℕ → Type 0) → Command → Status → Type 0
MeansOf Reports given left ended old new Writes command status =
    (words : List (String Global)) → IsNamed words (Ok command) → MeansFor Reports given left ended old new Writes words (code_of status)

-- the words are those of a replay, and it was done
abbrev pub IsReplayDone : List (String Global) → ℕ → Type 0
IsReplayDone words code = IsReplay words × (code ≡ code_of Done)

-- an answer was written whole, or else a front of it and the status says so
abbrev pub IsAnswered : Status → List ℕ → (List ℕ → Type 0) → Status → Type 0
IsAnswered status text Writes result =
    ((result ≡ status) × Writes text)
    ⊎ ((result ≡ WriteFault) × ((count : ℕ) × Writes (take count text)))

-- what a command has made was written, or there was no memory to make it
abbrev pub WasGiven : Result Answer oom.OutOfMemory → (List ℕ → Type 0) → Status → Type 0
WasGiven (Ok (answer.Done text)) Writes result = IsAnswered Done text.items Writes result
WasGiven (Ok (answer.Refused text)) Writes result = IsAnswered Refused text.items Writes result
WasGiven (Err e) Writes result = (result ≡ OutOfMemory) × Writes []

-- the statuses that are left once the input was read
abbrev pub IsReadThrough : Status → Type 0
IsReadThrough Usage = ⊥
IsReadThrough BadShape = ⊥
IsReadThrough ReadFault = ⊥
IsReadThrough TooLong = ⊥
IsReadThrough status = ⊤

-- what was written is a report of the schedule that a text spells
pub record IsReportOf (Reports : Schedule → List ℕ → Type 0) (text : List ℕ)
    (Writes : List ℕ → Type 0) : Type 0 where
  pub schedule : Schedule
  pub spelled : IsScheduleText schedule text
  pub report : List ℕ
  pub reported : Reports schedule report
  pub written : Writes report

-- the same of an input, where it tells what it had to give
abbrev pub IsReportOfInput : (Schedule → List ℕ → Type 0) → Option (List ℕ) → (List ℕ → Type 0)
    → Type 0
IsReportOfInput Reports left Writes = IfSome left (λ text. IsReportOf Reports text Writes)
