-- The commands of the program: the words that name each, and what it writes.
use Rattle.std.specs.Prelude.{◌≡◌, ℕ, ℤ, List, [], ◌∷◌, ◌⊎◌, codes, map, string_bytes, String, Result, Ok, Err}
use Rattle.std.specs.declared.alloc.Global.{Global}
use Rattle.bp_value.specs.declared.shape.Shape.{Shape}
use Rattle.bp_value.specs.Form.{form_of}
use Rattle.bp_value.specs.Faults.{IsGood}
use Rattle.bp_text_grammar.specs.WholeTexts.{IsShapeText}
use Rattle.bp_text.specs.TextAnswers.{RefusesShape}
use Rattle.rpc_schema.specs.Choice.{menu_shape}
use Rattle.rpc_schedule.specs.declared.schedule.Schedule.{Schedule}
use Rattle.rpc_schedule.specs.Schedules.{IsScheduleText}
use Rattle.rpc_tool.specs.MenuCommands.{AreVersions, IsMenuShown}
use Rattle.rpc_tool.specs.ScheduleRefusals.{IsScheduleRefusal}
use Rattle.rpc_tool.specs.StreamReads.{AreFramesTold, AreFramesRefused}
use Rattle.rpc_tool.specs.ValueCommands.{IsShown, IsShowRefusal, IsWrittenOut, IsWriteRefusal}
use Rattle.rpc_tool.specs.Wanted.{IsWantedBy}
use Rattle.rpc_tool.specs.declared.command.Command.{Command}
use Rattle.rpc_tool.specs.declared.command.Command.TheVariants.{Show, Write, Frames, Menu, Replay}
use Rattle.rpc_tool.specs.declared.command.Misuse.{Misuse}
use Rattle.rpc_tool.specs.declared.command.Misuse.TheVariants.{Usage, BadShape, OutOfMemory}

-- ---- words

-- a word is the text of a good shape
abbrev pub NamesShape : Shape → List ℕ → Type 0
NamesShape shape word = IsShapeText shape word × IsGood (form_of shape)

-- two words, of which the second is for a shape
abbrev pub AreWithShape : List ℕ → List (List ℕ) → Type 0
AreWithShape word words = (words ≡ codes "show" ∷ word ∷ []) ⊎ (words ≡ codes "write" ∷ word ∷ [])

-- three words, of which the second is a name and the third is for versions of it
abbrev pub AreWithVersions : List ℕ → List ℕ → List (List ℕ) → Type 0
AreWithVersions name word words = words ≡ codes "menu" ∷ name ∷ word ∷ []

-- and the third is of some
abbrev pub AreForMenu : List (List ℕ) → Type 0
AreForMenu words = (name : List ℕ) × (word : List ℕ) × (own : List ℤ) × AreWithVersions name word words × AreVersions own word

-- words of a form
abbrev pub AreOfForm : List (List ℕ) → Type 0
AreOfForm words =
    (words ≡ codes "frames" ∷ [])
    ⊎ (AreForMenu words ⊎ ((words ≡ codes "replay" ∷ []) ⊎ ((word : List ℕ) × AreWithShape word words)))

-- the words of a command
abbrev pub AreWordsOf : Command → List (List ℕ) → Type 0
AreWordsOf (Show shape) words = (word : List ℕ) × (words ≡ codes "show" ∷ word ∷ []) × NamesShape shape word
AreWordsOf (Write shape) words = (word : List ℕ) × (words ≡ codes "write" ∷ word ∷ []) × NamesShape shape word
AreWordsOf Frames words = words ≡ codes "frames" ∷ []
AreWordsOf (Menu wanted) words = (name : List ℕ) × (word : List ℕ) × AreWithVersions name word words × IsWantedBy wanted name word
AreWordsOf Replay words = words ≡ codes "replay" ∷ []

abbrev pub IsReplay : List (String Global) → Type 0
IsReplay words = AreWordsOf Replay (map string_bytes words)

-- the shape of a command is good
abbrev pub IsOfGoodShape : Command → Type 0
IsOfGoodShape (Show shape) = IsGood (form_of shape)
IsOfGoodShape (Write shape) = IsGood (form_of shape)
IsOfGoodShape Frames = Unit {0}
IsOfGoodShape (Menu wanted) = Unit {0}
IsOfGoodShape Replay = Unit {0}

-- the command of some words, or why they have none
abbrev pub AreNamed : List (List ℕ) → Result Command Misuse → Type 0
AreNamed words (Ok command) = AreWordsOf command words
AreNamed words (Err Usage) = AreOfForm words → ⊥
AreNamed words (Err (BadShape error)) = (word : List ℕ) × AreWithShape word words × RefusesShape word error
AreNamed words (Err OutOfMemory) = (name : List ℕ) × (word : List ℕ) × AreWithVersions name word words

abbrev pub IsNamed : List (String Global) → Result Command Misuse → Type 0
IsNamed words named = AreNamed (map string_bytes words) named

-- what is made of a word for a shape
abbrev pub IsShapeNamed : List ℕ → Result Shape Misuse → Type 0
IsShapeNamed word (Ok shape) = NamesShape shape word
IsShapeNamed word (Err (BadShape error)) = RefusesShape word error
IsShapeNamed word (Err e) = ⊥

-- ---- what is written

-- What a command has to write once it is done, by its input; `Reports s text` is that a text is a
-- report of a schedule.
abbrev pub IsDone : (Schedule → List ℕ → Type 0) → Command → List ℕ → List ℕ → Type 0
IsDone Reports (Show shape) input text = IsShown (form_of shape) input text
IsDone Reports (Write shape) input text = IsWrittenOut (form_of shape) input text
IsDone Reports Frames input text = AreFramesTold input text
IsDone Reports (Menu wanted) input text = IsMenuShown wanted.name wanted.own input text
IsDone Reports Replay input text = (s : Schedule) × IsScheduleText s input × Reports s text

-- what a command has to write where it refuses its input
abbrev pub IsRefusal : Command → List ℕ → List ℕ → Type 0
IsRefusal (Show shape) input text = IsShowRefusal (form_of shape) input text
IsRefusal (Write shape) input text = IsWriteRefusal (form_of shape) input text
IsRefusal Frames input text = AreFramesRefused input text
IsRefusal (Menu wanted) input text = IsShowRefusal (form_of menu_shape) input text
IsRefusal Replay input text = IsScheduleRefusal input text

-- a command comes to use its wires for an input
abbrev pub MeetsWires : Command → List ℕ → Type 0
MeetsWires (Show shape) input = ⊥
MeetsWires (Write shape) input = ⊥
MeetsWires Frames input = ⊥
MeetsWires (Menu wanted) input = ⊥
MeetsWires Replay input = (s : Schedule) × IsScheduleText s input
