-- The parts of the line of an event that stand after its first word, and where a line that lacks them is refused.
use Rattle.std.specs.Prelude.{◌≡◌, ℕ, ◌-◌, ◌≤◌, ◌^◌, List, [], drop, codes, Option, Some, None, ◌⊎◌}
use Rattle.std.specs.Fmt.{decimal}
use Rattle.bp_value.specs.declared.shape.Shape.TheVariants as shp
use Rattle.bp_value.specs.declared.value.Value.TheVariants as val
use Rattle.bp_value.specs.Form.{form_of}
use Rattle.bp_value.specs.Names.{IsShapeName}
use Rattle.bp_text_grammar.specs.Scanning.{after_blanks}
use Rattle.bp_text_grammar.specs.WholeTexts.{IsValueText, IsValueRefused}
use Rattle.rpc_schema.specs.LineParts.{Next, NextRefused, Known, Lacks, WordFor, IsEnded, End}
use Rattle.rpc_schema.specs.SchemaLines.{IsNamePart, IsVersionPart}
use Rattle.rpc_schedule.specs.declared.event.Event.{Event}
use Rattle.rpc_schedule.specs.declared.event.Event.TheVariants as ev
use Rattle.rpc_schedule.specs.declared.words.Party.{Party}
use Rattle.rpc_schedule.specs.declared.words.Party.TheVariants.{Client, Server}
use Rattle.rpc_schedule.specs.declared.labels.Worded.{Worded}
use Rattle.rpc_schedule.specs.declared.movements.Movement.{Movement}

-- ---- the last part of a line

abbrev pub Last : {A : Type 0} → (A → List ℕ → List ℕ → Type 0) → A → List ℕ → List ℕ → Type 0
Last P a s u = Next P (λ b. Next End (λ e. Known b)) a s u

abbrev pub LastRefused : {A : Type 0} → (A → List ℕ → List ℕ → Type 0) → (List ℕ → List ℕ → Type 0) → List ℕ → List ℕ → Type 0
LastRefused P N s x = NextRefused P N (λ a. Lacks End) s x

-- ---- labels and values

-- a label is a name, as fields and cases have
abbrev pub IsLabel : List ℕ → List ℕ → List ℕ → Type 0
IsLabel label s u = WordFor (λ l w. (l ≡ w) × IsShapeName w) label s u

-- VALUE: all bytes that are left after the blanks, none of which are looked at
abbrev pub IsRest : List ℕ → List ℕ → List ℕ → Type 0
IsRest text s u = (text ≡ after_blanks s) × (u ≡ [])

-- LABEL VALUE
abbrev pub IsWorded : Worded → List ℕ → List ℕ → Type 0
IsWorded worded s u = Next IsLabel (λ label. Next IsRest (λ text. Known (record { label = label; text = text }))) worded s u

-- ---- dispatches

-- VERSION VALUE
abbrev pub IsAskOf : List ℕ → List ℕ → Event → List ℕ → List ℕ → Type 0
IsAskOf label name e s u = Next IsVersionPart (λ version. Next IsRest (λ text. Known (ev.Ask label name version text))) e s u

-- NAME VERSION VALUE
abbrev pub IsAskUnder : List ℕ → Event → List ℕ → List ℕ → Type 0
IsAskUnder label e s u = Next IsNamePart (IsAskOf label) e s u

abbrev pub AskUnderRefused : List ℕ → List ℕ → Type 0
AskUnderRefused s x = NextRefused IsNamePart (Lacks IsNamePart) (λ name. Lacks IsVersionPart) s x

-- LABEL NAME VERSION VALUE
abbrev pub IsAskPart : Event → List ℕ → List ℕ → Type 0
IsAskPart e s u = Next IsLabel IsAskUnder e s u

abbrev pub AskRefused : List ℕ → List ℕ → Type 0
AskRefused s x = NextRefused IsLabel (Lacks IsLabel) (λ label. AskUnderRefused) s x

-- NAME VALUE
abbrev pub IsBestUnder : List ℕ → Event → List ℕ → List ℕ → Type 0
IsBestUnder label e s u = Next IsNamePart (λ name. Next IsRest (λ text. Known (ev.Best label name text))) e s u

-- LABEL NAME VALUE
abbrev pub IsBestPart : Event → List ℕ → List ℕ → Type 0
IsBestPart e s u = Next IsLabel IsBestUnder e s u

abbrev pub BestRefused : List ℕ → List ℕ → Type 0
BestRefused s x = NextRefused IsLabel (Lacks IsLabel) (λ label. Lacks IsNamePart) s x

-- ---- failures

-- "TEXT": the text of a string, to the end of the line
abbrev pub IsQuoted : List ℕ → List ℕ → List ℕ → Type 0
IsQuoted text s u = IsValueText (form_of shp.Text) (val.Text text) s × (u ≡ [])

-- refused where the text of a string is
abbrev pub QuotedRefused : List ℕ → List ℕ → Type 0
QuotedRefused s x = (at : ℕ) × IsValueRefused (form_of shp.Text) s at × (x ≡ drop at s)

-- LABEL "TEXT"
abbrev pub IsFailurePart : Event → List ℕ → List ℕ → Type 0
IsFailurePart e s u = Next IsLabel (λ label. Next IsQuoted (λ text. Known (ev.Fail label text))) e s u

abbrev pub FailureRefused : List ℕ → List ℕ → Type 0
FailureRefused s x = NextRefused IsLabel (Lacks IsLabel) (λ label. QuotedRefused) s x

-- ---- movements

-- the most bytes that move, and the greatest moment
abbrev pub max_count : ℕ
max_count = 2 ^ 62 - 1

-- the most bytes of a piece
abbrev pub max_piece : ℕ
max_piece = 65536

-- all, or a decimal without sign and without zeros in front
abbrev pub SpellsCount : Option ℕ → List ℕ → Type 0
SpellsCount None w = w ≡ codes "all"
SpellsCount (Some n) w = (n ≤ max_count) × (w ≡ decimal n)

abbrev pub SpellsPiece : ℕ → List ℕ → Type 0
SpellsPiece n w = (1 ≤ n) × (n ≤ max_piece) × (w ≡ decimal n)

abbrev pub IsCount : Option ℕ → List ℕ → List ℕ → Type 0
IsCount count s u = WordFor SpellsCount count s u

abbrev pub IsPiece : ℕ → List ℕ → List ℕ → Type 0
IsPiece n s u = WordFor SpellsPiece n s u

abbrev pub IsBy : Unit {0} → List ℕ → List ℕ → Type 0
IsBy a s u = WordFor (λ b w. w ≡ codes "by") a s u

-- by M
abbrev pub IsByPart : ℕ → List ℕ → List ℕ → Type 0
IsByPart n s u = Next IsBy (λ b. Last IsPiece) n s u

abbrev pub ByPartRefused : List ℕ → List ℕ → Type 0
ByPartRefused s x = NextRefused IsBy (Lacks IsBy) (λ b. LastRefused IsPiece (Lacks IsPiece)) s x

-- nothing, or by M
abbrev pub ArePieces : ℕ → List ℕ → List ℕ → Type 0
ArePieces n s u = ((n ≡ max_piece) × IsEnded s u) ⊎ IsByPart n s u

abbrev pub PiecesRefused : List ℕ → List ℕ → Type 0
PiecesRefused s x = ((u : List ℕ) → IsEnded s u → ⊥) × ByPartRefused s x

-- N or all, and then nothing or by M
abbrev pub IsMovementPart : Movement → List ℕ → List ℕ → Type 0
IsMovementPart m s u = Next IsCount (λ count. Next ArePieces (λ by. Known (record { count = count; by = by }))) m s u

abbrev pub MovementRefused : List ℕ → List ℕ → Type 0
MovementRefused s x = NextRefused IsCount (Lacks IsCount) (λ count. PiecesRefused) s x

-- ---- moments

abbrev pub SpellsMoment : ℕ → List ℕ → Type 0
SpellsMoment n w = (n ≤ max_count) × (w ≡ decimal n)

abbrev pub IsMoment : ℕ → List ℕ → List ℕ → Type 0
IsMoment n s u = WordFor SpellsMoment n s u

-- ---- which end

abbrev pub party_word : Party → List ℕ
party_word Client = codes "client"
party_word Server = codes "server"

abbrev pub IsParty : Party → List ℕ → List ℕ → Type 0
IsParty party s u = WordFor (λ p w. w ≡ party_word p) party s u
