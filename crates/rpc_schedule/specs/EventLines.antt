-- The grammar of the line of an event, and where a line that is none is refused.
use Rattle.std.specs.Prelude.{◌≡◌, ℕ, ◌-◌, ◌≤◌, List, length, codes, Option, IfSome}
use Rattle.bp_value.specs.Names.{IsShapeName}
use Rattle.rpc_schema.specs.Entries.{IsRpcName, IsVersion}
use Rattle.rpc_schema.specs.LineParts.{Next, NextRefused, Known, Lacks, WordFor}
use Rattle.rpc_schedule.specs.declared.event.Event.{Event}
use Rattle.rpc_schedule.specs.declared.event.Event.TheVariants as ev
use Rattle.rpc_schedule.specs.declared.words.Verb.{Verb}
use Rattle.rpc_schedule.specs.declared.words.Verb.TheVariants as verb
use Rattle.rpc_schedule.specs.declared.words.OfLabel.{OfLabel}
use Rattle.rpc_schedule.specs.declared.words.OfLabel.TheVariants as of_label
use Rattle.rpc_schedule.specs.declared.words.OfValue.{OfValue}
use Rattle.rpc_schedule.specs.declared.words.OfValue.TheVariants as of_value
use Rattle.rpc_schedule.specs.declared.words.Way.{Way}
use Rattle.rpc_schedule.specs.declared.words.Way.TheVariants as way
use Rattle.rpc_schedule.specs.declared.words.OfParty.{OfParty}
use Rattle.rpc_schedule.specs.declared.words.OfParty.TheVariants as of_party
use Rattle.rpc_schedule.specs.declared.words.Party.{Party}
use Rattle.rpc_schedule.specs.declared.words.Party.TheVariants as party
use Rattle.rpc_schedule.specs.declared.labels.Worded.{Worded}
use Rattle.rpc_schedule.specs.declared.movements.Movement.{Movement}
use Rattle.rpc_schedule.specs.EventParts.{Last, LastRefused, IsLabel, IsWorded, IsAskPart, AskRefused, IsBestPart, BestRefused, IsFailurePart, FailureRefused, IsMovementPart, MovementRefused, max_count, max_piece, IsMoment, IsParty}

-- ---- the first word

abbrev pub verb_word : Verb → List ℕ
verb_word verb.Ask = codes "ask"
verb_word verb.Best = codes "best"
verb_word verb.Fail = codes "fail"
verb_word verb.At = codes "at"
verb_word (verb.OfLabel of_label.Menu) = codes "menu"
verb_word (verb.OfLabel of_label.Abort) = codes "abort"
verb_word (verb.OfLabel of_label.End) = codes "end"
verb_word (verb.OfLabel of_label.Show) = codes "show"
verb_word (verb.OfValue of_value.Reply) = codes "reply"
verb_word (verb.OfValue of_value.Begin) = codes "begin"
verb_word (verb.OfValue of_value.Decline) = codes "decline"
verb_word (verb.OfValue of_value.Item) = codes "item"
verb_word (verb.Move way.Up) = codes "up"
verb_word (verb.Move way.Down) = codes "down"
verb_word (verb.OfParty of_party.Close) = codes "close"
verb_word (verb.OfParty of_party.Eof) = codes "eof"

abbrev pub IsVerb : Verb → List ℕ → List ℕ → Type 0
IsVerb v s u = WordFor (λ a w. w ≡ verb_word a) v s u

-- ---- the events of some words

abbrev pub label_event : OfLabel → List ℕ → Event
label_event of_label.Menu label = ev.Menu label
label_event of_label.Abort label = ev.Abort label
label_event of_label.End label = ev.End label
label_event of_label.Show label = ev.Show label

abbrev pub value_event : OfValue → Worded → Event
value_event of_value.Reply w = ev.Reply w.label w.text
value_event of_value.Begin w = ev.Begin w.label w.text
value_event of_value.Decline w = ev.Decline w.label w.text
value_event of_value.Item w = ev.Item w.label w.text

abbrev pub move_event : Way → Movement → Event
move_event way.Up m = ev.Up m.count m.by
move_event way.Down m = ev.Down m.count m.by

abbrev pub party_event : OfParty → Party → Event
party_event of_party.Close party.Client = ev.CloseClient
party_event of_party.Close party.Server = ev.CloseServer
party_event of_party.Eof party.Client = ev.EofClient
party_event of_party.Eof party.Server = ev.EofServer

-- ---- lines

-- what stands after the first word, to the end of the line
abbrev pub IsEventOf : Verb → Event → List ℕ → List ℕ → Type 0
IsEventOf verb.Ask e s u = IsAskPart e s u
IsEventOf verb.Best e s u = IsBestPart e s u
IsEventOf verb.Fail e s u = IsFailurePart e s u
IsEventOf verb.At e s u = Next (Last IsMoment) (λ now. Known (ev.At now)) e s u
IsEventOf (verb.OfLabel v) e s u = Next (Last IsLabel) (λ label. Known (label_event v label)) e s u
IsEventOf (verb.OfValue v) e s u = Next IsWorded (λ worded. Known (value_event v worded)) e s u
IsEventOf (verb.Move v) e s u = Next IsMovementPart (λ movement. Known (move_event v movement)) e s u
IsEventOf (verb.OfParty v) e s u = Next (Last IsParty) (λ party. Known (party_event v party)) e s u

abbrev pub EventOfRefused : Verb → List ℕ → List ℕ → Type 0
EventOfRefused verb.Ask s x = AskRefused s x
EventOfRefused verb.Best s x = BestRefused s x
EventOfRefused verb.Fail s x = FailureRefused s x
EventOfRefused verb.At s x = LastRefused IsMoment (Lacks IsMoment) s x
EventOfRefused (verb.OfLabel v) s x = LastRefused IsLabel (Lacks IsLabel) s x
EventOfRefused (verb.OfValue v) s x = Lacks IsLabel s x
EventOfRefused (verb.Move v) s x = MovementRefused s x
EventOfRefused (verb.OfParty v) s x = LastRefused IsParty (Lacks IsParty) s x

abbrev pub IsLineOfEvent : Event → List ℕ → List ℕ → Type 0
IsLineOfEvent e s u = Next IsVerb IsEventOf e s u

abbrev pub EventLineRefused : List ℕ → List ℕ → Type 0
EventLineRefused s x = NextRefused IsVerb (Lacks IsVerb) EventOfRefused s x

-- ---- what every event that is read is, whatever its line

abbrev pub IsGoodMovement : Option ℕ → ℕ → Type 0
IsGoodMovement count by = IfSome count (λ n. n ≤ max_count) × (1 ≤ by) × (by ≤ max_piece)

abbrev pub IsGoodEvent : Event → Type 0
IsGoodEvent (ev.Ask label name version text) = IsShapeName label × IsRpcName name × IsVersion version
IsGoodEvent (ev.Menu label) = IsShapeName label
IsGoodEvent (ev.Best label name text) = IsShapeName label × IsRpcName name
IsGoodEvent (ev.Abort label) = IsShapeName label
IsGoodEvent (ev.Reply label text) = IsShapeName label
IsGoodEvent (ev.Begin label text) = IsShapeName label
IsGoodEvent (ev.Decline label text) = IsShapeName label
IsGoodEvent (ev.Item label text) = IsShapeName label
IsGoodEvent (ev.Fail label text) = IsShapeName label
IsGoodEvent (ev.End label) = IsShapeName label
IsGoodEvent (ev.Up count by) = IsGoodMovement count by
IsGoodEvent (ev.Down count by) = IsGoodMovement count by
IsGoodEvent (ev.At now) = now ≤ max_count
IsGoodEvent ev.CloseClient = Unit {0}
IsGoodEvent ev.CloseServer = Unit {0}
IsGoodEvent ev.EofClient = Unit {0}
IsGoodEvent ev.EofServer = Unit {0}
IsGoodEvent (ev.Show label) = IsShapeName label

-- ---- refused lines

-- the line is refused at the byte of this place
abbrev pub IsEventRefusedAt : List ℕ → ℕ → Type 0
IsEventRefusedAt s at = (x : List ℕ) × EventLineRefused s x × (at ≡ length s - length x)
