-- What the line of an event holds is good.
use Rattle.std.proofs.Common.{sym, subst, ℕ, ◌≤◌, List, [], ◌∷◌, inl, inr, Option, Some, None, IfSome, IfOk, Result, Ok, Err, ℤ, arith}
use Rattle.std.specs.List.{AllZip}
use Rattle.std.proofs.lemmas.List.Elements.{All-nil, All-cons}
use Rattle.bp_value.specs.Names.{IsShapeName}
use Rattle.rpc_schema.specs.Entries.{IsVersion}
use Rattle.rpc_schema.specs.TextLines.{Numbered}
use Rattle.rpc_schema.specs.SchemaLines.{IsVersionPart}
use Rattle.rpc_schedule.specs.declared.event.Event.{Event}
use Rattle.rpc_schedule.specs.declared.event.Lined.{Lined}
use Rattle.rpc_schedule.specs.declared.error.ScheduleError.{ScheduleError}
use Rattle.rpc_schedule.specs.declared.schedule.Schedule.{Schedule}
use Rattle.rpc_schedule.specs.declared.movements.Movement.{Movement}
use Rattle.rpc_schedule.specs.declared.words.Verb.{Verb}
use Rattle.rpc_schedule.specs.declared.words.Verb.TheVariants as verb
use Rattle.rpc_schedule.specs.declared.words.OfLabel.{OfLabel}
use Rattle.rpc_schedule.specs.declared.words.OfLabel.TheVariants as of_label
use Rattle.rpc_schedule.specs.declared.words.OfValue.{OfValue}
use Rattle.rpc_schedule.specs.declared.words.OfValue.TheVariants as of_value
use Rattle.rpc_schedule.specs.declared.words.Way.{Way}
use Rattle.rpc_schedule.specs.declared.words.Way.TheVariants as way
use Rattle.rpc_schedule.specs.declared.words.OfParty.{OfParty}
use Rattle.rpc_schedule.specs.declared.words.OfParty.TheVariants as of_party
use Rattle.rpc_schedule.specs.declared.words.Party.{Party}
use Rattle.rpc_schedule.specs.declared.words.Party.TheVariants.{Client, Server}
use Rattle.rpc_schedule.specs.declared.labels.Worded.{Worded}
use Rattle.rpc_schedule.specs.EventParts.{IsLabel, IsWorded, max_count, max_piece, SpellsCount, ArePieces, IsMovementPart}
use Rattle.rpc_schedule.specs.EventLines.{label_event, value_event, move_event, party_event, IsEventOf, IsLineOfEvent, IsGoodMovement, IsGoodEvent}
use Rattle.rpc_schedule.specs.Schedules.{event_lines, IsLinedEvent, AreScheduleLines, AreGoodEvents}

good_label : (label s u : List ℕ) → IsLabel label s u → IsShapeName label
good_label label s u is = subst IsShapeName (sym is.0.0) is.0.1

good_version : (version : ℤ) (s u : List ℕ) → IsVersionPart version s u → IsVersion version
good_version version s u ((n, is, small, spelled), rest) = (n, is, small)

good_worded : (w : Worded) (s u : List ℕ) → IsWorded w s u → IsShapeName w.label
good_worded w s u (label, t, p, (text, x, rest, (known, same))) =
    subst (λ (z : Worded). IsShapeName z.label) (sym known) (good_label label s t p)

good_count : (count : Option ℕ) (w : List ℕ) → SpellsCount count w → IfSome count (λ n. n ≤ max_count)
good_count None w spelled = tt
good_count (Some n) w spelled = spelled.0

good_pieces : (n : ℕ) (s u : List ℕ) → ArePieces n s u → (1 ≤ n) × (n ≤ max_piece)
good_pieces n s u (inl (is, rest)) = (omega (arith, is), omega (arith, is))
good_pieces n s u (inr (b, t, by, (m, x, (spelled, behind), (e, y, ended, (known, same))))) =
    subst (λ k. (1 ≤ k) × (k ≤ max_piece)) (sym known) (spelled.0, spelled.1)

good_movement : (m : Movement) (s u : List ℕ) → IsMovementPart m s u → IsGoodMovement m.count m.by
good_movement m s u (count, t, (spelled, behind), (by, x, pieces, (known, same))) =
    subst (λ (z : Movement). IsGoodMovement z.count z.by) (sym known)
    (let good = good_pieces by t x pieces in (good_count count _ spelled, good.0, good.1))

-- ---- the events of some words

of_label_good : (v : OfLabel) (label : List ℕ) → IsShapeName label → IsGoodEvent (label_event v label)
of_label_good of_label.Menu label is = is
of_label_good of_label.Abort label is = is
of_label_good of_label.End label is = is
of_label_good of_label.Show label is = is

of_value_good : (v : OfValue) (w : Worded) → IsShapeName w.label → IsGoodEvent (value_event v w)
of_value_good of_value.Reply w is = is
of_value_good of_value.Begin w is = is
of_value_good of_value.Decline w is = is
of_value_good of_value.Item w is = is

move_good : (v : Way) (m : Movement) → IsGoodMovement m.count m.by → IsGoodEvent (move_event v m)
move_good way.Up m is = is
move_good way.Down m is = is

party_good : (v : OfParty) (p : Party) → IsGoodEvent (party_event v p)
party_good of_party.Close Client = tt
party_good of_party.Close Server = tt
party_good of_party.Eof Client = tt
party_good of_party.Eof Server = tt

-- ---- lines

event_of_good : (v : Verb) (e : Event) (s u : List ℕ) → IsEventOf v e s u → IsGoodEvent e
event_of_good verb.Ask e s u (label, t, p, (name, w, q, (version, x, r, (text, y, rest, (known, same))))) =
    subst IsGoodEvent (sym known) (good_label label s t p, q.1, good_version version w x r)
event_of_good verb.Best e s u (label, t, p, (name, w, q, (text, y, rest, (known, same)))) =
    subst IsGoodEvent (sym known) (good_label label s t p, q.1)
event_of_good verb.Fail e s u (label, t, p, (text, w, quoted, (known, same))) = subst IsGoodEvent (sym known) (good_label label s t p)
event_of_good verb.At e s u (now, t, (n, w, (spelled, behind), (a, x, ended, (is, rest))), (known, same)) =
    subst IsGoodEvent (sym known) (subst (λ k. k ≤ max_count) (sym is) spelled.0)
event_of_good (verb.OfLabel v) e s u (label, t, (l, w, p, (a, x, ended, (is, rest))), (known, same)) =
    subst IsGoodEvent (sym known) (of_label_good v label (subst IsShapeName (sym is) (good_label l s w p)))
event_of_good (verb.OfValue v) e s u (worded, t, p, (known, same)) = subst IsGoodEvent (sym known) (of_value_good v worded (good_worded worded s t p))
event_of_good (verb.Move v) e s u (movement, t, p, (known, same)) = subst IsGoodEvent (sym known) (move_good v movement (good_movement movement s t p))
event_of_good (verb.OfParty v) e s u (party, t, p, (known, same)) = subst IsGoodEvent (sym known) (party_good v party)

event_good : (e : Event) (s u : List ℕ) → IsLineOfEvent e s u → IsGoodEvent e
event_good e s u (v, t, p, is) = event_of_good v e t u is

events_good : (es : List Lined) (ls : List Numbered) → AllZip IsLinedEvent es ls → AreGoodEvents es
events_good [] [] all = All-nil (λ e. IsGoodEvent e.event)
events_good (e ∷ es) (l ∷ ls) all =
    All-cons (λ (x : Lined). IsGoodEvent x.event) e es (event_good e.event l.bytes [] all.0.1) (events_good es ls all.1)
events_good [] (l ∷ ls) all = absurd all
events_good (e ∷ es) [] all = absurd all

pub formed : (ls : List (List ℕ)) (r : Result Schedule ScheduleError) → IfOk r (λ s. AreScheduleLines s ls) → IfOk r (λ s. AreGoodEvents s.events)
formed ls (Ok s) is = events_good s.events (event_lines is.heads is.behind) is.events
formed ls (Err e) is = is
