-- What is known of what an event comes to.
use Rattle.std.proofs.Common.{◌≡◌, refl, sym, subst, ℕ, ℤ, Bool, true, false, if◌then◌else◌, List, inl, inr}
use Rattle.std.specs.Prelude.{Option, Some, None}
use Rattle.bp_value.specs.Fits.{Fits}
use Rattle.bp_value.specs.Form.{Form, form_of}
use Rattle.bp_value.specs.declared.value.Value.{Value}
use Rattle.rpc_schema.specs.declared.desc.Entry.{Entry}
use Rattle.rpc_schema.specs.declared.desc.Kind.{Kind}
use Rattle.rpc_schema.specs.declared.desc.RpcDesc.{RpcDesc}
use Rattle.rpc_schedule.specs.declared.event.Event.{Event}
use Rattle.rpc_schedule.specs.declared.event.Event.TheVariants as ev
use Rattle.rpc_talk.specs.Acts.{Act, Reply, Fail, Begin, Decline, Give, End, suits}
use Rattle.rpc_talk.specs.Parts.{takes_reply, is_stream, is_tracked}
use Rattle.rpc_meeting.specs.Deeds.{Deed, Refuse, Call, Abort, Tell, MoveUp, MoveDown, Tick, CloseClient, CloseServer, Reveal, WrongKind, AsText, AsksBest, AsksEntry, AsksLine, AsksVersion, IsDeedOf, TellsValue, TellsKind, UnlessTaken, abort_deed, act_deed, find_label, menu_deed, show_deed}
use Rattle.rpc_meeting.specs.Menus.{best_version, called_versions, is_called, listings_told}
use Rattle.rpc_meeting.specs.Talks.{Common, Dispatch, line_named, is_stop}
use Rattle.rpc_meeting.proofs.Asking.{entry_named, unit_fits}
use Rattle.rpc_meeting.proofs.Calls.{IsKnown}
use Rattle.rpc_meeting.proofs.Lines.{most}
use Rattle.rpc_meeting.proofs.Owners.{IsGiven}

-- the dispatch is found under a label
abbrev pub IsFound : List Dispatch → Dispatch → Type 0
IsFound made d = (label : List ℕ) × (find_label label made ≡ Some d)

-- A call is of a procedure that the client knows, with a value of its form; what is aborted and acted on is found under a label, and an act
-- is one of a handler, suits its procedure and has a value of the form that this gives it.
abbrev pub IsFounded : Common → List Dispatch → Deed → Type 0
IsFounded r made (Refuse why) = Unit {0}
IsFounded r made (Call label d v) = IsKnown r d × Fits (most r) (form_of d.query) v
IsFounded r made (Abort d) = IsFound made d
IsFounded r made (Tell d act) = IsFound made d × (suits act d.desc.kind ≡ true) × IsGiven (most r) d.desc act × (is_stop act ≡ false)
IsFounded r made (MoveUp count by) = Unit {0}
IsFounded r made (MoveDown count by) = Unit {0}
IsFounded r made (Tick moment) = Unit {0}
IsFounded r made (CloseClient why) = Unit {0}
IsFounded r made (CloseServer why) = Unit {0}
IsFounded r made Reveal = Unit {0}

module _ (r : Common) (made : List Dispatch) (deed : Deed) where
  known_by : {x : Deed} → deed ≡ x → IsFounded r made x → IsFounded r made deed
  known_by is known = subst (IsFounded r made) (sym is) known

  text_known : (f : Form) (text : List ℕ) (what : Value → Deed) → ((v : Value) → Fits (most r) f v → IsFounded r made (what v))
      → AsText (most r) f text what deed → IsFounded r made deed
  text_known f text what known (inl (v, read, fits, is)) = known_by is (known v fits)
  text_known f text what known (inr (none, is)) = known_by is tt

  -- ---- dispatches

  new_known : (o : Option Dispatch) (Free : Type 0) → (Free → IsFounded r made deed) → UnlessTaken o Free deed → IsFounded r made deed
  new_known None Free known is = known is
  new_known (Some d) Free known is = known_by is tt

  menu_known : (label : List ℕ) (o : Option Dispatch) → deed ≡ menu_deed label o → IsFounded r made deed
  menu_known label None is = known_by is (inl refl, unit_fits (most r))
  menu_known label (Some d) is = known_by is tt

  module _ (label text : List ℕ) where
    line_known : (d : RpcDesc) → IsKnown r d → (called : Bool) → AsksLine (most r) label text d called deed → IsFounded r made deed
    line_known d known true is = text_known (form_of d.query) text (Call label d) (λ v fits. (known, fits)) is
    line_known d known false is = known_by is tt

    entry_known : (tag : List ℕ) (version : ℤ) (o : Option Entry) → line_named r.entries tag version ≡ o → AsksEntry (most r) label text o deed
        → IsFounded r made deed
    entry_known tag version None here is = known_by is tt
    entry_known tag version (Some e) here is = line_known e.desc (inr (e, entry_named r.entries tag version e here, refl)) (is_called e.side) is

    version_known : (name : List ℕ) (o : Option ℤ) → AsksVersion (most r) r.entries label name text o deed → IsFounded r made deed
    version_known name None is = known_by is tt
    version_known name (Some version) is = entry_known name version (line_named r.entries name version) refl is

    best_known : (name : List ℕ) (o : Option Value) → AsksBest (most r) r.entries label name text o deed → IsFounded r made deed
    best_known name None is = known_by is tt
    best_known name (Some menu) is = version_known name (best_version (called_versions r.entries name) (listings_told menu) name) is

  -- ---- what is done with a dispatch

  module _ (label : List ℕ) where
    abort_known : (o : Option Dispatch) → find_label label made ≡ o → deed ≡ abort_deed o → IsFounded r made deed
    abort_known None here is = known_by is tt
    abort_known (Some d) here is = known_by is (label, here)

    show_known : (o : Option Dispatch) → deed ≡ show_deed o → IsFounded r made deed
    show_known None is = known_by is tt
    show_known (Some d) is = known_by is tt

    act_known : (is_for : Kind → Bool) (act : Act) → ((d : RpcDesc) → is_for d.kind ≡ true → (suits act d.kind ≡ true) × IsGiven (most r) d act)
        → is_stop act ≡ false → (o : Option Dispatch) → find_label label made ≡ o → deed ≡ act_deed is_for act o → IsFounded r made deed
    act_known is_for act right handles None here is = known_by is tt
    act_known is_for act right handles (Some d) here is = by (is_for d.desc.kind) refl is
      where
        by : (b : Bool) → is_for d.desc.kind ≡ b → deed ≡ (if b then Tell d act else Refuse WrongKind) → IsFounded r made deed
        by true suit is = let (fits, given) = right d.desc suit in known_by is ((label, here), fits, given, handles)
        by false suit is = known_by is tt

    value_known : (is_for : Kind → Bool) (form : RpcDesc → Form) (act : Value → Act) (text : List ℕ)
        → ((d : RpcDesc) (v : Value) → is_for d.kind ≡ true → Fits (most r) (form d) v → (suits (act v) d.kind ≡ true) × IsGiven (most r) d (act v))
        → ((v : Value) → is_stop (act v) ≡ false) → (o : Option Dispatch) → find_label label made ≡ o → TellsValue (most r) is_for form act text o deed
        → IsFounded r made deed
    value_known is_for form act text right handles None here is = known_by is tt
    value_known is_for form act text right handles (Some d) here is = by (is_for d.desc.kind) refl is
      where
        by : (b : Bool) → is_for d.desc.kind ≡ b → TellsKind (most r) (form d.desc) act text d b deed → IsFounded r made deed
        by true suit is =
            text_known (form d.desc) text (λ v. Tell d (act v)) (λ v fits. let (suited, given) = right d.desc v suit fits in ((label, here), suited, given, handles v)) is
        by false suit is = known_by is tt

-- ---- events

pub deed_known : (r : Common) (made : List Dispatch) (menu : Option Value) (e : Event) (deed : Deed) → IsDeedOf (most r) r.entries made menu e deed
    → IsFounded r made deed
deed_known r made menu (ev.Ask label name version text) deed is =
    new_known r made deed (find_label label made) (AsksEntry (most r) label text (line_named r.entries name version) deed)
    (entry_known r made deed label text name version (line_named r.entries name version) refl) is
deed_known r made menu (ev.Menu label) deed is = menu_known r made deed label (find_label label made) is
deed_known r made menu (ev.Best label name text) deed is =
    new_known r made deed (find_label label made) (AsksBest (most r) r.entries label name text menu deed) (best_known r made deed label text name menu) is
deed_known r made menu (ev.Abort label) deed is = abort_known r made deed label (find_label label made) refl is
deed_known r made menu (ev.Reply label text) deed is =
    value_known r made deed label takes_reply (λ d. form_of d.first) Reply text (λ d v suit fits. (suit, fits)) (λ v. refl) (find_label label made) refl is
deed_known r made menu (ev.Begin label text) deed is =
    value_known r made deed label is_stream (λ d. form_of d.first) Begin text (λ d v suit fits. (suit, fits)) (λ v. refl) (find_label label made) refl is
deed_known r made menu (ev.Decline label text) deed is =
    value_known r made deed label is_stream (λ d. form_of d.error) Decline text (λ d v suit fits. (suit, fits)) (λ v. refl) (find_label label made) refl is
deed_known r made menu (ev.Item label text) deed is =
    value_known r made deed label is_stream (λ d. form_of d.item) Give text (λ d v suit fits. (suit, fits)) (λ v. refl) (find_label label made) refl is
deed_known r made menu (ev.Fail label text) deed is =
    act_known r made deed label is_tracked (Fail text) (λ d suit. (suit, tt)) refl (find_label label made) refl is
deed_known r made menu (ev.End label) deed is = act_known r made deed label is_stream End (λ d suit. (suit, tt)) refl (find_label label made) refl is
deed_known r made menu (ev.Up count by) deed is = known_by r made deed is tt
deed_known r made menu (ev.Down count by) deed is = known_by r made deed is tt
deed_known r made menu (ev.At moment) deed is = known_by r made deed is tt
deed_known r made menu ev.CloseClient deed is = known_by r made deed is tt
deed_known r made menu ev.CloseServer deed is = known_by r made deed is tt
deed_known r made menu ev.EofClient deed is = known_by r made deed is tt
deed_known r made menu ev.EofServer deed is = known_by r made deed is tt
deed_known r made menu (ev.Show label) deed is = show_known r made deed label (find_label label made) is
