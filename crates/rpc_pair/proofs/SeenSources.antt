-- Which events close an end, and which is a moment.
use Rattle.std.proofs.Common.{◌≡◌, refl, sym, subst, ℕ, ℤ, Bool, true, false, if◌then◌else◌, List, inl, inr, ◌⊎◌}
use Rattle.std.specs.Prelude.{Option, Some, None}
use Rattle.bp_value.specs.Form.{Form, form_of}
use Rattle.bp_value.specs.declared.value.Value.{Value}
use Rattle.rpc_schema.specs.declared.desc.Entry.{Entry}
use Rattle.rpc_schema.specs.declared.desc.Kind.{Kind}
use Rattle.rpc_schema.specs.declared.desc.RpcDesc.{RpcDesc}
use Rattle.rpc_schedule.specs.declared.event.Event.{Event}
use Rattle.rpc_schedule.specs.declared.event.Event.TheVariants as ev
use Rattle.rpc_talk.specs.Acts.{Act, Reply, Fail, Begin, Decline, Give, End}
use Rattle.rpc_talk.specs.Parts.{is_stream, is_tracked, takes_reply}
use Rattle.rpc_meeting.specs.Deeds.{Deed, Refuse, Call, Tell, Tick, CloseClient, CloseServer, AsText, AsksBest, AsksEntry, AsksLine, AsksVersion, IsDeedOf, TellsKind, TellsValue, UnlessTaken, abort_deed, act_deed, find_label, menu_deed, show_deed}
use Rattle.rpc_meeting.specs.declared.answer.Refusal.TheVariants.{WrongKind}
use Rattle.rpc_meeting.specs.Menus.{best_version, called_versions, is_called, listings_told}
use Rattle.rpc_meeting.specs.Talks.{Dispatch, line_named}
use Rattle.rpc_meeting.specs.Worlds.{ClosedHere, EndOfInput}

-- an end closes by an event that says so, and a moment is that of its event
abbrev pub IsSourceOf : Event → Deed → Type 0
IsSourceOf e (Tick moment) = e ≡ ev.At moment
IsSourceOf e (CloseClient why) = ((e ≡ ev.CloseClient) × (why ≡ ClosedHere)) ⊎ ((e ≡ ev.EofClient) × (why ≡ EndOfInput))
IsSourceOf e (CloseServer why) = ((e ≡ ev.CloseServer) × (why ≡ ClosedHere)) ⊎ ((e ≡ ev.EofServer) × (why ≡ EndOfInput))
IsSourceOf e _ = Unit {0}

module _ (e : Event) (deed : Deed) where
  source_by : {x : Deed} → deed ≡ x → IsSourceOf e x → IsSourceOf e deed
  source_by is source = subst (IsSourceOf e) (sym is) source

  text_source : (m : ℕ) (f : Form) (text : List ℕ) (what : Value → Deed) → ((v : Value) → IsSourceOf e (what v)) → AsText m f text what deed → IsSourceOf e deed
  text_source m f text what source (inl (v, read, fits, is)) = source_by is (source v)
  text_source m f text what source (inr (none, is)) = source_by is tt

  -- ---- dispatches

  new_source : (o : Option Dispatch) (Free : Type 0) → (Free → IsSourceOf e deed) → UnlessTaken o Free deed → IsSourceOf e deed
  new_source None Free source is = source is
  new_source (Some d) Free source is = source_by is tt

  menu_source : (label : List ℕ) (o : Option Dispatch) → deed ≡ menu_deed label o → IsSourceOf e deed
  menu_source label None is = source_by is tt
  menu_source label (Some d) is = source_by is tt

  module _ (m : ℕ) (entries : List Entry) (label text : List ℕ) where
    line_source : (d : RpcDesc) (called : Bool) → AsksLine m label text d called deed → IsSourceOf e deed
    line_source d true is = text_source m (form_of d.query) text (Call label d) (λ v. tt) is
    line_source d false is = source_by is tt

    entry_source : (o : Option Entry) → AsksEntry m label text o deed → IsSourceOf e deed
    entry_source None is = source_by is tt
    entry_source (Some x) is = line_source x.desc (is_called x.side) is

    version_source : (name : List ℕ) (o : Option ℤ) → AsksVersion m entries label name text o deed → IsSourceOf e deed
    version_source name None is = source_by is tt
    version_source name (Some version) is = entry_source (line_named entries name version) is

    best_source : (name : List ℕ) (o : Option Value) → AsksBest m entries label name text o deed → IsSourceOf e deed
    best_source name None is = source_by is tt
    best_source name (Some menu) is = version_source name (best_version (called_versions entries name) (listings_told menu) name) is

  -- ---- what is done with a dispatch

  abort_source : (o : Option Dispatch) → deed ≡ abort_deed o → IsSourceOf e deed
  abort_source None is = source_by is tt
  abort_source (Some d) is = source_by is tt

  show_source : (o : Option Dispatch) → deed ≡ show_deed o → IsSourceOf e deed
  show_source None is = source_by is tt
  show_source (Some d) is = source_by is tt

  act_source : (is_for : Kind → Bool) (act : Act) (o : Option Dispatch) → deed ≡ act_deed is_for act o → IsSourceOf e deed
  act_source is_for act None is = source_by is tt
  act_source is_for act (Some d) is = by (is_for d.desc.kind) is
    where
      by : (b : Bool) → deed ≡ (if b then Tell d act else Refuse WrongKind) → IsSourceOf e deed
      by true same = source_by same tt
      by false same = source_by same tt

  value_source : (m : ℕ) (is_for : Kind → Bool) (form : RpcDesc → Form) (act : Value → Act) (text : List ℕ) (o : Option Dispatch)
      → TellsValue m is_for form act text o deed → IsSourceOf e deed
  value_source m is_for form act text None is = source_by is tt
  value_source m is_for form act text (Some d) is = by (is_for d.desc.kind) is
    where
      by : (b : Bool) → TellsKind m (form d.desc) act text d b deed → IsSourceOf e deed
      by true told = text_source m (form d.desc) text (λ v. Tell d (act v)) (λ v. tt) told
      by false told = source_by told tt

-- ---- events

pub deed_source : (m : ℕ) (entries : List Entry) (made : List Dispatch) (menu : Option Value) (e : Event) (deed : Deed) → IsDeedOf m entries made menu e deed → IsSourceOf e deed
deed_source m entries made menu (ev.Ask label name version text) deed is =
    let e = ev.Ask label name version text in
    new_source e deed (find_label label made) (AsksEntry m label text (line_named entries name version) deed)
    (entry_source e deed m entries label text (line_named entries name version)) is
deed_source m entries made menu (ev.Menu label) deed is = menu_source (ev.Menu label) deed label (find_label label made) is
deed_source m entries made menu (ev.Best label name text) deed is =
    let e = ev.Best label name text in
    new_source e deed (find_label label made) (AsksBest m entries label name text menu deed) (best_source e deed m entries label text name menu) is
deed_source m entries made menu (ev.Abort label) deed is = abort_source (ev.Abort label) deed (find_label label made) is
deed_source m entries made menu (ev.Reply label text) deed is =
    value_source (ev.Reply label text) deed m takes_reply (λ d. form_of d.first) Reply text (find_label label made) is
deed_source m entries made menu (ev.Begin label text) deed is =
    value_source (ev.Begin label text) deed m is_stream (λ d. form_of d.first) Begin text (find_label label made) is
deed_source m entries made menu (ev.Decline label text) deed is =
    value_source (ev.Decline label text) deed m is_stream (λ d. form_of d.error) Decline text (find_label label made) is
deed_source m entries made menu (ev.Item label text) deed is =
    value_source (ev.Item label text) deed m is_stream (λ d. form_of d.item) Give text (find_label label made) is
deed_source m entries made menu (ev.Fail label text) deed is = act_source (ev.Fail label text) deed is_tracked (Fail text) (find_label label made) is
deed_source m entries made menu (ev.End label) deed is = act_source (ev.End label) deed is_stream End (find_label label made) is
deed_source m entries made menu (ev.Up count by) deed is = source_by (ev.Up count by) deed is tt
deed_source m entries made menu (ev.Down count by) deed is = source_by (ev.Down count by) deed is tt
deed_source m entries made menu (ev.At moment) deed is = source_by (ev.At moment) deed is refl
deed_source m entries made menu ev.CloseClient deed is = source_by ev.CloseClient deed is (inl (refl, refl))
deed_source m entries made menu ev.CloseServer deed is = source_by ev.CloseServer deed is (inl (refl, refl))
deed_source m entries made menu ev.EofClient deed is = source_by ev.EofClient deed is (inr (refl, refl))
deed_source m entries made menu ev.EofServer deed is = source_by ev.EofServer deed is (inr (refl, refl))
deed_source m entries made menu (ev.Show label) deed is = show_source (ev.Show label) deed (find_label label made) is
