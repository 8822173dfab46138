-- What an event of a schedule comes to, before any end is touched: by the lines of the schema, the dispatches made and the last menu received.
use Rattle.std.specs.Prelude.{◌≡◌, ℕ, ℤ, Bool, true, false, List, Option, Some, None, ◌⊎◌, if◌then◌else◌}
use Rattle.std.specs.List.{find}
use Rattle.std.specs.Str.{bytes_eq}
use Rattle.bp_value.specs.Fits.{Fits}
use Rattle.bp_value.specs.Form.{Form, form_of}
use Rattle.bp_value.specs.declared.value.Value.{Value}
use Rattle.bp_value.specs.declared.value.Value.TheVariants as val
use Rattle.bp_text_grammar.specs.WholeTexts.{IsValueText}
use Rattle.rpc_schema.specs.Choice.{menu_description}
use Rattle.rpc_schema.specs.declared.desc.Entry.{Entry}
use Rattle.rpc_schema.specs.declared.desc.Kind.{Kind}
use Rattle.rpc_schema.specs.declared.desc.RpcDesc.{RpcDesc}
use Rattle.rpc_schedule.specs.declared.event.Event.{Event}
use Rattle.rpc_schedule.specs.declared.event.Event.TheVariants as ev
use Rattle.rpc_talk.specs.Acts.{Act, Reply, Fail, Begin, Decline, Give, End}
use Rattle.rpc_talk.specs.Parts.{is_stream, is_tracked, takes_reply}
use Rattle.rpc_meeting.specs.Menus.{best_version, called_versions, is_called, listings_told}
use Rattle.rpc_meeting.specs.Talks.{Dispatch, line_named}
use Rattle.rpc_meeting.specs.Worlds.{Reason, ClosedHere, EndOfInput}
pub use Rattle.rpc_meeting.specs.declared.answer.Refusal.{Refusal}
pub use Rattle.rpc_meeting.specs.declared.answer.Refusal.TheVariants.{LabelTaken, NoSuchRpc, NoMenu, NoVersion, BadValue, Closed, NotOpen, TooLong, TooManyOpen, IdsSpent, NoSuchLabel, AlreadyEnded, NotStream, NotBegun, WrongKind, NoSuch, Stopped, AlreadyBegun}

-- ---- deeds

-- What is to be done. The client dispatches a procedure, or aborts a dispatch; a handler acts on a dispatch's query; bytes move, all that
-- are in flight or so many at most, in pieces of at most `by`; a moment comes; an end closes; or what a dispatch received is shown.
pub data Deed : Type 0 where
  Refuse : Refusal → Deed
  Call : (label : List ℕ) (d : RpcDesc) (v : Value) → Deed
  Abort : Dispatch → Deed
  Tell : Dispatch → Act → Deed
  MoveUp : (count : Option ℕ) (by : ℕ) → Deed
  MoveDown : (count : Option ℕ) (by : ℕ) → Deed
  Tick : (moment : ℕ) → Deed
  CloseClient : Reason → Deed
  CloseServer : Reason → Deed
  Reveal : Deed

abbrev pub find_label : List ℕ → List Dispatch → Option Dispatch
find_label label made = find (λ (d : Dispatch). bytes_eq d.label label) made

-- a text is read as a value of a form, by which something is done; or it is of no such value, and the event is refused
abbrev pub AsText : ℕ → Form → List ℕ → (Value → Deed) → Deed → Type 0
AsText m form text what deed =
    ((v : Value) × IsValueText form v text × Fits m form v × (deed ≡ what v))
    ⊎ (((v : Value) → IsValueText form v text → Fits m form v → ⊥) × (deed ≡ Refuse BadValue))

-- ---- dispatches

-- a dispatch under a label, by the dispatch that has it
abbrev pub UnlessTaken : Option Dispatch → Type 0 → Deed → Type 0
UnlessTaken None Free deed = Free
UnlessTaken (Some d) Free deed = deed ≡ Refuse LabelTaken

abbrev pub menu_deed : List ℕ → Option Dispatch → Deed
menu_deed label None = Call label menu_description val.Unit
menu_deed label (Some d) = Refuse LabelTaken

-- of a line, by whether the client has it
abbrev pub AsksLine : ℕ → List ℕ → List ℕ → RpcDesc → Bool → Deed → Type 0
AsksLine m label text d true deed = AsText m (form_of d.query) text (Call label d) deed
AsksLine m label text d false deed = deed ≡ Refuse NoSuchRpc

abbrev pub AsksEntry : ℕ → List ℕ → List ℕ → Option Entry → Deed → Type 0
AsksEntry m label text None deed = deed ≡ Refuse NoSuchRpc
AsksEntry m label text (Some e) deed = AsksLine m label text e.desc (is_called e.side) deed

-- of the best version of a name
abbrev pub AsksVersion : ℕ → List Entry → List ℕ → List ℕ → List ℕ → Option ℤ → Deed → Type 0
AsksVersion m entries label name text None deed = deed ≡ Refuse NoVersion
AsksVersion m entries label name text (Some version) deed = AsksEntry m label text (line_named entries name version) deed

abbrev pub AsksBest : ℕ → List Entry → List ℕ → List ℕ → List ℕ → Option Value → Deed → Type 0
AsksBest m entries label name text None deed = deed ≡ Refuse NoMenu
AsksBest m entries label name text (Some menu) deed =
    AsksVersion m entries label name text (best_version (called_versions entries name) (listings_told menu) name) deed

-- ---- what is done with a dispatch

abbrev pub abort_deed : Option Dispatch → Deed
abort_deed None = Refuse NoSuchLabel
abort_deed (Some d) = Abort d

abbrev pub show_deed : Option Dispatch → Deed
show_deed None = Refuse NoSuchLabel
show_deed (Some d) = Reveal

-- an act with no text of a value, for the kinds of procedures that have it
abbrev pub act_deed : (Kind → Bool) → Act → Option Dispatch → Deed
act_deed is_for act None = Refuse NoSuchLabel
act_deed is_for act (Some d) = if is_for d.desc.kind then Tell d act else Refuse WrongKind

-- an act of a value, by the form that its procedure gives it
abbrev pub TellsKind : ℕ → Form → (Value → Act) → List ℕ → Dispatch → Bool → Deed → Type 0
TellsKind m form act text d true deed = AsText m form text (λ v. Tell d (act v)) deed
TellsKind m form act text d false deed = deed ≡ Refuse WrongKind

abbrev pub TellsValue : ℕ → (Kind → Bool) → (RpcDesc → Form) → (Value → Act) → List ℕ → Option Dispatch → Deed → Type 0
TellsValue m is_for form act text None deed = deed ≡ Refuse NoSuchLabel
TellsValue m is_for form act text (Some d) deed = TellsKind m (form d.desc) act text d (is_for d.desc.kind) deed

-- ---- events

-- Here m is the limit on messages, and the tests stand in their order.
abbrev pub IsDeedOf : ℕ → List Entry → List Dispatch → Option Value → Event → Deed → Type 0
IsDeedOf m entries made menu (ev.Ask label name version text) deed =
    UnlessTaken (find_label label made) (AsksEntry m label text (line_named entries name version) deed) deed
IsDeedOf m entries made menu (ev.Menu label) deed = deed ≡ menu_deed label (find_label label made)
IsDeedOf m entries made menu (ev.Best label name text) deed = UnlessTaken (find_label label made) (AsksBest m entries label name text menu deed) deed
IsDeedOf m entries made menu (ev.Abort label) deed = deed ≡ abort_deed (find_label label made)
IsDeedOf m entries made menu (ev.Reply label text) deed = TellsValue m takes_reply (λ d. form_of d.first) Reply text (find_label label made) deed
IsDeedOf m entries made menu (ev.Begin label text) deed = TellsValue m is_stream (λ d. form_of d.first) Begin text (find_label label made) deed
IsDeedOf m entries made menu (ev.Decline label text) deed = TellsValue m is_stream (λ d. form_of d.error) Decline text (find_label label made) deed
IsDeedOf m entries made menu (ev.Item label text) deed = TellsValue m is_stream (λ d. form_of d.item) Give text (find_label label made) deed
IsDeedOf m entries made menu (ev.Fail label text) deed = deed ≡ act_deed is_tracked (Fail text) (find_label label made)
IsDeedOf m entries made menu (ev.End label) deed = deed ≡ act_deed is_stream End (find_label label made)
IsDeedOf m entries made menu (ev.Up count by) deed = deed ≡ MoveUp count by
IsDeedOf m entries made menu (ev.Down count by) deed = deed ≡ MoveDown count by
IsDeedOf m entries made menu (ev.At moment) deed = deed ≡ Tick moment
IsDeedOf m entries made menu ev.CloseClient deed = deed ≡ CloseClient ClosedHere
IsDeedOf m entries made menu ev.CloseServer deed = deed ≡ CloseServer ClosedHere
IsDeedOf m entries made menu ev.EofClient deed = deed ≡ CloseClient EndOfInput
IsDeedOf m entries made menu ev.EofServer deed = deed ≡ CloseServer EndOfInput
IsDeedOf m entries made menu (ev.Show label) deed = deed ≡ show_deed (find_label label made)
