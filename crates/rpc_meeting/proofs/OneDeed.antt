-- An event comes to one thing alone.
use Rattle.std.proofs.Common.{◌≡◌, refl, sym, ap, ◌∙◌, subst, ℕ, ℤ, Bool, true, false, List, inl, inr}
use Rattle.std.specs.Prelude.{Option, Some, None}
use Rattle.bp_value.specs.Faults.{IsGood}
use Rattle.bp_value.specs.Form.{Form, form_of}
use Rattle.bp_value.specs.declared.value.Value.{Value}
use Rattle.bp_text_grammar.proofs.PrintedLaws.{value_text_once}
use Rattle.rpc_schema.specs.declared.desc.Entry.{Entry}
use Rattle.rpc_schema.specs.declared.desc.Kind.{Kind}
use Rattle.rpc_schema.specs.declared.desc.RpcDesc.{RpcDesc}
use Rattle.rpc_schema.specs.Choice.{menu_description}
use Rattle.rpc_schema.specs.Entries.{AreEntries, IsDesc}
use Rattle.rpc_schema.proofs.GoodLines.{good_unit}
use Rattle.rpc_schema.proofs.MenuValues.{menu_good}
use Rattle.rpc_schedule.specs.declared.event.Event.{Event}
use Rattle.rpc_schedule.specs.declared.event.Event.TheVariants as ev
use Rattle.rpc_talk.specs.Acts.{Act, Reply, Begin, Decline, Give}
use Rattle.rpc_talk.specs.Parts.{takes_reply, is_stream}
use Rattle.rpc_meeting.specs.Deeds.{Deed, Call, Tell, AsText, AsksBest, AsksEntry, AsksLine, AsksVersion, IsDeedOf, TellsValue, TellsKind, UnlessTaken, find_label}
use Rattle.rpc_meeting.specs.Menus.{best_version, called_versions, is_called, listings_told}
use Rattle.rpc_meeting.specs.Talks.{Common, Dispatch, line_named}
use Rattle.rpc_meeting.proofs.ActsRead.{line_entry}
use Rattle.rpc_meeting.proofs.Calls.{IsKnown}
use Rattle.rpc_meeting.proofs.Lines.{most}

-- ---- the forms of a procedure are good

pub record AreGoodForms (d : RpcDesc) : Type 0 where
  pub first : IsGood (form_of d.first)
  pub item : IsGood (form_of d.item)
  pub error : IsGood (form_of d.error)

menu_forms_good : AreGoodForms menu_description
menu_forms_good = record { first = menu_good; item = good_unit; error = good_unit }

desc_forms_good : (d : RpcDesc) → IsDesc d → AreGoodForms d
desc_forms_good d is = record { first = is.first; item = is.item; error = is.error }

-- ---- one of two

text_once : (m : ℕ) (f : Form) (text : List ℕ) (what : Value → Deed) (a b : Deed) → IsGood f → AsText m f text what a → AsText m f text what b → a ≡ b
text_once m f text what a b good (inl (v, read, fits, is)) (inl (w, also, within, same)) =
    is ∙ (ap what (value_text_once f v w text good read also) ∙ sym same)
text_once m f text what a b good (inl (v, read, fits, is)) (inr (none, same)) = absurd (none v read fits)
text_once m f text what a b good (inr (none, is)) (inl (w, also, within, same)) = absurd (none w also within)
text_once m f text what a b good (inr (none, is)) (inr (never, same)) = is ∙ sym same

new_once : (o : Option Dispatch) (A B : Type 0) (a b : Deed) → (A → B → a ≡ b) → UnlessTaken o A a → UnlessTaken o B b → a ≡ b
new_once None A B a b once x y = once x y
new_once (Some d) A B a b once x y = x ∙ sym y

module _ (r : Common) (entries : AreEntries r.entries) (a b : Deed) where
  module _ (label text : List ℕ) where
    line_once : (d : RpcDesc) → IsGood (form_of d.query) → (called : Bool) → AsksLine (most r) label text d called a → AsksLine (most r) label text d called b
        → a ≡ b
    line_once d good true x y = text_once (most r) (form_of d.query) text (Call label d) a b good x y
    line_once d good false x y = x ∙ sym y

    entry_once : (tag : List ℕ) (version : ℤ) (o : Option Entry) → line_named r.entries tag version ≡ o → AsksEntry (most r) label text o a
        → AsksEntry (most r) label text o b → a ≡ b
    entry_once tag version None here x y = x ∙ sym y
    entry_once tag version (Some e) here x y =
        line_once e.desc (line_entry r.entries tag version e entries.each here).desc.query (is_called e.side) x y

    version_once : (name : List ℕ) (o : Option ℤ) → AsksVersion (most r) r.entries label name text o a → AsksVersion (most r) r.entries label name text o b
        → a ≡ b
    version_once name None x y = x ∙ sym y
    version_once name (Some version) x y = entry_once name version (line_named r.entries name version) refl x y

    best_once : (name : List ℕ) (o : Option Value) → AsksBest (most r) r.entries label name text o a → AsksBest (most r) r.entries label name text o b
        → a ≡ b
    best_once name None x y = x ∙ sym y
    best_once name (Some menu) x y = version_once name (best_version (called_versions r.entries name) (listings_told menu) name) x y

  known_forms_good : (d : RpcDesc) → IsKnown r d → AreGoodForms d
  known_forms_good d (inl is) = subst AreGoodForms (sym is) menu_forms_good
  known_forms_good d (inr (e, found, same)) =
      subst AreGoodForms same (desc_forms_good e.desc (line_entry r.entries d.name d.version e entries.each found).desc)

  tells_once : (is_for : Kind → Bool) (form : RpcDesc → Form) (act : Value → Act) (text : List ℕ) → ((d : RpcDesc) → AreGoodForms d → IsGood (form d))
      → (o : Option Dispatch) → ((d : Dispatch) → o ≡ Some d → IsKnown r d.desc) → TellsValue (most r) is_for form act text o a → TellsValue (most r) is_for form act text o b
      → a ≡ b
  tells_once is_for form act text good None known x y = x ∙ sym y
  tells_once is_for form act text good (Some d) known x y = by (is_for d.desc.kind) x y
    where
      by : (suit : Bool) → TellsKind (most r) (form d.desc) act text d suit a → TellsKind (most r) (form d.desc) act text d suit b → a ≡ b
      by true x y = text_once (most r) (form d.desc) text (λ v. Tell d (act v)) a b (good d.desc (known_forms_good d.desc (known d refl))) x y
      by false x y = x ∙ sym y

-- ---- events

-- The lines are those of a schema, and the procedure of each dispatch that a label finds is known: so what stands for a value has a good form.
pub deed_once : (r : Common) → AreEntries r.entries → (made : List Dispatch) (menu : Option Value)
    → ((label : List ℕ) (d : Dispatch) → find_label label made ≡ Some d → IsKnown r d.desc) → (e : Event) (a b : Deed)
    → IsDeedOf (most r) r.entries made menu e a → IsDeedOf (most r) r.entries made menu e b → a ≡ b
deed_once r entries made menu known (ev.Ask label name version text) a b x y =
    new_once (find_label label made) _ _ a b (entry_once r entries a b label text name version (line_named r.entries name version) refl) x y
deed_once r entries made menu known (ev.Menu label) a b x y = x ∙ sym y
deed_once r entries made menu known (ev.Best label name text) a b x y =
    new_once (find_label label made) _ _ a b (best_once r entries a b label text name menu) x y
deed_once r entries made menu known (ev.Abort label) a b x y = x ∙ sym y
deed_once r entries made menu known (ev.Reply label text) a b x y =
    tells_once r entries a b takes_reply (λ d. form_of d.first) Reply text (λ d good. good.first) (find_label label made) (known label) x y
deed_once r entries made menu known (ev.Begin label text) a b x y =
    tells_once r entries a b is_stream (λ d. form_of d.first) Begin text (λ d good. good.first) (find_label label made) (known label) x y
deed_once r entries made menu known (ev.Decline label text) a b x y =
    tells_once r entries a b is_stream (λ d. form_of d.error) Decline text (λ d good. good.error) (find_label label made) (known label) x y
deed_once r entries made menu known (ev.Item label text) a b x y =
    tells_once r entries a b is_stream (λ d. form_of d.item) Give text (λ d good. good.item) (find_label label made) (known label) x y
deed_once r entries made menu known (ev.Fail label text) a b x y = x ∙ sym y
deed_once r entries made menu known (ev.End label) a b x y = x ∙ sym y
deed_once r entries made menu known (ev.Up count by) a b x y = x ∙ sym y
deed_once r entries made menu known (ev.Down count by) a b x y = x ∙ sym y
deed_once r entries made menu known (ev.At moment) a b x y = x ∙ sym y
deed_once r entries made menu known ev.CloseClient a b x y = x ∙ sym y
deed_once r entries made menu known ev.CloseServer a b x y = x ∙ sym y
deed_once r entries made menu known ev.EofClient a b x y = x ∙ sym y
deed_once r entries made menu known ev.EofServer a b x y = x ∙ sym y
deed_once r entries made menu known (ev.Show label) a b x y = x ∙ sym y
