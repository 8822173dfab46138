-- The value of a menu that a client received is of the form of menus.
use Rattle.std.proofs.Common.{◌≡◌, ◌≢◌, refl, sym, ap, ◌∙◌, subst, zero, suc, ℤ, Bool, true, false, if◌then◌else◌, List, [], ◌∷◌, map, arith}
use Rattle.std.specs.Prelude.{Option, Some, None}
use Rattle.std.specs.List.{Contains}
use Rattle.std.specs.Ordering.{int_eq}
use Rattle.readers.specs.Reader.{Each, IsByte}
use Rattle.bp_value.specs.Fits.{Fits}
use Rattle.bp_value.specs.Form.{form_of}
use Rattle.bp_value.specs.declared.value.Value.{Value}
use Rattle.rpc_msg.specs.declared.shared.Ending.{Ending}
use Rattle.rpc_msg.specs.declared.shared.Ending.TheVariants as ending
use Rattle.rpc_schema.specs.Choice.{menu_shape}
use Rattle.rpc_schema.specs.declared.desc.RpcDesc.{RpcDesc}
use Rattle.rpc_talk.specs.Acts.{is_menu}
use Rattle.rpc_meeting.specs.Menus.{reply_or}
use Rattle.rpc_meeting.proofs.Look.{each_found, itself, no_some, same, some_is}
use Rattle.rpc_book.specs.Books.{BookState, Booked, HaveDistinctIds, IsSound, find_booked, held_in}
use Rattle.rpc_book.specs.declared.made.Made.{Made}
use Rattle.rpc_pair.specs.Kept.{IsKept}
use Rattle.rpc_pair.specs.Menus.{AnswersMenu, reply_of}
use Rattle.rpc_pair.proofs.HeldFits.{EndingFits, held_fits}

-- ---- a dispatch that was made is found by its id

abbrev booked_id : Booked → ℤ
booked_id d = d.made.id

abbrev IsFound : Made → List Booked → Type 0
IsFound made ds = (d : Booked) × (find_booked made.id ds ≡ Some d) × (d.made ≡ made)

pub found_made : (made : Made) (ds : List Booked) → HaveDistinctIds ds → Contains (map (λ d. d.made) ds) made → IsFound made ds
found_made made [] ids (k, lt, is) = absurd (omega (arith, lt))
found_made made (d ∷ ds) (apart, ids) (zero, lt, is) =
    let own : int_eq d.made.id made.id ≡ true = ap (λ (m : Made). int_eq d.made.id m.id) (sym is) ∙ itself d.made.id in
    (d, ap (λ b. if b then Some d else find_booked made.id ds) own, is)
found_made made (d ∷ ds) (apart, ids) (suc k, lt, is) = later (int_eq d.made.id made.id) refl (found_made made ds ids (k, omega (arith, lt), is))
  where
    later : (b : Bool) → int_eq d.made.id made.id ≡ b → IsFound made ds
        → (x : Booked) × ((if b then Some d else find_booked made.id ds) ≡ Some x) × (x.made ≡ made)
    later false at found = found
    later true at (x, here, its) =
        let other : x.made.id ≢ d.made.id = each_found booked_id (λ y. y.made.id ≢ d.made.id) made.id ds x apart here in
        absurd (other (ap (λ m. m.id) its ∙ sym (same d.made.id made.id at)))

-- ---- its reply

-- the reply that a dispatch of the menu shows
pub reply_fits : (b : BookState) (d : Booked) (v : Value) → Each IsByte b.got → IsKept d → is_menu d.made.desc.name d.made.desc.version ≡ true
    → reply_of b (Some d) ≡ Some v → Fits b.limits.max_message (form_of menu_shape) v
reply_fits b d v bytes kept menu shows =
    let m = b.limits.max_message in
    subst (λ (x : RpcDesc). Fits m (form_of x.first) v) (kept.own.menu menu) (by (held_in b d).ending (held_fits b d bytes kept.own.callable).1 (shown d.handed shows))
  where
    shown : (handed : Bool) → (if handed then None else reply_or None (held_in b d).ending) ≡ Some v → reply_or None (held_in b d).ending ≡ Some v
    shown true e = absurd (no_some v e)
    shown false e = e

    by : (e : Option Ending) → EndingFits b.limits.max_message d.made.desc e → reply_or None e ≡ Some v → Fits b.limits.max_message (form_of d.made.desc.first) v
    by None fits e = absurd (no_some v e)
    by (Some (ending.Reply w)) fits e = subst (Fits b.limits.max_message (form_of d.made.desc.first)) (some_is w v e) fits
    by (Some (ending.Failed why)) fits e = absurd (no_some v e)
    by (Some (ending.BadReply why)) fits e = absurd (no_some v e)
    by (Some (ending.Declined w)) fits e = absurd (no_some v e)
    by (Some ending.Eof) fits e = absurd (no_some v e)
    by (Some ending.Aborted) fits e = absurd (no_some v e)
    by (Some ending.Sent) fits e = absurd (no_some v e)
    by (Some ending.Closed) fits e = absurd (no_some v e)

-- that of one that was made
pub menu_fits : (b : BookState) (made : Made) (v : Value) → IsSound b → Each IsKept b.made → Contains (map (λ d. d.made) b.made) made
    → AnswersMenu b made (Some v) → Fits b.limits.max_message (form_of menu_shape) v
menu_fits b made v sound kept there answers = by (is_menu made.desc.name made.desc.version) refl answers
  where
    by : (menu : Bool) → is_menu made.desc.name made.desc.version ≡ menu → Some v ≡ (if menu then reply_of b (find_booked made.id b.made) else None)
        → Fits b.limits.max_message (form_of menu_shape) v
    by false is shows = absurd (no_some v (sym shows))
    by true is shows =
        let (d, here, its) = found_made made b.made sound.ids there in
        reply_fits b d v sound.bytes (each_found booked_id IsKept made.id b.made d kept here) (ap (λ (m : Made). is_menu m.desc.name m.desc.version) its ∙ is)
        (ap (reply_of b) (sym here) ∙ sym shows)
