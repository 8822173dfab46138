-- The answer of the menu can be read, and no line of a schema is the menu.
use Rattle.std.proofs.Common.{◌≡◌, refl, sym, ap, ◌∙◌, subst, ℕ, ◌<◌, ◌≤◌, ◌^◌, ℤ, pos, Bool, true, false, ◌&&◌, if◌then◌else◌, List, [], ◌∷◌, length, map, filter, arith}
use Rattle.std.specs.Prelude.{Some, None}
use Rattle.std.specs.List.{All}
use Rattle.std.specs.Str.{bytes_eq}
use Rattle.std.specs.Ordering.{int_eq}
use Rattle.std.proofs.lemmas.List.Elements.{All-nil, All-cons, All-head, All-tail}
use Rattle.std.proofs.lemmas.List.Sorted.{All-permutation}
use Rattle.std.proofs.lemmas.Slice.Eq.{bytes_eq-Decides}
use Rattle.bp_value.specs.declared.shape.Shape.TheVariants as shp
use Rattle.bp_value.specs.declared.value.Value.TheVariants as val
use Rattle.bp_value.specs.Form.{Form, form_of, text, int, listed, tuple, part, end}
use Rattle.bp_value.specs.Fits.{InRange, Fits, FitParts}
use Rattle.bp_value.proofs.Fitted.{range_is}
use Rattle.bp_value.proofs.Forms.{form_of-List, form_of-Tuple, form_of-Text, form_of-Int}
use Rattle.bp_grammar.specs.Written.{written}
use Rattle.bp_grammar.proofs.Right.{IsRead, ArePartsRead}
use Rattle.bp_grammar.proofs.SomeBytes.{IsFull, ArePartsFull}
use Rattle.rpc_msg.specs.declared.message.Answer.TheVariants as answer
use Rattle.rpc_schema.specs.declared.desc.Entry.{Entry}
use Rattle.rpc_schema.specs.declared.desc.Listing.{Listing}
use Rattle.rpc_schema.specs.Choice.{IsMenuOf, is_offered, listing_value, menu_description, menu_shape, menu_value, offered}
use Rattle.rpc_schema.specs.Entries.{AreEntries, IsAnyOf, IsEntry, listing_of, menu_name}
use Rattle.rpc_talk.specs.Acts.{answer_too_long, failed_with, is_menu, is_short, response}
use Rattle.rpc_talk.specs.Said.{says_in}
use Rattle.rpc_talk.proofs.ReadBack.{plain_reads}
use Rattle.rpc_talk.proofs.ShortBodies.{short_answer}
use Rattle.rpc_talk.proofs.ShortFits.{short_items}
use Rattle.rpc_meeting.specs.Talks.{Common, line_named, is_entry, menu_answer}
use Rattle.rpc_meeting.proofs.Calls.{AreClear, IsClear}

-- ---- the value of a menu

abbrev listing_form : Form
listing_form = tuple (part [] text (part [] int end))

menu_form : form_of menu_shape ≡ listed listing_form
menu_form =
    form_of-List (shp.Tuple (shp.Text ∷ shp.Int ∷ []))
    ∙ ap listed (form_of-Tuple (shp.Text ∷ shp.Int ∷ [])
    ∙ (ap (λ f. tuple (part [] f (part [] (form_of shp.Int) end))) form_of-Text
    ∙ ap (λ f. tuple (part [] text (part [] f end))) form_of-Int))

pub menu_read : IsRead (form_of menu_shape)
unfolding IsRead ArePartsRead
menu_read = subst IsRead (sym menu_form) (tt, (tt, tt))

listing_full : IsFull listing_form
unfolding IsFull ArePartsFull
listing_full = (tt, (tt, (tt, tt)))

-- versions have 63 bits
abbrev pub HasVersion : Listing → Type 0
HasVersion l = InRange 62 l.version

listing_fits : (l : Listing) → HasVersion l → IsAnyOf listing_form (listing_value l)
unfolding Fits FitParts
listing_fits l within =
    (length l.name, (val.Text l.name ∷ val.Num l.version ∷ [], refl, ((l.name, refl, omega arith), ((l.version, refl, within), tt))))

listings_fit : (ls : List Listing) → All HasVersion ls → All (IsAnyOf listing_form) (map listing_value ls)
listings_fit [] all = All-nil (IsAnyOf listing_form)
listings_fit (l ∷ ls) all =
    All-cons (IsAnyOf listing_form) (listing_value l) (map listing_value ls) (listing_fits l (All-head HasVersion l ls all))
    (listings_fit ls (All-tail HasVersion l ls all))

-- a menu whose spelling is short fits
menu_fits : (m : ℕ) (ls : List Listing) → All HasVersion ls → length (written (form_of menu_shape) (menu_value ls)) ≤ m
    → Fits m (form_of menu_shape) (menu_value ls)
menu_fits m ls all le =
    subst (λ f. Fits m f (menu_value ls)) (sym menu_form)
    (short_items m listing_form (map listing_value ls) listing_full (listings_fit ls all)
    (subst (λ f. length (written f (menu_value ls)) ≤ m) menu_form le))

-- the menu of a schema is such
offered_versions : (es : List Entry) → All IsEntry es → All HasVersion (offered es)
offered_versions [] all = All-nil HasVersion
offered_versions (e ∷ es) all = by (is_offered e.side) (offered_versions es (All-tail IsEntry e es all))
  where
    version : HasVersion (listing_of e)
    version = let (n, is, few) = (All-head IsEntry e es all).desc.version in subst (InRange 62) (sym is) ((range_is 62 (pos n)).1 few)

    by : (b : Bool) → All HasVersion (offered es)
        → All HasVersion (map listing_of (if b then e ∷ filter (λ x. is_offered x.side) es else filter (λ x. is_offered x.side) es))
    by true later = All-cons HasVersion (listing_of e) (offered es) version later
    by false later = later

pub menu_versions : (es : List Entry) (ls : List Listing) → AreEntries es → IsMenuOf es ls → All HasVersion ls
menu_versions es ls entries menu = All-permutation HasVersion (offered es) ls menu.all (offered_versions es entries.each)

-- ---- its answer

abbrev menu_bytes : Common → List ℕ
menu_bytes r = written (form_of menu_shape) (menu_value r.menu)

pub menu_clear : (r : Common) → r.limits.max_message < 2 ^ 64 → All HasVersion r.menu
    → (id : ℤ) → AreClear (says_in r.limits.max_message menu_description (menu_answer r id ∷ []))
menu_clear r small versions id = by (is_short r.limits.max_message (response id (answer.Ok (menu_bytes r)))) refl
  where
    by : (b : Bool) → is_short r.limits.max_message (response id (answer.Ok (menu_bytes r))) ≡ b
        → AreClear (says_in r.limits.max_message menu_description
        ((if b then answer.Ok (menu_bytes r) else failed_with answer_too_long) ∷ []))
    by true short =
        let fits = menu_fits r.limits.max_message r.menu versions (short_answer r.limits.max_message id (menu_bytes r) short) in
        (subst IsClear (sym (plain_reads r.limits.max_message (form_of menu_shape) (menu_value r.menu) small menu_read fits)) tt, tt)
    by false long = (tt, tt)

-- ---- no line is the menu

not_menu : (e : Entry) (tag : List ℕ) (version : ℤ) → IsEntry e → is_menu tag version ≡ true → is_entry tag version e ≡ true → ⊥
not_menu e tag version is menu same =
    let tag_is : bytes_eq tag menu_name ≡ true = first_of (bytes_eq tag menu_name) (int_eq version (pos 1)) menu in
    let name_is : bytes_eq e.desc.name tag ≡ true = first_of (bytes_eq e.desc.name tag) (int_eq e.desc.version version) same in
    is.desc.name.other ((bytes_eq-Decides e.desc.name tag).0 name_is ∙ (bytes_eq-Decides tag menu_name).0 tag_is)
  where
    first_of : (x y : Bool) → x && y ≡ true → x ≡ true
    first_of true y e = refl
    first_of false y e = absurd cc

pub no_entry : (es : List Entry) (tag : List ℕ) (version : ℤ) → All IsEntry es → is_menu tag version ≡ true
    → line_named es tag version ≡ None
no_entry [] tag version all menu = refl
no_entry (e ∷ es) tag version all menu = by (is_entry tag version e) refl (no_entry es tag version (All-tail IsEntry e es all) menu)
  where
    by : (b : Bool) → is_entry tag version e ≡ b → line_named es tag version ≡ None
        → (if b then Some e else line_named es tag version) ≡ None
    by true same none = absurd (not_menu e tag version (All-head IsEntry e es all) menu same)
    by false other none = none
