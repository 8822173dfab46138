-- The bytes of a menu.
use Rattle.std.proofs.Common.{◌≡◌, refl, sym, ap, ◌∙◌, ℕ, suc, ◌≤◌, List, [], ◌∷◌, ◌++◌, length, map, take, append-nil}
use Rattle.std.proofs.lemmas.List.{take_all}
use Rattle.std.specs.List.{flat_map}
use Rattle.bp_num.specs.Forms.{written_nat, written_int}
use Rattle.bp_value.specs.declared.shape.Shape.TheVariants as shp
use Rattle.bp_value.specs.declared.value.Value.{Value}
use Rattle.bp_value.specs.declared.value.Value.TheVariants.{Num, Text}
use Rattle.bp_value.specs.Form.{Form, form_of, listed, tuple, text, int, end, part}
use Rattle.bp_value.proofs.Forms.{form_of-List, form_of-Tuple, form_of-Text, form_of-Int}
use Rattle.bp_value.proofs.Layers.{out_num, out_text, out_parts, out_items}
use Rattle.bp_grammar.specs.Written.{written, written_parts, written_bytes}
use Rattle.rpc_schema.specs.Choice.{menu_shape, menu_value, listing_value}
use Rattle.rpc_schema.specs.declared.desc.Listing.{Listing}
use Rattle.rpc_server.specs.Rules.{listing_data, menu_data}

abbrev listing_form : Form
listing_form = tuple (part [] text (part [] int end))

menu_form_is : form_of menu_shape ≡ listed listing_form
menu_form_is =
    form_of-List (shp.Tuple (shp.Text ∷ shp.Int ∷ []))
    ∙ ap listed (form_of-Tuple (shp.Text ∷ shp.Int ∷ [])
    ∙ (ap (λ f. tuple (part [] f (part [] (form_of shp.Int) end))) form_of-Text
    ∙ ap (λ f. tuple (part [] text (part [] f end))) form_of-Int))

one_listing : (l : Listing) → written listing_form (listing_value l) ≡ listing_data l
unfolding written written_parts
one_listing l =
    rw (out_parts (Text l.name ∷ Num l.version ∷ []), out_text l.name, out_num l.version, append-nil (written_int l.version)) refl

each_listing : (ls : List Listing) → flat_map (written listing_form) (map listing_value ls) ≡ flat_map listing_data ls
each_listing [] = refl
each_listing (l ∷ ls) = ap (λ s. s ++ flat_map (written listing_form) (map listing_value ls)) (one_listing l) ∙ ap (λ s. listing_data l ++ s) (each_listing ls)

counted : (ls : List Listing) → length (map listing_value ls) ≡ length ls
counted [] = refl
counted (l ∷ ls) = ap suc (counted ls)

listed_bytes : (ls : List Listing) → written (listed listing_form) (menu_value ls) ≡ written_nat (length ls) ++ flat_map listing_data ls
unfolding written
listed_bytes ls = rw (out_items (map listing_value ls), counted ls, each_listing ls) refl

pub menu_bytes : (ls : List Listing) → menu_data ls ≡ written_nat (length ls) ++ flat_map listing_data ls
menu_bytes ls = ap (λ f. written f (menu_value ls)) menu_form_is ∙ listed_bytes ls

-- all of them were put
pub all_listings : (ls : List Listing) (i : ℕ) → length ls ≤ i → written_nat (length ls) ++ flat_map listing_data (take i ls) ≡ menu_data ls
all_listings ls i all = ap (λ us. written_nat (length ls) ++ flat_map listing_data us) (take_all i ls all) ∙ sym (menu_bytes ls)
