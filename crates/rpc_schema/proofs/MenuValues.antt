-- The value of a menu, item by item.
use Rattle.std.proofs.Common.{◌≡◌, refl, sym, ap, ◌∙◌, subst, ℕ, List, [], ◌∷◌, arith}
use Rattle.std.specs.List.{All}
use Rattle.std.specs.Prelude.{Ok}
use Rattle.std.proofs.lemmas.List.Elements.{All-nil, All-cons, All-weaker}
use Rattle.bp_value.specs.declared.shape.Shape.TheVariants as shp
use Rattle.bp_value.specs.declared.value.Value.{Value}
use Rattle.bp_value.specs.declared.value.Value.TheVariants as val
use Rattle.bp_value.specs.Form.{form_of, text, int, listed, tuple, part, end}
use Rattle.bp_value.specs.Faults.{IsGood, IsFaultless, nodes, part_nodes}
use Rattle.bp_value.specs.Fits.{Fits}
use Rattle.bp_value.proofs.FaultSteps.{bare_node, tuple_tells}
use Rattle.bp_value.proofs.Forms.{form_of-List, form_of-Tuple, form_of-Text, form_of-Int}
use Rattle.rpc_schema.specs.Entries.{IsAnyOf}
use Rattle.rpc_schema.specs.Choice.{menu_shape, IsListing}

menu_form : form_of menu_shape ≡ listed (tuple (part [] text (part [] int end)))
menu_form =
    form_of-List (shp.Tuple (shp.Text ∷ shp.Int ∷ []))
    ∙ ap listed (form_of-Tuple (shp.Text ∷ shp.Int ∷ [])
    ∙ (ap (λ f. tuple (part [] f (part [] (form_of shp.Int) end))) form_of-Text
    ∙ ap (λ f. tuple (part [] text (part [] f end))) form_of-Int))

-- ---- the shape

listed_good : IsGood (listed (tuple (part [] text (part [] int end))))
unfolding IsGood nodes part_nodes
listed_good =
    All-cons IsFaultless (1, listed (tuple (part [] text (part [] int end)))) ((2, tuple (part [] text (part [] int end))) ∷ (3, text) ∷ (3, int) ∷ [])
    (bare_node 1 (listed (tuple (part [] text (part [] int end)))) (omega arith) refl (λ v. v) (λ t. t) (λ r. r) refl refl)
    (All-cons IsFaultless (2, tuple (part [] text (part [] int end))) ((3, text) ∷ (3, int) ∷ [])
    (tuple_tells 2 2 (part [] text (part [] int end)) (Ok tt) (omega arith) refl (omega arith) (omega arith))
    (All-cons IsFaultless (3, text) ((3, int) ∷ []) (bare_node 3 text (omega arith) refl (λ v. v) (λ t. t) (λ r. r) refl refl)
    (All-cons IsFaultless (3, int) [] (bare_node 3 int (omega arith) refl (λ v. v) (λ t. t) (λ r. r) refl refl) (All-nil IsFaultless))))

-- the shape of a menu is good
pub menu_good : IsGood (form_of menu_shape)
menu_good = subst IsGood (sym menu_form) listed_good

-- ---- items

a_listing : (m : ℕ) (v : Value) → Fits m (tuple (part [] text (part [] int end))) v → IsListing v
unfolding Fits
a_listing m v ((a ∷ b ∷ []), is, ((t, word, short), ((n, number, within), last))) =
    (record { name = t; version = n }, is ∙ (ap (λ x. val.Parts (x ∷ b ∷ [])) word ∙ ap (λ y. val.Parts (val.Text t ∷ y ∷ [])) number))
a_listing m v ([], is, none) = absurd none
a_listing m v ((a ∷ []), is, (first, none)) = absurd none
a_listing m v ((a ∷ b ∷ c ∷ vs), is, (first, (second, more))) = absurd more

items_fit : (m : ℕ) (v : Value) → Fits m (listed (tuple (part [] text (part [] int end)))) v
    → (vs : List Value) × (v ≡ val.Items vs) × All (Fits m (tuple (part [] text (part [] int end)))) vs
unfolding Fits
items_fit m v (vs, is, (short, all)) = (vs, is, all)

pub menu_items : (v : Value) → IsAnyOf (form_of menu_shape) v → (vs : List Value) × (v ≡ val.Items vs) × All IsListing vs
menu_items v (m, fits) =
    let (vs, is, all) = items_fit m v (subst (λ f. Fits m f v) menu_form fits) in
    (vs, is, All-weaker (Fits m (tuple (part [] text (part [] int end)))) IsListing (a_listing m) vs all)
