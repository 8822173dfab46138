-- The form of each shape, one layer at a time.
use Rattle.std.proofs.Common.{◌≡◌, ℕ, List, [], ◌∷◌, map, Option, Some, None, refl, sym, ap, ◌∙◌}
use Rattle.bp_value.specs.declared.shape.Shape.{Shape, fold-roll-Shape}
use Rattle.bp_value.specs.declared.shape.Shape.TheFolds.{fold-Case, fold-Field, fold-PolyCase, map-Shape}
use Rattle.bp_value.specs.declared.shape.Shape.TheViews.{roll-Shape}
use Rattle.bp_value.specs.declared.shape.Shape.TheVariants as shp
use Rattle.bp_value.specs.declared.shape.Shape.TheOpen as layer
use Rattle.bp_value.specs.declared.shape.Case.{Case, fold_out-Case}
use Rattle.bp_value.specs.declared.shape.Field.{Field, fold_out-Field}
use Rattle.bp_value.specs.declared.shape.PolyCase.{PolyCase, fold_out-PolyCase}
use Rattle.bp_value.specs.Form.{Form, Parts, unit, bool, char, int, int32, int64, text, opt, listed, tuple, fields, sum, poly, sexp, form_of, parts, named_parts, cases, shape_step, case_step, field_step, poly_step, field_form, case_form, poly_form}

pub map_same : {A B : Type 0} (f g : A → B) → ((x : A) → f x ≡ g x) → (xs : List A)
    → map f xs ≡ map g xs
map_same f g same [] = refl
map_same f g same (x ∷ xs) = λ i. same x i ∷ map_same f g same xs i

case_folded : Case → List ℕ × Parts
case_folded c =
    fold-Case Form (List ℕ × Parts) (List ℕ × Form) (List ℕ × Parts)
    shape_step case_step field_step poly_step c

field_folded : Field → List ℕ × Form
field_folded f =
    fold-Field Form (List ℕ × Parts) (List ℕ × Form) (List ℕ × Parts)
    shape_step case_step field_step poly_step f

poly_folded : PolyCase → List ℕ × Parts
poly_folded c =
    fold-PolyCase Form (List ℕ × Parts) (List ℕ × Form) (List ℕ × Parts)
    shape_step case_step field_step poly_step c

case_folded_is : (c : Case) → case_folded c ≡ case_form c
unfolding form_of case_folded
case_folded_is c =
    fold_out-Case Form (List ℕ × Parts) (List ℕ × Form) (List ℕ × Parts)
    shape_step case_step field_step poly_step c

field_folded_is : (f : Field) → field_folded f ≡ field_form f
unfolding form_of field_folded
field_folded_is f =
    fold_out-Field Form (List ℕ × Parts) (List ℕ × Form) (List ℕ × Parts)
    shape_step case_step field_step poly_step f

-- with no argument, and with one
poly_by_argument : (name : List ℕ) (arg : Option Shape)
    → poly_folded (record { name = name; arg = arg })
    ≡ poly_form (record { name = name; arg = arg })
unfolding form_of poly_folded
poly_by_argument name None =
    fold_out-PolyCase Form (List ℕ × Parts) (List ℕ × Form) (List ℕ × Parts)
    shape_step case_step field_step poly_step
    (record { name = name; arg = None })
poly_by_argument name (Some s) =
    fold_out-PolyCase Form (List ℕ × Parts) (List ℕ × Form) (List ℕ × Parts)
    shape_step case_step field_step poly_step
    (record { name = name; arg = Some s })

poly_folded_is : (c : PolyCase) → poly_folded c ≡ poly_form c
poly_folded_is c = poly_by_argument c.name c.arg

abbrev folded : layer.Shape-F Shape Case Field PolyCase
    → layer.Shape-F Form (List ℕ × Parts) (List ℕ × Form) (List ℕ × Parts)
folded d =
    map-Shape Shape Case Field PolyCase Form (List ℕ × Parts) (List ℕ × Form) (List ℕ × Parts)
    form_of case_folded field_folded poly_folded d

rolled : (d : layer.Shape-F Shape Case Field PolyCase)
    → form_of (roll-Shape d) ≡ shape_step (folded d)
unfolding form_of case_folded field_folded poly_folded
rolled d =
    fold-roll-Shape Form (List ℕ × Parts) (List ℕ × Form) (List ℕ × Parts)
    shape_step case_step field_step poly_step d

pub form_of-Unit : form_of shp.Unit ≡ unit
form_of-Unit = ap form_of (sym shp.rolls-Unit) ∙ rolled layer.Unit

pub form_of-Bool : form_of shp.Bool ≡ bool
form_of-Bool = ap form_of (sym shp.rolls-Bool) ∙ rolled layer.Bool

pub form_of-Char : form_of shp.Char ≡ char
form_of-Char = ap form_of (sym shp.rolls-Char) ∙ rolled layer.Char

pub form_of-Int : form_of shp.Int ≡ int
form_of-Int = ap form_of (sym shp.rolls-Int) ∙ rolled layer.Int

pub form_of-Int32 : form_of shp.Int32 ≡ int32
form_of-Int32 = ap form_of (sym shp.rolls-Int32) ∙ rolled layer.Int32

pub form_of-Int64 : form_of shp.Int64 ≡ int64
form_of-Int64 = ap form_of (sym shp.rolls-Int64) ∙ rolled layer.Int64

pub form_of-Text : form_of shp.Text ≡ text
form_of-Text = ap form_of (sym shp.rolls-Text) ∙ rolled layer.Text

pub form_of-Sexp : form_of shp.Sexp ≡ sexp
form_of-Sexp = ap form_of (sym shp.rolls-Sexp) ∙ rolled layer.Sexp

pub form_of-Opt : (s : Shape) → form_of (shp.Opt s) ≡ opt (form_of s)
form_of-Opt s = ap form_of (sym (shp.rolls-Opt s)) ∙ rolled (layer.Opt s)

pub form_of-List : (s : Shape) → form_of (shp.List s) ≡ listed (form_of s)
form_of-List s = ap form_of (sym (shp.rolls-List s)) ∙ rolled (layer.List s)

pub form_of-Tuple : (ss : List Shape) → form_of (shp.Tuple ss) ≡ tuple (parts (map form_of ss))
form_of-Tuple ss = ap form_of (sym (shp.rolls-Tuple ss)) ∙ rolled (layer.Tuple ss)

pub form_of-Fields : (fs : List Field)
    → form_of (shp.Fields fs) ≡ fields (named_parts (map field_form fs))
form_of-Fields fs =
    ap form_of (sym (shp.rolls-Fields fs)) ∙ rolled (layer.Fields fs)
    ∙ ap (λ xs. fields (named_parts xs)) (map_same field_folded field_form field_folded_is fs)

pub form_of-Sum : (cs : List Case) → form_of (shp.Sum cs) ≡ sum (cases (map case_form cs))
form_of-Sum cs =
    ap form_of (sym (shp.rolls-Sum cs)) ∙ rolled (layer.Sum cs)
    ∙ ap (λ xs. sum (cases xs)) (map_same case_folded case_form case_folded_is cs)

pub form_of-Poly : (cs : List PolyCase) → form_of (shp.Poly cs) ≡ poly (cases (map poly_form cs))
form_of-Poly cs =
    ap form_of (sym (shp.rolls-Poly cs)) ∙ rolled (layer.Poly cs)
    ∙ ap (λ xs. poly (cases xs)) (map_same poly_folded poly_form poly_folded_is cs)
