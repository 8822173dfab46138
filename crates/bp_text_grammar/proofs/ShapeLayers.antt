-- What is printed of a shape, one layer at a time, and induction over shapes.
use Rattle.std.proofs.Common.{◌≡◌, sym, ap, ◌∙◌, subst, ℕ, true, false, List, [], ◌∷◌, ◌++◌, map, Option, Some, None, codes}
use Rattle.std.specs.Option.{option_map}
use Rattle.bp_value.specs.declared.shape.Shape.{Shape, fold-roll-Shape}
use Rattle.bp_value.specs.declared.shape.Shape.TheFolds.{fold-Case, fold-Field, fold-PolyCase, ind-Shape, map-Shape, map-PolyCase}
use Rattle.bp_value.specs.declared.shape.Shape.TheViews.{roll-Shape, roll-Case, roll-Field, roll-PolyCase}
use Rattle.bp_value.specs.declared.shape.Shape.TheOpen.{Shape-F, Case-F, Field-F, PolyCase-F}
use Rattle.bp_value.specs.declared.shape.Shape.TheVariants as shp
use Rattle.bp_value.specs.declared.shape.Shape.TheOpen as layer
use Rattle.bp_value.specs.declared.shape.Case.{Case, fold_out-Case}
use Rattle.bp_value.specs.declared.shape.Field.{Field, fold_out-Field}
use Rattle.bp_value.specs.declared.shape.PolyCase.{PolyCase, fold_out-PolyCase}
use Rattle.bp_text_grammar.specs.Tokens.{Word, Mark}
use Rattle.bp_text_grammar.specs.Texts.{colon, backtick}
use Rattle.bp_text_grammar.specs.PrintedPieces.{Piece, tight, spaced, after_blank}
use Rattle.bp_text_grammar.specs.PrintedShapes.{Printed, as_part, factors, of_arguments, of_argument, record_pieces, variant_pieces, print_shape_step, print_case_step, print_field_step, print_poly_step, shape_printed}

-- ---- members

pub case_printed : Case → List Piece
case_printed c = fold-Case Printed (List Piece) (List Piece) (List Piece) print_shape_step print_case_step print_field_step print_poly_step c

pub field_printed : Field → List Piece
field_printed f = fold-Field Printed (List Piece) (List Piece) (List Piece) print_shape_step print_case_step print_field_step print_poly_step f

pub poly_printed : PolyCase → List Piece
poly_printed c = fold-PolyCase Printed (List Piece) (List Piece) (List Piece) print_shape_step print_case_step print_field_step print_poly_step c

pub case_printed_is : (c : Case) → case_printed c ≡ tight (Word c.name) ∷ of_arguments (map shape_printed c.args)
unfolding shape_printed case_printed
case_printed_is c = fold_out-Case Printed (List Piece) (List Piece) (List Piece) print_shape_step print_case_step print_field_step print_poly_step c

pub field_printed_is : (f : Field) → field_printed f ≡ tight (Word f.name) ∷ tight (Mark colon) ∷ after_blank (shape_printed f.shape).1
unfolding shape_printed field_printed
field_printed_is f = fold_out-Field Printed (List Piece) (List Piece) (List Piece) print_shape_step print_case_step print_field_step print_poly_step f

pub poly_printed_is : (c : PolyCase) → poly_printed c ≡ tight (Mark backtick) ∷ tight (Word c.name) ∷ of_argument (option_map shape_printed c.arg)
unfolding poly_printed shape_printed
poly_printed_is c = by_argument c.name c.arg
  where
    by_argument : (name : List ℕ) (arg : Option Shape) → poly_printed (record { name = name; arg = arg })
        ≡ tight (Mark backtick) ∷ tight (Word name) ∷ of_argument (option_map shape_printed arg)
    by_argument name None = fold_out-PolyCase Printed (List Piece) (List Piece) (List Piece) print_shape_step print_case_step print_field_step print_poly_step (record { name = name; arg = None })
    by_argument name (Some s) = fold_out-PolyCase Printed (List Piece) (List Piece) (List Piece) print_shape_step print_case_step print_field_step print_poly_step (record { name = name; arg = Some s })

-- ---- shapes

abbrev folded : Shape-F Shape Case Field PolyCase → Shape-F Printed (List Piece) (List Piece) (List Piece)
folded d =
    map-Shape Shape Case Field PolyCase Printed (List Piece) (List Piece) (List Piece)
    shape_printed case_printed field_printed poly_printed d

pub layer_printed : (d : Shape-F Shape Case Field PolyCase) → shape_printed (roll-Shape d) ≡ print_shape_step (folded d)
unfolding shape_printed case_printed field_printed poly_printed
layer_printed d = fold-roll-Shape Printed (List Piece) (List Piece) (List Piece) print_shape_step print_case_step print_field_step print_poly_step d

pub printed_Opt : (s : Shape) → shape_printed (shp.Opt s) ≡ (false, as_part (shape_printed s) ++ spaced (Word (codes "option")) ∷ [])
printed_Opt s = ap shape_printed (sym (shp.rolls-Opt s)) ∙ layer_printed (layer.Opt s)

pub printed_List : (s : Shape) → shape_printed (shp.List s) ≡ (false, as_part (shape_printed s) ++ spaced (Word (codes "list")) ∷ [])
printed_List s = ap shape_printed (sym (shp.rolls-List s)) ∙ layer_printed (layer.List s)

pub printed_Tuple : (ss : List Shape) → shape_printed (shp.Tuple ss) ≡ (true, factors (map shape_printed ss))
printed_Tuple ss = ap shape_printed (sym (shp.rolls-Tuple ss)) ∙ layer_printed (layer.Tuple ss)

pub printed_Fields : (fs : List Field) → shape_printed (shp.Fields fs) ≡ (false, record_pieces (map field_printed fs))
printed_Fields fs = ap shape_printed (sym (shp.rolls-Fields fs)) ∙ layer_printed (layer.Fields fs)

pub printed_Sum : (cs : List Case) → shape_printed (shp.Sum cs) ≡ (false, variant_pieces (map case_printed cs))
printed_Sum cs = ap shape_printed (sym (shp.rolls-Sum cs)) ∙ layer_printed (layer.Sum cs)

pub printed_Poly : (cs : List PolyCase) → shape_printed (shp.Poly cs) ≡ (false, variant_pieces (map poly_printed cs))
printed_Poly cs = ap shape_printed (sym (shp.rolls-Poly cs)) ∙ layer_printed (layer.Poly cs)

-- ---- induction

-- what holds of shapes and of their members holds where it holds of one layer whose children it holds of
module _ (P : Shape → Type 0) (OfCase : Case → Type 0) (OfField : Field → Type 0) (OfPoly : PolyCase → Type 0) where
  abbrev pub Proved : {A : Type 0} → (A → Type 0) → Type 0
  Proved {A = A} Q = (a : A) × Q a

  pub by_layers : ((y : Shape-F (Proved P) (Proved OfCase) (Proved OfField) (Proved OfPoly))
      → P (roll-Shape (map-Shape (Proved P) (Proved OfCase) (Proved OfField) (Proved OfPoly) Shape Case Field PolyCase (λ e. e.0) (λ e. e.0) (λ e. e.0) (λ e. e.0) y)))
      → ((name : List ℕ) (args : List (Proved P)) → OfCase (record { name = name; args = map (λ e. e.0) args }))
      → ((name : List ℕ) (e : Proved P) → OfField (record { name = name; shape = e.0 }))
      → ((name : List ℕ) (e : Option (Proved P)) → OfPoly (record { name = name; arg = option_map (λ e. e.0) e }))
      → (s : Shape) → P s
  by_layers of_shape of_case of_field of_poly =
      ind-Shape P OfCase OfField OfPoly
      (λ x y is. subst (λ z. P (roll-Shape z)) is (of_shape y))
      (λ x y is. subst (λ z. OfCase (roll-Case z)) is (of_case y.name y.args))
      (λ x y is. subst (λ z. OfField (roll-Field z)) is (of_field y.name y.shape))
      (λ x y is. subst (λ z. OfPoly (roll-PolyCase z)) is (by_option y.name y.arg))
    where
      by_option : (name : List ℕ) (e : Option (Proved P)) → OfPoly (roll-PolyCase
          (map-PolyCase (Proved P) (Proved OfCase) (Proved OfField) (Proved OfPoly) Shape Case Field PolyCase (λ e. e.0) (λ e. e.0) (λ e. e.0) (λ e. e.0) (record { name = name; arg = e })))
      by_option name None = of_poly name None
      by_option name (Some e) = of_poly name (Some e)
