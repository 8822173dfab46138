-- In the printed text of a good shape each token is one of its own.
use Rattle.std.proofs.Common.{◌≡◌, refl, sym, subst, Option, Some, None, Bool, true, false, if◌then◌else◌, ℕ, ◌+◌, List, [], ◌∷◌, ◌++◌, map, codes}
use Rattle.std.specs.Option.{option_map}
use Rattle.std.specs.List.{All}
use Rattle.std.proofs.lemmas.List.Elements.{All-nil, All-cons, All-head, All-tail}
use Rattle.readers.specs.Reader.{Never}
use Rattle.bp_value.specs.declared.shape.Shape.{Shape}
use Rattle.bp_value.specs.declared.shape.Shape.TheFolds.{map-Shape}
use Rattle.bp_value.specs.declared.shape.Shape.TheViews.{roll-Shape}
use Rattle.bp_value.specs.declared.shape.Shape.TheOpen.{Shape-F}
use Rattle.bp_value.specs.declared.shape.Shape.TheOpen as layer
use Rattle.bp_value.specs.declared.shape.Shape.TheVariants as shp
use Rattle.bp_value.specs.declared.shape.Case.{Case}
use Rattle.bp_value.specs.declared.shape.Field.{Field}
use Rattle.bp_value.specs.declared.shape.PolyCase.{PolyCase}
use Rattle.bp_value.specs.Names.{IsShapeName}
use Rattle.bp_value.specs.Form.{fields, sum, poly, form_of, parts, named_parts, cases, argument, field_form, case_form, poly_form}
use Rattle.bp_value.specs.Faults.{nodes, part_nodes, case_nodes, part_names, case_names, IsGood}
use Rattle.bp_value.proofs.Forms.{form_of-Opt, form_of-List, form_of-Tuple, form_of-Fields, form_of-Sum, form_of-Poly}
use Rattle.bp_value.proofs.Good.{AreGood, good_root, good_node, good_opt, good_listed, good_tuple, good_fields, good_sum, good_poly, good_part, good_case, good_names}
use Rattle.bp_text_grammar.specs.Tokens.{Word, Mark}
use Rattle.bp_text_grammar.specs.Texts.{round_open, round_close, star, colon, semicolon, square_open, square_close, backtick, curly_open, bar, curly_close}
use Rattle.bp_text_grammar.specs.PrintedPieces.{Piece, tight, spaced, after_blank, list_pieces, IsApart, AreLaid}
use Rattle.bp_text_grammar.specs.PrintedShapes.{Printed, as_part, more_factors, factors, after_of, of_arguments, of_argument, record_pieces, variant_pieces, shape_printed, shape_pieces}
use Rattle.bp_text_grammar.proofs.LaidPieces.{laid_join, laid_blank, apart_after, laid_mark, laid_word, list_laid, plain_name}
use Rattle.bp_text_grammar.proofs.ShapeLayers.{case_printed, field_printed, poly_printed, case_printed_is, field_printed_is, poly_printed_is, layer_printed, printed_Opt, printed_List, printed_Tuple, printed_Fields, printed_Sum, printed_Poly, by_layers}

-- ---- parts

part_laid : (p : Printed) → AreLaid Never p.1 → AreLaid Never (as_part p)
part_laid p laid = go p.0
  where
    go : (b : Bool) → AreLaid Never (if b then tight (Mark round_open) ∷ p.1 ++ tight (Mark round_close) ∷ [] else p.1)
    go true =
        laid_mark Never false round_open (p.1 ++ tight (Mark round_close) ∷ []) refl
        (laid_join Never p.1 (tight (Mark round_close) ∷ []) laid (laid_mark Never false round_close [] refl tt) tt)
    go false = laid

-- a word after a part
post_laid : (p : Printed) (w : List ℕ) → IsShapeName w → AreLaid Never p.1 → AreLaid Never (as_part p ++ spaced (Word w) ∷ [])
post_laid p w is laid = laid_join Never (as_part p) (spaced (Word w) ∷ []) (part_laid p laid) (laid_word Never true w [] is tt tt) tt

more_factors_laid : (ps : List Printed) → All (λ p. AreLaid Never p.1) ps → AreLaid Never (more_factors ps) × IsApart (more_factors ps)
more_factors_laid [] all = (tt, tt)
more_factors_laid (p ∷ ps) all =
    let (rest, apart) = more_factors_laid ps (All-tail (λ p. AreLaid Never p.1) p ps all) in (
      laid_mark Never true star (after_blank (as_part p) ++ more_factors ps) refl
          (laid_join Never (after_blank (as_part p)) (more_factors ps) (laid_blank Never (as_part p) (part_laid p (All-head (λ p. AreLaid Never p.1) p ps all))) rest apart),
      tt,
    )

factors_laid : (ps : List Printed) → All (λ p. AreLaid Never p.1) ps → AreLaid Never (factors ps)
factors_laid [] all = tt
factors_laid (p ∷ ps) all =
    let (rest, apart) = more_factors_laid ps (All-tail (λ p. AreLaid Never p.1) p ps all) in
    laid_join Never (as_part p) (more_factors ps) (part_laid p (All-head (λ p. AreLaid Never p.1) p ps all)) rest apart

of_laid : (ps : List Piece) → AreLaid Never ps → AreLaid Never (after_of ps)
of_laid ps laid = laid_word Never true (codes "of") (after_blank ps) (plain_name (codes "of") refl) (apart_after ps) (laid_blank Never ps laid)

record_laid : (fs : List (List Piece)) → All (AreLaid Never) fs → AreLaid Never (record_pieces fs)
record_laid fs all =
    laid_mark Never false curly_open (list_pieces (tight (Mark semicolon)) curly_close (λ f. f) fs) refl (list_laid Never semicolon curly_close false (λ f. f) refl refl fs all)

variant_laid : (cs : List (List Piece)) → All (AreLaid Never) cs → AreLaid Never (variant_pieces cs)
variant_laid cs all =
    laid_mark Never false square_open (list_pieces (spaced (Mark bar)) square_close (λ c. c) cs) refl (list_laid Never bar square_close true (λ c. c) refl refl cs all)

-- ---- what holds of each shape and member

abbrev IsLaid : Shape → Type 0
IsLaid s = (d : ℕ) → AreGood (nodes d (form_of s)) → AreLaid Never (shape_printed s).1

abbrev FieldIsLaid : Field → Type 0
FieldIsLaid f = (d : ℕ) → IsShapeName f.name → AreGood (nodes d (form_of f.shape)) → AreLaid Never (field_printed f)

abbrev CaseIsLaid : Case → Type 0
CaseIsLaid c = (d : ℕ) → IsShapeName c.name → AreGood (part_nodes d (parts (map form_of c.args))) → AreLaid Never (case_printed c)

abbrev PolyIsLaid : PolyCase → Type 0
PolyIsLaid c = (d : ℕ) → IsShapeName c.name → AreGood (part_nodes d (argument (option_map form_of c.arg))) → AreLaid Never (poly_printed c)

abbrev LaidShape : Type 0
LaidShape = (s : Shape) × IsLaid s

abbrev LaidField : Type 0
LaidField = (f : Field) × FieldIsLaid f

abbrev LaidCase : Type 0
LaidCase = (c : Case) × CaseIsLaid c

abbrev LaidPoly : Type 0
LaidPoly = (c : PolyCase) × PolyIsLaid c

by_printed : (s : Shape) (p : Printed) → shape_printed s ≡ p → ((d : ℕ) → AreGood (nodes d (form_of s)) → AreLaid Never p.1) → IsLaid s
by_printed s p e laid d good = subst (λ x. AreLaid Never x.1) (sym e) (laid d good)

-- ---- lists of children

parts_all : (d : ℕ) (es : List LaidShape) → AreGood (part_nodes d (parts (map form_of (map (λ e. e.0) es)))) → All (λ p. AreLaid Never p.1) (map shape_printed (map (λ e. e.0) es))
parts_all d [] good = All-nil (λ p. AreLaid Never p.1)
parts_all d (e ∷ es) good =
    let both = good_part d [] (form_of e.0) (parts (map form_of (map (λ e. e.0) es))) good in
    All-cons (λ p. AreLaid Never p.1) (shape_printed e.0) (map shape_printed (map (λ e. e.0) es)) (e.1 d both.0) (parts_all d es both.1)

fields_all : (d : ℕ) (es : List LaidField) → All IsShapeName (part_names (named_parts (map field_form (map (λ e. e.0) es))))
    → AreGood (part_nodes d (named_parts (map field_form (map (λ e. e.0) es)))) → All (AreLaid Never) (map field_printed (map (λ e. e.0) es))
fields_all d [] names good = All-nil (AreLaid Never)
fields_all d (e ∷ es) names good =
    let rest = named_parts (map field_form (map (λ e. e.0) es)) in
    let both = good_part d e.0.name (form_of e.0.shape) rest good in
    All-cons (AreLaid Never) (field_printed e.0) (map field_printed (map (λ e. e.0) es))
    (e.1 d (All-head IsShapeName e.0.name (part_names rest) names) both.0) (fields_all d es (All-tail IsShapeName e.0.name (part_names rest) names) both.1)

cases_all : (d : ℕ) (es : List LaidCase) → All IsShapeName (case_names (cases (map case_form (map (λ e. e.0) es))))
    → AreGood (case_nodes d (cases (map case_form (map (λ e. e.0) es)))) → All (AreLaid Never) (map case_printed (map (λ e. e.0) es))
cases_all d [] names good = All-nil (AreLaid Never)
cases_all d (e ∷ es) names good =
    let rest = cases (map case_form (map (λ e. e.0) es)) in
    let both = good_case d e.0.name (case_form e.0).1 rest good in
    All-cons (AreLaid Never) (case_printed e.0) (map case_printed (map (λ e. e.0) es))
    (e.1 d (All-head IsShapeName e.0.name (case_names rest) names) both.0) (cases_all d es (All-tail IsShapeName e.0.name (case_names rest) names) both.1)

polys_all : (d : ℕ) (es : List LaidPoly) → All IsShapeName (case_names (cases (map poly_form (map (λ e. e.0) es))))
    → AreGood (case_nodes d (cases (map poly_form (map (λ e. e.0) es)))) → All (AreLaid Never) (map poly_printed (map (λ e. e.0) es))
polys_all d [] names good = All-nil (AreLaid Never)
polys_all d (e ∷ es) names good =
    let rest = cases (map poly_form (map (λ e. e.0) es)) in
    let both = good_case d e.0.name (poly_form e.0).1 rest good in
    All-cons (AreLaid Never) (poly_printed e.0) (map poly_printed (map (λ e. e.0) es))
    (e.1 d (All-head IsShapeName e.0.name (case_names rest) names) both.0) (polys_all d es (All-tail IsShapeName e.0.name (case_names rest) names) both.1)

-- ---- members

field_is_laid : (n : List ℕ) (e : LaidShape) → FieldIsLaid (record { name = n; shape = e.0 })
field_is_laid n e d is good =
    subst (AreLaid Never) (sym (field_printed_is (record { name = n; shape = e.0 })))
    (laid_word Never false n (tight (Mark colon) ∷ after_blank (shape_printed e.0).1) is tt
    (laid_mark Never false colon (after_blank (shape_printed e.0).1) refl (laid_blank Never (shape_printed e.0).1 (e.1 d good))))

case_is_laid : (n : List ℕ) (es : List LaidShape) → CaseIsLaid (record { name = n; args = map (λ e. e.0) es })
case_is_laid n es d is good = subst (AreLaid Never) (sym (case_printed_is (record { name = n; args = map (λ e. e.0) es }))) (some es good)
  where
    some : (es : List LaidShape) → AreGood (part_nodes d (parts (map form_of (map (λ e. e.0) es)))) → AreLaid Never (tight (Word n) ∷ of_arguments (map shape_printed (map (λ e. e.0) es)))
    some [] good = laid_word Never false n [] is tt tt
    some (e ∷ es) good =
        laid_word Never false n (of_arguments (map shape_printed (map (λ e. e.0) (e ∷ es)))) is tt
        (of_laid (factors (map shape_printed (map (λ e. e.0) (e ∷ es)))) (factors_laid (map shape_printed (map (λ e. e.0) (e ∷ es))) (parts_all d (e ∷ es) good)))

poly_is_laid : (n : List ℕ) (o : Option LaidShape) → PolyIsLaid (record { name = n; arg = option_map (λ e. e.0) o })
poly_is_laid n o d is good = subst (AreLaid Never) (sym (poly_printed_is (record { name = n; arg = option_map (λ e. e.0) o }))) (some o good)
  where
    some : (o : Option LaidShape) → AreGood (part_nodes d (argument (option_map form_of (option_map (λ e. e.0) o))))
        → AreLaid Never (tight (Mark backtick) ∷ tight (Word n) ∷ of_argument (option_map shape_printed (option_map (λ e. e.0) o)))
    some None good = laid_mark Never false backtick (tight (Word n) ∷ []) refl (laid_word Never false n [] is tt tt)
    some (Some e) good =
        laid_mark Never false backtick (tight (Word n) ∷ after_of (shape_printed e.0).1) refl
        (laid_word Never false n (after_of (shape_printed e.0).1) is tt (of_laid (shape_printed e.0).1 (e.1 d (good_part d [] (form_of e.0) (argument None) good).0)))

-- ---- all shapes

base_laid : (s : Shape) (w : List ℕ) → IsShapeName w → shape_printed s ≡ (false, tight (Word w) ∷ []) → IsLaid s
base_laid s w is e = by_printed s (false, tight (Word w) ∷ []) e (λ d good. laid_word Never false w [] is tt tt)

layer_is_laid : (y : Shape-F LaidShape LaidCase LaidField LaidPoly)
    → IsLaid (roll-Shape (map-Shape LaidShape LaidCase LaidField LaidPoly Shape Case Field PolyCase (λ e. e.0) (λ e. e.0) (λ e. e.0) (λ e. e.0) y))
layer_is_laid layer.Unit = base_laid (roll-Shape layer.Unit) (codes "unit") (plain_name (codes "unit") refl) (layer_printed layer.Unit)
layer_is_laid layer.Bool = base_laid (roll-Shape layer.Bool) (codes "bool") (plain_name (codes "bool") refl) (layer_printed layer.Bool)
layer_is_laid layer.Char = base_laid (roll-Shape layer.Char) (codes "char") (plain_name (codes "char") refl) (layer_printed layer.Char)
layer_is_laid layer.Int = base_laid (roll-Shape layer.Int) (codes "int") (plain_name (codes "int") refl) (layer_printed layer.Int)
layer_is_laid layer.Int32 = base_laid (roll-Shape layer.Int32) (codes "int32") (plain_name (codes "int32") refl) (layer_printed layer.Int32)
layer_is_laid layer.Int64 = base_laid (roll-Shape layer.Int64) (codes "int64") (plain_name (codes "int64") refl) (layer_printed layer.Int64)
layer_is_laid layer.Text = base_laid (roll-Shape layer.Text) (codes "string") (plain_name (codes "string") refl) (layer_printed layer.Text)
layer_is_laid layer.Sexp = base_laid (roll-Shape layer.Sexp) (codes "sexp") (plain_name (codes "sexp") refl) (layer_printed layer.Sexp)
layer_is_laid (layer.Opt e) =
    subst IsLaid (sym (shp.rolls-Opt e.0)) (by_printed (shp.Opt e.0) (false, as_part (shape_printed e.0) ++ spaced (Word (codes "option")) ∷ []) (printed_Opt e.0)
    (λ d good. post_laid (shape_printed e.0) (codes "option") (plain_name (codes "option") refl)
    (e.1 (d + 1) (good_opt d (form_of e.0) (subst (λ f. AreGood (nodes d f)) (form_of-Opt e.0) good)))))
layer_is_laid (layer.List e) =
    subst IsLaid (sym (shp.rolls-List e.0)) (by_printed (shp.List e.0) (false, as_part (shape_printed e.0) ++ spaced (Word (codes "list")) ∷ []) (printed_List e.0)
    (λ d good. post_laid (shape_printed e.0) (codes "list") (plain_name (codes "list") refl)
    (e.1 (d + 1) (good_listed d (form_of e.0) (subst (λ f. AreGood (nodes d f)) (form_of-List e.0) good)))))
layer_is_laid (layer.Tuple es) =
    let ss = map (λ e. e.0) es in
    subst IsLaid (sym (shp.rolls-Tuple ss)) (by_printed (shp.Tuple ss) (true, factors (map shape_printed ss)) (printed_Tuple ss)
    (λ d good. factors_laid (map shape_printed ss) (parts_all (d + 1) es (good_tuple d (parts (map form_of ss)) (subst (λ f. AreGood (nodes d f)) (form_of-Tuple ss) good)))))
layer_is_laid (layer.Fields es) =
    let fs = map (λ e. e.0) es in
    subst IsLaid (sym (shp.rolls-Fields fs)) (by_printed (shp.Fields fs) (false, record_pieces (map field_printed fs)) (printed_Fields fs)
    (λ d good. let here : AreGood (nodes d (fields (named_parts (map field_form fs)))) = subst (λ f. AreGood (nodes d f)) (form_of-Fields fs) good in
    record_laid (map field_printed fs)
    (fields_all (d + 1) es (good_names d (fields (named_parts (map field_form fs))) (good_node d (fields (named_parts (map field_form fs))) here)) (good_fields d (named_parts (map field_form fs)) here))))
layer_is_laid (layer.Sum es) =
    let cs = map (λ e. e.0) es in
    subst IsLaid (sym (shp.rolls-Sum cs)) (by_printed (shp.Sum cs) (false, variant_pieces (map case_printed cs)) (printed_Sum cs)
    (λ d good. let here : AreGood (nodes d (sum (cases (map case_form cs)))) = subst (λ f. AreGood (nodes d f)) (form_of-Sum cs) good in
    variant_laid (map case_printed cs)
    (cases_all (d + 1) es (good_names d (sum (cases (map case_form cs))) (good_node d (sum (cases (map case_form cs))) here)) (good_sum d (cases (map case_form cs)) here))))
layer_is_laid (layer.Poly es) =
    let cs = map (λ e. e.0) es in
    subst IsLaid (sym (shp.rolls-Poly cs)) (by_printed (shp.Poly cs) (false, variant_pieces (map poly_printed cs)) (printed_Poly cs)
    (λ d good. let here : AreGood (nodes d (poly (cases (map poly_form cs)))) = subst (λ f. AreGood (nodes d f)) (form_of-Poly cs) good in
    variant_laid (map poly_printed cs)
    (polys_all (d + 1) es (good_names d (poly (cases (map poly_form cs))) (good_node d (poly (cases (map poly_form cs))) here)) (good_poly d (cases (map poly_form cs)) here))))

-- each printed token has bytes, and the next does not go on it
pub shape_laid : (s : Shape) → IsGood (form_of s) → AreLaid Never (shape_pieces s)
unfolding shape_pieces
shape_laid s good = by_layers IsLaid CaseIsLaid FieldIsLaid PolyIsLaid layer_is_laid case_is_laid field_is_laid poly_is_laid s 1 (good_root (form_of s) good)
