-- The printed text of a good shape is a text of it.
use Rattle.std.proofs.Common.{◌≡◌, refl, sym, ap, ◌∙◌, subst, Some, ℕ, suc, ◌+◌, ◌<◌, ◌≤◌, List, [], ◌∷◌, ◌++◌, length, map, codes, inl, inr, arith}
use Rattle.std.specs.List.{All}
use Rattle.std.proofs.lemmas.List.{length-map}
use Rattle.std.proofs.lemmas.List.Elements.{All-nil, All-cons, All-head, All-tail}
use Rattle.bp_value.specs.declared.shape.Shape.{Shape}
use Rattle.bp_value.specs.declared.shape.Shape.TheFolds.{map-Shape}
use Rattle.bp_value.specs.declared.shape.Shape.TheViews.{roll-Shape}
use Rattle.bp_value.specs.declared.shape.Shape.TheOpen.{Shape-F}
use Rattle.bp_value.specs.declared.shape.Shape.TheOpen as layer
use Rattle.bp_value.specs.declared.shape.Shape.TheVariants as shp
use Rattle.bp_value.specs.declared.shape.Case.{Case}
use Rattle.bp_value.specs.declared.shape.Field.{Field}
use Rattle.bp_value.specs.declared.shape.PolyCase.{PolyCase}
use Rattle.bp_value.specs.Names.{IsShapeName}
use Rattle.bp_value.specs.Form.{fields, sum, poly, form_of, named_parts, cases, field_form, case_form, poly_form}
use Rattle.bp_value.specs.Faults.{nodes, part_nodes, case_nodes, part_names, case_names, IsGood}
use Rattle.bp_value.proofs.Forms.{form_of-Fields, form_of-Sum, form_of-Poly}
use Rattle.bp_value.proofs.Good.{AreGood, good_root, good_node, good_fields, good_sum, good_poly, good_part, good_case, good_names, fields_count, sum_count, poly_count}
use Rattle.bp_text_grammar.specs.Tokens.{Token, Mark}
use Rattle.bp_text_grammar.specs.Texts.{semicolon, square_open, square_close, curly_open, bar, curly_close}
use Rattle.bp_text_grammar.specs.ShapeTexts.{IsField, IsSumCase, IsPolyCase, AreSome, IsBase, IsShapeTokens}
use Rattle.bp_text_grammar.specs.PrintedPieces.{Piece, tight, spaced, after_blank, tokens_of, more_pieces, list_pieces}
use Rattle.bp_text_grammar.specs.PrintedShapes.{record_pieces, variant_pieces, shape_pieces, shape_tokens}
use Rattle.bp_text_grammar.proofs.Words.{mark_text}
use Rattle.bp_text_grammar.proofs.PieceTokens.{tokens_join, rest_printed}
use Rattle.bp_text_grammar.proofs.ShapeLayers.{case_printed, field_printed, poly_printed, layer_printed, printed_Fields, printed_Sum, printed_Poly, by_layers}
use Rattle.bp_text_grammar.proofs.PrintedShapes.{IsPrinted, FieldIsPrinted, CaseIsPrinted, PolyIsPrinted, Printable, depth_of, some_bracket, single, base_alone, leaf, tuple_printed, option_printed, list_printed, field_is_printed, case_is_printed, poly_is_printed}

-- ---- members between brackets

pieces_map : {A : Type 0} (sep : Piece) (close : ℕ) (w : A → List Piece) (vs : List A) → more_pieces sep close (λ x. x) (map w vs) ≡ more_pieces sep close w vs
pieces_map sep close w [] = refl
pieces_map sep close w (v ∷ vs) = ap (λ ps. sep ∷ after_blank (w v) ++ ps) (pieces_map sep close w vs)

some_printed : {A : Type 0} (piece : Piece) (sep close : ℕ) (L : A → List Token → Type 0) (w : A → List Piece) → piece.1 ≡ Mark sep
    → (vs : List A) → 0 < length vs → All (λ a. L a (tokens_of (w a))) vs → AreSome sep close L vs (tokens_of (list_pieces piece close (λ x. x) (map w vs)))
some_printed piece sep close L w is [] some all = absurd (omega arith)
some_printed {A = A} piece sep close L w is (v ∷ vs) some all = (
  v,
  tokens_of (w v),
  tokens_of (more_pieces piece close w vs),
  tokens_join (w v) (more_pieces piece close (λ x. x) (map w vs)) ∙ ap (λ ps. tokens_of (w v) ++ tokens_of ps) (pieces_map piece close w vs),
  All-head (λ a. L a (tokens_of (w a))) v vs all,
  (vs, refl, rest_printed piece sep close L w (λ a. L a (tokens_of (w a))) is (λ a l. l) vs (All-tail (λ a. L a (tokens_of (w a))) v vs all)),
)

-- ---- records

abbrev PrintableField : Type 0
PrintableField = (f : Field) × FieldIsPrinted f

fields_all : (d k : ℕ) (es : List PrintableField) → All IsShapeName (part_names (named_parts (map field_form (map (λ e. e.0) es))))
    → AreGood (part_nodes d (named_parts (map field_form (map (λ e. e.0) es)))) → 65 ≤ d + k
    → All (λ f. IsField (IsBase k) f (tokens_of (field_printed f))) (map (λ e. e.0) es)
fields_all d k [] names good le = All-nil (λ f. IsField (IsBase k) f (tokens_of (field_printed f)))
fields_all d k (e ∷ es) names good le =
    let rest = named_parts (map field_form (map (λ e. e.0) es)) in
    let both = good_part d e.0.name (form_of e.0.shape) rest good in
    All-cons (λ f. IsField (IsBase k) f (tokens_of (field_printed f))) e.0 (map (λ e. e.0) es)
    (e.1 d k (All-head IsShapeName e.0.name (part_names rest) names) both.0 le) (fields_all d k es (All-tail IsShapeName e.0.name (part_names rest) names) both.1 le)

curly_base : (j : ℕ) (fs : List Field) (ps : List (List Piece)) → AreSome semicolon curly_close (IsField (IsBase j)) fs (tokens_of (list_pieces (tight (Mark semicolon)) curly_close (λ f. f) ps))
    → IsBase (suc j) (shp.Fields fs) (tokens_of (record_pieces ps))
unfolding IsBase
curly_base j fs ps l = inr (inl (tt, Mark curly_open ∷ [], tokens_of (list_pieces (tight (Mark semicolon)) curly_close (λ f. f) ps), refl, mark_text curly_open, (fs, refl, l)))

record_printed : (es : List PrintableField) → IsPrinted (shp.Fields (map (λ e. e.0) es))
record_printed es =
    let fs = map (λ e. e.0) es in
    single (shp.Fields fs) (record_pieces (map field_printed fs)) (printed_Fields fs)
    (λ d k good le.
    let here : AreGood (nodes d (fields (named_parts (map field_form fs)))) = subst (λ f. AreGood (nodes d f)) (form_of-Fields fs) good in
    let node = good_node d (fields (named_parts (map field_form fs))) here in
    let low : d ≤ 64 = depth_of d (shp.Fields fs) good in
    let (j, is_k, enough) = some_bracket d k low le in
    let some : 0 < length (map field_form fs) = (fields_count d (map field_form fs) node).0 in
    base_alone k d (shp.Fields fs) (tokens_of (record_pieces (map field_printed fs))) low
    (subst (λ i. IsBase i (shp.Fields fs) (tokens_of (record_pieces (map field_printed fs)))) (sym is_k)
    (curly_base j fs (map field_printed fs)
    (some_printed (tight (Mark semicolon)) semicolon curly_close (IsField (IsBase j)) field_printed refl fs (omega (arith, some, length-map fs field_form))
    (fields_all (d + 1) j es (good_names d (fields (named_parts (map field_form fs))) node) (good_fields d (named_parts (map field_form fs)) here) enough)))))

-- ---- variants

abbrev PrintableCase : Type 0
PrintableCase = (c : Case) × CaseIsPrinted c

abbrev PrintablePoly : Type 0
PrintablePoly = (c : PolyCase) × PolyIsPrinted c

cases_all : (d k : ℕ) (es : List PrintableCase) → All IsShapeName (case_names (cases (map case_form (map (λ e. e.0) es))))
    → AreGood (case_nodes d (cases (map case_form (map (λ e. e.0) es)))) → 65 ≤ d + k
    → All (λ c. IsSumCase (IsBase k) c (tokens_of (case_printed c))) (map (λ e. e.0) es)
cases_all d k [] names good le = All-nil (λ c. IsSumCase (IsBase k) c (tokens_of (case_printed c)))
cases_all d k (e ∷ es) names good le =
    let rest = cases (map case_form (map (λ e. e.0) es)) in
    let both = good_case d e.0.name (case_form e.0).1 rest good in
    All-cons (λ c. IsSumCase (IsBase k) c (tokens_of (case_printed c))) e.0 (map (λ e. e.0) es)
    (e.1 d k (All-head IsShapeName e.0.name (case_names rest) names) both.0 le) (cases_all d k es (All-tail IsShapeName e.0.name (case_names rest) names) both.1 le)

polys_all : (d k : ℕ) (es : List PrintablePoly) → All IsShapeName (case_names (cases (map poly_form (map (λ e. e.0) es))))
    → AreGood (case_nodes d (cases (map poly_form (map (λ e. e.0) es)))) → 65 ≤ d + k
    → All (λ c. IsPolyCase (IsBase k) c (tokens_of (poly_printed c))) (map (λ e. e.0) es)
polys_all d k [] names good le = All-nil (λ c. IsPolyCase (IsBase k) c (tokens_of (poly_printed c)))
polys_all d k (e ∷ es) names good le =
    let rest = cases (map poly_form (map (λ e. e.0) es)) in
    let both = good_case d e.0.name (poly_form e.0).1 rest good in
    All-cons (λ c. IsPolyCase (IsBase k) c (tokens_of (poly_printed c))) e.0 (map (λ e. e.0) es)
    (e.1 d k (All-head IsShapeName e.0.name (case_names rest) names) both.0 le) (polys_all d k es (All-tail IsShapeName e.0.name (case_names rest) names) both.1 le)

sum_base : (j : ℕ) (cs : List Case) (ps : List (List Piece)) → AreSome bar square_close (IsSumCase (IsBase j)) cs (tokens_of (list_pieces (spaced (Mark bar)) square_close (λ c. c) ps))
    → IsBase (suc j) (shp.Sum cs) (tokens_of (variant_pieces ps))
unfolding IsBase
sum_base j cs ps l =
    inr (inr (inl (tt, Mark square_open ∷ [], tokens_of (list_pieces (spaced (Mark bar)) square_close (λ c. c) ps), refl, mark_text square_open, inr (cs, refl, l))))

poly_base : (j : ℕ) (cs : List PolyCase) (ps : List (List Piece)) → AreSome bar square_close (IsPolyCase (IsBase j)) cs (tokens_of (list_pieces (spaced (Mark bar)) square_close (λ c. c) ps))
    → IsBase (suc j) (shp.Poly cs) (tokens_of (variant_pieces ps))
unfolding IsBase
poly_base j cs ps l =
    inr (inr (inl (tt, Mark square_open ∷ [], tokens_of (list_pieces (spaced (Mark bar)) square_close (λ c. c) ps), refl, mark_text square_open, inl (cs, refl, l))))

sum_printed : (es : List PrintableCase) → IsPrinted (shp.Sum (map (λ e. e.0) es))
sum_printed es =
    let cs = map (λ e. e.0) es in
    single (shp.Sum cs) (variant_pieces (map case_printed cs)) (printed_Sum cs)
    (λ d k good le.
    let here : AreGood (nodes d (sum (cases (map case_form cs)))) = subst (λ f. AreGood (nodes d f)) (form_of-Sum cs) good in
    let node = good_node d (sum (cases (map case_form cs))) here in
    let low : d ≤ 64 = depth_of d (shp.Sum cs) good in
    let (j, is_k, enough) = some_bracket d k low le in
    let some : 0 < length (map case_form cs) = (sum_count d (map case_form cs) node).0 in
    base_alone k d (shp.Sum cs) (tokens_of (variant_pieces (map case_printed cs))) low
    (subst (λ i. IsBase i (shp.Sum cs) (tokens_of (variant_pieces (map case_printed cs)))) (sym is_k)
    (sum_base j cs (map case_printed cs)
    (some_printed (spaced (Mark bar)) bar square_close (IsSumCase (IsBase j)) case_printed refl cs (omega (arith, some, length-map cs case_form))
    (cases_all (d + 1) j es (good_names d (sum (cases (map case_form cs))) node) (good_sum d (cases (map case_form cs)) here) enough)))))

poly_variant_printed : (es : List PrintablePoly) → IsPrinted (shp.Poly (map (λ e. e.0) es))
poly_variant_printed es =
    let cs = map (λ e. e.0) es in
    single (shp.Poly cs) (variant_pieces (map poly_printed cs)) (printed_Poly cs)
    (λ d k good le.
    let here : AreGood (nodes d (poly (cases (map poly_form cs)))) = subst (λ f. AreGood (nodes d f)) (form_of-Poly cs) good in
    let node = good_node d (poly (cases (map poly_form cs))) here in
    let low : d ≤ 64 = depth_of d (shp.Poly cs) good in
    let (j, is_k, enough) = some_bracket d k low le in
    let some : 0 < length (map poly_form cs) = (poly_count d (map poly_form cs) node).0 in
    base_alone k d (shp.Poly cs) (tokens_of (variant_pieces (map poly_printed cs))) low
    (subst (λ i. IsBase i (shp.Poly cs) (tokens_of (variant_pieces (map poly_printed cs)))) (sym is_k)
    (poly_base j cs (map poly_printed cs)
    (some_printed (spaced (Mark bar)) bar square_close (IsPolyCase (IsBase j)) poly_printed refl cs (omega (arith, some, length-map cs poly_form))
    (polys_all (d + 1) j es (good_names d (poly (cases (map poly_form cs))) node) (good_poly d (cases (map poly_form cs)) here) enough)))))

-- ---- all shapes

layer_is_printed : (y : Shape-F Printable PrintableCase PrintableField PrintablePoly)
    → IsPrinted (roll-Shape (map-Shape Printable PrintableCase PrintableField PrintablePoly Shape Case Field PolyCase (λ e. e.0) (λ e. e.0) (λ e. e.0) (λ e. e.0) y))
layer_is_printed layer.Unit = leaf (roll-Shape layer.Unit) (codes "unit") (ap (λ s. Some s) (sym shp.rolls-Unit)) (layer_printed layer.Unit)
layer_is_printed layer.Bool = leaf (roll-Shape layer.Bool) (codes "bool") (ap (λ s. Some s) (sym shp.rolls-Bool)) (layer_printed layer.Bool)
layer_is_printed layer.Char = leaf (roll-Shape layer.Char) (codes "char") (ap (λ s. Some s) (sym shp.rolls-Char)) (layer_printed layer.Char)
layer_is_printed layer.Int = leaf (roll-Shape layer.Int) (codes "int") (ap (λ s. Some s) (sym shp.rolls-Int)) (layer_printed layer.Int)
layer_is_printed layer.Int32 = leaf (roll-Shape layer.Int32) (codes "int32") (ap (λ s. Some s) (sym shp.rolls-Int32)) (layer_printed layer.Int32)
layer_is_printed layer.Int64 = leaf (roll-Shape layer.Int64) (codes "int64") (ap (λ s. Some s) (sym shp.rolls-Int64)) (layer_printed layer.Int64)
layer_is_printed layer.Text = leaf (roll-Shape layer.Text) (codes "string") (ap (λ s. Some s) (sym shp.rolls-Text)) (layer_printed layer.Text)
layer_is_printed layer.Sexp = leaf (roll-Shape layer.Sexp) (codes "sexp") (ap (λ s. Some s) (sym shp.rolls-Sexp)) (layer_printed layer.Sexp)
layer_is_printed (layer.Opt e) = subst IsPrinted (sym (shp.rolls-Opt e.0)) (option_printed e)
layer_is_printed (layer.List e) = subst IsPrinted (sym (shp.rolls-List e.0)) (list_printed e)
layer_is_printed (layer.Tuple es) = subst IsPrinted (sym (shp.rolls-Tuple (map (λ e. e.0) es))) (tuple_printed es)
layer_is_printed (layer.Fields es) = subst IsPrinted (sym (shp.rolls-Fields (map (λ e. e.0) es))) (record_printed es)
layer_is_printed (layer.Sum es) = subst IsPrinted (sym (shp.rolls-Sum (map (λ e. e.0) es))) (sum_printed es)
layer_is_printed (layer.Poly es) = subst IsPrinted (sym (shp.rolls-Poly (map (λ e. e.0) es))) (poly_variant_printed es)

-- the printed tokens of a good shape are a text of it
pub printed_shape : (s : Shape) → IsGood (form_of s) → IsShapeTokens s (shape_tokens s)
unfolding IsShapeTokens shape_tokens shape_pieces
printed_shape s good =
    (by_layers IsPrinted CaseIsPrinted FieldIsPrinted PolyIsPrinted layer_is_printed case_is_printed field_is_printed poly_is_printed s
    1 64 (good_root (form_of s) good) (omega arith)).1
