-- The printed text of a shape, one layer at a time.
use Rattle.std.proofs.Common.{◌≡◌, refl, sym, ap, ◌∙◌, subst, Option, Some, None, true, false, ℕ, ◌≤◌, List, [], ◌∷◌, ◌++◌, length, map, codes, arith}
use Rattle.std.specs.List.{All}
use Rattle.std.specs.Option.{option_map}
use Rattle.std.proofs.lemmas.List.{length-map}
use Rattle.std.proofs.lemmas.List.Elements.{All-nil, All-cons}
use Rattle.bp_value.specs.declared.shape.Shape.{Shape}
use Rattle.bp_value.specs.declared.shape.Shape.TheFolds.{map-Shape}
use Rattle.bp_value.specs.declared.shape.Shape.TheViews.{roll-Shape}
use Rattle.bp_value.specs.declared.shape.Shape.TheOpen.{Shape-F}
use Rattle.bp_value.specs.declared.shape.Shape.TheOpen as layer
use Rattle.bp_value.specs.declared.shape.Shape.TheVariants as shp
use Rattle.bp_value.specs.declared.shape.Case.{Case}
use Rattle.bp_value.specs.declared.shape.Field.{Field}
use Rattle.bp_value.specs.declared.shape.PolyCase.{PolyCase}
use Rattle.bp_value.specs.Form.{tuple, form_of, parts, named_parts, cases, argument, unnamed, field_form, poly_form}
use Rattle.bp_value.specs.Faults.{nodes, part_nodes, case_nodes}
use Rattle.bp_value.proofs.Forms.{form_of-Tuple}
use Rattle.bp_value.proofs.Good.{AreGood, good_node, good_part, good_case, tuple_count}
use Rattle.bp_text_grammar.specs.Texts.{round_open, round_close, semicolon, bar, square_open, square_close, curly_open, curly_close}
use Rattle.bp_text_grammar.specs.Tokens.{Word}
use Rattle.bp_text_grammar.specs.PrintedPieces.{Piece, spaced}
use Rattle.bp_text_grammar.specs.PrintedShapes.{Printed, as_part, more_factors, factors, of_arguments, of_argument, shape_printed, shape_pieces, shape_text_of}
use Rattle.bp_text_grammar.specs.PrintedTexts.{shape_text}
use Rattle.bp_text_grammar.proofs.ShapeLayers.{case_printed, field_printed, poly_printed, case_printed_is, field_printed_is, poly_printed_is, layer_printed, printed_Opt, printed_List, printed_Tuple, printed_Fields, printed_Sum, printed_Poly, by_layers}
use Rattle.bp_text.specs.Printing.{piece_bytes, part_text, factors_text, field_text, arguments_text, case_text, argument_text, poly_text}
use Rattle.bp_text.proofs.Appending.{joined}
use Rattle.bp_text.proofs.PieceBytes.{IsTight, tight_join, bytes_join, bytes_blank, bytes_after_blank, rest, rest_cons, joined_cons, list_bytes}

-- ---- what holds of each shape

-- No blank stands before it where it is a part, nor where it is good. And only a tuple is printed as one.
record Known (s : Shape) : Type 0 where
  part : IsTight (as_part (shape_printed s))
  whole : (d : ℕ) → AreGood (nodes d (form_of s)) → IsTight (shape_printed s).1
  other : ((ss : List Shape) → s ≡ shp.Tuple ss → ⊥) → (shape_printed s).0 ≡ false

abbrev KnownShape : Type 0
KnownShape = (s : Shape) × Known s

-- one that is no tuple
known : (s : Shape) (ps : List Piece) → shape_printed s ≡ (false, ps) → IsTight ps → Known s
known s ps e tight = record {
  part = subst (λ p. IsTight (as_part p)) (sym e) tight;
  whole = λ d good. subst (λ p. IsTight p.1) (sym e) tight;
  other = λ none. ap (λ p. p.0) e;
}

-- one with a word after a part
applied : (s : Shape) (e : KnownShape) (w : List ℕ) → shape_printed s ≡ (false, as_part (shape_printed e.0) ++ spaced (Word w) ∷ []) → Known s
applied s e w is = known s _ is (tight_join (as_part (shape_printed e.0)) (spaced (Word w) ∷ []) e.1.part)

some_factors : (es : List KnownShape) → 2 ≤ length es → IsTight (factors (map shape_printed (map (λ e. e.0) es)))
some_factors [] two = absurd (omega arith)
some_factors (e ∷ es) two = tight_join (as_part (shape_printed e.0)) (more_factors (map shape_printed (map (λ e. e.0) es))) e.1.part

tuple_known : (es : List KnownShape) → Known (shp.Tuple (map (λ e. e.0) es))
tuple_known es = record {
  part = subst (λ p. IsTight (as_part p)) (sym (printed_Tuple ss)) tt;
  whole = λ d good. subst (λ p. IsTight p.1) (sym (printed_Tuple ss)) (some_factors es (two d good));
  other = λ none. absurd (none ss refl);
}
  where
    ss : List Shape
    ss = map (λ e. e.0) es

    two : (d : ℕ) → AreGood (nodes d (form_of (shp.Tuple ss))) → 2 ≤ length es
    two d good =
        let here : AreGood (nodes d (tuple (parts (map form_of ss)))) = subst (λ f. AreGood (nodes d f)) (form_of-Tuple ss) good in
        let node = good_node d (tuple (parts (map form_of ss))) here in
        let enough : 2 ≤ length (map unnamed (map form_of ss)) = (tuple_count d (map unnamed (map form_of ss)) node).0 in
        omega (arith, enough, length-map (map form_of ss) unnamed, length-map ss form_of, length-map es (λ e. e.0))

abbrev Any : {A : Type 0} → A → Type 0
Any a = Unit {0}

layer_known : (y : Shape-F KnownShape ((c : Case) × Any c) ((f : Field) × Any f) ((c : PolyCase) × Any c))
    → Known (roll-Shape (map-Shape KnownShape ((c : Case) × Any c) ((f : Field) × Any f) ((c : PolyCase) × Any c) Shape Case Field PolyCase
    (λ e. e.0) (λ e. e.0) (λ e. e.0) (λ e. e.0) y))
layer_known layer.Unit = known (roll-Shape layer.Unit) _ (layer_printed layer.Unit) tt
layer_known layer.Bool = known (roll-Shape layer.Bool) _ (layer_printed layer.Bool) tt
layer_known layer.Char = known (roll-Shape layer.Char) _ (layer_printed layer.Char) tt
layer_known layer.Int = known (roll-Shape layer.Int) _ (layer_printed layer.Int) tt
layer_known layer.Int32 = known (roll-Shape layer.Int32) _ (layer_printed layer.Int32) tt
layer_known layer.Int64 = known (roll-Shape layer.Int64) _ (layer_printed layer.Int64) tt
layer_known layer.Text = known (roll-Shape layer.Text) _ (layer_printed layer.Text) tt
layer_known layer.Sexp = known (roll-Shape layer.Sexp) _ (layer_printed layer.Sexp) tt
layer_known (layer.Opt e) = applied (roll-Shape (layer.Opt e.0)) e (codes "option") (layer_printed (layer.Opt e.0))
layer_known (layer.List e) = applied (roll-Shape (layer.List e.0)) e (codes "list") (layer_printed (layer.List e.0))
layer_known (layer.Tuple es) = subst Known (sym (shp.rolls-Tuple (map (λ e. e.0) es))) (tuple_known es)
layer_known (layer.Fields es) = known (roll-Shape (layer.Fields (map (λ e. e.0) es))) _ (layer_printed (layer.Fields (map (λ e. e.0) es))) tt
layer_known (layer.Sum es) = known (roll-Shape (layer.Sum (map (λ e. e.0) es))) _ (layer_printed (layer.Sum (map (λ e. e.0) es))) tt
layer_known (layer.Poly es) = known (roll-Shape (layer.Poly (map (λ e. e.0) es))) _ (layer_printed (layer.Poly (map (λ e. e.0) es))) tt

known_all : (s : Shape) → Known s
known_all = by_layers Known Any Any Any layer_known (λ name args. tt) (λ name e. tt) (λ name e. tt)

part_tight : (s : Shape) → IsTight (as_part (shape_printed s))
part_tight s = (known_all s).part

shape_tight : (s : Shape) (d : ℕ) → AreGood (nodes d (form_of s)) → IsTight (shape_printed s).1
shape_tight s = (known_all s).whole

pub tuple_only : (s : Shape) → ((ss : List Shape) → s ≡ shp.Tuple ss → ⊥) → (shape_printed s).0 ≡ false
tuple_only s = (known_all s).other

-- ---- a shape as a part

pub text_is : (s : Shape) → shape_text s ≡ piece_bytes (shape_printed s).1
unfolding shape_text shape_text_of shape_pieces
text_is s = refl

-- what is printed of a shape, where this is
by_printed : (s : Shape) (p : Printed) → shape_printed s ≡ p → shape_text s ≡ piece_bytes p.1
by_printed s p e = text_is s ∙ ap (λ x. piece_bytes x.1) e

pub part_tuple : (s : Shape) → (shape_printed s).0 ≡ true → part_text s ≡ (round_open ∷ []) ++ (shape_text s ++ round_close ∷ [])
part_tuple s is = go (shape_printed s) is ∙ ap (λ t. round_open ∷ (t ++ round_close ∷ [])) (sym (text_is s))
  where
    go : (p : Printed) → p.0 ≡ true → piece_bytes (as_part p) ≡ round_open ∷ (piece_bytes p.1 ++ round_close ∷ [])
    go (true, ps) e = ap (λ t. round_open ∷ t) (bytes_join ps _)
    go (false, ps) e = absurd cc

pub part_other : (s : Shape) → (shape_printed s).0 ≡ false → part_text s ≡ shape_text s
part_other s is = go (shape_printed s) is ∙ sym (text_is s)
  where
    go : (p : Printed) → p.0 ≡ false → piece_bytes (as_part p) ≡ piece_bytes p.1
    go (true, ps) e = absurd cc
    go (false, ps) e = refl

-- ---- words, options and lists

pub text_Unit : shape_text shp.Unit ≡ codes "unit"
text_Unit = by_printed shp.Unit _ (ap shape_printed (sym shp.rolls-Unit) ∙ layer_printed layer.Unit)

pub text_Bool : shape_text shp.Bool ≡ codes "bool"
text_Bool = by_printed shp.Bool _ (ap shape_printed (sym shp.rolls-Bool) ∙ layer_printed layer.Bool)

pub text_Char : shape_text shp.Char ≡ codes "char"
text_Char = by_printed shp.Char _ (ap shape_printed (sym shp.rolls-Char) ∙ layer_printed layer.Char)

pub text_Int : shape_text shp.Int ≡ codes "int"
text_Int = by_printed shp.Int _ (ap shape_printed (sym shp.rolls-Int) ∙ layer_printed layer.Int)

pub text_Int32 : shape_text shp.Int32 ≡ codes "int32"
text_Int32 = by_printed shp.Int32 _ (ap shape_printed (sym shp.rolls-Int32) ∙ layer_printed layer.Int32)

pub text_Int64 : shape_text shp.Int64 ≡ codes "int64"
text_Int64 = by_printed shp.Int64 _ (ap shape_printed (sym shp.rolls-Int64) ∙ layer_printed layer.Int64)

pub text_Text : shape_text shp.Text ≡ codes "string"
text_Text = by_printed shp.Text _ (ap shape_printed (sym shp.rolls-Text) ∙ layer_printed layer.Text)

pub text_Sexp : shape_text shp.Sexp ≡ codes "sexp"
text_Sexp = by_printed shp.Sexp _ (ap shape_printed (sym shp.rolls-Sexp) ∙ layer_printed layer.Sexp)

pub text_Opt : (s : Shape) → shape_text (shp.Opt s) ≡ part_text s ++ codes " option"
text_Opt s = by_printed (shp.Opt s) _ (printed_Opt s) ∙ bytes_join (as_part (shape_printed s)) _

pub text_List : (s : Shape) → shape_text (shp.List s) ≡ part_text s ++ codes " list"
text_List s = by_printed (shp.List s) _ (printed_List s) ∙ bytes_join (as_part (shape_printed s)) _

pub text_Tuple : (ss : List Shape) → shape_text (shp.Tuple ss) ≡ factors_text ss
text_Tuple ss = by_printed (shp.Tuple ss) _ (printed_Tuple ss)

-- ---- factors

more_factors_bytes : (ss : List Shape) → piece_bytes (more_factors (map shape_printed ss)) ≡ rest (codes " * ") (map part_text ss) ++ []
more_factors_bytes [] = refl
more_factors_bytes (s ∷ ss) =
    ap (λ t. 32 ∷ 42 ∷ t) (bytes_after_blank (as_part (shape_printed s)) (more_factors (map shape_printed ss)) (part_tight s)
    ∙ ap (λ t. 32 ∷ (part_text s ++ t)) (more_factors_bytes ss))
    ∙ rest_cons (codes " * ") (part_text s) (map part_text ss) []

pub factors_bytes : (ss : List Shape) → factors_text ss ≡ joined (codes " * ") (map part_text ss) ++ []
factors_bytes [] = refl
factors_bytes (s ∷ ss) =
    bytes_join (as_part (shape_printed s)) (more_factors (map shape_printed ss))
    ∙ (ap (λ t. part_text s ++ t) (more_factors_bytes ss) ∙ joined_cons (codes " * ") (part_text s) (map part_text ss) [])

-- ---- members

all_tight : {A : Type 0} (w : A → List Piece) → ((a : A) → IsTight (w a)) → (xs : List A) → All IsTight (map w xs)
all_tight w each [] = All-nil IsTight
all_tight w each (x ∷ xs) = All-cons IsTight (w x) (map w xs) (each x) (all_tight w each xs)

-- fields
field_bytes : (d : ℕ) (f : Field) → AreGood (nodes d (form_of f.shape)) → piece_bytes (field_printed f) ≡ field_text f
field_bytes d f good =
    ap piece_bytes (field_printed_is f)
    ∙ (ap (λ s. f.name ++ 58 ∷ s) (bytes_blank (shape_printed f.shape).1 (shape_tight f.shape d good))
    ∙ ap (λ s. f.name ++ 58 ∷ 32 ∷ s) (sym (text_is f.shape)))

fields_bytes : (d : ℕ) (fs : List Field) → AreGood (part_nodes d (named_parts (map field_form fs))) → map piece_bytes (map field_printed fs) ≡ map field_text fs
fields_bytes d [] good = refl
fields_bytes d (f ∷ fs) good =
    let both = good_part d f.name (form_of f.shape) (named_parts (map field_form fs)) good in
    ap (λ t. t ∷ map piece_bytes (map field_printed fs)) (field_bytes d f both.0) ∙ ap (λ ts. field_text f ∷ ts) (fields_bytes d fs both.1)

pub text_Fields : (d : ℕ) (fs : List Field) → AreGood (part_nodes d (named_parts (map field_form fs)))
    → shape_text (shp.Fields fs) ≡ (curly_open ∷ []) ++ (joined (codes "; ") (map field_text fs) ++ curly_close ∷ [])
text_Fields d fs good =
    by_printed (shp.Fields fs) _ (printed_Fields fs)
    ∙ (ap (λ s. curly_open ∷ s) (list_bytes false semicolon curly_close (λ x. x) (map field_printed fs) (all_tight field_printed each fs))
    ∙ ap (λ ts. curly_open ∷ (joined (codes "; ") ts ++ curly_close ∷ [])) (fields_bytes d fs good))
  where
    each : (f : Field) → IsTight (field_printed f)
    each f = subst IsTight (sym (field_printed_is f)) tt

-- cases of variants
arguments_bytes : (ss : List Shape) → piece_bytes (of_arguments (map shape_printed ss)) ≡ arguments_text ss
arguments_bytes [] = refl
arguments_bytes (s ∷ ss) =
    ap (λ t. codes " of" ++ t)
    (bytes_blank (factors (map shape_printed (s ∷ ss))) (tight_join (as_part (shape_printed s)) (more_factors (map shape_printed ss)) (part_tight s)))

case_bytes : (c : Case) → piece_bytes (case_printed c) ≡ case_text c
case_bytes c = ap piece_bytes (case_printed_is c) ∙ ap (λ s. c.name ++ s) (arguments_bytes c.args)

cases_bytes : (cs : List Case) → map piece_bytes (map case_printed cs) ≡ map case_text cs
cases_bytes [] = refl
cases_bytes (c ∷ cs) = ap (λ t. t ∷ map piece_bytes (map case_printed cs)) (case_bytes c) ∙ ap (λ ts. case_text c ∷ ts) (cases_bytes cs)

pub text_Sum : (cs : List Case) → shape_text (shp.Sum cs) ≡ (square_open ∷ []) ++ (joined (codes " | ") (map case_text cs) ++ square_close ∷ [])
text_Sum cs =
    by_printed (shp.Sum cs) _ (printed_Sum cs)
    ∙ (ap (λ s. square_open ∷ s) (list_bytes true bar square_close (λ x. x) (map case_printed cs) (all_tight case_printed each cs))
    ∙ ap (λ ts. square_open ∷ (joined (codes " | ") ts ++ square_close ∷ [])) (cases_bytes cs))
  where
    each : (c : Case) → IsTight (case_printed c)
    each c = subst IsTight (sym (case_printed_is c)) tt

-- cases of polymorphic variants
argument_bytes : (d : ℕ) (a : Option Shape) → AreGood (part_nodes d (argument (option_map form_of a)))
    → piece_bytes (of_argument (option_map shape_printed a)) ≡ argument_text a
argument_bytes d None good = refl
argument_bytes d (Some s) good =
    ap (λ t. codes " of" ++ t) (bytes_blank (shape_printed s).1 (shape_tight s d (good_part d [] (form_of s) (argument None) good).0))
    ∙ ap (λ t. codes " of " ++ t) (sym (text_is s))

poly_bytes : (d : ℕ) (c : PolyCase) → AreGood (part_nodes d (argument (option_map form_of c.arg))) → piece_bytes (poly_printed c) ≡ poly_text c
poly_bytes d c good = ap piece_bytes (poly_printed_is c) ∙ ap (λ s. 96 ∷ (c.name ++ s)) (argument_bytes d c.arg good)

polys_bytes : (d : ℕ) (cs : List PolyCase) → AreGood (case_nodes d (cases (map poly_form cs))) → map piece_bytes (map poly_printed cs) ≡ map poly_text cs
polys_bytes d [] good = refl
polys_bytes d (c ∷ cs) good =
    let both = good_case d c.name (poly_form c).1 (cases (map poly_form cs)) good in
    ap (λ t. t ∷ map piece_bytes (map poly_printed cs)) (poly_bytes d c both.0) ∙ ap (λ ts. poly_text c ∷ ts) (polys_bytes d cs both.1)

pub text_Poly : (d : ℕ) (cs : List PolyCase) → AreGood (case_nodes d (cases (map poly_form cs)))
    → shape_text (shp.Poly cs) ≡ (square_open ∷ []) ++ (joined (codes " | ") (map poly_text cs) ++ square_close ∷ [])
text_Poly d cs good =
    by_printed (shp.Poly cs) _ (printed_Poly cs)
    ∙ (ap (λ s. square_open ∷ s) (list_bytes true bar square_close (λ x. x) (map poly_printed cs) (all_tight poly_printed each cs))
    ∙ ap (λ ts. square_open ∷ (joined (codes " | ") ts ++ square_close ∷ [])) (polys_bytes d cs good))
  where
    each : (c : PolyCase) → IsTight (poly_printed c)
    each c = subst IsTight (sym (poly_printed_is c)) tt
