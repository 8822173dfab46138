-- The printed text of a value whose layer is known, part by part.
use Rattle.std.proofs.Common.{◌≡◌, refl, sym, ap, ◌∙◌, subst, true, false, inl, inr, ℕ, zero, suc, ◌≤◌, List, [], ◌∷◌, ◌++◌, length, map, slice_get, ◌==◌, Option, Some, None, codes, append-nil, arith}
use Rattle.std.specs.List.{All}
use Rattle.std.proofs.lemmas.List.Elements.{All-nil, All-cons, All-head, All-tail}
use Rattle.bp_value.specs.declared.value.Value.{Value, out-Value}
use Rattle.bp_value.specs.declared.value.Value.TheVariants as val
use Rattle.bp_value.specs.declared.value.Sexp.{Sexp}
use Rattle.bp_value.specs.declared.value.Sexp.TheFolds.{ind-Sexp, map-Sexp}
use Rattle.bp_value.specs.declared.value.Sexp.TheViews.{roll-Sexp}
use Rattle.bp_value.specs.declared.value.Sexp.TheVariants as sx
use Rattle.bp_value.specs.declared.value.Sexp.TheOpen as sexp_layer
use Rattle.bp_value.specs.Form.{Form, Parts, unit, bool, char, int, int32, int64, text, opt, listed, tuple, fields, sum, poly, sexp, end, part, named_parts, cases, argument, form_of}
use Rattle.bp_value.specs.declared.shape.Shape.{Shape}
use Rattle.std.specs.Option.{option_map}
use Rattle.bp_value.specs.Fits.{Fits, FitParts}
use Rattle.bp_value.proofs.Layers.{out_absent, out_bool, out_char, out_num, out_text, out_sexp, out_present, out_items, out_parts, out_case}
use Rattle.bp_text_grammar.specs.Texts.{round_open, round_close, semicolon, square_open, square_close, curly_open, curly_close, backtick}
use Rattle.bp_text_grammar.specs.Printed.{quoted_text, quoted_char}
use Rattle.bp_text_grammar.specs.PrintedPieces.{Piece}
use Rattle.bp_text_grammar.specs.PrintedValues.{more_items, all_items, sexp_pieces, bool_pieces, number_pieces, name_at, labelled, value_pieces, part_pieces, more_part_pieces, field_pieces, more_field_pieces, argument_pieces_at, argument_pieces, value_text_of}
use Rattle.bp_text_grammar.specs.PrintedTexts.{value_text}
use Rattle.bp_text_grammar.proofs.PrintedValues.{sexp_pieces-Atom, sexp_pieces-List}
use Rattle.bp_text.specs.Printing.{piece_bytes}
use Rattle.bp_text.proofs.Appending.{joined, some_is}
use Rattle.bp_text.proofs.PieceBytes.{IsTight, bytes_join, bytes_blank, bytes_after_blank, rest, rest_cons, joined_cons, list_bytes}

-- ---- S-expressions

abbrev pub sexp_text : Sexp → List ℕ
sexp_text s = piece_bytes (sexp_pieces s)

sexp_tight : (s : Sexp) → IsTight (sexp_pieces s)
sexp_tight s = ind-Sexp Tight (λ x y is. subst (λ z. Tight (roll-Sexp z)) is (of y)) s
  where
    Tight : Sexp → Type 0
    Tight x = IsTight (sexp_pieces x)

    of : (y : sexp_layer.Sexp-F ((x : Sexp) × Tight x)) → Tight (roll-Sexp (map-Sexp ((x : Sexp) × Tight x) Sexp (λ e. e.0) y))
    of (sexp_layer.Atom t) = subst IsTight (sym (ap sexp_pieces (sx.rolls-Atom t) ∙ sexp_pieces-Atom t)) tt
    of (sexp_layer.List es) = subst IsTight (sym (ap sexp_pieces (sx.rolls-List (map (λ e. e.0) es)) ∙ sexp_pieces-List (map (λ e. e.0) es))) tt

abbrev pub blank_text : List ℕ
blank_text = 32 ∷ []

more_items_bytes : (ss : List Sexp) → piece_bytes (more_items (map sexp_pieces ss)) ≡ rest blank_text (map sexp_text ss) ++ round_close ∷ []
more_items_bytes [] = refl
more_items_bytes (s ∷ ss) =
    bytes_after_blank (sexp_pieces s) (more_items (map sexp_pieces ss)) (sexp_tight s)
    ∙ (ap (λ t. 32 ∷ (sexp_text s ++ t)) (more_items_bytes ss) ∙ rest_cons blank_text (sexp_text s) (map sexp_text ss) (round_close ∷ []))

pub all_items_bytes : (ss : List Sexp) → piece_bytes (all_items (map sexp_pieces ss)) ≡ joined blank_text (map sexp_text ss) ++ round_close ∷ []
all_items_bytes [] = refl
all_items_bytes (s ∷ ss) =
    bytes_join (sexp_pieces s) (more_items (map sexp_pieces ss))
    ∙ (ap (λ t. sexp_text s ++ t) (more_items_bytes ss) ∙ joined_cons blank_text (sexp_text s) (map sexp_text ss) (round_close ∷ []))

pub sexp_text-Atom : (t : List ℕ) → sexp_text (sx.Atom t) ≡ quoted_text t
sexp_text-Atom t = ap piece_bytes (sexp_pieces-Atom t) ∙ append-nil (quoted_text t)

pub sexp_text-List : (ss : List Sexp) → sexp_text (sx.List ss) ≡ round_open ∷ piece_bytes (all_items (map sexp_pieces ss))
sexp_text-List ss = ap piece_bytes (sexp_pieces-List ss)

-- ---- no blank stands before a value

pub value_tight : (m : ℕ) (f : Form) (v : Value) → Fits m f v → IsTight (value_pieces f v)
unfolding Fits value_pieces
value_tight m unit v fits = tt
value_tight m bool v (b, is, x) = rw (is, out_bool b) tt
value_tight m char v (b, is, x) = rw (is, out_char b) tt
value_tight m int v (n, is, x) = rw (is, out_num n) tt
value_tight m int32 v (n, is, x) = rw (is, out_num n) tt
value_tight m int64 v (n, is, x) = rw (is, out_num n) tt
value_tight m text v (t, is, le) = rw (is, out_text t) tt
value_tight m (opt f) v (inl is) = rw (is, out_absent) tt
value_tight m (opt f) v (inr (x, is, fits)) = rw (is, out_present x) tt
value_tight m (listed f) v (vs, is, fits) = rw (is, out_items vs) tt
value_tight m (tuple fs) v fits = tt
value_tight m (fields fs) v fits = tt
value_tight m (sum cs) v (place, (vs, is, fits)) = rw (is, out_case place vs) tt
value_tight m (poly cs) v fits = tt
value_tight m sexp v (s, is, fits) = rw (is, out_sexp s) (sexp_tight s)

items_tight : (m : ℕ) (f : Form) (vs : List Value) → All (Fits m f) vs → All (λ v. IsTight (value_pieces f v)) vs
items_tight m f [] all = All-nil (λ v. IsTight (value_pieces f v))
items_tight m f (v ∷ vs) all =
    All-cons (λ v. IsTight (value_pieces f v)) v vs (value_tight m f v (All-head (Fits m f) v vs all)) (items_tight m f vs (All-tail (Fits m f) v vs all))

-- ---- by the layer

module _ (v : Value) where
  pub text_unit : value_text unit v ≡ codes "()"
  unfolding value_text value_text_of value_pieces
  text_unit = refl

  pub text_bool : value_text bool v ≡ piece_bytes (bool_pieces (out-Value v))
  unfolding value_text value_text_of value_pieces
  text_bool = refl

  pub text_char : (b : ℕ) → v ≡ val.Char b → value_text char v ≡ quoted_char b
  unfolding value_text value_text_of value_pieces
  text_char b is = rw (is, out_char b) (append-nil (quoted_char b))

  pub text_int : value_text int v ≡ piece_bytes (number_pieces (out-Value v))
  unfolding value_text value_text_of value_pieces
  text_int = refl

  pub text_int32 : value_text int32 v ≡ piece_bytes (number_pieces (out-Value v))
  unfolding value_text value_text_of value_pieces
  text_int32 = refl

  pub text_int64 : value_text int64 v ≡ piece_bytes (number_pieces (out-Value v))
  unfolding value_text value_text_of value_pieces
  text_int64 = refl

  pub text_text : (t : List ℕ) → v ≡ val.Text t → value_text text v ≡ quoted_text t
  unfolding value_text value_text_of value_pieces
  text_text t is = rw (is, out_text t) (append-nil (quoted_text t))

  pub text_sexp : (s : Sexp) → v ≡ val.Sexp s → value_text sexp v ≡ sexp_text s
  unfolding value_text value_text_of value_pieces
  text_sexp s is = rw (is, out_sexp s) refl

  pub text_absent : (f : Form) → v ≡ val.Absent → value_text (opt f) v ≡ codes "none"
  unfolding value_text value_text_of value_pieces
  text_absent f is = rw (is, out_absent) refl

  pub text_present : (m : ℕ) (f : Form) (x : Value) → v ≡ val.Present x → Fits m f x → value_text (opt f) v ≡ codes "some " ++ value_text f x
  unfolding value_text value_text_of value_pieces
  text_present m f x is fits = rw (is, out_present x) (ap (λ s. codes "some" ++ s) (bytes_blank (value_pieces f x) (value_tight m f x fits)))

  pub text_listed : (m : ℕ) (f : Form) (vs : List Value) → v ≡ val.Items vs → All (Fits m f) vs
      → value_text (listed f) v ≡ (square_open ∷ []) ++ (joined (codes "; ") (map (value_text f) vs) ++ square_close ∷ [])
  unfolding value_text value_text_of value_pieces
  text_listed m f vs is all =
      rw (is, out_items vs) (ap (λ s. square_open ∷ s) (list_bytes false semicolon square_close (value_pieces f) vs (items_tight m f vs all)))

  pub text_tuple : (fs : Parts) (vs : List Value) → v ≡ val.Parts vs → value_text (tuple fs) v ≡ round_open ∷ piece_bytes (part_pieces fs vs)
  unfolding value_text value_text_of value_pieces
  text_tuple fs vs is = rw (is, out_parts vs) refl

  pub text_fields : (fs : Parts) (vs : List Value) → v ≡ val.Parts vs → value_text (fields fs) v ≡ curly_open ∷ piece_bytes (field_pieces fs vs)
  unfolding value_text value_text_of value_pieces
  text_fields fs vs is = rw (is, out_parts vs) refl

-- ---- parts

-- the texts of parts, each made of the part's name and its value's text
abbrev pub texts_by : (List ℕ → List ℕ → List ℕ) → Parts → List Value → List (List ℕ)
texts_by made end vs = []
texts_by made (part name f fs) [] = []
texts_by made (part name f fs) (v ∷ vs) = made name (value_text f v) ∷ texts_by made fs vs

abbrev pub alone : List ℕ → List ℕ → List ℕ
alone name t = t

abbrev pub named : List ℕ → List ℕ → List ℕ
named name t = name ++ (codes " = " ++ t)

more_part_bytes : (m : ℕ) (fs : Parts) (vs : List Value) → FitParts m fs vs
    → piece_bytes (more_part_pieces fs vs) ≡ rest (codes ", ") (texts_by alone fs vs) ++ round_close ∷ []
unfolding FitParts more_part_pieces value_text value_text_of
more_part_bytes m end vs fits = refl
more_part_bytes m (part name f fs) [] fits = absurd fits
more_part_bytes m (part name f fs) (v ∷ vs) fits =
    ap (λ s. 44 ∷ s) (bytes_after_blank (value_pieces f v) (more_part_pieces fs vs) (value_tight m f v fits.0)
    ∙ ap (λ s. 32 ∷ (value_text f v ++ s)) (more_part_bytes m fs vs fits.1))
    ∙ rest_cons (codes ", ") (value_text f v) (texts_by alone fs vs) (round_close ∷ [])

pub part_bytes : (m : ℕ) (fs : Parts) (vs : List Value) → FitParts m fs vs
    → piece_bytes (part_pieces fs vs) ≡ joined (codes ", ") (texts_by alone fs vs) ++ round_close ∷ []
unfolding FitParts part_pieces value_text value_text_of
part_bytes m end vs fits = refl
part_bytes m (part name f fs) [] fits = absurd fits
part_bytes m (part name f fs) (v ∷ vs) fits =
    bytes_join (value_pieces f v) (more_part_pieces fs vs)
    ∙ (ap (λ s. value_text f v ++ s) (more_part_bytes m fs vs fits.1) ∙ joined_cons (codes ", ") (value_text f v) (texts_by alone fs vs) (round_close ∷ []))

labelled_bytes : (name : List ℕ) (ps : List Piece) → IsTight ps → piece_bytes (labelled name ps) ≡ named name (piece_bytes ps)
labelled_bytes name ps is = ap (λ s. name ++ 32 ∷ 61 ∷ s) (bytes_blank ps is)

more_field_bytes : (m : ℕ) (fs : Parts) (vs : List Value) → FitParts m fs vs
    → piece_bytes (more_field_pieces fs vs) ≡ rest (codes "; ") (texts_by named fs vs) ++ curly_close ∷ []
unfolding FitParts more_field_pieces value_text value_text_of
more_field_bytes m end vs fits = refl
more_field_bytes m (part name f fs) [] fits = absurd fits
more_field_bytes m (part name f fs) (v ∷ vs) fits =
    ap (λ s. 59 ∷ s) (bytes_after_blank (labelled name (value_pieces f v)) (more_field_pieces fs vs) tt
    ∙ (ap (λ s. 32 ∷ (s ++ piece_bytes (more_field_pieces fs vs))) (labelled_bytes name (value_pieces f v) (value_tight m f v fits.0))
    ∙ ap (λ s. 32 ∷ (named name (value_text f v) ++ s)) (more_field_bytes m fs vs fits.1)))
    ∙ rest_cons (codes "; ") (named name (value_text f v)) (texts_by named fs vs) (curly_close ∷ [])

pub field_bytes : (m : ℕ) (fs : Parts) (vs : List Value) → FitParts m fs vs
    → piece_bytes (field_pieces fs vs) ≡ joined (codes "; ") (texts_by named fs vs) ++ curly_close ∷ []
unfolding FitParts field_pieces value_text value_text_of
field_bytes m end vs fits = refl
field_bytes m (part name f fs) [] fits = absurd fits
field_bytes m (part name f fs) (v ∷ vs) fits =
    bytes_join (labelled name (value_pieces f v)) (more_field_pieces fs vs)
    ∙ (ap (λ s. s ++ piece_bytes (more_field_pieces fs vs)) (labelled_bytes name (value_pieces f v) (value_tight m f v fits.0))
    ∙ (ap (λ s. named name (value_text f v) ++ s) (more_field_bytes m fs vs fits.1)
    ∙ joined_cons (codes "; ") (named name (value_text f v)) (texts_by named fs vs) (curly_close ∷ [])))

-- ---- the text at a place

pub text_at : (made : List ℕ → List ℕ → List ℕ) (ps : List (List ℕ × Form)) (vs : List Value) (i : ℕ) (p : List ℕ × Form) (v : Value) → slice_get ps i ≡ Some p
    → slice_get vs i ≡ Some v → slice_get (texts_by made (named_parts ps) vs) i ≡ Some (made p.0 (value_text p.1 v))
text_at made [] vs i p v e h = absurd cc
text_at made (q ∷ ps) [] i p v e h = absurd cc
text_at made (q ∷ ps) (w ∷ vs) zero p v e h = let a = some_is q p e in let b = some_is w v h in rw (a, b) refl
text_at made (q ∷ ps) (w ∷ vs) (suc i) p v e h = text_at made ps vs i p v e h

pub texts_few : (made : List ℕ → List ℕ → List ℕ) (ps : List (List ℕ × Form)) (vs : List Value) → length (texts_by made (named_parts ps) vs) ≤ length ps
texts_few made [] vs = omega arith
texts_few made (p ∷ ps) [] = omega arith
texts_few made (p ∷ ps) (v ∷ vs) = omega (arith, texts_few made ps vs)

-- ---- cases

name_is : (cs : List (List ℕ × Parts)) (place : ℕ) (c : List ℕ × Parts) → slice_get cs place ≡ Some c → name_at (cases cs) place ≡ c.0
name_is [] place c e = absurd cc
name_is (d ∷ cs) zero c e = ap (λ x. x.0) (some_is d c e)
name_is (d ∷ cs) (suc place) c e = name_is cs place c e

arguments_are : (cs : List (List ℕ × Parts)) (place : ℕ) (c : List ℕ × Parts) (vs : List Value) → slice_get cs place ≡ Some c
    → argument_pieces_at (cases cs) place vs ≡ argument_pieces c.1 vs
unfolding argument_pieces_at
arguments_are [] place c vs e = absurd cc
arguments_are (d ∷ cs) zero c vs e = ap (λ x. argument_pieces x.1 vs) (some_is d c e)
arguments_are (d ∷ cs) (suc place) c vs e = arguments_are cs place c vs e

module _ (cs : List (List ℕ × Parts)) (v : Value) (place : ℕ) (vs : List Value) (is : v ≡ val.Case place vs) (c : List ℕ × Parts)
    (at : slice_get cs place ≡ Some c) where
  pub text_sum : value_text (sum (cases cs)) v ≡ c.0 ++ piece_bytes (argument_pieces c.1 vs)
  unfolding value_text value_text_of value_pieces
  text_sum = rw (is, out_case place vs, name_is cs place c at, arguments_are cs place c vs at) refl

  pub text_poly : value_text (poly (cases cs)) v ≡ (backtick ∷ []) ++ (c.0 ++ piece_bytes (argument_pieces c.1 vs))
  unfolding value_text value_text_of value_pieces
  text_poly = rw (is, out_case place vs, name_is cs place c at, arguments_are cs place c vs at) refl

pub no_arguments : (m : ℕ) (fs : Parts) (vs : List Value) → FitParts m fs vs → (length vs == 0) ≡ true → piece_bytes (argument_pieces fs vs) ≡ []
unfolding FitParts argument_pieces
no_arguments m end vs fits none = refl
no_arguments m (part name f fs) [] fits none = absurd fits
no_arguments m (part name f fs) (v ∷ vs) fits none = absurd (let zero_is : suc (length vs) ≡ 0 = grind (arith, none) in omega arith)

pub some_arguments : (m : ℕ) (fs : Parts) (vs : List Value) → FitParts m fs vs → (length vs == 0) ≡ false
    → piece_bytes (argument_pieces fs vs) ≡ round_open ∷ piece_bytes (part_pieces fs vs)
unfolding FitParts argument_pieces part_pieces
some_arguments m end [] fits some = absurd cc
some_arguments m end (v ∷ vs) fits some = absurd fits
some_arguments m (part name f fs) [] fits some = absurd cc
some_arguments m (part name f fs) (v ∷ vs) fits some = refl

pub argument_none : (a : Option Shape) (vs : List Value) → a ≡ None → piece_bytes (argument_pieces (argument (option_map form_of a)) vs) ≡ []
unfolding argument_pieces
argument_none a vs is = rw is refl

pub argument_some : (a : Option Shape) (s : Shape) (vs : List Value) (v : Value) → a ≡ Some s → slice_get vs 0 ≡ Some v
    → piece_bytes (argument_pieces (argument (option_map form_of a)) vs) ≡ round_open ∷ (value_text (form_of s) v ++ round_close ∷ [])
unfolding argument_pieces more_part_pieces value_text value_text_of
argument_some a s [] v is at = absurd cc
argument_some a s (u ∷ us) v is at = rw (is, some_is u v at) (ap (λ t. round_open ∷ t) (bytes_join (value_pieces (form_of s) v) (more_part_pieces end us)))
