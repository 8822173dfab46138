-- A value of a form has what the form looks for, and what is in it is of the forms within.
use Rattle.std.proofs.Common.{◌≡◌, refl, sym, ap, ◌∙◌, subst, inl, inr, ◌⊎◌, ℕ, zero, suc, ◌<◌, ◌≤◌, List, [], ◌∷◌, length, get_or, slice_get, map, Option, Some, arith}
use Rattle.std.specs.List.{All}
use Rattle.std.specs.Option.{option_map}
use Rattle.std.proofs.lemmas.List.{length-map}
use Rattle.std.proofs.lemmas.Option.{slice_get-map}
use Rattle.std.proofs.lemmas.List.Elements.{All-get_or}
use Rattle.bp_value.specs.declared.value.Value.{Value}
use Rattle.bp_value.specs.declared.value.Value.TheVariants as val
use Rattle.bp_value.specs.declared.shape.Shape.{Shape}
use Rattle.bp_value.specs.Form.{form_of, argument, Form, Parts, bool, char, int, int32, int64, text, opt, listed, tuple, fields, sum, poly, sexp, named_parts, cases}
use Rattle.bp_value.specs.Fits.{IsMade, Anything, Fits, FitParts, FitCase}
use Rattle.bp_value.proofs.Layers.{present_is, present_there, items_is, parts_is, case_place, case_is}
use Rattle.bp_value.proofs.FitSteps.{parts_length}
use Rattle.bp_text.specs.Printing.{IsOf, AreOf}
use Rattle.bp_text.proofs.Appending.{read_at, some_is}

-- ---- leaves

made_any : {A : Type 0} (made : A → Value) (P : A → Type 0) (v : Value) → IsMade made P v → IsMade made Anything v
made_any made P v m = (m.0, m.1, tt)

-- what is made of something that has a property, where it is made of this
made_of : {A : Type 0} (made : A → Value) (alike : (x y : A) → made x ≡ made y → x ≡ y) (P : A → Type 0) (v : Value) (a : A) → v ≡ made a
    → IsMade made P v → P a
made_of made alike P v a is m = subst P (alike m.0 a (sym m.1 ∙ is)) m.2

module _ (v : Value) where
  pub is_bool : IsOf bool v → IsMade val.Bool Anything v
  unfolding Fits
  is_bool w = w.1

  pub is_char : IsOf char v → IsMade val.Char Anything v
  unfolding Fits
  is_char w = w.1

  pub is_int : IsOf int v → IsMade val.Num Anything v
  unfolding Fits
  is_int w = made_any val.Num _ v w.1

  pub is_int32 : IsOf int32 v → IsMade val.Num Anything v
  unfolding Fits
  is_int32 w = made_any val.Num _ v w.1

  pub is_int64 : IsOf int64 v → IsMade val.Num Anything v
  unfolding Fits
  is_int64 w = made_any val.Num _ v w.1

  pub is_text : IsOf text v → IsMade val.Text Anything v
  unfolding Fits
  is_text w = made_any val.Text _ v w.1

  pub is_sexp : IsOf sexp v → IsMade val.Sexp Anything v
  unfolding Fits
  is_sexp w = made_any val.Sexp _ v w.1

-- ---- options and lists

module _ (f : Form) (v : Value) where
  pub is_option : IsOf (opt f) v → (v ≡ val.Absent) ⊎ IsMade val.Present Anything v
  unfolding Fits
  is_option w = elim w.1 [ inl e ↦ inl e | inr m ↦ inr (made_any val.Present _ v m) ]

  pub present_of : (x : Value) → v ≡ val.Present x → IsOf (opt f) v → IsOf f x
  unfolding Fits
  present_of x is w = (w.0, inner)
    where
      inner : Fits w.0 f x
      inner = elim w.1 [
        | inl e ↦ absurd (present_there x (sym is ∙ e))
        | inr m ↦ made_of val.Present present_is (Fits w.0 f) v x is m
      ]

  pub is_list : IsOf (listed f) v → IsMade val.Items Anything v
  unfolding Fits
  is_list w = made_any val.Items _ v w.1

  pub items_of : (vs : List Value) → v ≡ val.Items vs → IsOf (listed f) v → (m : ℕ) × All (Fits m f) vs
  unfolding Fits
  items_of vs is w = (w.0, (made_of val.Items items_is (λ us. (length us ≤ w.0) × All (Fits w.0 f) us) v vs is w.1).1)

pub item_of : (f : Form) (vs : List Value) (i : ℕ) (v : Value) → i < length vs → v ≡ get_or vs i v → (m : ℕ) × All (Fits m f) vs → IsOf f v
item_of f vs i v lt is w = (w.0, subst (Fits w.0 f) (sym is) (All-get_or (Fits w.0 f) vs i v lt w.1))

-- ---- parts

module _ (fs : Parts) (v : Value) where
  pub is_tuple : IsOf (tuple fs) v → IsMade val.Parts Anything v
  unfolding Fits
  is_tuple w = made_any val.Parts _ v w.1

  pub is_record : IsOf (fields fs) v → IsMade val.Parts Anything v
  unfolding Fits
  is_record w = made_any val.Parts _ v w.1

  module _ (vs : List Value) (is : v ≡ val.Parts vs) where
    pub tuple_parts : IsOf (tuple fs) v → AreOf fs vs
    unfolding Fits
    tuple_parts w = (w.0, made_of val.Parts parts_is (FitParts w.0 fs) v vs is w.1)

    pub record_parts : IsOf (fields fs) v → AreOf fs vs
    unfolding Fits
    record_parts w = (w.0, made_of val.Parts parts_is (FitParts w.0 fs) v vs is w.1)

part_fits : (m : ℕ) (ps : List (List ℕ × Form)) (vs : List Value) (i : ℕ) (p : List ℕ × Form) (v : Value) → slice_get ps i ≡ Some p → slice_get vs i ≡ Some v
    → FitParts m (named_parts ps) vs → Fits m p.1 v
unfolding FitParts
part_fits m [] vs i p v e f fits = absurd cc
part_fits m (q ∷ ps) [] i p v e f fits = absurd fits
part_fits m (q ∷ ps) (w ∷ vs) zero p v e f fits = let a = some_is q p e in let b = some_is w v f in rw (← a, ← b) fits.0
part_fits m (q ∷ ps) (w ∷ vs) (suc i) p v e f fits = part_fits m ps vs i p v e f fits.1

module _ {X : Type 0} (g : X → List ℕ × Form) (xs : List X) (vs : List Value) (w : AreOf (named_parts (map g xs)) vs) where
  -- there are as many values as parts
  pub as_many : length xs ≡ length vs
  as_many = sym (length-map xs g) ∙ parts_length w.0 (map g xs) vs w.1

  pub value_at : (i : ℕ) (v : Value) → i < length xs → v ≡ get_or vs i v → slice_get vs i ≡ Some v
  value_at i v lt is = read_at vs i v (omega (arith, as_many)) is

  pub part_of : (i : ℕ) (x : X) (v : Value) → slice_get xs i ≡ Some x → slice_get vs i ≡ Some v → IsOf (g x).1 v
  part_of i x v at_x at_v =
      let at : slice_get (map g xs) i ≡ Some (g x) = slice_get-map g xs i ∙ ap (option_map g) at_x in
      (w.0, part_fits w.0 (map g xs) vs i (g x) v at at_v w.1)

-- ---- cases

-- the case at the place
pub record HasCase (cs : List (List ℕ × Parts)) (place : ℕ) (vs : List Value) : Type 0 where
  pub within : place < length cs
  pub are : (c : List ℕ × Parts) → slice_get cs place ≡ Some c → AreOf c.1 vs

case_fits : (m : ℕ) (cs : List (List ℕ × Parts)) (place : ℕ) (vs : List Value) → FitCase m (cases cs) place vs
    → (place < length cs) × ((c : List ℕ × Parts) → slice_get cs place ≡ Some c → FitParts m c.1 vs)
unfolding FitCase
case_fits m [] place vs fits = absurd fits
case_fits m (d ∷ cs) zero vs fits = (omega arith, λ c e. subst (λ x. FitParts m x.1 vs) (some_is d c e) fits)
case_fits m (d ∷ cs) (suc place) vs fits = let r = case_fits m cs place vs fits in (omega (arith, r.0), r.1)

case_inside : (P : ℕ → List Value → Type 0) (v : Value) (place : ℕ) (vs : List Value) → v ≡ val.Case place vs → (p : ℕ) × IsMade (val.Case p) (P p) v
    → P place vs
case_inside P v place vs is m =
    let e : val.Case m.0 m.1.0 ≡ val.Case place vs = sym m.1.1 ∙ is in
    subst (λ q. P q vs) (case_place m.0 place m.1.0 vs e) (subst (P m.0) (case_is m.0 place m.1.0 vs e) m.1.2)

module _ (cs : List (List ℕ × Parts)) (v : Value) where
  pub is_sum : IsOf (sum (cases cs)) v → (place : ℕ) × IsMade (val.Case place) Anything v
  unfolding Fits
  is_sum w = (w.1.0, made_any (val.Case w.1.0) _ v w.1.1)

  pub is_poly : IsOf (poly (cases cs)) v → (place : ℕ) × IsMade (val.Case place) Anything v
  unfolding Fits
  is_poly w = (w.1.0, made_any (val.Case w.1.0) _ v w.1.1)

  module _ (place : ℕ) (vs : List Value) (is : v ≡ val.Case place vs) where
    pub sum_case : IsOf (sum (cases cs)) v → HasCase cs place vs
    unfolding Fits
    sum_case w =
        let r = case_fits w.0 cs place vs (case_inside (FitCase w.0 (cases cs)) v place vs is w.1) in record { within = r.0; are = λ c e. (w.0, r.1 c e) }

    pub poly_case : IsOf (poly (cases cs)) v → HasCase cs place vs
    unfolding Fits
    poly_case w =
        let r = case_fits w.0 cs place vs (case_inside (FitCase w.0 (cases cs)) v place vs is w.1) in record { within = r.0; are = λ c e. (w.0, r.1 c e) }

-- ---- the argument of a case of a polymorphic variant

module _ (a : Option Shape) (s : Shape) (is : a ≡ Some s) (vs : List Value) (w : AreOf (argument (option_map form_of a)) vs) where
  pub one_argument : 0 < length vs
  unfolding FitParts
  one_argument = some vs (subst (λ x. FitParts w.0 (argument (option_map form_of x)) vs) is w.1)
    where
      some : (us : List Value) → FitParts w.0 (argument (Some (form_of s))) us → 0 < length us
      some [] fits = absurd fits
      some (u ∷ us) fits = omega arith

  pub argument_of : (v : Value) → slice_get vs 0 ≡ Some v → IsOf (form_of s) v
  argument_of v at =
      let p : List ℕ × Form = ([], form_of s) in
      let same : argument (option_map form_of a) ≡ named_parts (p ∷ []) = ap (λ x. argument (option_map form_of x)) is in
      (w.0, part_fits w.0 (p ∷ []) vs 0 p v refl at (subst (λ x. FitParts w.0 x vs) same w.1))
