-- A value that can be written has what its form looks for, and what is in it can be written.
use Rattle.std.proofs.Common.{◌≡◌, refl, sym, ap, ◌∙◌, subst, inl, inr, ℕ, zero, suc, ◌<◌, ◌≤◌, List, [], ◌∷◌, length, get_or, slice_get, map, Option, Some, arith}
use Rattle.std.specs.List.{All}
use Rattle.std.specs.Option.{option_map}
use Rattle.std.proofs.lemmas.List.{length-map}
use Rattle.std.proofs.lemmas.Option.{slice_get-map, slice_get_read}
use Rattle.std.proofs.lemmas.List.Elements.{All-weaker, All-get_or}
use Rattle.bp_value.specs.declared.value.Value.{Value}
use Rattle.bp_value.specs.declared.value.Value.TheVariants as val
use Rattle.bp_value.specs.declared.shape.Shape.{Shape}
use Rattle.bp_value.specs.Form.{form_of, argument, Form, Parts, Cases, bool, char, int, int32, int64, text, opt, listed, tuple, fields, sum, poly, sexp, named_parts, cases}
use Rattle.bp_value.specs.Fits.{IsMade, Anything, Fits, FitParts, FitCase}
use Rattle.bp_value.proofs.Layers.{present_is, present_there, items_is, parts_is, case_place, case_is}
use Rattle.bp_value.proofs.FitSteps.{parts_length}
use Rattle.bp_grammar.specs.Spells.{case_count}
use Rattle.bp_codec.specs.Fitting.{IsOption, IsAnyCase, HasBytePlaces, HavePartsBytePlaces, HaveCasesBytePlaces, IsWritable, AreWritable}

-- ---- leaves

made_any : {A : Type 0} (made : A → Value) (P : A → Type 0) (v : Value) → IsMade made P v → IsMade made Anything v
made_any made P v m = (m.0, m.1, tt)

-- what holds of all values holds of the one at a place
pub item_at : (P : Value → Type 0) (vs : List Value) (i : ℕ) (v : Value) → i < length vs → v ≡ get_or vs i v → All P vs → P v
item_at P vs i v lt is all = subst P (sym is) (All-get_or P vs i v lt all)

-- what is made of something that has a property, where it is made of this
made_of : {A : Type 0} (made : A → Value) (alike : (x y : A) → made x ≡ made y → x ≡ y) (P : A → Type 0) (v : Value) (a : A) → v ≡ made a → IsMade made P v → P a
made_of made alike P v a is m = subst P (alike m.0 a (sym m.1 ∙ is)) m.2

pub is_bool : (v : Value) → IsWritable bool v → IsMade val.Bool Anything v
unfolding Fits
is_bool v w = w.fits

pub is_char : (v : Value) → IsWritable char v → IsMade val.Char Anything v
unfolding Fits
is_char v w = w.fits

pub is_int : (v : Value) → IsWritable int v → IsMade val.Num Anything v
unfolding Fits
is_int v w = made_any val.Num _ v w.fits

pub is_int32 : (v : Value) → IsWritable int32 v → IsMade val.Num Anything v
unfolding Fits
is_int32 v w = made_any val.Num _ v w.fits

pub is_int64 : (v : Value) → IsWritable int64 v → IsMade val.Num Anything v
unfolding Fits
is_int64 v w = made_any val.Num _ v w.fits

pub is_text : (v : Value) → IsWritable text v → IsMade val.Text Anything v
unfolding Fits
is_text v w = made_any val.Text _ v w.fits

pub is_sexp : (v : Value) → IsWritable sexp v → IsMade val.Sexp Anything v
unfolding Fits
is_sexp v w = made_any val.Sexp _ v w.fits

-- ---- options and lists

module _ (f : Form) (v : Value) where
  pub is_option : IsWritable (opt f) v → IsOption v
  unfolding Fits
  is_option w = elim w.fits [ inl e ↦ inl e | inr m ↦ inr (made_any val.Present _ v m) ]

  pub present_writable : (x : Value) → v ≡ val.Present x → IsWritable (opt f) v → IsWritable f x
  unfolding Fits HasBytePlaces
  present_writable x is w = record { places = w.places; limit = w.limit; low = w.low; fits = inner }
    where
      inner : Fits w.limit f x
      inner = elim w.fits [
        | inl e ↦ absurd (present_there x (sym is ∙ e))
        | inr m ↦ made_of val.Present present_is (Fits w.limit f) v x is m
      ]

  pub is_list : IsWritable (listed f) v → IsMade val.Items Anything v
  unfolding Fits
  is_list w = made_any val.Items _ v w.fits

  pub items_writable : (vs : List Value) → v ≡ val.Items vs → IsWritable (listed f) v → All (IsWritable f) vs
  unfolding Fits HasBytePlaces
  items_writable vs is w =
      All-weaker (Fits w.limit f) (IsWritable f) (λ x fits. record { places = w.places; limit = w.limit; low = w.low; fits = fits }) vs
      (made_of val.Items items_is (λ us. (length us ≤ w.limit) × All (Fits w.limit f) us) v vs is w.fits).1

-- ---- parts

module _ (fs : Parts) (v : Value) where
  pub is_tuple : IsWritable (tuple fs) v → IsMade val.Parts Anything v
  unfolding Fits
  is_tuple w = made_any val.Parts _ v w.fits

  pub is_record : IsWritable (fields fs) v → IsMade val.Parts Anything v
  unfolding Fits
  is_record w = made_any val.Parts _ v w.fits

  module _ (vs : List Value) (is : v ≡ val.Parts vs) where
    pub tuple_writable : IsWritable (tuple fs) v → AreWritable fs vs
    unfolding Fits HasBytePlaces
    tuple_writable w = record { places = w.places; limit = w.limit; low = w.low; fits = made_of val.Parts parts_is (FitParts w.limit fs) v vs is w.fits }

    pub record_writable : IsWritable (fields fs) v → AreWritable fs vs
    unfolding Fits HasBytePlaces
    record_writable w = record { places = w.places; limit = w.limit; low = w.low; fits = made_of val.Parts parts_is (FitParts w.limit fs) v vs is w.fits }

some_is : {A : Type 0} (x y : A) → Some x ≡ Some y → x ≡ y
some_is x y e = cc

part_places : (ps : List (List ℕ × Form)) (i : ℕ) (p : List ℕ × Form) → slice_get ps i ≡ Some p → HavePartsBytePlaces (named_parts ps) → HasBytePlaces p.1
unfolding HavePartsBytePlaces
part_places [] i p e has = absurd cc
part_places (q ∷ ps) zero p e has = subst (λ x. HasBytePlaces x.1) (some_is q p e) has.0
part_places (q ∷ ps) (suc i) p e has = part_places ps i p e has.1

part_fits : (m : ℕ) (ps : List (List ℕ × Form)) (vs : List Value) (i : ℕ) (p : List ℕ × Form) (v : Value) → slice_get ps i ≡ Some p → slice_get vs i ≡ Some v
    → FitParts m (named_parts ps) vs → Fits m p.1 v
unfolding FitParts
part_fits m [] vs i p v e f fits = absurd cc
part_fits m (q ∷ ps) [] i p v e f fits = absurd fits
part_fits m (q ∷ ps) (w ∷ vs) zero p v e f fits = let a = some_is q p e in let b = some_is w v f in rw (← a, ← b) fits.0
part_fits m (q ∷ ps) (w ∷ vs) (suc i) p v e f fits = part_fits m ps vs i p v e f fits.1

-- an element at a place, of a list and of what a function makes of it
pub read_at : {X : Type 0} (xs : List X) (i : ℕ) (x : X) → i < length xs → x ≡ get_or xs i x → slice_get xs i ≡ Some x
read_at xs i x lt is = slice_get_read xs (length xs) i x refl lt is

pub mapped_at : {X Y : Type 0} (g : X → Y) (xs : List X) (i : ℕ) (x : X) → i < length xs → x ≡ get_or xs i x → slice_get (map g xs) i ≡ Some (g x)
mapped_at g xs i x lt is = slice_get-map g xs i ∙ ap (option_map g) (read_at xs i x lt is)

module _ {X : Type 0} (g : X → List ℕ × Form) (xs : List X) (vs : List Value) (w : AreWritable (named_parts (map g xs)) vs) where
  -- there are as many values as parts
  pub as_many : length xs ≡ length vs
  as_many = sym (length-map xs g) ∙ parts_length w.limit (map g xs) vs w.fits

  pub value_at : (i : ℕ) (v : Value) → i < length xs → v ≡ get_or vs i v → slice_get vs i ≡ Some v
  value_at i v lt is = read_at vs i v (omega (arith, as_many)) is

  pub part_writable : (i : ℕ) (x : X) (v : Value) → slice_get xs i ≡ Some x → slice_get vs i ≡ Some v → IsWritable (g x).1 v
  part_writable i x v at_x at_v =
      let at : slice_get (map g xs) i ≡ Some (g x) = slice_get-map g xs i ∙ ap (option_map g) at_x in
      record { places = part_places (map g xs) i (g x) at w.places; limit = w.limit; low = w.low; fits = part_fits w.limit (map g xs) vs i (g x) v at at_v w.fits }

-- ---- cases

-- the case at the place, which is a byte's
pub record HasCase (cs : List (List ℕ × Parts)) (place : ℕ) (vs : List Value) : Type 0 where
  pub within : place < length cs
  pub writable : (c : List ℕ × Parts) → slice_get cs place ≡ Some c → AreWritable c.1 vs

case_fits : (m : ℕ) (cs : List (List ℕ × Parts)) (place : ℕ) (vs : List Value) → FitCase m (cases cs) place vs
    → (place < length cs) × ((c : List ℕ × Parts) → slice_get cs place ≡ Some c → FitParts m c.1 vs)
unfolding FitCase
case_fits m [] place vs fits = absurd fits
case_fits m (d ∷ cs) zero vs fits = (omega arith, λ c e. subst (λ x. FitParts m x.1 vs) (some_is d c e) fits)
case_fits m (d ∷ cs) (suc place) vs fits = let r = case_fits m cs place vs fits in (omega (arith, r.0), r.1)

case_places : (cs : List (List ℕ × Parts)) (place : ℕ) (c : List ℕ × Parts) → slice_get cs place ≡ Some c → HaveCasesBytePlaces (cases cs) → HavePartsBytePlaces c.1
unfolding HaveCasesBytePlaces
case_places [] place c e has = absurd cc
case_places (d ∷ cs) zero c e has = subst (λ x. HavePartsBytePlaces x.1) (some_is d c e) has.0
case_places (d ∷ cs) (suc place) c e has = case_places cs place c e has.1

case_count-cases : (cs : List (List ℕ × Parts)) → case_count (cases cs) ≡ length cs
case_count-cases [] = refl
case_count-cases (c ∷ cs) = ap suc (case_count-cases cs)

case_inside : (cs : Cases) (P : ℕ → List Value → Type 0) (v : Value) (place : ℕ) (vs : List Value) → v ≡ val.Case place vs → (p : ℕ) × IsMade (val.Case p) (P p) v → P place vs
case_inside cs P v place vs is m =
    let e : val.Case m.0 m.1.0 ≡ val.Case place vs = sym m.1.1 ∙ is in
    subst (λ q. P q vs) (case_place m.0 place m.1.0 vs e) (subst (P m.0) (case_is m.0 place m.1.0 vs e) m.1.2)

module _ (cs : List (List ℕ × Parts)) (v : Value) where
  pub is_sum : IsWritable (sum (cases cs)) v → IsAnyCase v
  unfolding Fits
  is_sum w = (w.fits.0, made_any (val.Case w.fits.0) _ v w.fits.1)

  pub is_poly : IsWritable (poly (cases cs)) v → IsAnyCase v
  unfolding Fits
  is_poly w = (w.fits.0, made_any (val.Case w.fits.0) _ v w.fits.1)

  module _ (place : ℕ) (vs : List Value) (is : v ≡ val.Case place vs) where
    pub sum_case : IsWritable (sum (cases cs)) v → (place < 256) × HasCase cs place vs
    unfolding Fits HasBytePlaces
    sum_case w =
        let r = case_fits w.limit cs place vs (case_inside (cases cs) (FitCase w.limit (cases cs)) v place vs is w.fits) in (
          omega (arith, r.0, w.places.0, case_count-cases cs),
          record { within = r.0; writable = λ c e. record { places = case_places cs place c e w.places.1; limit = w.limit; low = w.low; fits = r.1 c e } },
        )

    pub poly_case : IsWritable (poly (cases cs)) v → HasCase cs place vs
    unfolding Fits HasBytePlaces
    poly_case w =
        let r = case_fits w.limit cs place vs (case_inside (cases cs) (FitCase w.limit (cases cs)) v place vs is w.fits) in
        record { within = r.0; writable = λ c e. record { places = case_places cs place c e w.places; limit = w.limit; low = w.low; fits = r.1 c e } }

-- ---- the argument of a case of a polymorphic variant

module _ (a : Option Shape) (s : Shape) (is : a ≡ Some s) (vs : List Value) (w : AreWritable (argument (option_map form_of a)) vs) where
  pub one_argument : 0 < length vs
  unfolding FitParts
  one_argument = some vs (subst (λ x. FitParts w.limit (argument (option_map form_of x)) vs) is w.fits)
    where
      some : (us : List Value) → FitParts w.limit (argument (Some (form_of s))) us → 0 < length us
      some [] fits = absurd fits
      some (u ∷ us) fits = omega arith

  pub argument_writable : (v : Value) → slice_get vs 0 ≡ Some v → IsWritable (form_of s) v
  argument_writable v at =
      let p : List ℕ × Form = ([], form_of s) in
      let same : argument (option_map form_of a) ≡ named_parts (p ∷ []) = ap (λ x. argument (option_map form_of x)) is in
      record {
        places = part_places (p ∷ []) 0 p refl (subst HavePartsBytePlaces same w.places);
        limit = w.limit;
        low = w.low;
        fits = part_fits w.limit (p ∷ []) vs 0 p v refl at (subst (λ x. FitParts w.limit x vs) same w.fits);
      }
