-- What is written of a value whose layer is known, and of the parts and the case of one.
use Rattle.std.proofs.Common.{◌≡◌, refl, ap, ◌∙◌, Bool, true, false, ℕ, ℤ, zero, suc, ◌+◌, ◌<◌, ◌≤◌, get_or, List, [], ◌∷◌, ◌++◌, length, drop, map, slice_get, Option, Some, None, add-one, append-nil}
use Rattle.std.specs.List.{flat_map}
use Rattle.std.specs.Option.{option_map}
use Rattle.std.proofs.Math.Seq.{drop-cons}
use Rattle.std.proofs.lemmas.List.{length-map, drop_all}
use Rattle.std.proofs.lemmas.Option.{slice_get-map}
use Rattle.bp_num.specs.Forms.{signed_bytes, written_int}
use Rattle.bp_value.specs.declared.value.Value.{Value, out-Value}
use Rattle.bp_value.specs.declared.value.Value.TheVariants as val
use Rattle.bp_value.specs.declared.value.Sexp.{Sexp}
use Rattle.bp_value.specs.declared.shape.Shape.{Shape}
use Rattle.bp_value.specs.Form.{form_of, argument, Form, Parts, opt, listed, tuple, fields, sum, poly, named_parts, cases}
use Rattle.bp_value.specs.Tags.{tag_of}
use Rattle.bp_value.proofs.Layers.{out_absent, out_present, out_items, out_parts, out_case}
use Rattle.bp_value.proofs.Layers.{out_bool, out_char, out_num, out_text, out_sexp}
use Rattle.bp_grammar.specs.Written.{bool_bytes, char_bytes, number_bytes, text_bytes, sexp_bytes, written_bytes, written_list, written_flag, written_tag, written_sexp, written, written_parts, written_case}

pub bool_is : (v : Value) (b : Bool) → v ≡ val.Bool b → bool_bytes (out-Value v) ≡ written_flag b
bool_is v b is = rw (is, out_bool b) refl

pub flag_long : (b : Bool) → 1 ≡ length (written_flag b)
flag_long false = refl
flag_long true = refl

pub char_is : (v : Value) (b : ℕ) → v ≡ val.Char b → char_bytes (out-Value v) ≡ b ∷ []
char_is v b is = rw (is, out_char b) refl

pub number_is : (v : Value) (n : ℤ) → v ≡ val.Num n → number_bytes (out-Value v) ≡ written_int n
number_is v n is = rw (is, out_num n) refl

pub text_is : (v : Value) (t : List ℕ) → v ≡ val.Text t → text_bytes (out-Value v) ≡ written_bytes t
text_is v t is = rw (is, out_text t) refl

pub sexp_is : (v : Value) (s : Sexp) → v ≡ val.Sexp s → sexp_bytes (out-Value v) ≡ written_sexp s
sexp_is v s is = rw (is, out_sexp s) refl

module _ (f : Form) (v : Value) where
  pub written_opt-Absent : v ≡ val.Absent → written (opt f) v ≡ 0 ∷ []
  unfolding written
  written_opt-Absent is = rw (is, out_absent) refl

  pub written_opt-Present : (x : Value) → v ≡ val.Present x → written (opt f) v ≡ (1 ∷ []) ++ written f x
  unfolding written
  written_opt-Present x is = rw (is, out_present x) refl

  pub written_listed : (vs : List Value) → v ≡ val.Items vs → written (listed f) v ≡ written_list (written f) vs
  unfolding written
  written_listed vs is = rw (is, out_items vs) refl

module _ (fs : Parts) (v : Value) (vs : List Value) (is : v ≡ val.Parts vs) where
  pub written_tuple : written (tuple fs) v ≡ written_parts fs vs
  unfolding written
  written_tuple = rw (is, out_parts vs) refl

  pub written_fields : written (fields fs) v ≡ written_parts fs vs
  unfolding written
  written_fields = rw (is, out_parts vs) refl

-- ---- the case at a place

some_is : {A : Type 0} (x y : A) → Some x ≡ Some y → x ≡ y
some_is x y e = cc

pub case_at : (cs : List (List ℕ × Parts)) (place : ℕ) (c : List ℕ × Parts) (vs : List Value) → slice_get cs place ≡ Some c
    → written_case (cases cs) place vs ≡ written_parts c.1 vs
unfolding written_case
case_at [] place c vs e = absurd cc
case_at (d ∷ cs) zero c vs e = ap (λ x. written_parts x.1 vs) (some_is d c e)
case_at (d ∷ cs) (suc place) c vs e = case_at cs place c vs e

tag_at : (cs : List (List ℕ × Parts)) (place : ℕ) (c : List ℕ × Parts) → slice_get cs place ≡ Some c → written_tag (cases cs) place ≡ signed_bytes 4 (tag_of c.0)
tag_at [] place c e = absurd cc
tag_at (d ∷ cs) zero c e = ap (λ x. signed_bytes 4 (tag_of x.0)) (some_is d c e)
tag_at (d ∷ cs) (suc place) c e = tag_at cs place c e

module _ (cs : List (List ℕ × Parts)) (v : Value) (place : ℕ) (vs : List Value) (is : v ≡ val.Case place vs) where
  pub written_sum : written (sum (cases cs)) v ≡ (place ∷ []) ++ written_case (cases cs) place vs
  unfolding written
  written_sum = rw (is, out_case place vs) refl

  pub written_poly : (c : List ℕ × Parts) → slice_get cs place ≡ Some c → written (poly (cases cs)) v ≡ signed_bytes 4 (tag_of c.0) ++ written_parts c.1 vs
  unfolding written
  written_poly c at = rw (is, out_case place vs, tag_at cs place c at, case_at cs place c vs at) refl

pub written_argument-None : (a : Option Shape) (vs : List Value) → a ≡ None → written_parts (argument (option_map form_of a)) vs ≡ []
unfolding written_parts
written_argument-None a vs is = rw is refl

pub written_argument-Some : (a : Option Shape) (s : Shape) (vs : List Value) (v : Value) → a ≡ Some s → slice_get vs 0 ≡ Some v
    → written_parts (argument (option_map form_of a)) vs ≡ written (form_of s) v
unfolding written_parts
written_argument-Some a s [] v is at = absurd cc
written_argument-Some a s (u ∷ us) v is at = rw (is, some_is u v at) (append-nil (written (form_of s) v))

-- ---- a list, of which the values from the place i on are left

module _ {A : Type 0} (w : A → List ℕ) (vs : List A) (i : ℕ) where
  pub rest_next : (v : A) (bytes : List ℕ) → i < length vs → v ≡ get_or vs i v → w v ≡ bytes → flat_map w (drop i vs) ≡ bytes ++ flat_map w (drop (i + 1) vs)
  rest_next v bytes lt is spelled = rw (drop-cons vs i v, add-one, ← is, spelled) refl

  pub rest_done : length vs ≤ i → flat_map w (drop i vs) ≡ []
  rest_done le = rw (drop_all i vs le) refl

-- ---- parts, of which those from the place i on are left

module _ {X : Type 0} (g : X → List ℕ × Form) (xs : List X) (vs : List Value) where
  abbrev pub rest_of_parts : ℕ → List ℕ
  rest_of_parts i = written_parts (named_parts (drop i (map g xs))) (drop i vs)

  pub parts_done : (i : ℕ) → length xs ≤ i → rest_of_parts i ≡ []
  unfolding written_parts
  parts_done i le = rw (drop_all i (map g xs) (rw (length-map xs g) le)) refl

part_next : (ps : List (List ℕ × Form)) (vs : List Value) (i : ℕ) (p : List ℕ × Form) (v : Value) → slice_get ps i ≡ Some p → slice_get vs i ≡ Some v
    → written_parts (named_parts (drop i ps)) (drop i vs) ≡ written p.1 v ++ written_parts (named_parts (drop (suc i) ps)) (drop (suc i) vs)
unfolding written_parts
part_next [] vs i p v e f = absurd cc
part_next (q ∷ ps) [] i p v e f = absurd cc
part_next (q ∷ ps) (w ∷ vs) zero p v e f = let a = some_is q p e in let b = some_is w v f in rw (a, b) refl
part_next (q ∷ ps) (w ∷ vs) (suc i) p v e f = part_next ps vs i p v e f

module _ {X : Type 0} (g : X → List ℕ × Form) (xs : List X) (vs : List Value) (i : ℕ) (x : X) (v : Value) (at_x : slice_get xs i ≡ Some x) (at_v : slice_get vs i ≡ Some v) where
  pub parts_next : rest_of_parts g xs vs i ≡ written (g x).1 v ++ rest_of_parts g xs vs (i + 1)
  parts_next = rw add-one (part_next (map g xs) vs i (g x) v (slice_get-map g xs i ∙ ap (option_map g) at_x) at_v)
