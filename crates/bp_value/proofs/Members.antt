-- How many members the form of a shape has, and their names and tags.
use Rattle.std.proofs.Common.{◌≡◌, ℕ, ℤ, ◌+◌, ◌<◌, suc, ◌⊎◌, inl, inr, List, [], ◌∷◌, map, length, take, set, slice_get, Some, refl, sym, ap, ◌∙◌, arith}
use Rattle.std.specs.Option.{option_map}
use Rattle.std.proofs.lemmas.Bool.{cases_lt}
use Rattle.std.proofs.lemmas.List.{length-set, get_or-set_same, get_or-set_other}
use Rattle.std.proofs.lemmas.Option.{slice_get-map, slice_get-get_or}
use Rattle.bp_value.specs.declared.shape.Case.{Case}
use Rattle.bp_value.specs.declared.shape.Field.{Field}
use Rattle.bp_value.specs.declared.shape.PolyCase.{PolyCase}
use Rattle.bp_value.specs.Tags.{tag_of}
use Rattle.bp_value.specs.Form.{Form, Parts, named_parts, cases, field_form, case_form, poly_form}
use Rattle.bp_value.specs.Names.{IsNowhere}
use Rattle.bp_value.specs.Faults.{part_names, case_names}
use Rattle.bp_value.proofs.FirstSteps.{taken}

pub part_count : {A : Type 0} (g : A → List ℕ × Form) (xs : List A)
    → length (part_names (named_parts (map g xs))) ≡ length xs
part_count g [] = refl
part_count g (x ∷ xs) = ap suc (part_count g xs)

pub case_count : {A : Type 0} (g : A → List ℕ × Parts) (xs : List A)
    → length (case_names (cases (map g xs))) ≡ length xs
case_count g [] = refl
case_count g (x ∷ xs) = ap suc (case_count g xs)

pub record_names : (fs : List Field)
    → map (λ f. f.name) fs ≡ part_names (named_parts (map field_form fs))
record_names [] = refl
record_names (f ∷ fs) = λ i. f.name ∷ record_names fs i

pub sum_names : (cs : List Case) → map (λ c. c.name) cs ≡ case_names (cases (map case_form cs))
sum_names [] = refl
sum_names (c ∷ cs) = λ i. c.name ∷ sum_names cs i

pub poly_names : (cs : List PolyCase) → map (λ c. c.name) cs ≡ case_names (cases (map poly_form cs))
poly_names [] = refl
poly_names (c ∷ cs) = λ i. c.name ∷ poly_names cs i

pub poly_tags : (cs : List PolyCase)
    → map (λ c. tag_of c.name) cs ≡ map tag_of (case_names (cases (map poly_form cs)))
poly_tags [] = refl
poly_tags (c ∷ cs) = λ i. tag_of c.name ∷ poly_tags cs i

-- ---- the tags of the cases

abbrev pub tags_of : List PolyCase → List ℤ
tags_of cs = map (λ c. tag_of c.name) cs

pub tag_at : (cs : List PolyCase) (i : ℕ) (c : PolyCase) (t : ℤ) → slice_get cs i ≡ Some c
    → t ≡ tag_of c.name → slice_get (tags_of cs) i ≡ Some t
tag_at cs i c t at_c is =
    slice_get-map (λ x. tag_of x.name) cs i ∙ ap (option_map (λ x. tag_of x.name)) at_c
    ∙ ap Some (sym is)

below_next : (k n : ℕ) → k < n + 1 → (k < n) ⊎ (k ≡ n)
below_next k n lt = elim (cases_lt k n) [ inl l ↦ inl l | inr g ↦ inr (omega arith) ]

-- ---- items kept in a list that is made longer than they need

set_here : {A : Type 0} (xs : List A) (i : ℕ) (x : A) → i < length xs
    → slice_get (set xs i x) i ≡ Some x
set_here xs i x lt =
    slice_get-get_or (set xs i x) i x (rw (length-set xs i x) lt)
    ∙ ap Some (get_or-set_same xs i x x lt)

set_elsewhere : {A : Type 0} (xs : List A) (i j : ℕ) (x : A) → j < length xs → (j ≡ i → ⊥)
    → slice_get (set xs i x) j ≡ slice_get xs j
set_elsewhere xs i j x lt other =
    slice_get-get_or (set xs i x) j x (rw (length-set xs i x) lt)
    ∙ ap Some (get_or-set_other xs i j x x other)
    ∙ sym (slice_get-get_or xs j x lt)

-- the first n items of a list are kept in another, and no two of them are one
pub record AreKept {A : Type 0} (xs kept : List A) (n : ℕ) : Type 0 where
  pub same : (k : ℕ) → k < n → slice_get kept k ≡ slice_get xs k
  pub new : (a b : ℕ) → a < b → b < n → slice_get xs a ≡ slice_get xs b → ⊥

-- one more item, which is none of those kept
module _ {A : Type 0} (xs kept : List A) (n : ℕ) (stands : AreKept xs kept n) (x : A)
    (at_x : slice_get xs n ≡ Some x)
    (room : n < length kept) (nowhere : IsNowhere (take n kept) x) where
  same_more : (k : ℕ) → k < n + 1 → slice_get (set kept n x) k ≡ slice_get xs k
  same_more k lt = elim (below_next k n lt) [
    | inl l ↦ set_elsewhere kept n k x (omega arith) (λ e. absurd (omega arith)) ∙ stands.same k l
    | inr e ↦ rw e (set_here kept n x room ∙ sym at_x)
  ]

  new_more : (a b : ℕ) → a < b → b < n + 1 → slice_get xs a ≡ slice_get xs b → ⊥
  new_more a b lt next e = elim (below_next b n next) [
    | inl l ↦ stands.new a b lt l e
    | inr same ↦ let below : a < n = omega arith in
        nowhere a (taken n a kept below ∙ stands.same a below ∙ e ∙ ap (slice_get xs) same ∙ at_x)
  ]

  pub keep_one : AreKept xs (set kept n x) (n + 1)
  keep_one = record { same = same_more; new = new_more }
