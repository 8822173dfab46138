-- Down a good shape: its parts are within it, and so are theirs.
use Rattle.std.proofs.Common.{◌≡◌, refl, ap, ◌∙◌, Some, ℕ, suc, ◌+◌, ◌<◌, ◌≤◌, List, [], ◌∷◌, length, map, get_or, slice_get, option_map, arith}
use Rattle.std.proofs.lemmas.Option.{slice_get_read, slice_get-map}
use Rattle.bp_value.specs.declared.shape.Case.{Case}
use Rattle.bp_value.specs.declared.shape.Field.{Field}
use Rattle.bp_value.specs.declared.shape.PolyCase.{PolyCase}
use Rattle.bp_value.specs.Form.{Form, Parts, opt, listed, tuple, fields, sum, poly, form_of, field_form, case_form, poly_form, parts, named_parts, cases}
use Rattle.bp_value.specs.Faults.{case_names}
use Rattle.bp_value.proofs.Good.{good_node, good_opt, good_listed, good_tuple, good_fields, good_sum, good_poly, good_part_at, good_case_at, few_members}
use Rattle.bp_text.specs.Printing.{IsGoodInside, AreGoodInside}

pub within_opt : (f : Form) → IsGoodInside (opt f) → IsGoodInside f
within_opt f (d, good) = (d + 1, good_opt d f good)

pub within_listed : (f : Form) → IsGoodInside (listed f) → IsGoodInside f
within_listed f (d, good) = (d + 1, good_listed d f good)

pub within_tuple : (fs : Parts) → IsGoodInside (tuple fs) → AreGoodInside fs
within_tuple fs (d, good) = (d + 1, good_tuple d fs good)

pub within_fields : (fs : Parts) → IsGoodInside (fields fs) → AreGoodInside fs
within_fields fs (d, good) = (d + 1, good_fields d fs good)

mapped_at : {X Y : Type 0} (g : X → Y) (xs : List X) (i : ℕ) (x : X) → i < length xs → x ≡ get_or xs i x → slice_get (map g xs) i ≡ Some (g x)
mapped_at g xs i x lt is = slice_get-map g xs i ∙ ap (option_map g) (slice_get_read xs (length xs) i x refl lt is)

pub within_field : (xs : List Field) (i : ℕ) (x : Field) → i < length xs → x ≡ get_or xs i x → AreGoodInside (named_parts (map field_form xs))
    → IsGoodInside (form_of x.shape)
within_field xs i x lt is (d, good) = (d, good_part_at d i (map field_form xs) (field_form x) (mapped_at field_form xs i x lt is) good)

pub within_case : (xs : List Case) (i : ℕ) (x : Case) → i < length xs → x ≡ get_or xs i x → IsGoodInside (sum (cases (map case_form xs)))
    → AreGoodInside (parts (map form_of x.args))
within_case xs i x lt is (d, good) =
    (d + 1, good_case_at (d + 1) i (map case_form xs) (case_form x) (mapped_at case_form xs i x lt is) (good_sum d (cases (map case_form xs)) good))

pub within_poly : (xs : List PolyCase) (i : ℕ) (x : PolyCase) → i < length xs → x ≡ get_or xs i x → IsGoodInside (poly (cases (map poly_form xs)))
    → AreGoodInside (poly_form x).1
within_poly xs i x lt is (d, good) =
    (d + 1, good_case_at (d + 1) i (map poly_form xs) (poly_form x) (mapped_at poly_form xs i x lt is) (good_poly d (cases (map poly_form xs)) good))

-- ---- no variant has more cases than a node may have

named : {X : Type 0} (g : X → List ℕ × Parts) (xs : List X) → length (case_names (cases (map g xs))) ≡ length xs
named g [] = refl
named g (x ∷ xs) = ap suc (named g xs)

pub few_cases : (xs : List Case) → IsGoodInside (sum (cases (map case_form xs))) → length xs ≤ 256
few_cases xs (d, good) = omega (arith, few_members d (sum (cases (map case_form xs))) (good_node d (sum (cases (map case_form xs))) good), named case_form xs)

pub few_poly : (xs : List PolyCase) → IsGoodInside (poly (cases (map poly_form xs))) → length xs ≤ 256
few_poly xs (d, good) = omega (arith, few_members d (poly (cases (map poly_form xs))) (good_node d (poly (cases (map poly_form xs))) good), named poly_form xs)
