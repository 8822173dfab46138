-- A good form can be read: its variants have cases, and no two of their tags are alike.
use Rattle.std.proofs.Common.{◌≡◌, refl, sym, ap, ◌∙◌, Some, ℕ, ℤ, pos, negsuc, suc, ◌+◌, ◌^◌, ◌<◌, List, map, length, slice_get, w32, inl, inr, arith}
use Rattle.std.proofs.lemmas.Bool.{cases_order}
use Rattle.std.proofs.lemmas.Int.{ints}
use mir.Val.{SFits}
use Rattle.std.proofs.lemmas.Option.{slice_get_within}
use Rattle.readers.specs.Keys.{Keyed, AreApart}
use Rattle.bp_num.specs.Forms.{extent, signed_bytes}
use Rattle.bp_num.specs.NumberAt.{signed_of}
use Rattle.bp_num.proofs.SignedBytes.{signed_back}
use Rattle.bp_value.specs.Form.{Form, Parts, Cases, unit, bool, char, int, int32, int64, text, opt, listed, tuple, fields, sum, poly, sexp, end, part, end_cases, case}
use Rattle.bp_value.specs.Tags.{tag_of}
use Rattle.bp_value.specs.Names.{IsDistinct}
use Rattle.bp_value.specs.Faults.{nodes, part_nodes, case_nodes, case_names, IsGood}
use Rattle.bp_value.proofs.Good.{AreGood, good_root, good_node, good_opt, good_listed, good_tuple, good_fields, good_sum, good_poly, good_part, good_case, some_cases, distinct_tags}
use Rattle.bp_value.proofs.TagSteps.{tag_fits}
use Rattle.bp_grammar.specs.Spells.{case_count, keys_of}
use Rattle.bp_grammar.proofs.Right.{IsRead, ArePartsRead, AreCasesRead}

-- ---- tags

extent_fits : (z : ℤ) → SFits w32 z → extent z < 2 ^ 31
extent_fits (pos n) fits = omega (arith, ints)
extent_fits (negsuc n) fits = omega (arith, ints)

-- the tag of a name has 32 bits
pub tag_extent : (name : List ℕ) → extent (tag_of name) < 2 ^ 31
tag_extent name = extent_fits (tag_of name) (tag_fits name)

pub case_count-is : (cs : Cases) → case_count cs ≡ length (case_names cs)
case_count-is end_cases = refl
case_count-is (case name fs cs) = ap suc (case_count-is cs)

abbrev tags_of : Cases → List ℤ
tags_of cs = map tag_of (case_names cs)

-- a key is the tag of the case at its place
tag_at_key : (n : ℕ) (cs : Cases) (p : ℕ) (s : List ℕ) → Keyed (keys_of n cs) p s
    → (i : ℕ) × (z : ℤ) × (p ≡ n + i) × (slice_get (tags_of cs) i ≡ Some z) × (s ≡ signed_bytes 4 z) × (extent z < 2 ^ 31)
tag_at_key n end_cases p s k = absurd k
tag_at_key n (case name fs cs) p s (inl x) = (0, tag_of name, omega (arith, x.0), refl, x.1, tag_extent name)
tag_at_key n (case name fs cs) p s (inr x) =
    let (i, z, at, stands, bytes, fits) = tag_at_key (suc n) cs p s x in
    (suc i, z, omega (arith, at), stands, bytes, fits)

one_place : (zs : List ℤ) → IsDistinct zs → (i j : ℕ) (y z : ℤ) → slice_get zs i ≡ Some y → slice_get zs j ≡ Some z → y ≡ z → i ≡ j
one_place zs distinct i j y z at_i at_j same = elim (cases_order i j) [
  | inl e ↦ e
  | inr h ↦ elim h [
    | inl lt ↦ absurd (distinct i j lt (slice_get_within zs j z at_j) (at_i ∙ (ap (λ x. Some x) same ∙ sym at_j)))
    | inr lt ↦ absurd (distinct j i lt (slice_get_within zs i y at_i) (at_j ∙ (ap (λ x. Some x) (sym same) ∙ sym at_i)))
  ]
]

apart_tags : (cs : Cases) → IsDistinct (tags_of cs) → AreApart (keys_of 0 cs)
apart_tags cs distinct p q s k l =
    let (i, y, at_p, stands_p, bytes_p, fits_p) = tag_at_key 0 cs p s k in
    let (j, z, at_q, stands_q, bytes_q, fits_q) = tag_at_key 0 cs q s l in
    let same : y ≡ z = sym (signed_back 4 (2 ^ 31) refl y fits_p) ∙ (ap (signed_of 4) (sym bytes_p ∙ bytes_q) ∙ signed_back 4 (2 ^ 31) refl z fits_q) in
    let ij : i ≡ j = one_place (tags_of cs) distinct i j y z stands_p stands_q same in
    omega (arith, at_p, at_q, ij)

-- ---- all forms

mutual
  unfolding IsRead ArePartsRead AreCasesRead

  read_node : (d : ℕ) (f : Form) → AreGood (nodes d f) → IsRead f
  read_node d unit good = tt
  read_node d bool good = tt
  read_node d char good = tt
  read_node d int good = tt
  read_node d int32 good = tt
  read_node d int64 good = tt
  read_node d text good = tt
  read_node d (opt f) good = read_node (d + 1) f (good_opt d f good)
  read_node d (listed f) good = read_node (d + 1) f (good_listed d f good)
  read_node d (tuple fs) good = read_parts_node (d + 1) fs (good_tuple d fs good)
  read_node d (fields fs) good = read_parts_node (d + 1) fs (good_fields d fs good)
  read_node d (sum cs) good =
      let some : 0 < length (case_names cs) = some_cases d (sum cs) (good_node d (sum cs) good) tt in
      (omega (arith, case_count-is cs), read_cases_node (d + 1) cs (good_sum d cs good))
  read_node d (poly cs) good =
      let some : 0 < length (case_names cs) = some_cases d (poly cs) (good_node d (poly cs) good) tt in
      (omega (arith, case_count-is cs), apart_tags cs (distinct_tags d (poly cs) (good_node d (poly cs) good)), read_cases_node (d + 1) cs (good_poly d cs good))
  read_node d sexp good = tt

  read_parts_node : (d : ℕ) (fs : Parts) → AreGood (part_nodes d fs) → ArePartsRead fs
  read_parts_node d end good = tt
  read_parts_node d (part name f fs) good = let both = good_part d name f fs good in (read_node d f both.0, read_parts_node d fs both.1)

  read_cases_node : (d : ℕ) (cs : Cases) → AreGood (case_nodes d cs) → AreCasesRead cs
  read_cases_node d end_cases good = tt
  read_cases_node d (case name fs cs) good = let both = good_case d name fs cs good in (read_parts_node d fs both.0, read_cases_node d cs both.1)

pub good_read : (f : Form) → IsGood f → IsRead f
good_read f good = read_node 1 f (good_root f good)
