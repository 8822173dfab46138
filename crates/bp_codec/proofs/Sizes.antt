-- How many nodes are made of a form: what is not made yet grows less with each node.
use Rattle.std.proofs.Common.{◌≡◌, ℕ, suc, ◌+◌, ◌<◌, List, [], ◌∷◌, ◌++◌, length, drop, slice_get, Some, refl, ap, ◌∙◌, length-append, arith}
use Rattle.std.specs.List.{sum_by}
use Rattle.std.proofs.lemmas.List.{drop-append-le}
use Rattle.std.proofs.lemmas.List.Sums.{sum_by-cons, sum_by-append}
use Rattle.std.proofs.lemmas.Option.{slice_get_within}
use Rattle.bp_value.specs.Form.{Form, Parts, Cases, unit, bool, char, int, int32, int64, text, opt, listed, tuple, fields, sum, poly, sexp, end, part, end_cases, case}
use Rattle.bp_codec.specs.declared.plan.Node.{Node}
use Rattle.bp_codec.specs.Sources.{Origin, value, args, part_origins, case_origins, children, Expands}
use Rattle.bp_codec.proofs.Standing.{drop_get}

unfoldable mutual
  pub form_size : Form → ℕ
  form_size unit = 1
  form_size bool = 1
  form_size char = 1
  form_size int = 1
  form_size int32 = 1
  form_size int64 = 1
  form_size text = 1
  form_size (opt f) = suc (form_size f)
  form_size (listed f) = suc (form_size f)
  form_size (tuple fs) = suc (parts_size fs)
  form_size (fields fs) = suc (parts_size fs)
  form_size (sum cs) = suc (cases_size cs)
  form_size (poly cs) = suc (cases_size cs)
  form_size sexp = 1

  pub parts_size : Parts → ℕ
  parts_size end = 0
  parts_size (part name f fs) = form_size f + parts_size fs

  pub cases_size : Cases → ℕ
  cases_size end_cases = 0
  cases_size (case name fs cs) = suc (parts_size fs) + cases_size cs

unfoldable pub size : Origin → ℕ
size (value f) = form_size f
size (args fs) = suc (parts_size fs)

-- what is not made yet, where n nodes are made
abbrev pub left_size : List Origin → ℕ → ℕ
left_size os n = sum_by size (drop n os)

part_sizes : (fs : Parts) → sum_by size (part_origins fs) ≡ parts_size fs
unfolding part_origins size parts_size
part_sizes end = refl
part_sizes (part name f fs) = sum_by-cons size (value f) (part_origins fs) ∙ ap (λ n. form_size f + n) (part_sizes fs)

case_sizes : (cs : Cases) → sum_by size (case_origins cs) ≡ cases_size cs
unfolding case_origins size cases_size
case_sizes end_cases = refl
case_sizes (case name fs cs) = sum_by-cons size (args fs) (case_origins cs) ∙ ap (λ n. suc (parts_size fs) + n) (case_sizes cs)

children_size : (o : Origin) → suc (sum_by size (children o)) ≡ size o
unfolding children size form_size
children_size (value unit) = refl
children_size (value bool) = refl
children_size (value char) = refl
children_size (value int) = refl
children_size (value int32) = refl
children_size (value int64) = refl
children_size (value text) = refl
children_size (value (opt f)) = ap suc (sum_by-cons size (value f) [] ∙ omega arith)
children_size (value (listed f)) = ap suc (sum_by-cons size (value f) [] ∙ omega arith)
children_size (value (tuple fs)) = ap suc (part_sizes fs)
children_size (value (fields fs)) = ap suc (part_sizes fs)
children_size (value (sum cs)) = ap suc (case_sizes cs)
children_size (value (poly cs)) = ap suc (case_sizes cs)
children_size (value sexp) = refl
children_size (args fs) = ap suc (part_sizes fs)

pub left_smaller : (os : List Origin) (n : ℕ) (o : Origin) → slice_get os n ≡ Some o → left_size (os ++ children o) (suc n) < left_size os n
left_smaller os n o at =
    let lt = slice_get_within os n o at in
    let here : left_size os n ≡ size o + sum_by size (drop (suc n) os) = ap (sum_by size) (drop_get os n o at) ∙ sum_by-cons size o (drop (suc n) os) in
    let later : left_size (os ++ children o) (suc n) ≡ sum_by size (drop (suc n) os) + sum_by size (children o) =
    ap (sum_by size) (drop-append-le (suc n) os (children o) (omega arith)) ∙ sum_by-append size (drop (suc n) os) (children o) in
    omega (arith, here, later, children_size o)

-- the same, as a node says that it was made
pub smaller_next : (os new : List Origin) (ns made : List Node) (tags new_tags : List ℕ) (o : Origin) (n : Node) → slice_get os (length ns) ≡ Some o
    → Expands o os new tags new_tags n → made ≡ ns ++ n ∷ [] → left_size new (length made) < left_size os (length ns)
smaller_next os new ns made tags new_tags o n at m is =
    let count : length made ≡ suc (length ns) = omega (arith, ap length is, length-append ns (n ∷ [])) in
    rw (count, m.children_last) (left_smaller os (length ns) o at)
