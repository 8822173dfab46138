-- Where all nodes are made, children stand within them, and behind their node.
use Rattle.std.proofs.Common.{◌≡◌, ℕ, zero, suc, ◌+◌, ◌<◌, ◌≤◌, List, [], ◌∷◌, length, get_or, slice_get, Some, refl, sym, ap, subst, ◌∙◌, arith}
use Rattle.std.proofs.lemmas.Option.{slice_get-get_or, slice_get_within}
use Rattle.bp_value.specs.Form.{Form, Parts, Cases, unit, bool, char, int, int32, int64, text, opt, listed, tuple, fields, sum, poly, sexp, end, part, end_cases, case}
use Rattle.bp_value.specs.Faults.{part_names, case_names}
use Rattle.bp_value.proofs.Good.{good_node, two_parts, some_fields, few_members}
use Rattle.bp_codec.specs.declared.plan.Node.{Node}
use Rattle.bp_codec.specs.declared.plan.Node.TheVariants as node
use Rattle.bp_codec.specs.Nodes.{ArePlaced, IsCase, first_of, count_of}
use Rattle.bp_codec.specs.Sources.{Origin, value, args, part_origins, case_origins, tag_words, children, own_tags, node_at}
use Rattle.bp_codec.proofs.Standing.{Stands, all_get, stands_within, stands_get}
use Rattle.bp_codec.proofs.Built.{IsGoodOrigin, IsMade, AreBuilt}
use Rattle.bp_codec.proofs.Choices.{tag_count}

part_length : (fs : Parts) → length (part_names fs) ≡ length (part_origins fs)
unfolding part_origins
part_length end = refl
part_length (part name f fs) = ap suc (part_length fs)

case_length : (cs : Cases) → length (case_names cs) ≡ length (case_origins cs)
unfolding case_origins
case_length end_cases = refl
case_length (case name fs cs) = ap suc (case_length cs)

-- each case is of arguments
case_args : (cs : Cases) (place : ℕ) (o : Origin) → slice_get (case_origins cs) place ≡ Some o → (fs : Parts) × (o ≡ args fs)
unfolding case_origins
case_args end_cases place o at = absurd cc
case_args (case name fs cs) zero o at = let e : o ≡ args fs = cc in (fs, e)
case_args (case name fs cs) (suc place) o at = case_args cs place o at

args_node : (fs : Parts) (first at : ℕ) → node_at (args fs) first at ≡ node.Args (first_of (node_at (args fs) first at)) (count_of (node_at (args fs) first at))
unfolding node_at
args_node fs first at = refl

module _ (f : Form) (os : List Origin) (ns : List Node) (tags : List ℕ) (built : AreBuilt f os ns tags) (all : length ns ≡ length os) where
  -- what stands at a place is of what was to be made there
  pub made_of : (k : ℕ) (o : Origin) (n : Node) → slice_get os k ≡ Some o → slice_get ns k ≡ Some n → (first : ℕ) × (at : ℕ)
      × (k < first) × Stands os first (children o) × Stands tags at (own_tags o) × (n ≡ node_at o first at)
  made_of k o n at_o at_n =
      let h : IsMade os tags k n = built.made k n at_n in
      let e : h.of ≡ o = let two = sym h.stands ∙ at_o in cc in (
        h.first,
        h.at,
        h.behind,
        subst (λ (x : Origin). Stands os h.first (children x)) e h.children_at,
        subst (λ (x : Origin). Stands tags h.at (own_tags x)) e h.tags_at,
        h.is ∙ ap (λ x. node_at x h.first h.at) e,
      )

  case_is : (first place : ℕ) (cs : Cases) → Stands os first (case_origins cs) → place < length (case_origins cs) → IsCase ns (first + place)
  case_is first place cs stands lt n at =
      let o = get_or (case_origins cs) place (value unit) in
      let here = slice_get-get_or (case_origins cs) place (value unit) lt in
      let (fs, is) = case_args cs place o here in
      let h = made_of (first + place) o n (stands_get os first (case_origins cs) place o stands here) at in
      let e : n ≡ node_at (args fs) h.0 h.1 = h.5 ∙ ap (λ x. node_at x h.0 h.1) is in
      rw e (args_node fs h.0 h.1)

  -- what the ghost fields of a plan say of one node
  abbrev Fits : ℕ → Node → Type 0
  Fits k (node.Opt j) = (k < j) × (j < length ns)
  Fits k (node.List j) = (k < j) × (j < length ns)
  Fits k (node.Parts first count) = (0 < count) × (k < first) × (first + count ≤ length ns)
  Fits k (node.Sum first count) = (first + count ≤ length ns) × ((place : ℕ) → place < count → IsCase ns (first + place))
  Fits k (node.Poly first count at) = (first + count ≤ length ns) × (at + count ≤ length tags) × (count ≤ 256)
      × ((place : ℕ) → place < count → IsCase ns (first + place))
  Fits k (node.Args first count) = first + count ≤ length ns
  Fits k _ = Unit {0}

  fits_made : (o : Origin) → IsGoodOrigin o → (k first at : ℕ) → k < first → Stands os first (children o) → Stands tags at (own_tags o)
      → Fits k (node_at o first at)
  unfolding children own_tags node_at
  fits_made (value unit) good k first at lt kids own = tt
  fits_made (value bool) good k first at lt kids own = tt
  fits_made (value char) good k first at lt kids own = tt
  fits_made (value int) good k first at lt kids own = tt
  fits_made (value int32) good k first at lt kids own = tt
  fits_made (value int64) good k first at lt kids own = tt
  fits_made (value text) good k first at lt kids own = tt
  fits_made (value (opt f)) good k first at lt kids own = (lt, omega (arith, all, stands_within os first (value f ∷ []) kids))
  fits_made (value (listed f)) good k first at lt kids own = (lt, omega (arith, all, stands_within os first (value f ∷ []) kids))
  fits_made (value (tuple fs)) good k first at lt kids own =
      let two = two_parts good.0 (tuple fs) (good_node good.0 (tuple fs) good.1) tt in
      (omega (arith, two, part_length fs), lt, omega (arith, all, stands_within os first (part_origins fs) kids))
  fits_made (value (fields fs)) good k first at lt kids own =
      let some = some_fields good.0 (fields fs) (good_node good.0 (fields fs) good.1) tt in
      (omega (arith, some, part_length fs), lt, omega (arith, all, stands_within os first (part_origins fs) kids))
  fits_made (value (sum cs)) good k first at lt kids own =
      (omega (arith, all, stands_within os first (case_origins cs) kids), λ place below. case_is first place cs kids below)
  fits_made (value (poly cs)) good k first at lt kids own = (
    omega (arith, all, stands_within os first (case_origins cs) kids),
    omega (arith, tag_count cs, stands_within tags at (tag_words cs) own),
    omega (arith, case_length cs, few_members good.0 (poly cs) (good_node good.0 (poly cs) good.1)),
    λ place below. case_is first place cs kids below,
  )
  fits_made (value sexp) good k first at lt kids own = tt
  fits_made (args fs) good k first at lt kids own = omega (arith, all, stands_within os first (part_origins fs) kids)

  fits : (k : ℕ) (n : Node) → slice_get ns k ≡ Some n → Fits k n
  fits k n at =
      let h : IsMade os tags k n = built.made k n at in
      subst (Fits k) (sym h.is) (fits_made h.of (all_get IsGoodOrigin os k h.of built.good h.stands) k h.first h.at h.behind h.children_at h.tags_at)

  pub some_node : 0 < length ns
  some_node = let lt = slice_get_within os 0 (value f) built.root in omega (arith, all, lt)

  pub placed : ArePlaced ns tags
  placed = record {
    opts = λ i j at. fits i (node.Opt j) at;
    lists = λ i j at. fits i (node.List j) at;
    parts = λ i first count at. fits i (node.Parts first count) at;
    sums = λ i first count at. fits i (node.Sum first count) at;
    polys = λ i first count own at. fits i (node.Poly first count own) at;
    args = λ i first count at. fits i (node.Args first count) at;
  }
