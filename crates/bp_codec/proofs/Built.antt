-- What holds of the nodes made so far: each is of what stands at its place, and its children and tags stand where it says.
use Rattle.std.proofs.Common.{◌≡◌, ℕ, ◌+◌, ◌<◌, ◌≤◌, inl, inr, List, [], ◌∷◌, ◌++◌, length, get_or, slice_get, Some, refl, ap, ◌∙◌, length-append, arith}
use Rattle.std.specs.List.{All}
use Rattle.std.specs.Option.{option_map}
use Rattle.std.proofs.lemmas.List.{length-map}
use Rattle.std.proofs.lemmas.List.Elements.{All-nil, All-cons, All-append}
use Rattle.std.proofs.lemmas.Option.{slice_get-map, slice_get_read, slice_get_within}
use Rattle.bp_value.specs.Form.{Form, Parts, Cases, unit, bool, char, int, int32, int64, text, opt, listed, tuple, fields, sum, poly, sexp, end, part, end_cases, case}
use Rattle.bp_value.specs.Faults.{nodes, part_nodes, case_nodes, IsGood}
use Rattle.bp_value.proofs.Good.{AreGood, good_root, good_opt, good_listed, good_tuple, good_fields, good_sum, good_poly, good_part, good_case}
use Rattle.bp_codec.specs.declared.plan.Node.{Node}
use Rattle.bp_codec.specs.declared.plan.making.Source.{Source}
use Rattle.bp_codec.specs.Sources.{Origin, value, args, origin, origins, part_origins, case_origins, children, own_tags, node_at, Expands}
use Rattle.bp_codec.proofs.Standing.{Stands, get_front, get_pushed, all_get, stands_last, stands_more}

-- ---- good forms

-- good as a part of a form at some depth
abbrev pub IsGoodOrigin : Origin → Type 0
IsGoodOrigin (value f) = (d : ℕ) × AreGood (nodes d f)
IsGoodOrigin (args fs) = (d : ℕ) × AreGood (part_nodes d fs)

good_parts : (d : ℕ) (fs : Parts) → AreGood (part_nodes d fs) → All IsGoodOrigin (part_origins fs)
unfolding part_origins
good_parts d end good = All-nil IsGoodOrigin
good_parts d (part name f fs) good =
    let both = good_part d name f fs good in All-cons IsGoodOrigin (value f) (part_origins fs) (d, both.0) (good_parts d fs both.1)

good_cases : (d : ℕ) (cs : Cases) → AreGood (case_nodes d cs) → All IsGoodOrigin (case_origins cs)
unfolding case_origins
good_cases d end_cases good = All-nil IsGoodOrigin
good_cases d (case name fs cs) good =
    let both = good_case d name fs cs good in All-cons IsGoodOrigin (args fs) (case_origins cs) (d, both.0) (good_cases d cs both.1)

good_item : (d : ℕ) (f : Form) → AreGood (nodes d f) → All IsGoodOrigin (value f ∷ [])
good_item d f good = All-cons IsGoodOrigin (value f) [] (d, good) (All-nil IsGoodOrigin)

good_children : (o : Origin) → IsGoodOrigin o → All IsGoodOrigin (children o)
unfolding children
good_children (value unit) good = All-nil IsGoodOrigin
good_children (value bool) good = All-nil IsGoodOrigin
good_children (value char) good = All-nil IsGoodOrigin
good_children (value int) good = All-nil IsGoodOrigin
good_children (value int32) good = All-nil IsGoodOrigin
good_children (value int64) good = All-nil IsGoodOrigin
good_children (value text) good = All-nil IsGoodOrigin
good_children (value (opt f)) good = good_item (good.0 + 1) f (good_opt good.0 f good.1)
good_children (value (listed f)) good = good_item (good.0 + 1) f (good_listed good.0 f good.1)
good_children (value (tuple fs)) good = good_parts (good.0 + 1) fs (good_tuple good.0 fs good.1)
good_children (value (fields fs)) good = good_parts (good.0 + 1) fs (good_fields good.0 fs good.1)
good_children (value (sum cs)) good = good_cases (good.0 + 1) cs (good_sum good.0 cs good.1)
good_children (value (poly cs)) good = good_cases (good.0 + 1) cs (good_poly good.0 cs good.1)
good_children (value sexp) good = All-nil IsGoodOrigin
good_children (args fs) good = good_parts good.0 fs good.1

-- ---- the nodes

-- the node at the place k is made of what stands there
pub record IsMade (os : List Origin) (tags : List ℕ) (k : ℕ) (n : Node) : Type 0 where
  pub of : Origin
  pub first : ℕ
  pub at : ℕ
  pub stands : slice_get os k ≡ Some of
  pub behind : k < first
  pub children_at : Stands os first (children of)
  pub tags_at : Stands tags at (own_tags of)
  pub is : n ≡ node_at of first at

-- the nodes of the form f, as far as they are made
pub record AreBuilt (f : Form) (os : List Origin) (ns : List Node) (tags : List ℕ) : Type 0 where
  pub root : slice_get os 0 ≡ Some (value f)
  pub good : All IsGoodOrigin os
  pub within : length ns ≤ length os
  pub made : (k : ℕ) (n : Node) → slice_get ns k ≡ Some n → IsMade os tags k n

pub none_built : (f : Form) → IsGood f → AreBuilt f (value f ∷ []) [] []
none_built f good = record {
  root = refl;
  good = good_item 1 f (good_root f good);
  within = omega arith;
  made = λ k n at. absurd cc;
}

made_more : (os cs : List Origin) (tags ts : List ℕ) (k : ℕ) (n : Node) → IsMade os tags k n → IsMade (os ++ cs) (tags ++ ts) k n
made_more os cs tags ts k n h = record {
  of = h.of;
  first = h.first;
  at = h.at;
  stands = get_front os cs k h.of h.stands;
  behind = h.behind;
  children_at = stands_more os cs h.first (children h.of) h.children_at;
  tags_at = stands_more tags ts h.at (own_tags h.of) h.tags_at;
  is = h.is;
}

made_now : (os : List Origin) (tags : List ℕ) (k : ℕ) (o : Origin) → slice_get os k ≡ Some o
    → IsMade (os ++ children o) (tags ++ own_tags o) k (node_at o (length os) (length tags))
made_now os tags k o stands = record {
  of = o;
  first = length os;
  at = length tags;
  stands = get_front os (children o) k o stands;
  behind = slice_get_within os k o stands;
  children_at = stands_last os (children o);
  tags_at = stands_last tags (own_tags o);
  is = refl;
}

built_more : (f : Form) (os : List Origin) (ns : List Node) (tags : List ℕ) (o : Origin)
    → AreBuilt f os ns tags → slice_get os (length ns) ≡ Some o
    → AreBuilt f (os ++ children o) (ns ++ node_at o (length os) (length tags) ∷ []) (tags ++ own_tags o)
built_more f os ns tags o h stands = record {
  root = get_front os (children o) 0 (value f) h.root;
  good = All-append IsGoodOrigin os (children o) h.good (good_children o (all_get IsGoodOrigin os (length ns) o h.good stands));
  within =
      let lt = slice_get_within os (length ns) o stands in
      omega (arith, length-append ns (node_at o (length os) (length tags) ∷ []), length-append os (children o));
  made = λ k n at. elim (get_pushed ns (node_at o (length os) (length tags)) k n at) [
    | inl old ↦ made_more os (children o) tags (own_tags o) k n (h.made k n old)
    | inr new ↦ rw (new.0, new.1) (made_now os tags (length ns) o stands)
  ];
}

-- the same, as a node says that it was made
pub built_next : (f : Form) (os new : List Origin) (ns : List Node) (tags new_tags : List ℕ) (o : Origin) (n : Node)
    → AreBuilt f os ns tags → slice_get os (length ns) ≡ Some o → Expands o os new tags new_tags n
    → AreBuilt f new (ns ++ n ∷ []) new_tags
built_next f os new ns tags new_tags o n h stands m = rw (m.made, m.children_last, m.tags_last) (built_more f os ns tags o h stands)

-- ---- from the list of sources

-- what stands where a source was found
pub source_at : (found sources : List Source) (i k : ℕ) (s : Source) → found ≡ sources → i ≡ k → i < length found → s ≡ get_or found i s
    → slice_get (origins sources) k ≡ Some (origin s)
source_at found sources i k s same place lt at =
    let here : slice_get sources k ≡ Some s = rw (← same, ← place) (slice_get_read found (length found) i s refl lt at) in
    slice_get-map origin sources k ∙ ap (option_map origin) here

-- where no source is left, all nodes are made
pub all_made : (f : Form) (found sources : List Source) (ns : List Node) (tags : List ℕ) (i : ℕ) → AreBuilt f (origins sources) ns tags
    → found ≡ sources → i ≡ length ns → length found ≤ i → length ns ≡ length (origins sources)
all_made f found sources ns tags i h same place over =
    let within : length ns ≤ length (origins sources) = h.within in
    omega (arith, within, ap length same, length-map sources origin)
