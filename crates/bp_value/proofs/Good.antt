-- What a good shape gives to those that go down it: bounds, names and tags at a node, and good
-- children.
use Rattle.std.proofs.Common.{◌≡◌, ℕ, zero, suc, ◌+◌, ◌<◌, ◌≤◌, ◌⊎◌, inl, inr, List, [], ◌∷◌, ◌++◌, map, length, take, get_or, slice_get, Some, refl, subst, add-one, arith}
use Rattle.std.specs.List.{All}
use Rattle.std.proofs.lemmas.Bool.{cases_lt, cases_order}
use Rattle.std.proofs.lemmas.List.{take_all, length-map}
use Rattle.std.proofs.lemmas.List.Elements.{All-nil, All-cons, All-head, All-tail, All-more}
use Rattle.std.proofs.lemmas.Option.{slice_get-get_or}
use Rattle.bp_value.specs.declared.fault.ShapeFault.TheVariants.{TooDeep, EmptySum, ShortTuple, EmptyFields, TooMany, BadName, SameName, TagClash}
use Rattle.bp_value.specs.Form.{Form, Parts, Cases, unit, bool, char, int, int32, int64, text, opt, listed, tuple, fields, sum, poly, sexp, part, case, named_parts, cases}
use Rattle.bp_value.specs.Tags.{tag_of}
use Rattle.bp_value.specs.Limits.{deepest_shape, most_members, longest_name}
use Rattle.bp_value.specs.Names.{IsShapeName, IsNameStart, IsNameByte, IsFirstBadName, IsDistinct}
use Rattle.bp_value.proofs.Distinct.{distinct}
use Rattle.bp_value.specs.Faults.{nodes, part_nodes, case_nodes, member_count, names, tags, IsTuple, IsRecord, IsVariant, IsFaultless, IsGood, part_names, case_names}

abbrev pub AreGood : List (ℕ × Form) → Type 0
AreGood ns = All IsFaultless ns

pub good_root : (f : Form) → IsGood f → AreGood (nodes 1 f)
unfolding IsGood
good_root f good = good

-- ---- down a shape

front_good : (xs ys : List (ℕ × Form)) → AreGood (xs ++ ys) → AreGood xs
front_good [] ys all = All-nil IsFaultless
front_good (x ∷ xs) ys all =
    All-cons IsFaultless x xs (All-head IsFaultless x (xs ++ ys) all)
    (front_good xs ys (All-tail IsFaultless x (xs ++ ys) all))

back_good : (xs ys : List (ℕ × Form)) → AreGood (xs ++ ys) → AreGood ys
back_good [] ys all = all
back_good (x ∷ xs) ys all = back_good xs ys (All-tail IsFaultless x (xs ++ ys) all)

-- a node is the first of its nodes
pub root : (d : ℕ) (f : Form) → (rest : List (ℕ × Form)) × (nodes d f ≡ (d, f) ∷ rest)
unfolding nodes
root d unit = ([], refl)
root d bool = ([], refl)
root d char = ([], refl)
root d int = ([], refl)
root d int32 = ([], refl)
root d int64 = ([], refl)
root d text = ([], refl)
root d (opt f) = (nodes (d + 1) f, refl)
root d (listed f) = (nodes (d + 1) f, refl)
root d (tuple fs) = (part_nodes (d + 1) fs, refl)
root d (fields fs) = (part_nodes (d + 1) fs, refl)
root d (sum cs) = (case_nodes (d + 1) cs, refl)
root d (poly cs) = (case_nodes (d + 1) cs, refl)
root d sexp = ([], refl)

pub good_node : (d : ℕ) (f : Form) → AreGood (nodes d f) → IsFaultless (d, f)
good_node d f all = let r = root d f in All-head IsFaultless (d, f) r.0 (subst AreGood r.1 all)

pub good_opt : (d : ℕ) (f : Form) → AreGood (nodes d (opt f)) → AreGood (nodes (d + 1) f)
unfolding nodes
good_opt d f all = All-tail IsFaultless (d, opt f) (nodes (d + 1) f) all

pub good_listed : (d : ℕ) (f : Form) → AreGood (nodes d (listed f)) → AreGood (nodes (d + 1) f)
unfolding nodes
good_listed d f all = All-tail IsFaultless (d, listed f) (nodes (d + 1) f) all

pub good_tuple : (d : ℕ) (fs : Parts) → AreGood (nodes d (tuple fs))
    → AreGood (part_nodes (d + 1) fs)
unfolding nodes
good_tuple d fs all = All-tail IsFaultless (d, tuple fs) (part_nodes (d + 1) fs) all

pub good_fields : (d : ℕ) (fs : Parts) → AreGood (nodes d (fields fs))
    → AreGood (part_nodes (d + 1) fs)
unfolding nodes
good_fields d fs all = All-tail IsFaultless (d, fields fs) (part_nodes (d + 1) fs) all

pub good_sum : (d : ℕ) (cs : Cases) → AreGood (nodes d (sum cs)) → AreGood (case_nodes (d + 1) cs)
unfolding nodes
good_sum d cs all = All-tail IsFaultless (d, sum cs) (case_nodes (d + 1) cs) all

pub good_poly : (d : ℕ) (cs : Cases) → AreGood (nodes d (poly cs)) → AreGood (case_nodes (d + 1) cs)
unfolding nodes
good_poly d cs all = All-tail IsFaultless (d, poly cs) (case_nodes (d + 1) cs) all

pub good_part : (d : ℕ) (name : List ℕ) (f : Form) (fs : Parts)
    → AreGood (part_nodes d (part name f fs)) → AreGood (nodes d f) × AreGood (part_nodes d fs)
unfolding part_nodes
good_part d name f fs all =
    (front_good (nodes d f) (part_nodes d fs) all, back_good (nodes d f) (part_nodes d fs) all)

pub good_case : (d : ℕ) (name : List ℕ) (fs : Parts) (cs : Cases)
    → AreGood (case_nodes d (case name fs cs))
    → AreGood (part_nodes d fs) × AreGood (case_nodes d cs)
unfolding case_nodes
good_case d name fs cs all = (
  front_good (part_nodes d fs) (case_nodes d cs) all,
  back_good (part_nodes d fs) (case_nodes d cs) all,
)

-- the part at a place, and the case at a place
pub good_part_at : (d i : ℕ) (ps : List (List ℕ × Form)) (p : List ℕ × Form)
    → slice_get ps i ≡ Some p
    → AreGood (part_nodes d (named_parts ps)) → AreGood (nodes d p.1)
good_part_at d i [] p e all = absurd cc
good_part_at d zero (q ∷ ps) p e all =
    let same : q ≡ p = cc in
    subst (λ x. AreGood (nodes d x.1)) same (good_part d q.0 q.1 (named_parts ps) all).0
good_part_at d (suc i) (q ∷ ps) p e all =
    good_part_at d i ps p e (good_part d q.0 q.1 (named_parts ps) all).1

pub good_case_at : (d i : ℕ) (cs : List (List ℕ × Parts)) (c : List ℕ × Parts)
    → slice_get cs i ≡ Some c
    → AreGood (case_nodes d (cases cs)) → AreGood (part_nodes d c.1)
good_case_at d i [] c e all = absurd cc
good_case_at d zero (q ∷ cs) c e all =
    let same : q ≡ c = cc in
    subst (λ x. AreGood (part_nodes d x.1)) same (good_case d q.0 q.1 (cases cs) all).0
good_case_at d (suc i) (q ∷ cs) c e all =
    good_case_at d i cs c e (good_case d q.0 q.1 (cases cs) all).1

-- ---- lists of names

either : {A B : Type 0} → A ⊎ (A → ⊥) → B ⊎ (B → ⊥) → (A ⊎ B) ⊎ (A ⊎ B → ⊥)
either (inl a) b = inl (inl a)
either (inr a) (inl b) = inl (inr b)
either (inr a) (inr b) = inr (λ h. elim h [ inl x ↦ a x | inr y ↦ b y ])

between : (low high n : ℕ) → ((low ≤ n) × (n ≤ high)) ⊎ ((low ≤ n) × (n ≤ high) → ⊥)
between low high n = elim (cases_lt n low) [
  | inl lt ↦ inr (λ h. let a : low ≤ n = h.0 in omega arith)
  | inr ge ↦ elim (cases_lt high n) [
    | inl lt ↦ inr (λ h. let b : n ≤ high = h.1 in omega arith)
    | inr le ↦ inl (ge, le)
  ]
]

equal : (m n : ℕ) → (m ≡ n) ⊎ (m ≡ n → ⊥)
equal m n = elim (cases_order m n) [
  | inl e ↦ inl e
  | inr h ↦ inr (λ e. elim h [ inl lt ↦ omega arith | inr lt ↦ omega arith ])
]

decided_start : (b : ℕ) → IsNameStart b ⊎ (IsNameStart b → ⊥)
decided_start b = either (between 97 122 b) (either (between 65 90 b) (equal b 95))

decided_byte : (b : ℕ) → IsNameByte b ⊎ (IsNameByte b → ⊥)
decided_byte b = either (decided_start b) (either (between 48 57 b) (equal b 39))

decided_bytes : (s : List ℕ) → All IsNameByte s ⊎ (All IsNameByte s → ⊥)
decided_bytes [] = inl (All-nil IsNameByte)
decided_bytes (b ∷ s) = elim (decided_byte b) [
  | inr other ↦ inr (λ all. other (All-head IsNameByte b s all))
  | inl is ↦ elim (decided_bytes s) [
    | inl all ↦ inl (All-cons IsNameByte b s is all)
    | inr others ↦ inr (λ all. others (All-tail IsNameByte b s all))
  ]
]

pub decided_name : (s : List ℕ) → IsShapeName s ⊎ (IsShapeName s → ⊥)
decided_name [] = inr (λ h. h)
decided_name (b ∷ s) = elim (decided_start b) [
  | inr other ↦ inr (λ h. other h.0)
  | inl is ↦ elim (cases_lt (length s) longest_name) [
    | inr long ↦ inr (λ h. let short : length s < longest_name = h.1 in omega arith)
    | inl short ↦ elim (decided_bytes s) [
      | inl all ↦ inl (is, short, all)
      | inr others ↦ inr (λ h. others h.2)
    ]
  ]
]

-- where nothing is the first bad name, all are names
module _ (ns : List (List ℕ)) (none : (p : ℕ) → IsFirstBadName ns p → ⊥) where
  names_below : (n : ℕ) → n ≤ length ns → All IsShapeName (take n ns)
  names_below zero in_list = All-nil IsShapeName
  names_below (suc n) in_list =
      let before = names_below n (omega arith) in elim (decided_name (get_or ns n [])) [
        | inl is ↦ rw (← add-one n) (All-more IsShapeName ns n [] (omega arith) before is)
        | inr other ↦ absurd (none n (record {
          name = get_or ns n [];
          stands = slice_get-get_or ns n [] (omega arith);
          bad = other;
          good_before = before;
        }))
      ]

  pub all_names : All IsShapeName ns
  all_names =
      let e : take (length ns) ns ≡ ns = take_all (length ns) ns (omega arith) in
      subst (All IsShapeName) e (names_below (length ns) (omega arith))

-- ---- at one node

module _ (d : ℕ) (f : Form) (less : IsFaultless (d, f)) where
  pub shallow : d ≤ deepest_shape
  shallow = elim (cases_lt deepest_shape d) [
    | inl deep ↦ absurd (less (TooDeep d) (refl, deep))
    | inr le ↦ le
  ]

  pub few_members : member_count f ≤ most_members
  few_members = elim (cases_lt most_members (member_count f)) [
    | inl many ↦ absurd (less (TooMany (member_count f)) (refl, many))
    | inr le ↦ le
  ]

  pub some_cases : IsVariant f → 0 < member_count f
  some_cases variant = elim (cases_lt 0 (member_count f)) [
    | inl some ↦ some
    | inr none ↦ absurd (less EmptySum (variant, omega arith))
  ]

  pub two_parts : IsTuple f → 2 ≤ member_count f
  two_parts pair = elim (cases_lt (member_count f) 2) [
    | inl short ↦ absurd (less (ShortTuple (member_count f)) (pair, refl, short))
    | inr le ↦ le
  ]

  pub some_fields : IsRecord f → 0 < member_count f
  some_fields named = elim (cases_lt 0 (member_count f)) [
    | inl some ↦ some
    | inr none ↦ absurd (less EmptyFields (named, omega arith))
  ]

  pub good_names : All IsShapeName (names f)
  good_names = all_names (names f) (λ p bad. less (BadName p) bad)

  pub distinct_names : IsDistinct (names f)
  distinct_names = distinct (names f) (λ i j same. less (SameName i j) same)

  pub distinct_tags : IsDistinct (tags f)
  distinct_tags = distinct (tags f) (λ i j clash. less (TagClash i j) clash)

-- ---- how many members a good node has

pub case_names-cases : (cs : List (List ℕ × Parts)) → case_names (cases cs) ≡ map (λ c. c.0) cs
case_names-cases [] = refl
case_names-cases (c ∷ cs) = λ i. c.0 ∷ case_names-cases cs i

pub part_names-named_parts : (ps : List (List ℕ × Form))
    → part_names (named_parts ps) ≡ map (λ p. p.0) ps
part_names-named_parts [] = refl
part_names-named_parts (p ∷ ps) = λ i. p.0 ∷ part_names-named_parts ps i

-- the cases of a variant are some, and few
module _ (d : ℕ) (cs : List (List ℕ × Parts)) where
  count_is : length (case_names (cases cs)) ≡ length cs
  count_is = rw (case_names-cases cs) (length-map cs (λ c. c.0))

  pub sum_count : IsFaultless (d, sum (cases cs)) → (0 < length cs) × (length cs ≤ most_members)
  sum_count less =
      rw (← count_is) (some_cases d (sum (cases cs)) less tt, few_members d (sum (cases cs)) less)

  pub poly_count : IsFaultless (d, poly (cases cs)) → (0 < length cs) × (length cs ≤ most_members)
  poly_count less =
      rw (← count_is) (some_cases d (poly (cases cs)) less tt, few_members d (poly (cases cs)) less)

-- the cases of a polymorphic variant have tags of their own
tags_are : (cs : List (List ℕ × Parts))
    → map tag_of (case_names (cases cs)) ≡ map (λ c. tag_of c.0) cs
tags_are [] = refl
tags_are (c ∷ cs) = λ i. tag_of c.0 ∷ tags_are cs i

pub poly_distinct : (d : ℕ) (cs : List (List ℕ × Parts)) → IsFaultless (d, poly (cases cs))
    → IsDistinct (map (λ c. tag_of c.0) cs)
poly_distinct d cs less = subst IsDistinct (tags_are cs) (distinct_tags d (poly (cases cs)) less)

-- the parts of a tuple are two or more, the fields of a record one or more, and both few
module _ (d : ℕ) (ps : List (List ℕ × Form)) where
  size_is : length (part_names (named_parts ps)) ≡ length ps
  size_is = rw (part_names-named_parts ps) (length-map ps (λ p. p.0))

  pub tuple_count : IsFaultless (d, tuple (named_parts ps))
      → (2 ≤ length ps) × (length ps ≤ most_members)
  tuple_count less =
      rw (← size_is) (
        two_parts d (tuple (named_parts ps)) less tt,
        few_members d (tuple (named_parts ps)) less,
      )

  pub fields_count : IsFaultless (d, fields (named_parts ps))
      → (0 < length ps) × (length ps ≤ most_members)
  fields_count less =
      rw (← size_is) (
        some_fields d (fields (named_parts ps)) less tt,
        few_members d (fields (named_parts ps)) less,
      )
