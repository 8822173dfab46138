-- The first fault of some nodes, and what an answer says of it.
use Rattle.std.proofs.Common.{◌≡◌, ℕ, zero, suc, ◌+◌, ◌<◌, ◌≤◌, inl, inr, ◌↔◌, List, [], ◌∷◌, ◌++◌, map, length, take, drop, slice_get, Some, Result, Ok, Err, IsOk, refl, sym, ap, ◌∙◌, subst, add-one, arith}
use Rattle.std.specs.List.{All}
use Rattle.std.proofs.lemmas.Bool.{cases_order}
use Rattle.std.specs.Option.{option_map}
use Rattle.std.proofs.lemmas.List.{length-map}
use Rattle.std.proofs.lemmas.Option.{slice_get-map}
use Rattle.std.proofs.lemmas.List.Elements.{All-nil, All-cons, All-head, All-tail, All-append}
use Rattle.bp_value.specs.declared.fault.ShapeFault.{ShapeFault}
use Rattle.bp_value.specs.declared.fault.ShapeFault.TheVariants.{TooDeep, EmptySum, ShortTuple, EmptyFields, TooMany, BadName, SameName, TagClash}
use Rattle.bp_value.specs.Form.{Form, Parts, named_parts, cases}
use Rattle.bp_value.specs.Limits.{deepest_shape}
use Rattle.bp_value.specs.Names.{IsShapeName, IsFirstBadName, IsFirstRepeat}
use Rattle.bp_value.proofs.Good.{root}
use Rattle.bp_value.specs.Faults.{nodes, part_nodes, case_nodes, names, tags, HasFault, number, IsFaultless, IsFaultOf, IsFirstIn, TellsNodes}
use Rattle.bp_value.proofs.FaultSteps.{all_at, too_deep}

-- ---- one first fault

pub taken : {A : Type 0} (n i : ℕ) (xs : List A) → i < n → slice_get (take n xs) i ≡ slice_get xs i
taken zero i xs lt = absurd (omega arith)
taken (suc n) i [] lt = refl
taken (suc n) zero (x ∷ xs) lt = refl
taken (suc n) (suc i) (x ∷ xs) lt = taken n i xs (omega arith)

first_bad_one : (ns : List (List ℕ)) (p q : ℕ) → IsFirstBadName ns p → IsFirstBadName ns q → p < q
    → ⊥
first_bad_one ns p q a b lt =
    a.bad (all_at IsShapeName (take q ns) p a.name b.good_before (taken q p ns lt ∙ a.stands))

first_repeat_second : {A : Type 0} (xs : List A) (i j k l : ℕ) → IsFirstRepeat xs i j
    → IsFirstRepeat xs k l → j ≡ l
first_repeat_second xs i j k l a b = elim (cases_order j l) [
  | inl e ↦ e
  | inr h ↦ elim h [
    | inl lt ↦ absurd (b.least_second i j a.before lt a.same)
    | inr lt ↦ absurd (a.least_second k l b.before lt b.same)
  ]
]

first_repeat_first : {A : Type 0} (xs : List A) (i j k l : ℕ) → IsFirstRepeat xs i j
    → IsFirstRepeat xs k l → j ≡ l → i ≡ k
first_repeat_first xs i j k l a b e = elim (cases_order i k) [
  | inl same ↦ same
  | inr h ↦ elim h [
    | inl lt ↦ absurd (b.least_first i lt (a.same ∙ ap (slice_get xs) e))
    | inr lt ↦ absurd (a.least_first k lt (b.same ∙ ap (slice_get xs) (sym e)))
  ]
]

first_bad_same : (ns : List (List ℕ)) (p q : ℕ) → IsFirstBadName ns p → IsFirstBadName ns q → p ≡ q
first_bad_same ns p q a b = elim (cases_order p q) [
  | inl e ↦ e
  | inr h ↦ elim h [
    | inl lt ↦ absurd (first_bad_one ns p q a b lt)
    | inr lt ↦ absurd (first_bad_one ns q p b a lt)
  ]
]

repeats_same : (make : ℕ → ℕ → ShapeFault) {A : Type 0} (xs : List A) (i j k l : ℕ)
    → IsFirstRepeat xs i j → IsFirstRepeat xs k l → make i j ≡ make k l
repeats_same make xs i j k l a b =
    let e = first_repeat_second xs i j k l a b in let f = first_repeat_first xs i j k l a b e in
    λ t. make (f t) (e t)

-- a node has at most one fault of a number
one_of_number : (d : ℕ) (f : Form) (x y : ShapeFault) → HasFault d f x → HasFault d f y
    → number x ≡ number y → x ≡ y
one_of_number d f (TooDeep a) (TooDeep b) h k e = ap TooDeep (h.0 ∙ sym k.0)
one_of_number d f (TooDeep a) y h k e = absurd (omega arith)
one_of_number d f EmptySum EmptySum h k e = refl
one_of_number d f EmptySum y h k e = absurd (omega arith)
one_of_number d f (ShortTuple a) (ShortTuple b) h k e = ap ShortTuple (h.1 ∙ sym k.1)
one_of_number d f (ShortTuple a) y h k e = absurd (omega arith)
one_of_number d f EmptyFields EmptyFields h k e = refl
one_of_number d f EmptyFields y h k e = absurd (omega arith)
one_of_number d f (TooMany a) (TooMany b) h k e = ap TooMany (h.0 ∙ sym k.0)
one_of_number d f (TooMany a) y h k e = absurd (omega arith)
one_of_number d f (BadName a) (BadName b) h k e = ap BadName (first_bad_same (names f) a b h k)
one_of_number d f (BadName a) y h k e = absurd (omega arith)
one_of_number d f (SameName a b) (SameName a' b') h k e =
    repeats_same SameName (names f) a b a' b' h k
one_of_number d f (SameName a b) y h k e = absurd (omega arith)
one_of_number d f (TagClash a b) (TagClash a' b') h k e =
    repeats_same TagClash (tags f) a b a' b' h k
one_of_number d f (TagClash a b) y h k e = absurd (omega arith)

pub one_fault : (n : ℕ × Form) (x y : ShapeFault) → IsFaultOf n x → IsFaultOf n y → x ≡ y
one_fault n x y h k = elim (cases_order (number x) (number y)) [
  | inl e ↦ one_of_number n.0 n.1 x y h.0 k.0 e
  | inr o ↦ elim o [ inl lt ↦ absurd (k.1 x lt h.0) | inr lt ↦ absurd (h.1 y lt k.0) ]
]

pub one_first : (ns : List (ℕ × Form)) (x y : ShapeFault) → IsFirstIn ns x → IsFirstIn ns y → x ≡ y
one_first [] x y h k = absurd h
one_first (n ∷ ns) x y (inl h) (inl k) = one_fault n x y h k
one_first (n ∷ ns) x y (inl h) (inr k) = absurd (k.0 x h.0)
one_first (n ∷ ns) x y (inr h) (inl k) = absurd (h.0 y k.0)
one_first (n ∷ ns) x y (inr h) (inr k) = one_first ns x y h.1 k.1

pub not_both : (ns : List (ℕ × Form)) (x : ShapeFault) → All IsFaultless ns → IsFirstIn ns x → ⊥
not_both [] x all h = h
not_both (n ∷ ns) x all (inl h) = All-head IsFaultless n ns all x h.0
not_both (n ∷ ns) x all (inr h) = not_both ns x (All-tail IsFaultless n ns all) h.1

-- ---- what an answer tells

pub tells_good : (ns : List (ℕ × Form)) (r : Result (Unit {0}) ShapeFault) → TellsNodes ns r
    → (IsOk r ↔ All IsFaultless ns)
tells_good ns (Ok u) h = (λ t. h, λ all. refl)
tells_good ns (Err x) h = (λ t. absurd cc, λ all. absurd (not_both ns x all h))

pub tells_fault : (ns : List (ℕ × Form)) (r : Result (Unit {0}) ShapeFault) → TellsNodes ns r
    → (x : ShapeFault) → ((r ≡ Err x) ↔ IsFirstIn ns x)
tells_fault ns (Ok u) h x = (λ e. absurd cc, λ f. absurd (not_both ns x h f))
tells_fault ns (Err y) h x =
    (λ e. let same : y ≡ x = cc in subst (IsFirstIn ns) same h, λ f. ap Err (one_first ns y x h f))

pub node_tells : (n : ℕ × Form) (ns : List (ℕ × Form)) (r : Result (Unit {0}) ShapeFault)
    → IsFaultless n → TellsNodes ns r → TellsNodes (n ∷ ns) r
node_tells n ns (Ok u) less h = All-cons IsFaultless n ns less h
node_tells n ns (Err x) less h = inr (less, h)

first_left : (xs ys : List (ℕ × Form)) (x : ShapeFault) → IsFirstIn xs x → IsFirstIn (xs ++ ys) x
first_left [] ys x h = absurd h
first_left (n ∷ xs) ys x (inl h) = inl h
first_left (n ∷ xs) ys x (inr h) = inr (h.0, first_left xs ys x h.1)

first_right : (xs ys : List (ℕ × Form)) (x : ShapeFault) → All IsFaultless xs → IsFirstIn ys x
    → IsFirstIn (xs ++ ys) x
first_right [] ys x all h = h
first_right (n ∷ xs) ys x all h =
    inr (All-head IsFaultless n xs all, first_right xs ys x (All-tail IsFaultless n xs all) h)

-- what is left tells what the whole tells
abbrev pub Leads : List (ℕ × Form) → List (ℕ × Form) → Type 0
Leads left whole =
    (All IsFaultless left → All IsFaultless whole)
    × ((x : ShapeFault) → IsFirstIn left x → IsFirstIn whole x)

pub leads_self : (ns : List (ℕ × Form)) → Leads ns ns
leads_self ns = (λ all. all, λ x h. h)

module _ (left here rest whole : List (ℕ × Form)) (split : left ≡ here ++ rest)
    (leads : Leads left whole) where
  pub leads_on : All IsFaultless here → Leads rest whole
  leads_on all = (
    λ less. leads.0 (rw split (All-append IsFaultless here rest all less)),
    λ x h. leads.1 x (rw split (first_right here rest x all h)),
  )

  pub leads_out : (x : ShapeFault) → IsFirstIn here x → IsFirstIn whole x
  leads_out x h = leads.1 x (rw split (first_left here rest x h))

pub leads_end : (left whole : List (ℕ × Form)) → left ≡ [] → Leads left whole
    → All IsFaultless whole
leads_end left whole e leads = leads.0 (rw e (All-nil IsFaultless))

-- ---- the nodes of parts and of cases, one by one

some_same : {A : Type 0} (x y : A) → Some x ≡ Some y → x ≡ y
some_same x y e = cc

pub parts_split : (d i : ℕ) (ps : List (List ℕ × Form)) (p : List ℕ × Form)
    → slice_get ps i ≡ Some p
    → part_nodes d (named_parts (drop i ps))
    ≡ nodes d p.1 ++ part_nodes d (named_parts (drop (suc i) ps))
unfolding part_nodes
parts_split d i [] p e = absurd cc
parts_split d zero (q ∷ ps) p e =
    ap (λ x. nodes d x.1 ++ part_nodes d (named_parts ps)) (some_same q p e)
parts_split d (suc i) (q ∷ ps) p e = parts_split d i ps p e

pub parts_past : (d i : ℕ) (ps : List (List ℕ × Form)) → length ps ≤ i
    → part_nodes d (named_parts (drop i ps)) ≡ []
unfolding part_nodes
parts_past d zero [] h = refl
parts_past d zero (p ∷ ps) h = absurd (omega arith)
parts_past d (suc i) [] h = refl
parts_past d (suc i) (p ∷ ps) h = parts_past d i ps (omega arith)

pub cases_split : (d i : ℕ) (cs : List (List ℕ × Parts)) (c : List ℕ × Parts)
    → slice_get cs i ≡ Some c
    → case_nodes d (cases (drop i cs)) ≡ part_nodes d c.1 ++ case_nodes d (cases (drop (suc i) cs))
unfolding case_nodes
cases_split d i [] c e = absurd cc
cases_split d zero (q ∷ cs) c e =
    ap (λ x. part_nodes d x.1 ++ case_nodes d (cases cs)) (some_same q c e)
cases_split d (suc i) (q ∷ cs) c e = cases_split d i cs c e

pub cases_past : (d i : ℕ) (cs : List (List ℕ × Parts)) → length cs ≤ i
    → case_nodes d (cases (drop i cs)) ≡ []
unfolding case_nodes
cases_past d zero [] h = refl
cases_past d zero (c ∷ cs) h = absurd (omega arith)
cases_past d (suc i) [] h = refl
cases_past d (suc i) (c ∷ cs) h = cases_past d i cs (omega arith)

-- ---- loops over parts and over cases

module _ (d : ℕ) {A : Type 0} (g : A → List ℕ × Form) (xs : List A) (i : ℕ)
    (leads : Leads (part_nodes d (named_parts (drop i (map g xs))))
    (part_nodes d (named_parts (map g xs)))) where
  pub parts_over : length xs ≤ i → All IsFaultless (part_nodes d (named_parts (map g xs)))
  parts_over past = leads_end _ _ (parts_past d i (map g xs) (rw (length-map xs g) past)) leads

  module _ (x : A) (at_x : slice_get xs i ≡ Some x) where
    split_part : part_nodes d (named_parts (drop i (map g xs)))
        ≡ nodes d (g x).1 ++ part_nodes d (named_parts (drop (suc i) (map g xs)))
    split_part = parts_split d i (map g xs) (g x) (slice_get-map g xs i ∙ ap (option_map g) at_x)

    pub parts_on : All IsFaultless (nodes d (g x).1)
        → Leads (part_nodes d (named_parts (drop (i + 1) (map g xs))))
        (part_nodes d (named_parts (map g xs)))
    parts_on all = rw add-one (leads_on _ _ _ _ split_part leads all)

    pub parts_out : (y : ShapeFault) → IsFirstIn (nodes d (g x).1) y
        → IsFirstIn (part_nodes d (named_parts (map g xs))) y
    parts_out y h = leads_out _ _ _ _ split_part leads y h

module _ (d : ℕ) {A : Type 0} (g : A → List ℕ × Parts) (xs : List A) (i : ℕ)
    (leads : Leads (case_nodes d (cases (drop i (map g xs))))
    (case_nodes d (cases (map g xs)))) where
  pub cases_over : length xs ≤ i → All IsFaultless (case_nodes d (cases (map g xs)))
  cases_over past = leads_end _ _ (cases_past d i (map g xs) (rw (length-map xs g) past)) leads

  module _ (x : A) (at_x : slice_get xs i ≡ Some x) where
    split_case : case_nodes d (cases (drop i (map g xs)))
        ≡ part_nodes d (g x).1 ++ case_nodes d (cases (drop (suc i) (map g xs)))
    split_case = cases_split d i (map g xs) (g x) (slice_get-map g xs i ∙ ap (option_map g) at_x)

    pub cases_on : All IsFaultless (part_nodes d (g x).1)
        → Leads (case_nodes d (cases (drop (i + 1) (map g xs)))) (case_nodes d (cases (map g xs)))
    cases_on all = rw add-one (leads_on _ _ _ _ split_case leads all)

    pub cases_out : (y : ShapeFault) → IsFirstIn (part_nodes d (g x).1) y
        → IsFirstIn (case_nodes d (cases (map g xs))) y
    cases_out y h = leads_out _ _ _ _ split_case leads y h

pub bare_good : (d : ℕ) (f : Form) → IsFaultless (d, f) → All IsFaultless ((d, f) ∷ [])
bare_good d f less = All-cons IsFaultless (d, f) [] less (All-nil IsFaultless)

-- the root is the first node
pub deep_first : (d : ℕ) (f : Form) → deepest_shape < d → IsFirstIn (nodes d f) (TooDeep d)
deep_first d f lt = let r = root d f in rw r.1 (inl (too_deep d f lt))
