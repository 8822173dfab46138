-- The choice of a version, with one entry of the menu more; and places in lists.
use Rattle.std.proofs.Common.{◌≡◌, refl, sym, ap, ◌∙◌, subst, ℕ, zero, suc, ◌+◌, ◌<◌, ◌≤◌, ℤ, ◌≤ℤ◌, List, [], ◌∷◌, ◌++◌, length, get_or, take, slice_get, map, Option, Some, None, ◌⊎◌, inl, inr, arith}
use Rattle.std.specs.List.{Contains, filter}
use Rattle.std.proofs.lemmas.List.{map-append, take_more}
use Rattle.std.proofs.lemmas.List.Elements.{filter-append}
use Rattle.std.proofs.lemmas.Int.{ints}
use Rattle.std.specs.Ordering.{int_cmp}
use Rattle.std.proofs.lemmas.Cmp.{by_ranked, int_ranked}
use Rattle.std.proofs.lemmas.Option.{slice_get-get_or, slice_get_within}
use Rattle.std.proofs.lemmas.Bool.{cases_lt}
use Rattle.rpc_schema.specs.declared.desc.Entry.{Entry}
use Rattle.rpc_schema.specs.declared.desc.Listing.{Listing}
use Rattle.rpc_schema.specs.declared.desc.Side.{Side}
use Rattle.rpc_schema.specs.Entries.{listing_of}
use Rattle.rpc_schema.specs.Choice.{is_offered, offered, IsSought, StandsAt, IsCommon, IsBest, IsChoice, IsAtLeast}

-- ---- places

pub stands_here : (es : List Entry) (p : ℕ) (e : Entry) (name : List ℕ) (version w : ℤ) (side : Side) → p < length es → e ≡ get_or es p e → w ≡ version
    → IsSought name w side e → StandsAt es name version side p
stands_here es p e name version w side within is same sought =
    (e, slice_get-get_or es p e within ∙ ap Some (sym is), subst (λ z. IsSought name z side e) same sought)

-- no entry before the next place is the one that is sought
pub stands_later : (es : List Entry) (p : ℕ) (e : Entry) (name : List ℕ) (w : ℤ) (side : Side) → p < length es → e ≡ get_or es p e
    → (IsSought name w side e → ⊥) → ((q : ℕ) → q < p → StandsAt es name w side q → ⊥) → (q : ℕ) → q < p + 1 → StandsAt es name w side q → ⊥
stands_later es p e name w side within is other before q less (f, at, sought) = elim (cases_lt q p) [
  | inl earlier ↦ before q earlier (f, at, sought)
  | inr ge ↦
      let here : q ≡ p = omega arith in
      let there : slice_get es p ≡ Some e = slice_get-get_or es p e within ∙ ap Some (sym is) in
      let same : Some f ≡ Some e = sym at ∙ (ap (slice_get es) here ∙ there) in
      other (subst (λ (z : Entry). IsSought name w side z) (some_is f e same) sought)
] where
  some_is : (a b : Entry) → Some a ≡ Some b → a ≡ b
  some_is a b e = cc

pub stands_nowhere : (es : List Entry) (p : ℕ) (name : List ℕ) (version w : ℤ) (side : Side) → length es ≤ p → w ≡ version
    → ((q : ℕ) → q < p → StandsAt es name w side q → ⊥) → (q : ℕ) → StandsAt es name version side q → ⊥
stands_nowhere es p name version w side past same none q (f, at, sought) =
    none q (let within : q < length es = slice_get_within es q f at in omega arith) (f, at, subst (λ z. IsSought name z side f) (sym same) sought)

-- ---- what a longer list contains

contains_more : {A : Type 0} (xs : List A) (y x : A) → Contains xs x → Contains (xs ++ y ∷ []) x
contains_more [] y x (k, within, is) = absurd (let n : k < 0 = within in omega arith)
contains_more (z ∷ xs) y x (zero, within, is) = (0, omega arith, is)
contains_more (z ∷ xs) y x (suc k, within, is) =
    let less : k < length xs = (let m : suc k < suc (length xs) = within in omega arith) in
    let (j, below, at) = contains_more xs y x (k, less, is) in
    (suc j, (let m : j < length (xs ++ y ∷ []) = below in omega arith), at)

contains_last : {A : Type 0} (xs : List A) (y : A) → Contains (xs ++ y ∷ []) y
contains_last [] y = (0, omega arith, refl)
contains_last (z ∷ xs) y =
    let (j, below, at) = contains_last xs y in (suc j, (let m : j < length (xs ++ y ∷ []) = below in omega arith), at)

contains_either : {A : Type 0} (xs : List A) (y x : A) → Contains (xs ++ y ∷ []) x → Contains xs x ⊎ (y ≡ x)
contains_either [] y x (zero, within, is) = inr is
contains_either [] y x (suc k, within, is) = absurd (let m : suc k < 1 = within in omega arith)
contains_either (z ∷ xs) y x (zero, within, is) = inl (0, omega arith, is)
contains_either (z ∷ xs) y x (suc k, within, is) =
    let less : k < length (xs ++ y ∷ []) = (let m : suc k < suc (length (xs ++ y ∷ [])) = within in omega arith) in
    elim (contains_either xs y x (k, less, is)) [
      | inl (j, below, at) ↦ inl (suc j, (let m : j < length xs = below in omega arith), at)
      | inr same ↦ inr same
    ]

-- ---- choices

more_common : (own : List ℤ) (before : List Listing) (l : Listing) (name : List ℕ) (v : ℤ) → IsCommon own before name v
    → IsCommon own (before ++ l ∷ []) name v
more_common own before l name v (mine, listed) = (mine, contains_more before l (record { name = name; version = v }) listed)

-- a common version of the longer menu is one of the shorter, or that of the last entry
common_either : (own : List ℤ) (before : List Listing) (l : Listing) (name : List ℕ) (v : ℤ) → IsCommon own (before ++ l ∷ []) name v
    → IsCommon own before name v ⊎ ((l.name ≡ name) × (l.version ≡ v) × Contains own v)
common_either own before l name v (mine, listed) = elim (contains_either before l (record { name = name; version = v }) listed) [
  | inl earlier ↦ inl (mine, earlier)
  | inr last ↦ inr (ap (λ (z : Listing). z.name) last, ap (λ (z : Listing). z.version) last, mine)
]

pub choice_same : (own : List ℤ) (before : List Listing) (l : Listing) (name : List ℕ) (best : Option ℤ)
    → ((l.name ≡ name) × Contains own l.version → ⊥) → IsChoice own before name best → IsChoice own (before ++ l ∷ []) name best
choice_same own before l name None other none = λ v common. elim (common_either own before l name v common) [
  | inl earlier ↦ none v earlier
  | inr (same, is, mine) ↦ other (same, subst (λ z. Contains own z) (sym is) mine)
]
choice_same own before l name (Some b) other is = record {
  common = more_common own before l name b is.common;
  greatest = λ v common. elim (common_either own before l name v common) [
    | inl earlier ↦ is.greatest v earlier
    | inr (same, at, mine) ↦ absurd (other (same, subst (λ z. Contains own z) (sym at) mine))
  ];
}

-- the last entry is a candidate, and no greater than the choice so far; or there is none so far, or it is less
pub choice_kept : (own : List ℤ) (before : List Listing) (l : Listing) (name : List ℕ) (b : ℤ) → l.version ≤ℤ b → IsChoice own before name (Some b)
    → IsChoice own (before ++ l ∷ []) name (Some b)
choice_kept own before l name b above is = record {
  common = more_common own before l name b is.common;
  greatest = λ v common. elim (common_either own before l name v common) [
    | inl earlier ↦ is.greatest v earlier
    | inr (named, at, there) ↦ subst (λ z. z ≤ℤ b) at above
  ];
}

pub choice_at_least : (own : List ℤ) (before : List Listing) (l : Listing) (name : List ℕ) (best : Option ℤ) → IsAtLeast best l.version
    → IsChoice own before name best → IsChoice own (before ++ l ∷ []) name best
choice_at_least own before l name None least is = absurd least
choice_at_least own before l name (Some b) least is = choice_kept own before l name b least is

pub choice_new : (own : List ℤ) (before : List Listing) (l : Listing) (name : List ℕ) (best : Option ℤ) → (l.name ≡ name) × Contains own l.version
    → (IsAtLeast best l.version → ⊥) → IsChoice own before name best → IsBest own (before ++ l ∷ []) name l.version
choice_new own before l name best (same, mine) more is = record {
  common = (mine, subst (λ n. Contains (before ++ l ∷ []) (record { name = n; version = l.version })) same (contains_last before l));
  greatest = λ v common. elim (common_either own before l name v common) [
    | inl earlier ↦ below best more is v earlier
    | inr (named, at, there) ↦ subst (λ z. z ≤ℤ l.version) at (itself l.version)
  ];
} where
  itself : (z : ℤ) → z ≤ℤ z
  itself z = omega (arith, ints)

  below : (o : Option ℤ) → (IsAtLeast o l.version → ⊥) → IsChoice own before name o → (v : ℤ) → IsCommon own before name v → v ≤ℤ l.version
  below None less none v common = absurd (none v common)
  below (Some b) less best v common =
      by_ranked _ _ _ (int_cmp l.version b) (int_ranked l.version b (int_cmp l.version b) refl)
      (λ e lt. absurd (less (omega (arith, ints, lt))))
      (λ e same. absurd (less (subst (λ z. l.version ≤ℤ z) same (itself l.version))))
      (λ e gt. omega (arith, ints, best.greatest v common, gt))

-- ---- menus

-- one entry more
pub offered_more : (es : List Entry) (i : ℕ) (d : Entry) → i < length es
    → offered (take (i + 1) es) ≡ offered (take i es) ++ offered (get_or es i d ∷ [])
offered_more es i d within =
    ap offered (take_more es i d within)
    ∙ (ap (map listing_of) (filter-append (λ (e : Entry). is_offered e.side) (take i es) (get_or es i d ∷ []))
    ∙ map-append listing_of (filter (λ (e : Entry). is_offered e.side) (take i es)) (filter (λ (e : Entry). is_offered e.side) (get_or es i d ∷ [])))
