-- The faults of one node.
use Rattle.std.proofs.Common.{◌≡◌, ℕ, ◌<◌, ◌≤◌, inl, inr, List, [], length, slice_get, Some, Result, Ok, Err, Bool, false, refl, sym, ◌∙◌, subst, arith}
use Rattle.std.specs.List.{All}
use lib.Dec.{eqb}
use Rattle.std.proofs.lemmas.Bool.{cases_lt, eqb-false}
use Rattle.std.proofs.lemmas.Option.{slice_get_within, get_or_from_slice_get}
use Rattle.std.proofs.lemmas.List.Elements.{All-get_or, All-nil}
use Rattle.bp_value.specs.declared.fault.ShapeFault.{ShapeFault}
use Rattle.bp_value.specs.declared.fault.ShapeFault.TheVariants.{TooDeep, EmptySum, ShortTuple, EmptyFields, TooMany, BadName, SameName, TagClash}
use Rattle.bp_value.specs.Form.{Form, Parts, tuple}
use Rattle.bp_value.specs.Limits.{deepest_shape, most_members}
use Rattle.bp_value.specs.Names.{IsShapeName, IsFirstBadName, IsDistinct, IsFirstRepeat}
use Rattle.bp_value.proofs.Distinct.{none_distinct}
use Rattle.bp_value.specs.Faults.{member_count, names, tags, IsTuple, IsRecord, IsVariant, HasFault, number, IsFaultless, IsFaultOf, TellsNode, TellsCount, TellsNames, IsFaultOfNames, part_names}

pub all_at : {A : Type 0} (P : A → Type 0) (xs : List A) (i : ℕ) (x : A) → All P xs
    → slice_get xs i ≡ Some x → P x
all_at P xs i x all e =
    subst P (get_or_from_slice_get xs i x x e) (All-get_or P xs i x (slice_get_within xs i x e) all)

least : (y : ShapeFault) → 1 ≤ number y
least (TooDeep depth) = omega arith
least EmptySum = omega arith
least (ShortTuple count) = omega arith
least EmptyFields = omega arith
least (TooMany count) = omega arith
least (BadName place) = omega arith
least (SameName first second) = omega arith
least (TagClash first second) = omega arith

most : (y : ShapeFault) → number y < 9
most (TooDeep depth) = omega arith
most EmptySum = omega arith
most (ShortTuple count) = omega arith
most EmptyFields = omega arith
most (TooMany count) = omega arith
most (BadName place) = omega arith
most (SameName first second) = omega arith
most (TagClash first second) = omega arith

-- no fault has a number below k
module _ (k d : ℕ) (f : Form) (deep : d ≤ deepest_shape)
    (cases_there : 2 < k → IsVariant f → 0 < member_count f)
    (parts_there : 3 < k → IsTuple f → 1 < member_count f)
    (fields_there : 4 < k → IsRecord f → 0 < member_count f)
    (few : 5 < k → member_count f ≤ most_members) (named : 6 < k → All IsShapeName (names f))
    (other_names : 7 < k → IsDistinct (names f))
    (other_tags : 8 < k → IsDistinct (tags f)) where
  clean : (y : ShapeFault) → number y < k → HasFault d f y → ⊥
  clean (TooDeep depth) lt h = let a : deepest_shape < d = h.1 in omega arith
  clean EmptySum lt h =
      let a : 0 < member_count f = cases_there lt h.0 in let b : member_count f ≡ 0 = h.1 in
      omega arith
  clean (ShortTuple count) lt h =
      let a : 1 < member_count f = parts_there lt h.0 in let b : count ≡ member_count f = h.1 in
      let c : count < 2 = h.2 in omega arith
  clean EmptyFields lt h =
      let a : 0 < member_count f = fields_there lt h.0 in let b : member_count f ≡ 0 = h.1 in
      omega arith
  clean (TooMany count) lt h =
      let a : member_count f ≤ most_members = few lt in let b : count ≡ member_count f = h.0 in
      let c : most_members < count = h.1 in omega arith
  clean (BadName place) lt h = h.bad (all_at IsShapeName (names f) place h.name (named lt) h.stands)
  clean (SameName first second) lt h = other_names lt first second h.before h.within h.same
  clean (TagClash first second) lt h = other_tags lt first second h.before h.within h.same

pub too_deep : (d : ℕ) (f : Form) → deepest_shape < d → IsFaultOf (d, f) (TooDeep d)
too_deep d f lt = (
  (refl, lt),
  λ y below h. absurd (let a : 1 ≤ number y = least y in
      let b : number y < 1 = below in omega arith),
)

pub empty_sum : (d : ℕ) (f : Form) → d ≤ deepest_shape → IsVariant f → member_count f ≡ 0
    → IsFaultOf (d, f) EmptySum
empty_sum d f deep v none = (
  (v, none),
  clean 2 d f deep
      (λ l. absurd (omega arith)) (λ l. absurd (omega arith)) (λ l. absurd (omega arith))
      (λ l. absurd (omega arith)) (λ l. absurd (omega arith)) (λ l. absurd (omega arith))
      (λ l. absurd (omega arith)),
)

pub short_tuple : (d n : ℕ) (f : Form) → d ≤ deepest_shape → IsTuple f → (IsVariant f → ⊥)
    → n ≡ member_count f → n < 2 → IsFaultOf (d, f) (ShortTuple n)
short_tuple d n f deep t other e short = (
  (t, e, short),
  clean 3 d f deep (λ l v. absurd (other v)) (λ l. absurd (omega arith)) (λ l. absurd (omega arith))
      (λ l. absurd (omega arith)) (λ l. absurd (omega arith)) (λ l. absurd (omega arith))
      (λ l. absurd (omega arith)),
)

pub empty_fields : (d : ℕ) (f : Form) → d ≤ deepest_shape → IsRecord f → (IsVariant f → ⊥)
    → (IsTuple f → ⊥) → member_count f ≡ 0 → IsFaultOf (d, f) EmptyFields
empty_fields d f deep r other another none = (
  (r, none),
  clean 4 d f deep (λ l v. absurd (other v)) (λ l t. absurd (another t)) (λ l. absurd (omega arith))
      (λ l. absurd (omega arith)) (λ l. absurd (omega arith)) (λ l. absurd (omega arith))
      (λ l. absurd (omega arith)),
)

-- a node that is not too deep, with members enough
module _ (d : ℕ) (f : Form) (deep : d ≤ deepest_shape)
    (cases_there : IsVariant f → 0 < member_count f) (parts_there : IsTuple f → 1 < member_count f)
    (fields_there : IsRecord f → 0 < member_count f) where
  pub too_many : (n : ℕ) → n ≡ member_count f → most_members < n → IsFaultOf (d, f) (TooMany n)
  too_many n e many = (
    (e, many),
    clean 5 d f deep (λ l. cases_there) (λ l. parts_there) (λ l. fields_there)
        (λ l. absurd (omega arith)) (λ l. absurd (omega arith)) (λ l. absurd (omega arith))
        (λ l. absurd (omega arith)),
  )

  module _ (few : member_count f ≤ most_members) where
    pub bad_name : (p : ℕ) → IsFirstBadName (names f) p → IsFaultOf (d, f) (BadName p)
    bad_name p bad = (
      bad,
      clean 6 d f deep (λ l. cases_there) (λ l. parts_there) (λ l. fields_there)
          (λ l. few) (λ l. absurd (omega arith)) (λ l. absurd (omega arith))
          (λ l. absurd (omega arith)),
    )

    module _ (named : All IsShapeName (names f)) where
      pub same_name : (i j : ℕ) → IsFirstRepeat (names f) i j → IsFaultOf (d, f) (SameName i j)
      same_name i j same = (
        same,
        clean 7 d f deep (λ l. cases_there) (λ l. parts_there) (λ l. fields_there)
            (λ l. few) (λ l. named) (λ l. absurd (omega arith)) (λ l. absurd (omega arith)),
      )

      module _ (other_names : IsDistinct (names f)) where
        pub tag_clash : (i j : ℕ) → IsFirstRepeat (tags f) i j → IsFaultOf (d, f) (TagClash i j)
        tag_clash i j clash = (
          clash,
          clean 8 d f deep (λ l. cases_there) (λ l. parts_there) (λ l. fields_there)
              (λ l. few) (λ l. named) (λ l. other_names) (λ l. absurd (omega arith)),
        )

        pub faultless : IsDistinct (tags f) → IsFaultless (d, f)
        faultless other_tags x h =
            clean 9 d f deep (λ l. cases_there) (λ l. parts_there) (λ l. fields_there)
            (λ l. few) (λ l. named) (λ l. other_names) (λ l. other_tags) x (most x) h

-- ---- one node, by its kind

pub tuple_tells : (d n : ℕ) (fs : Parts) (r : Result (Unit {0}) ShapeFault) → d ≤ deepest_shape
    → n ≡ length (part_names fs) → 2 ≤ n → TellsCount n r → TellsNode (d, tuple fs) r
tuple_tells d n fs (Ok u) deep e two few =
    faultless d (tuple fs) deep (λ v. absurd v) (λ t. let two : 2 ≤ n = two in omega arith)
    (λ r. absurd r)
    (let few : n ≤ most_members = few in omega arith)
    (All-nil IsShapeName) none_distinct none_distinct
tuple_tells d n fs (Err x) deep e two many =
    rw many.1 (too_many d (tuple fs) deep (λ v. absurd v)
    (λ t. let two : 2 ≤ n = two in omega arith) (λ r. absurd r) n e many.0)

-- a record or a variant that has members
module _ (d : ℕ) (f : Form) (deep : d ≤ deepest_shape) (some : 0 < member_count f)
    (other : IsTuple f → ⊥) where
  pub count_fault : (n : ℕ) (x : ShapeFault) → n ≡ member_count f → TellsCount n (Err x)
      → IsFaultOf (d, f) x
  count_fault n x e many =
      rw many.1 (too_many d f deep (λ v. some) (λ t. absurd (other t)) (λ r. some) n e many.0)

  module _ (few : member_count f ≤ most_members) where
    pub names_fault : (x : ShapeFault) → IsFaultOfNames (names f) x → IsFaultOf (d, f) x
    names_fault (BadName p) h =
        bad_name d f deep (λ v. some) (λ t. absurd (other t)) (λ r. some) few p h
    names_fault (SameName i j) h =
        same_name d f deep (λ v. some) (λ t. absurd (other t)) (λ r. some) few h.0 i j h.1
    names_fault (TooDeep depth) h = absurd h
    names_fault EmptySum h = absurd h
    names_fault (ShortTuple count) h = absurd h
    names_fault EmptyFields h = absurd h
    names_fault (TooMany count) h = absurd h
    names_fault (TagClash i j) h = absurd h

    pub named_tells : (r : Result (Unit {0}) ShapeFault) → IsDistinct (tags f)
        → TellsNames (names f) r → TellsNode (d, f) r
    named_tells (Ok u) other_tags h =
        faultless d f deep (λ v. some) (λ t. absurd (other t)) (λ r. some) few h.0 h.1 other_tags
    named_tells (Err x) other_tags h = names_fault x h

    pub tags_fault : (i j : ℕ) → All IsShapeName (names f) × IsDistinct (names f)
        → IsFirstRepeat (tags f) i j → IsFaultOf (d, f) (TagClash i j)
    tags_fault i j h clash =
        tag_clash d f deep (λ v. some) (λ t. absurd (other t)) (λ r. some) few h.0 h.1 i j clash

-- a node without members
pub bare_node : (d : ℕ) (f : Form) → d ≤ deepest_shape → member_count f ≡ 0 → (IsVariant f → ⊥)
    → (IsTuple f → ⊥) → (IsRecord f → ⊥) → names f ≡ [] → tags f ≡ [] → IsFaultless (d, f)
bare_node d f deep none variant short named_ no_names no_tags =
    faultless d f deep (λ v. absurd (variant v)) (λ t. absurd (short t)) (λ r. absurd (named_ r))
    (omega arith)
    (rw no_names (All-nil IsShapeName)) (rw no_names none_distinct) (rw no_tags none_distinct)

-- a list that is not empty has a length
pub there : (n k : ℕ) (b : Bool) → b ≡ eqb n 0 → b ≡ false → k ≡ n → 0 < k
there n k b is none e =
    let other : n ≡ 0 → ⊥ = eqb-false n 0 (sym is ∙ none) in elim (cases_lt 0 n) [
      | inl lt ↦ rw e lt
      | inr le ↦ absurd (other (omega arith))
    ]
