-- The table after a query was put, set or forgotten.
use Rattle.std.proofs.Common.{◌≡◌, refl, sym, ap, ◌∙◌, subst, ℕ, zero, suc, ◌+◌, ◌<◌, ◌≤◌, ℤ, Bool, true, false, not, cond, List, [], ◌∷◌, ◌++◌, length, get_or, take, arith}
use Rattle.std.specs.Prelude.{Option, Some, None, filter, nat_lt}
use Rattle.std.specs.List.{find, position, position_or_len, remove, slice_set}
use Rattle.std.specs.Ordering.{int_eq}
use Rattle.std.proofs.lemmas.Bool.Decides.{Decides-int_eq, Decides-ltb}
use Rattle.std.proofs.lemmas.List.{take_more}
use borrow.Author.Tests.{ltb-false}
use Rattle.rpc_server.specs.declared.table.Standing.{Standing}
use Rattle.rpc_server.specs.declared.table.Standing.TheVariants.{Nowhere, Open, Stopped}
use Rattle.rpc_server.specs.declared.table.Tracked.{Tracked}
use Rattle.rpc_server.specs.Tables.{is_query, standing_of, standing, is_to_answer, unfinished, open_count, IsPut, HaveApartIds}

-- ---- ids

pub id_is : (a b : ℤ) → int_eq a b ≡ true → a ≡ b
id_is a b h = (Decides-int_eq a b).0 h

pub id_same : (a b : ℤ) → a ≡ b → int_eq a b ≡ true
id_same a b h = (Decides-int_eq a b).1 h

true_false : true ≡ false → ⊥
true_false e = cc

pub id_other : (a b : ℤ) → int_eq a b ≡ false → int_eq b a ≡ false
id_other a b h = by (int_eq b a) refl
  where
    by : (t : Bool) → int_eq b a ≡ t → int_eq b a ≡ false
    by true e = absurd (true_false (sym (id_same a b (sym (id_is b a e))) ∙ h))
    by false e = e

-- ---- the place of an id

abbrev pub IsPlace : ℤ → List Tracked → ℕ → Type 0
IsPlace id [] i = ⊥
IsPlace id (q ∷ qs) zero = is_query id q ≡ true
IsPlace id (q ∷ qs) (suc i) = (is_query id q ≡ false) × IsPlace id qs i

none_some : {A : Type 0} (a : A) → None ≡ Some a → ⊥
none_some a e = cc

first_place : (id : ℤ) (qs : List Tracked) → position_or_len (is_query id) qs < length qs → IsPlace id qs (position_or_len (is_query id) qs)
first_place id [] lt = absurd (omega arith)
first_place id (q ∷ qs) lt = by (is_query id q) refl lt (first_place id qs)
  where
    by : (t : Bool) → is_query id q ≡ t → cond (not t) (1 + position_or_len (is_query id) qs) 0 < length (q ∷ qs)
        → (position_or_len (is_query id) qs < length qs → IsPlace id qs (position_or_len (is_query id) qs))
        → IsPlace id (q ∷ qs) (cond (not t) (1 + position_or_len (is_query id) qs) 0)
    by true e lt later = e
    by false e lt later =
        let next : suc (position_or_len (is_query id) qs) ≡ 1 + position_or_len (is_query id) qs = omega arith in
        subst (IsPlace id (q ∷ qs)) next (e, later (omega (arith, lt)))

pub place_some : (id : ℤ) (qs : List Tracked) (i : ℕ) → position (is_query id) qs ≡ Some i → IsPlace id qs i
place_some id qs i e = by (nat_lt n (length qs)) refl e
  where
    n : ℕ
    n = position_or_len (is_query id) qs

    some_is : {A : Type 0} (a b : A) → Some a ≡ Some b → a ≡ b
    some_is a b e = cc

    by : (t : Bool) → nat_lt n (length qs) ≡ t → cond t (Some n) None ≡ Some i → IsPlace id qs i
    by true h e = subst (IsPlace id qs) (some_is n i e) (first_place id qs ((Decides-ltb n (length qs)).0 h))
    by false h e = absurd (none_some i e)

pub place_none : (id : ℤ) (qs : List Tracked) → position (is_query id) qs ≡ None → find (is_query id) qs ≡ None
place_none id qs e = by (nat_lt n (length qs)) refl e
  where
    n : ℕ
    n = position_or_len (is_query id) qs

    past : (qs : List Tracked) → length qs ≤ position_or_len (is_query id) qs → find (is_query id) qs ≡ None
    past [] few = refl
    past (q ∷ qs) few = at (is_query id q) few (past qs)
      where
        at : (t : Bool) → length (q ∷ qs) ≤ cond (not t) (1 + position_or_len (is_query id) qs) 0
            → (length qs ≤ position_or_len (is_query id) qs → find (is_query id) qs ≡ None) → cond t (Some q) (find (is_query id) qs) ≡ None
        at true few later = absurd (omega arith)
        at false few later = later (omega arith)

    by : (t : Bool) → nat_lt n (length qs) ≡ t → cond t (Some n) None ≡ None → find (is_query id) qs ≡ None
    by true h e = absurd (none_some n (sym e))
    by false h e = past qs (omega (arith, ltb-false n (length qs) h))

pub place_within : (id : ℤ) (qs : List Tracked) (i : ℕ) → IsPlace id qs i → i < length qs
place_within id [] i at = absurd at
place_within id (q ∷ qs) zero at = omega arith
place_within id (q ∷ qs) (suc i) (miss, at) = omega (arith, place_within id qs i at)

-- what stands at the place is what is found
pub place_standing : (id : ℤ) (qs : List Tracked) (i : ℕ) (d : Tracked) → IsPlace id qs i → standing qs id ≡ (get_or qs i d).standing
place_standing id [] i d at = absurd at
place_standing id (q ∷ qs) zero d at = ap (λ t. standing_of (cond t (Some q) (find (is_query id) qs))) at
place_standing id (q ∷ qs) (suc i) d (miss, at) = ap (λ t. standing_of (cond t (Some q) (find (is_query id) qs))) miss ∙ place_standing id qs i d at

-- ---- what is found afterwards

abbrev finds : ℤ → List Tracked → Option Tracked
finds id qs = find (is_query id) qs

skip : (id : ℤ) (q : Tracked) (qs : List Tracked) → is_query id q ≡ false → finds id (q ∷ qs) ≡ finds id qs
skip id q qs miss = ap (λ t. cond t (Some q) (finds id qs)) miss

hit : (id : ℤ) (q : Tracked) (qs : List Tracked) → is_query id q ≡ true → finds id (q ∷ qs) ≡ Some q
hit id q qs is = ap (λ t. cond t (Some q) (finds id qs)) is

-- the same head, and as much behind it
alike : (id : ℤ) (q : Tracked) (us vs : List Tracked) → finds id us ≡ finds id vs → finds id (q ∷ us) ≡ finds id (q ∷ vs)
alike id q us vs e = ap (cond (is_query id q) (Some q)) e

-- what has one id does not have another
apart : (id k : ℤ) (q : Tracked) → is_query id q ≡ true → int_eq k id ≡ false → is_query k q ≡ false
apart id k q at other = ap (λ a. int_eq a k) (id_is q.id id at) ∙ id_other k id other

-- what is found neither at the head nor behind it
none_behind : (id : ℤ) (q : Tracked) (qs : List Tracked) → finds id (q ∷ qs) ≡ None → (is_query id q ≡ false) × (finds id qs ≡ None)
none_behind id q qs none = by (is_query id q) refl none
  where
    by : (t : Bool) → is_query id q ≡ t → cond t (Some q) (finds id qs) ≡ None → (is_query id q ≡ false) × (finds id qs ≡ None)
    by true is e = absurd (none_some q (sym e))
    by false is e = (is, e)

set_here : (id : ℤ) (qs : List Tracked) (i : ℕ) (y : Tracked) → IsPlace id qs i → is_query id y ≡ true → finds id (slice_set qs i y) ≡ Some y
set_here id [] i y at h = absurd at
set_here id (q ∷ qs) zero y at h = hit id y qs h
set_here id (q ∷ qs) (suc i) y (miss, at) h = skip id q (slice_set qs i y) miss ∙ set_here id qs i y at h

set_other : (id k : ℤ) (qs : List Tracked) (i : ℕ) (y : Tracked) → IsPlace id qs i → is_query id y ≡ true → int_eq k id ≡ false
    → finds k (slice_set qs i y) ≡ finds k qs
set_other id k [] i y at h other = absurd at
set_other id k (q ∷ qs) zero y at h other = skip k y qs (apart id k y h other) ∙ sym (skip k q qs (apart id k q at other))
set_other id k (q ∷ qs) (suc i) y (miss, at) h other = alike k q (slice_set qs i y) qs (set_other id k qs i y at h other)

removed_here : (id : ℤ) (qs : List Tracked) (i : ℕ) → IsPlace id qs i → HaveApartIds qs → finds id (remove qs i) ≡ None
removed_here id [] i at far = absurd at
removed_here id (q ∷ qs) zero at far = subst (λ a. finds a qs ≡ None) (id_is q.id id at) far.0
removed_here id (q ∷ qs) (suc i) (miss, at) far = skip id q (remove qs i) miss ∙ removed_here id qs i at far.1

removed_other : (id k : ℤ) (qs : List Tracked) (i : ℕ) → IsPlace id qs i → int_eq k id ≡ false → finds k (remove qs i) ≡ finds k qs
removed_other id k [] i at other = absurd at
removed_other id k (q ∷ qs) zero at other = sym (skip k q qs (apart id k q at other))
removed_other id k (q ∷ qs) (suc i) (miss, at) other = alike k q (remove qs i) qs (removed_other id k qs i at other)

pushed_here : (id : ℤ) (qs : List Tracked) (y : Tracked) → finds id qs ≡ None → is_query id y ≡ true → finds id (qs ++ y ∷ []) ≡ Some y
pushed_here id [] y none h = hit id y [] h
pushed_here id (q ∷ qs) y none h =
    let (miss, later) = none_behind id q qs none in skip id q (qs ++ y ∷ []) miss ∙ pushed_here id qs y later h

pushed_other : (k : ℤ) (qs : List Tracked) (y : Tracked) → is_query k y ≡ false → finds k (qs ++ y ∷ []) ≡ finds k qs
pushed_other k [] y miss = skip k y [] miss
pushed_other k (q ∷ qs) y miss = alike k q (qs ++ y ∷ []) qs (pushed_other k qs y miss)

-- ---- ids stay apart

removed_none : (k : ℤ) (qs : List Tracked) (i : ℕ) → finds k qs ≡ None → finds k (remove qs i) ≡ None
removed_none k [] zero none = refl
removed_none k [] (suc i) none = refl
removed_none k (q ∷ qs) zero none = (none_behind k q qs none).1
removed_none k (q ∷ qs) (suc i) none =
    let (miss, later) = none_behind k q qs none in skip k q (remove qs i) miss ∙ removed_none k qs i later

removed_apart : (qs : List Tracked) (i : ℕ) → HaveApartIds qs → HaveApartIds (remove qs i)
removed_apart [] zero far = tt
removed_apart [] (suc i) far = tt
removed_apart (q ∷ qs) zero far = far.1
removed_apart (q ∷ qs) (suc i) far = (removed_none q.id qs i far.0, removed_apart qs i far.1)

pub set_apart : (id : ℤ) (qs : List Tracked) (i : ℕ) (y : Tracked) → IsPlace id qs i → is_query id y ≡ true → HaveApartIds qs → HaveApartIds (slice_set qs i y)
set_apart id [] i y at h far = absurd at
set_apart id (q ∷ qs) zero y at h far = (subst (λ a. finds a qs ≡ None) (id_is q.id id at ∙ sym (id_is y.id id h)) far.0, far.1)
set_apart id (q ∷ qs) (suc i) y (miss, at) h far =
    (set_other id q.id qs i y at h miss ∙ far.0, set_apart id qs i y at h far.1)

pushed_apart : (qs : List Tracked) (y : Tracked) → finds y.id qs ≡ None → HaveApartIds qs → HaveApartIds (qs ++ y ∷ [])
pushed_apart [] y none far = (refl, tt)
pushed_apart (q ∷ qs) y none far =
    let (miss, later) = none_behind y.id q qs none in
    (pushed_other q.id qs y (id_other q.id y.id miss) ∙ far.0, pushed_apart qs y later far.1)

-- ---- how many are open

one_more : (q : Tracked) (qs : List Tracked) → unfinished (q ∷ qs) ≡ open_count q.standing + unfinished qs
one_more q qs = by (is_to_answer q.standing)
  where
    by : (t : Bool) → length (cond t (q ∷ filter (λ (x : Tracked). is_to_answer x.standing) qs) (filter (λ (x : Tracked). is_to_answer x.standing) qs))
        ≡ cond t 1 0 + length (filter (λ (x : Tracked). is_to_answer x.standing) qs)
    by true = omega arith
    by false = omega arith

found_count : (id : ℤ) (q : Tracked) (qs : List Tracked) → is_query id q ≡ true → open_count (standing (q ∷ qs) id) ≡ open_count q.standing
found_count id q qs is = ap (λ o. open_count (standing_of o)) (hit id q qs is)

later_count : (id : ℤ) (q : Tracked) (qs : List Tracked) → is_query id q ≡ false → open_count (standing (q ∷ qs) id) ≡ open_count (standing qs id)
later_count id q qs miss = ap (λ o. open_count (standing_of o)) (skip id q qs miss)

set_count : (id : ℤ) (qs : List Tracked) (i : ℕ) (y : Tracked) → IsPlace id qs i
    → unfinished (slice_set qs i y) + open_count (standing qs id) ≡ unfinished qs + open_count y.standing
set_count id [] i y at = absurd at
set_count id (q ∷ qs) zero y at = omega (arith, one_more q qs, one_more y qs, found_count id q qs at)
set_count id (q ∷ qs) (suc i) y (miss, at) =
    omega (arith, one_more q qs, one_more q (slice_set qs i y), later_count id q qs miss, set_count id qs i y at)

removed_count : (id : ℤ) (qs : List Tracked) (i : ℕ) → IsPlace id qs i → unfinished (remove qs i) + open_count (standing qs id) ≡ unfinished qs
removed_count id [] i at = absurd at
removed_count id (q ∷ qs) zero at = omega (arith, one_more q qs, found_count id q qs at)
removed_count id (q ∷ qs) (suc i) (miss, at) =
    omega (arith, one_more q qs, one_more q (remove qs i), later_count id q qs miss, removed_count id qs i at)

pushed_count : (qs : List Tracked) (y : Tracked) → unfinished (qs ++ y ∷ []) ≡ unfinished qs + open_count y.standing
pushed_count [] y = omega (arith, one_more y [])
pushed_count (q ∷ qs) y = omega (arith, one_more q qs, one_more q (qs ++ y ∷ []), pushed_count qs y)

-- ---- whole changes

-- each look-up, by whether it is of this id
each_by : (old new : List Tracked) (id : ℤ) (s : Standing) → standing new id ≡ s
    → ((k : ℤ) → int_eq k id ≡ false → finds k new ≡ finds k old) → (k : ℤ) → standing new k ≡ cond (int_eq k id) s (standing old k)
each_by old new id s here others k = by (int_eq k id) refl
  where
    by : (t : Bool) → int_eq k id ≡ t → standing new k ≡ cond t s (standing old k)
    by true e = ap (standing new) (id_is k id e) ∙ here
    by false e = ap standing_of (others k e)

pub put_same : (qs : List Tracked) (id : ℤ) → IsPut qs id (standing qs id) qs
put_same qs id = record { each = each_by qs qs id (standing qs id) refl (λ k e. refl); count = refl }

pub put_set : (qs : List Tracked) (id : ℤ) (i : ℕ) (y : Tracked) → position (is_query id) qs ≡ Some i → y.id ≡ id → IsPut qs id y.standing (slice_set qs i y)
put_set qs id i y e is =
    let at = place_some id qs i e in
    let h = id_same y.id id is in
    record {
      each = each_by qs (slice_set qs i y) id y.standing (ap standing_of (set_here id qs i y at h)) (λ k other. set_other id k qs i y at h other);
      count = set_count id qs i y at;
    }

pub put_pushed : (qs : List Tracked) (id : ℤ) (y : Tracked) → position (is_query id) qs ≡ None → y.id ≡ id → IsPut qs id y.standing (qs ++ y ∷ [])
put_pushed qs id y e is =
    let none = place_none id qs e in
    let h = id_same y.id id is in
    let nowhere : open_count (standing qs id) ≡ 0 = ap (λ o. open_count (standing_of o)) none in
    record {
      each = each_by qs (qs ++ y ∷ []) id y.standing (ap standing_of (pushed_here id qs y none h)) (λ k other. pushed_other k qs y (apart id k y h other));
      count = omega (arith, nowhere, pushed_count qs y);
    }

pub put_removed : (qs : List Tracked) (id : ℤ) (i : ℕ) → position (is_query id) qs ≡ Some i → HaveApartIds qs → IsPut qs id Nowhere (remove qs i)
put_removed qs id i e far =
    let at = place_some id qs i e in
    record {
      each = each_by qs (remove qs i) id Nowhere (ap standing_of (removed_here id qs i at far)) (λ k other. removed_other id k qs i at other);
      count = omega (arith, removed_count id qs i at);
    }

pub put_nothing : (qs : List Tracked) (id : ℤ) → position (is_query id) qs ≡ None → IsPut qs id Nowhere qs
put_nothing qs id e = subst (λ s. IsPut qs id s qs) (ap standing_of (place_none id qs e)) (put_same qs id)

pub apart_set : (qs : List Tracked) (id : ℤ) (i : ℕ) (y : Tracked) → position (is_query id) qs ≡ Some i → y.id ≡ id → HaveApartIds qs → HaveApartIds (slice_set qs i y)
apart_set qs id i y e is far = set_apart id qs i y (place_some id qs i e) (id_same y.id id is) far

pub apart_pushed : (qs : List Tracked) (id : ℤ) (y : Tracked) → position (is_query id) qs ≡ None → y.id ≡ id → HaveApartIds qs → HaveApartIds (qs ++ y ∷ [])
apart_pushed qs id y e is far = pushed_apart qs y (subst (λ a. finds a qs ≡ None) (sym is) (place_none id qs e)) far

pub apart_removed : (qs : List Tracked) (i : ℕ) → HaveApartIds qs → HaveApartIds (remove qs i)
apart_removed qs i far = removed_apart qs i far

-- one more of the first ones
pub unfinished_more : (qs : List Tracked) (i : ℕ) (d : Tracked) → i < length qs
    → unfinished (take (i + 1) qs) ≡ unfinished (take i qs) + open_count (get_or qs i d).standing
unfinished_more qs i d lt =
    ap unfinished (take_more qs i d lt) ∙ pushed_count (take i qs) (get_or qs i d)
