-- The menu that a value tells, and the version that is chosen by it, are those of the world.
use Rattle.std.proofs.Common.{◌≡◌, refl, sym, ap, ◌∙◌, subst, ℕ, zero, suc, ◌<◌, ℤ, pos, negsuc, ◌≤ℤ◌, Bool, true, false, ◌&&◌, ◌||◌, int_lt, if◌then◌else◌, List, [], ◌∷◌, map, filter, length, arith, ◌⊎◌, inl, inr}
use Rattle.std.specs.Prelude.{Option, Some, None, fold}
use Rattle.std.specs.List.{Contains, cons_option, filter_map}
use Rattle.std.specs.Option.{option_and_then}
use Rattle.std.specs.Ordering.{int_eq}
use Rattle.std.specs.Str.{bytes_eq}
use Rattle.std.proofs.lemmas.Bool.{ltb-false, ltb-true}
use Rattle.std.proofs.lemmas.Bool.Decides.{Decides-int_eq}
use Rattle.std.proofs.lemmas.Int.{ints}
use Rattle.std.proofs.lemmas.Slice.Eq.{bytes_eq-Decides}
use Rattle.bp_value.specs.declared.value.Value.TheVariants as val
use Rattle.bp_value.proofs.Layers.{out_items, out_num, out_parts, out_text}
use Rattle.rpc_log.specs.Readings.{both_of, items_by, number_by, number_told, parts_by, text_by}
use Rattle.rpc_schema.specs.Choice.{IsChoice, IsCommon, listing_value, menu_value}
use Rattle.rpc_schema.specs.declared.desc.Listing.{Listing}
use Rattle.rpc_meeting.specs.Menus.{best_version, greater, greatest, is_listed, listing_by, listing_from, listing_told, listings_by, listings_told}
use Rattle.rpc_pair.proofs.Basics.{both_true, listing_made}

-- ---- the menu of a value

told_one : (l : Listing) → listing_told (listing_value l) ≡ Some l
told_one l =
    ap (λ x. option_and_then listing_from (parts_by x)) (out_parts (val.Text l.name ∷ val.Num l.version ∷ []))
    ∙ (ap (λ x. listing_by (both_of (text_by x) (number_told (val.Num l.version)))) (out_text l.name)
    ∙ ap (λ x. listing_by (both_of (Some l.name) (number_by x))) (out_num l.version))

told_all : (ls : List Listing) → filter_map listing_told (map listing_value ls) ≡ ls
told_all [] = refl
told_all (l ∷ ls) = ap (λ o. cons_option o (filter_map listing_told (map listing_value ls))) (told_one l) ∙ ap (λ xs. l ∷ xs) (told_all ls)

-- it is the menu whose value it is
pub menu_told : (ls : List Listing) → listings_told (menu_value ls) ≡ ls
menu_told ls = ap (λ x. listings_by (items_by x)) (out_items (map listing_value ls)) ∙ told_all ls

-- ---- order

less : (a b : ℤ) → int_lt a b ≡ true → a ≤ℤ b
less (pos a) (pos b) e = omega (arith, ints, ltb-true a b e)
less (pos a) (negsuc b) e = absurd cc
less (negsuc a) (pos b) e = omega (arith, ints)
less (negsuc a) (negsuc b) e = omega (arith, ints, ltb-true b a e)

not_less : (a b : ℤ) → int_lt a b ≡ false → b ≤ℤ a
not_less (pos a) (pos b) e = omega (arith, ints, ltb-false a b e)
not_less (pos a) (negsuc b) e = omega (arith, ints)
not_less (negsuc a) (pos b) e = absurd cc
not_less (negsuc a) (negsuc b) e = omega (arith, ints, ltb-false b a e)

-- ---- the greatest of some versions

-- it is one of them, and none is above it; or there is none
abbrev IsGreatest : List ℤ → Option ℤ → Type 0
IsGreatest vs None = (x : ℤ) → Contains vs x → ⊥
IsGreatest vs (Some v) = Contains vs v × ((x : ℤ) → Contains vs x → x ≤ℤ v)

contains_more : (x y : ℤ) (vs : List ℤ) → Contains vs x → Contains (y ∷ vs) x
contains_more x y vs (k, lt, is) = (suc k, omega (arith, lt), is)

contains_split : (x y : ℤ) (vs : List ℤ) → Contains (y ∷ vs) x → (y ≡ x) ⊎ Contains vs x
contains_split x y vs (zero, lt, is) = inl is
contains_split x y vs (suc k, lt, is) = inr (k, (let m : suc k < suc (length vs) = lt in omega arith), is)

-- of those before and those that follow
greatest_after : (best : ℤ) (vs : List ℤ) → (v : ℤ) × (fold greater (Some best) vs ≡ Some v) × (best ≤ℤ v) × ((v ≡ best) ⊎ Contains vs v) × ((x : ℤ) → Contains vs x → x ≤ℤ v)
greatest_after best [] = (best, refl, omega (arith, ints), inl refl, λ x (k, lt, is). absurd (let none : k < 0 = lt in omega arith))
greatest_after best (y ∷ vs) = by (int_lt best y) refl (greatest_after y vs) (greatest_after best vs)
  where
    by : (b : Bool) → int_lt best y ≡ b
        → ((v : ℤ) × (fold greater (Some y) vs ≡ Some v) × (y ≤ℤ v) × ((v ≡ y) ⊎ Contains vs v) × ((x : ℤ) → Contains vs x → x ≤ℤ v))
        → ((v : ℤ) × (fold greater (Some best) vs ≡ Some v) × (best ≤ℤ v) × ((v ≡ best) ⊎ Contains vs v) × ((x : ℤ) → Contains vs x → x ≤ℤ v))
        → (v : ℤ) × (fold greater (if b then Some y else Some best) vs ≡ Some v) × (best ≤ℤ v) × ((v ≡ best) ⊎ Contains (y ∷ vs) v) × ((x : ℤ) → Contains (y ∷ vs) x → x ≤ℤ v)
    by true e (v, is, high, one, top) later =
        let below : best ≤ℤ y = less best y e in (
          v,
          is,
          omega (arith, ints, below, high),
          inr (here v one),
          λ x c. above v high top x (contains_split x y vs c),
        )
      where
        here : (v : ℤ) → (v ≡ y) ⊎ Contains vs v → Contains (y ∷ vs) v
        here v (inl same) = (zero, omega arith, sym same)
        here v (inr c) = contains_more v y vs c

        above : (v : ℤ) → y ≤ℤ v → ((x : ℤ) → Contains vs x → x ≤ℤ v) → (x : ℤ) → (y ≡ x) ⊎ Contains vs x → x ≤ℤ v
        above v high top x (inl same) = subst (λ z. z ≤ℤ v) same high
        above v high top x (inr c) = top x c
    by false e later (v, is, high, one, top) = (
      v,
      is,
      high,
      here v one,
      λ x c. above v high top x (contains_split x y vs c),
    )
      where
        here : (v : ℤ) → (v ≡ best) ⊎ Contains vs v → (v ≡ best) ⊎ Contains (y ∷ vs) v
        here v (inl same) = inl same
        here v (inr c) = inr (contains_more v y vs c)

        above : (v : ℤ) → best ≤ℤ v → ((x : ℤ) → Contains vs x → x ≤ℤ v) → (x : ℤ) → (y ≡ x) ⊎ Contains vs x → x ≤ℤ v
        above v high top x (inl same) = let low : y ≤ℤ best = not_less best y e in omega (arith, ints, low, high, same)
        above v high top x (inr c) = top x c

greatest_is : (vs : List ℤ) → IsGreatest vs (greatest vs)
greatest_is [] = λ x (k, lt, is). absurd (let none : k < 0 = lt in omega arith)
greatest_is (y ∷ vs) =
    let (v, is, high, one, top) = greatest_after y vs in
    subst (IsGreatest (y ∷ vs)) (sym is) (here v one, λ x c. above v high top x (contains_split x y vs c))
  where
    here : (v : ℤ) → (v ≡ y) ⊎ Contains vs v → Contains (y ∷ vs) v
    here v (inl same) = (zero, omega arith, sym same)
    here v (inr c) = contains_more v y vs c

    above : (v : ℤ) → y ≤ℤ v → ((x : ℤ) → Contains vs x → x ≤ℤ v) → (x : ℤ) → (y ≡ x) ⊎ Contains vs x → x ≤ℤ v
    above v high top x (inl same) = subst (λ z. z ≤ℤ v) same high
    above v high top x (inr c) = top x c

-- ---- what stands in both

kept_in : (p : ℤ → Bool) (own : List ℤ) (x : ℤ) → Contains own x → p x ≡ true → Contains (filter p own) x
kept_in p [] x (k, lt, is) e = absurd (let none : k < 0 = lt in omega arith)
kept_in p (y ∷ own) x c e = by (p y) refl (contains_split x y own c) (kept_in p own x)
  where
    by : (b : Bool) → p y ≡ b → (y ≡ x) ⊎ Contains own x → (Contains own x → p x ≡ true → Contains (filter p own) x) → Contains (if b then y ∷ filter p own else filter p own) x
    by true at (inl same) later = (zero, omega arith, same)
    by true at (inr there) later = contains_more x y (filter p own) (later there e)
    by false at (inl same) later = absurd (let line : true ≡ false = sym e ∙ (ap p (sym same) ∙ at) in cc)
    by false at (inr there) later = later there e

in_both : (p : ℤ → Bool) (own : List ℤ) (x : ℤ) → Contains (filter p own) x → Contains own x × (p x ≡ true)
in_both p [] x (k, lt, is) = absurd (let none : k < 0 = lt in omega arith)
in_both p (y ∷ own) x c = by (p y) refl c (in_both p own x)
  where
    split : p y ≡ true → (y ≡ x) ⊎ Contains (filter p own) x → (Contains (filter p own) x → Contains own x × (p x ≡ true)) → Contains (y ∷ own) x × (p x ≡ true)
    split at (inl same) later = ((zero, omega arith, same), ap p (sym same) ∙ at)
    split at (inr there) later = let (here, e) = later there in (contains_more x y own here, e)

    by : (b : Bool) → p y ≡ b → Contains (if b then y ∷ filter p own else filter p own) x → (Contains (filter p own) x → Contains own x × (p x ≡ true)) → Contains (y ∷ own) x × (p x ≡ true)
    by true at c later = split at (contains_split x y (filter p own) c) later
    by false at c later = let (here, e) = later c in (contains_more x y own here, e)

true_both : (a b : Bool) → a ≡ true → b ≡ true → (a && b) ≡ true
true_both true true e f = refl
true_both true false e f = absurd cc
true_both false b e f = absurd cc

listing_more : (x y : Listing) (ls : List Listing) → Contains ls x → Contains (y ∷ ls) x
listing_more x y ls (k, lt, is) = (suc k, omega (arith, lt), is)

-- a version is listed where its name and it stand in the menu
listed_in : (ls : List Listing) (name : List ℕ) (v : ℤ) → is_listed ls name v ≡ true → Contains ls (listing_made name v)
listed_in [] name v e = absurd cc
listed_in (l ∷ ls) name v e = by (bytes_eq l.name name && int_eq l.version v) refl e (listed_in ls name v)
  where
    by : (b : Bool) → (bytes_eq l.name name && int_eq l.version v) ≡ b → (b || is_listed ls name v) ≡ true → (is_listed ls name v ≡ true → Contains ls (listing_made name v)) → Contains (l ∷ ls) (listing_made name v)
    by true at e later =
        let (same, number) = both_true (bytes_eq l.name name) (int_eq l.version v) at in
        (zero, omega arith, ap (λ n. listing_made n l.version) ((bytes_eq-Decides l.name name).0 same) ∙ ap (listing_made name) ((Decides-int_eq l.version v).0 number))
    by false at e later = listing_more (listing_made name v) l ls (later e)

in_listed : (ls : List Listing) (name : List ℕ) (v : ℤ) → Contains ls (listing_made name v) → is_listed ls name v ≡ true
in_listed [] name v (k, lt, is) = absurd (let none : k < 0 = lt in omega arith)
in_listed (l ∷ ls) name v (zero, lt, is) =
    ap (λ b. b || is_listed ls name v)
    (true_both (bytes_eq l.name name) (int_eq l.version v) ((bytes_eq-Decides l.name name).1 (ap (λ (x : Listing). x.name) is)) ((Decides-int_eq l.version v).1 (ap (λ (x : Listing). x.version) is)))
in_listed (l ∷ ls) name v (suc k, lt, is) = or_right (bytes_eq l.name name && int_eq l.version v) (in_listed ls name v (k, (let m : suc k < suc (length ls) = lt in omega arith), is))
  where
    or_right : (a : Bool) {b : Bool} → b ≡ true → (a || b) ≡ true
    or_right true e = refl
    or_right false e = e

-- ---- the choice

-- The version that is chosen is the world's.
pub choice_best : (own : List ℤ) (ls : List Listing) (name : List ℕ) (o : Option ℤ) → IsChoice own ls name o → o ≡ best_version own ls name
choice_best own ls name o choice = by o (best_version own ls name) choice (greatest_is (filter (is_listed ls name) own))
  where
    common : (v : ℤ) → IsCommon own ls name v → Contains (filter (is_listed ls name) own) v
    common v (mine, listed) = kept_in (is_listed ls name) own v mine (in_listed ls name v listed)

    in_common : (v : ℤ) → Contains (filter (is_listed ls name) own) v → IsCommon own ls name v
    in_common v c = let (mine, e) = in_both (is_listed ls name) own v c in (mine, listed_in ls name v e)

    same_top : (a b : ℤ) → a ≤ℤ b → b ≤ℤ a → a ≡ b
    same_top a b le ge = omega (arith, ints, le, ge)

    by : (o p : Option ℤ) → IsChoice own ls name o → IsGreatest (filter (is_listed ls name) own) p → o ≡ p
    by None None none rest = refl
    by None (Some v) none (here, top) = absurd (none v (in_common v here))
    by (Some v) None best none = absurd (none v (common v best.common))
    by (Some v) (Some x) best (here, top) = ap Some (same_top v x (top v (common v best.common)) (best.greatest x (in_common x here)))
