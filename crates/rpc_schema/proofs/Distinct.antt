-- Lists without repeats, item by item; and the set of the items.
use Rattle.std.proofs.Common.{◌≡◌, ◌≢◌, refl, sym, ap, ◌∙◌, subst, Bool, true, false, ◌||◌, ℕ, zero, suc, ◌<◌, ℤ, List, [], ◌∷◌, ◌++◌, length, slice_get, Some, arith, ◌⊎◌, inl, inr}
use Rattle.std.specs.List.{Contains, list_any}
use Rattle.std.specs.declared.cmp.Ordering.{Ordering}
use Rattle.std.specs.declared.cmp.Ordering.TheVariants.{Less, Equal, Greater}
use Rattle.std.specs.Ordering.{nat_cmp, int_cmp, is_eq, ordering_then, eq_by_cmp}
use Rattle.std.specs.Cmp.Lexicographic.{slice_cmp}
use Rattle.std.proofs.lemmas.Cmp.{tied_itself, then_total, on_total, nat_list_cmp_total, int_cmp_total}
use Rattle.std.proofs.lemmas.Map.Lookups.{exact_bytes, exact_signed}
use Rattle.bp_value.specs.Names.{IsDistinct, IsNowhere}
use Rattle.bp_value.proofs.Distinct.{none_distinct, distinct_tail, distinct_head}
use Rattle.rpc_schema.specs.declared.desc.Listing.{Listing}
use Rattle.rpc_schema.specs.Entries.{listing_cmp}

-- ---- items

at_end : {A : Type 0} (xs : List A) (x : A) (ys : List A) → slice_get (xs ++ x ∷ ys) (length xs) ≡ Some x
at_end [] x ys = refl
at_end (y ∷ xs) x ys = at_end xs x ys

-- what stands behind some items is none of them
pub distinct_behind : {A : Type 0} (xs : List A) (x : A) (ys : List A) → IsDistinct (xs ++ x ∷ ys) → Contains xs x → ⊥
distinct_behind [] x ys d (k, within, is) = absurd (let n : k < 0 = within in omega arith)
distinct_behind (y ∷ xs) x ys d (zero, within, is) =
    distinct_head y (xs ++ x ∷ ys) d (length xs) (subst (λ z. slice_get (xs ++ x ∷ ys) (length xs) ≡ Some z) (sym is) (at_end xs x ys))
distinct_behind (y ∷ xs) x ys d (suc k, within, is) =
    let less : k < length xs = (let m : suc k < suc (length xs) = within in omega arith) in
    distinct_behind xs x ys (distinct_tail y (xs ++ x ∷ ys) d) (k, less, is)

distinct_cons : {A : Type 0} (x : A) (xs : List A) → IsNowhere xs x → IsDistinct xs → IsDistinct (x ∷ xs)
distinct_cons x xs none d zero zero lt within same = absurd (omega arith)
distinct_cons x xs none d zero (suc b) lt within same = none b (sym same)
distinct_cons x xs none d (suc a) zero lt within same = absurd (omega arith)
distinct_cons x xs none d (suc a) (suc b) lt within same =
    let m : suc b < suc (length xs) = within in d a b (omega arith) (omega arith) same

some_same : {A : Type 0} (x y : A) → Some x ≡ Some y → x ≡ y
some_same x y e = cc

nowhere_push : {A : Type 0} (xs : List A) (x y : A) → IsNowhere xs x → x ≢ y → IsNowhere (xs ++ y ∷ []) x
nowhere_push [] x y none other zero is = other (sym (some_same y x is))
nowhere_push [] x y none other (suc k) is = absurd cc
nowhere_push (z ∷ xs) x y none other zero is = none 0 is
nowhere_push (z ∷ xs) x y none other (suc k) is = nowhere_push xs x y (λ j. none (suc j)) other k is

-- one item more, which is none of them
pub distinct_push : {A : Type 0} (xs : List A) (y : A) → IsDistinct xs → (Contains xs y → ⊥) → IsDistinct (xs ++ y ∷ [])
distinct_push [] y d new = distinct_cons y [] (λ k is. absurd cc) none_distinct
distinct_push (x ∷ xs) y d new =
    distinct_cons x (xs ++ y ∷ []) (nowhere_push xs x y (distinct_head x xs d) (λ same. new (0, omega arith, same)))
    (distinct_push xs y (distinct_tail x xs d) (λ (k, within, is). new (suc k, (let m : k < length xs = within in omega arith), is)))

-- ---- the set of some listings

both_equal : (o p : Ordering) → ordering_then o p ≡ Equal → (o ≡ Equal) × (p ≡ Equal)
both_equal Less p e = absurd cc
both_equal Equal p e = (refl, e)
both_equal Greater p e = absurd cc

is_equal : (o : Ordering) → is_eq o ≡ true → o ≡ Equal
is_equal Less e = absurd cc
is_equal Equal e = refl
is_equal Greater e = absurd cc

listing_same : (a b : Listing) → eq_by_cmp listing_cmp a b ≡ true → a ≡ b
listing_same a b e =
    let (name, version) = both_equal (slice_cmp nat_cmp a.name b.name) (int_cmp a.version b.version) (is_equal (listing_cmp a b) e) in
    ap (λ (n : List ℕ). record { name = n; version = a.version }) (exact_bytes a.name b.name name)
    ∙ ap (λ (v : ℤ). record { name = b.name; version = v }) (exact_signed a.version b.version version)

listing_itself : (a : Listing) → eq_by_cmp listing_cmp a a ≡ true
listing_itself a =
    ap is_eq (tied_itself (then_total (on_total (λ l. l.name) nat_list_cmp_total) (on_total (λ l. l.version) int_cmp_total)) a)

or_is : (a b : Bool) → (a || b) ≡ true → (a ≡ true) ⊎ (b ≡ true)
or_is true b e = inl refl
or_is false b e = inr e

or_right : (a b : Bool) → b ≡ true → (a || b) ≡ true
or_right true b e = refl
or_right false b e = e

pub any_contains : (ls : List Listing) (l : Listing) → list_any (eq_by_cmp listing_cmp l) ls ≡ true → Contains ls l
any_contains [] l e = absurd cc
any_contains (k ∷ ls) l e = elim (or_is (eq_by_cmp listing_cmp l k) (list_any (eq_by_cmp listing_cmp l) ls) e) [
  | inl here ↦ (0, omega arith, sym (listing_same l k here))
  | inr later ↦ let (i, within, is) = any_contains ls l later in (suc i, (let m : i < length ls = within in omega arith), is)
]

pub contains_any : (ls : List Listing) (l : Listing) → Contains ls l → list_any (eq_by_cmp listing_cmp l) ls ≡ true
contains_any [] l (i, within, is) = absurd (let n : i < 0 = within in omega arith)
contains_any (k ∷ ls) l (zero, within, is) =
    ap (λ b. b || list_any (eq_by_cmp listing_cmp l) ls) (subst (λ (z : Listing). eq_by_cmp listing_cmp l z ≡ true) (sym is) (listing_itself l))
contains_any (k ∷ ls) l (suc i, within, is) =
    let less : i < length ls = (let m : suc i < suc (length ls) = within in omega arith) in
    or_right (eq_by_cmp listing_cmp l k) (list_any (eq_by_cmp listing_cmp l) ls) (contains_any ls l (i, less, is))
