-- The lines of a schema have one menu.
use Rattle.std.proofs.Common.{◌≡◌, refl, sym, ap, ◌∙◌, subst, ℕ, zero, suc, ◌+◌, ◌<◌, ◌≤◌, ℤ, true, false, if◌then◌else◌, List, [], ◌∷◌, length, get_or, sum_by, arith}
use Rattle.std.specs.declared.cmp.Ordering.{Ordering}
use Rattle.std.specs.declared.cmp.Ordering.TheVariants.{Less, Equal, Greater}
use Rattle.std.specs.Cmp.{IsTotalOrder}
use Rattle.std.specs.Cmp.Lexicographic.{slice_cmp}
use Rattle.std.specs.List.Sorted.{IsSorted}
use Rattle.std.specs.Ordering.{int_cmp, is_eq, is_lt, nat_cmp, ordering_reverse, ordering_then}
use Rattle.std.proofs.lemmas.Cmp.{int_cmp_total, nat_list_cmp_total, on_total, then_total, tied_itself}
use Rattle.std.proofs.lemmas.List.Sums.{sum_by-cons}
use Rattle.std.proofs.lemmas.List.Sorted.{ranks_by, sorted_far, sum_by-IsPermutation}
use Rattle.std.proofs.lemmas.Map.Lookups.{exact_bytes, exact_signed}
use Rattle.rpc_schema.specs.Choice.{IsMenuOf, offered}
use Rattle.rpc_schema.specs.Entries.{listing_cmp}
use Rattle.rpc_schema.specs.declared.desc.Entry.{Entry}
use Rattle.rpc_schema.specs.declared.desc.Listing.{Listing}

-- ---- lists in order with the same elements

module _ {X : Type 0} (R : X → X → Ordering) (order : IsTotalOrder R) (exact : (x y : X) → R x y ≡ Equal → x ≡ y) where
  abbrev tell : X → X → ℕ
  tell z x = if is_eq (R x z) then 1 else 0

  abbrev one_if : Ordering → ℕ
  one_if o = if is_eq o then 1 else 0

  told : (x z : X) (o : Ordering) → R x z ≡ o → tell z x ≡ one_if o
  told x z o e = ap one_if e

  -- what is counted stands somewhere
  counted : (z : X) (xs : List X) → 1 ≤ sum_by (tell z) xs → (k : ℕ) × (k < length xs) × (get_or xs k z ≡ z)
  counted z [] some = absurd (omega arith)
  counted z (x ∷ xs) some = by (R x z) refl some (counted z xs)
    where
      by : (o : Ordering) → R x z ≡ o → 1 ≤ sum_by (tell z) (x ∷ xs)
          → (1 ≤ sum_by (tell z) xs → (k : ℕ) × (k < length xs) × (get_or xs k z ≡ z)) → (k : ℕ) × (k < length (x ∷ xs)) × (get_or (x ∷ xs) k z ≡ z)
      by Equal e some later = (zero, omega arith, exact x z e)
      by Less e some later = let (k, lt, is) = later (omega (arith, some, sum_by-cons (tell z) x xs, told x z Less e)) in (suc k, omega (arith, lt), is)
      by Greater e some later = let (k, lt, is) = later (omega (arith, some, sum_by-cons (tell z) x xs, told x z Greater e)) in (suc k, omega (arith, lt), is)

  -- the first is not above any of them
  first_low : (x z : X) (xs : List X) → IsSorted R (x ∷ xs) → 1 ≤ sum_by (tell z) (x ∷ xs) → is_lt (R z x) ≡ false
  first_low x z xs up some =
      let (k, lt, is) = counted z (x ∷ xs) some in
      ap (λ a. is_lt (R a x)) (sym is) ∙ sorted_far _ (ranks_by order (λ a. a)) (x ∷ xs) up 0 k z (omega arith) lt

  neither_low : (x y : X) → is_lt (R x y) ≡ false → is_lt (R y x) ≡ false → R x y ≡ Equal
  neither_low x y p q = by (R y x) refl (order.antisymm x y)
    where
      by : (o : Ordering) → R y x ≡ o → R x y ≡ ordering_reverse (R y x) → R x y ≡ Equal
      by Less e a = absurd (let line : true ≡ false = ap is_lt (sym e) ∙ q in cc)
      by Equal e a = a ∙ ap ordering_reverse e
      by Greater e a = absurd (let line : true ≡ false = ap is_lt (sym (a ∙ ap ordering_reverse e)) ∙ p in cc)

  itself_counted : (x : X) (xs : List X) → 1 ≤ sum_by (tell x) (x ∷ xs)
  itself_counted x xs = omega (arith, sum_by-cons (tell x) x xs, told x x Equal (tied_itself order x))

  tail_sorted : (x : X) (xs : List X) → IsSorted R (x ∷ xs) → IsSorted R xs
  tail_sorted x xs up k d low within =
      subst (λ n. is_lt (R (get_or (x ∷ xs) n d) (get_or xs k d)) ≡ false) {x = suc k + 1} {y = suc (k + 1)} (omega arith) (up (suc k) d (omega arith) (omega (arith, within)))

  -- lists in order that count each element alike are equal
  pub same_sorted : (xs ys : List X) → IsSorted R xs → IsSorted R ys → ((f : X → ℕ) → sum_by f xs ≡ sum_by f ys) → xs ≡ ys
  same_sorted [] [] up rise sums = refl
  same_sorted [] (y ∷ ys) up rise sums = absurd (omega (arith, sums (λ z. 1), sum_by-cons (λ z. 1) y ys))
  same_sorted (x ∷ xs) [] up rise sums = absurd (omega (arith, sums (λ z. 1), sum_by-cons (λ z. 1) x xs))
  same_sorted (x ∷ xs) (y ∷ ys) up rise sums =
      let low : is_lt (R x y) ≡ false = first_low y x ys rise (omega (arith, sums (tell x), itself_counted x xs)) in
      let high : is_lt (R y x) ≡ false = first_low x y xs up (omega (arith, sums (tell y), itself_counted y ys)) in
      let first : x ≡ y = exact x y (neither_low x y low high) in
      ap (λ z. z ∷ xs) first
      ∙ ap (λ zs. y ∷ zs) (same_sorted xs ys (tail_sorted x xs up) (tail_sorted y ys rise) (λ f. omega (arith, sums f, ap f first, sum_by-cons f x xs, sum_by-cons f y ys)))

-- ---- menus

both_equal : (o p : Ordering) → ordering_then o p ≡ Equal → (o ≡ Equal) × (p ≡ Equal)
both_equal Less p e = absurd cc
both_equal Equal p e = (refl, e)
both_equal Greater p e = absurd cc

listing_exact : (a b : Listing) → listing_cmp a b ≡ Equal → a ≡ b
listing_exact a b e =
    let (name, version) = both_equal (slice_cmp nat_cmp a.name b.name) (int_cmp a.version b.version) e in
    ap (λ (n : List ℕ). record { name = n; version = a.version }) (exact_bytes a.name b.name name)
    ∙ ap (λ (v : ℤ). record { name = b.name; version = v }) (exact_signed a.version b.version version)

listing_total : IsTotalOrder listing_cmp
listing_total = then_total (on_total (λ l. l.name) nat_list_cmp_total) (on_total (λ l. l.version) int_cmp_total)

-- two menus of the same lines are equal
pub menu_same : (es : List Entry) (ls ms : List Listing) → IsMenuOf es ls → IsMenuOf es ms → ls ≡ ms
menu_same es ls ms one two =
    same_sorted listing_cmp listing_total listing_exact ls ms one.sorted two.sorted
    (λ f. sum_by-IsPermutation f (offered es) ls one.all ∙ sym (sum_by-IsPermutation f (offered es) ms two.all))
