-- A list that stands in another from a place on, and items by their places.
use Rattle.std.proofs.Common.{◌≡◌, ℕ, zero, suc, ◌+◌, ◌≤◌, ◌⊎◌, inl, inr, List, [], ◌∷◌, ◌++◌, length, take, drop, slice_get, Some, refl, sym, ap, subst, ◌∙◌, append_assoc, append-nil, length-append, arith}
use Rattle.std.specs.List.{All}
use Rattle.std.proofs.lemmas.List.Elements.{All-head, All-tail}

module _ {A : Type 0} where
  pub get_front : (xs ys : List A) (i : ℕ) (x : A) → slice_get xs i ≡ Some x → slice_get (xs ++ ys) i ≡ Some x
  get_front [] ys i x at = cc
  get_front (z ∷ xs) ys zero x at = at
  get_front (z ∷ xs) ys (suc i) x at = get_front xs ys i x at

  pub get_seam : (xs : List A) (y : A) (ys : List A) → slice_get (xs ++ y ∷ ys) (length xs) ≡ Some y
  get_seam [] y ys = refl
  get_seam (x ∷ xs) y ys = get_seam xs y ys

  -- an item of a list with one more is an item of the list, or that one
  pub get_pushed : (xs : List A) (y : A) (i : ℕ) (z : A) → slice_get (xs ++ y ∷ []) i ≡ Some z
      → (slice_get xs i ≡ Some z) ⊎ ((i ≡ length xs) × (z ≡ y))
  get_pushed [] y zero z at = let e : z ≡ y = cc in inr (refl, e)
  get_pushed [] y (suc i) z at = cc
  get_pushed (x ∷ xs) y zero z at = inl at
  get_pushed (x ∷ xs) y (suc i) z at = elim (get_pushed xs y i z at) [
    | inl old ↦ inl old
    | inr new ↦ inr (ap suc new.0, new.1)
  ]

  pub all_get : (P : A → Type 0) (xs : List A) (i : ℕ) (x : A) → All P xs → slice_get xs i ≡ Some x → P x
  all_get P [] i x all at = absurd cc
  all_get P (y ∷ xs) zero x all at = let e : y ≡ x = cc in subst P e (All-head P y xs all)
  all_get P (y ∷ xs) (suc i) x all at = all_get P xs i x (All-tail P y xs all) at

  pub drop_get : (xs : List A) (i : ℕ) (x : A) → slice_get xs i ≡ Some x → drop i xs ≡ x ∷ drop (suc i) xs
  drop_get [] i x at = cc
  drop_get (y ∷ xs) zero x at = let e : y ≡ x = cc in ap (λ z. z ∷ xs) e
  drop_get (y ∷ xs) (suc i) x at = drop_get xs i x at

-- ys stand in xs from the place `first` on
pub record Stands {A : Type 0} (xs : List A) (first : ℕ) (ys : List A) : Type 0 where
  pub front : List A
  pub back : List A
  pub all : xs ≡ front ++ (ys ++ back)
  pub before : length front ≡ first

module _ {A : Type 0} where
  pub stands_last : (xs ys : List A) → Stands (xs ++ ys) (length xs) ys
  stands_last xs ys = record { front = xs; back = []; all = ap (λ zs. xs ++ zs) (sym (append-nil ys)); before = refl }

  pub stands_more : (xs zs : List A) (first : ℕ) (ys : List A) → Stands xs first ys → Stands (xs ++ zs) first ys
  stands_more xs zs first ys h = record {
    front = h.front;
    back = h.back ++ zs;
    all = ap (λ l. l ++ zs) h.all ∙ simp append_assoc;
    before = h.before;
  }

  pub stands_within : (xs : List A) (first : ℕ) (ys : List A) → Stands xs first ys → first + length ys ≤ length xs
  stands_within xs first ys h =
      omega (arith, ap length h.all, length-append h.front (ys ++ h.back), length-append ys h.back, h.before)

  pub stands_head : (xs : List A) (first : ℕ) (y : A) (ys : List A) → Stands xs first (y ∷ ys) → slice_get xs first ≡ Some y
  stands_head xs first y ys h = rw (h.all, ← h.before) (get_seam h.front y (ys ++ h.back))

  pub stands_tail : (xs : List A) (first : ℕ) (y : A) (ys : List A) → Stands xs first (y ∷ ys) → Stands xs (suc first) ys
  stands_tail xs first y ys h = record {
    front = h.front ++ y ∷ [];
    back = h.back;
    all = h.all ∙ sym (append_assoc h.front (y ∷ []) (ys ++ h.back));
    before = omega (arith, length-append h.front (y ∷ []), h.before);
  }

  pub stands_get : (xs : List A) (first : ℕ) (ys : List A) (i : ℕ) (y : A) → Stands xs first ys → slice_get ys i ≡ Some y
      → slice_get xs (first + i) ≡ Some y
  stands_get xs first [] i y h at = cc
  stands_get xs first (z ∷ ys) zero y h at =
      let e : first + 0 ≡ first = omega arith in rw e (stands_head xs first z ys h ∙ at)
  stands_get xs first (z ∷ ys) (suc i) y h at =
      let e : first + suc i ≡ suc first + i = omega arith in rw e (stands_get xs (suc first) ys i y (stands_tail xs first z ys h) at)

  front_of : (ys zs : List A) → take (length ys) (ys ++ zs) ≡ ys
  front_of [] zs = refl
  front_of (y ∷ ys) zs = ap (λ l. y ∷ l) (front_of ys zs)

  back_of : (ys zs : List A) → drop (length ys) (ys ++ zs) ≡ zs
  back_of [] zs = refl
  back_of (y ∷ ys) zs = back_of ys zs

  pub stands_cut : (xs : List A) (first : ℕ) (ys : List A) → Stands xs first ys → take (length ys) (drop first xs) ≡ ys
  stands_cut xs first ys h =
      rw (h.all, ← h.before, back_of h.front (ys ++ h.back)) (front_of ys h.back)
