-- A loop over values keeps that what reading a list gives is the values so far and what reading gives on what is left. Each lemma
-- is one turn of such a loop: `front` is the values so far, none at first, and `k` what is done with all of them and what stands after.
use Rattle.std.proofs.Common.{◌≡◌, refl, sym, ap, ◌∙◌, Bool, true, false, ℕ, zero, suc, List, [], ◌∷◌, ◌++◌, length, arith}
use Rattle.std.proofs.lemmas.List.{append-nil}
use Rattle.readers.specs.Reader.{Outcome, whole, more, bad, after, mapped, Each, Right, IsNot, Begins, count, rests, others}
use Rattle.readers.specs.Until.{until}
use Rattle.readers.proofs.Readers.{snoc}
use Rattle.readers.proofs.Leaves.{pick_true, pick_false}
use Rattle.readers.proofs.Limits.{bound_enough}
use Rattle.readers.proofs.Bounds.{after_same, leaves_less, rests_same, others_same}
use Rattle.readers.proofs.Until.{leaves_fewer, until_same}

-- ---- what comes after an outcome

pub after_whole : {S W A B : Type 0} {o : Outcome S W A} {a : A} {u : List S} (f : A → List S → Outcome S W B) → o ≡ whole a u
    → after o f ≡ f a u
after_whole f e = ap (λ o. after o f) e

pub after_more : {S W A B : Type 0} {o : Outcome S W A} (f : A → List S → Outcome S W B) → o ≡ more → after o f ≡ more
after_more f e = ap (λ o. after o f) e

pub after_bad : {S W A B : Type 0} {o : Outcome S W A} {n : ℕ} {w : W} (f : A → List S → Outcome S W B) → o ≡ bad n w
    → after o f ≡ bad n w
after_bad f e = ap (λ o. after o f) e

-- nothing more is done
pub after_self : {S W A : Type 0} (o : Outcome S W A) → after o (λ a u. whole a u) ≡ o
after_self (whole a u) = refl
after_self more = refl
after_self (bad n w) = refl

pub after_mapped : {S W A B C : Type 0} (o : Outcome S W A) (g : A → B) (f : B → List S → Outcome S W C)
    → after (mapped g o) f ≡ after o (λ a u. f (g a) u)
after_mapped (whole a u) g f = refl
after_mapped more g f = refl
after_mapped (bad n w) g f = refl

pub after_after : {S W A B C : Type 0} (o : Outcome S W A) (g : A → List S → Outcome S W B) (f : B → List S → Outcome S W C)
    → after (after o g) f ≡ after o (λ a u. after (g a u) f)
after_after (whole a u) g f = refl
after_after more g f = refl
after_after (bad n w) g f = refl

-- a function of the value, as what comes after it
pub mapped_after : {S W A B : Type 0} (o : Outcome S W A) (g : A → B) → mapped g o ≡ after o (λ a u. whole (g a) u)
mapped_after (whole a u) g = refl
mapped_after more g = refl
mapped_after (bad n w) g = refl

-- ---- one turn, with any bound

-- what is done after more values are read: with those so far and these
abbrev pub onward : {S W A B : Type 0} → (List A → List S → Outcome S W B) → List A → Outcome S W (List A) → Outcome S W B
onward k front o = after o (λ vs. k (front ++ vs))

module _ {S W A B : Type 0} (k : List A → List S → Outcome S W B) (front : List A) where
  -- no more values
  pub none_more : (s : List S) → onward k front (whole [] s) ≡ k front s
  none_more s = ap (λ vs. k vs s) (append-nil front)

  -- one value more
  pub one_more : (o : Outcome S W A) (next : List S → Outcome S W (List A))
      → onward k front (after o (λ v u. mapped (λ vs. v ∷ vs) (next u))) ≡ after o (λ v u. onward k (front ++ v ∷ []) (next u))
  one_more (whole v u) next = go (next u)
    where
      go : (o : Outcome S W (List A)) → onward k front (mapped (λ vs. v ∷ vs) o) ≡ onward k (front ++ v ∷ []) o
      go (whole vs t) = ap (λ all. k all t) (sym (snoc front v vs))
      go more = refl
      go (bad n w) = refl
  one_more more next = refl
  one_more (bad n w) next = refl

module _ {S W A B : Type 0} (r : List S → Outcome S W A) (k : List A → List S → Outcome S W B) (front : List A) where
  -- a number of values: one is read; there is none to read
  pub count_go : (n : ℕ) (s : List S) → onward k front (count r (suc n) s) ≡ after (r s) (λ v u. onward k (front ++ v ∷ []) (count r n u))
  count_go n s = one_more k front (r s) (count r n)

  pub count_end : (s : List S) → onward k front (count r zero s) ≡ k front s
  count_end s = none_more k front s

  -- up to a closing symbol: a value after a separator is read; the list closes; another symbol is at fault; nothing is left
  pub rests_go : (sep close : S → Bool) (w : W) (n : ℕ) (c : S) (s : List S) → close c ≡ false → sep c ≡ true
      → onward k front (rests sep close w r (suc n) (c ∷ s))
      ≡ after (r s) (λ v u. onward k (front ++ v ∷ []) (rests sep close w r n u))
  unfolding rests
  rests_go sep close w n c s e d =
      ap (onward k front) (pick_false (close c) _ _ e ∙ pick_true (sep c) _ _ d) ∙ one_more k front (r s) (rests sep close w r n)

  pub rests_end : (sep close : S → Bool) (w : W) (n : ℕ) (c : S) (s : List S) → close c ≡ true
      → onward k front (rests sep close w r n (c ∷ s)) ≡ k front s
  unfolding rests
  rests_end sep close w zero c s e = ap (onward k front) (pick_true (close c) _ _ e) ∙ none_more k front s
  rests_end sep close w (suc n) c s e = ap (onward k front) (pick_true (close c) _ _ e) ∙ none_more k front s

  pub rests_other : (sep close : S → Bool) (w : W) (n : ℕ) (c : S) (s : List S) → close c ≡ false → sep c ≡ false
      → onward k front (rests sep close w r n (c ∷ s)) ≡ bad (length (c ∷ s)) w
  unfolding rests
  rests_other sep close w zero c s e d = ap (onward k front) (pick_false (close c) _ _ e)
  rests_other sep close w (suc n) c s e d = ap (onward k front) (pick_false (close c) _ _ e ∙ pick_false (sep c) _ _ d)

  pub rests_done : (sep close : S → Bool) (w : W) (n : ℕ) → onward k front (rests sep close w r n []) ≡ more
  unfolding rests
  rests_done sep close w zero = refl
  rests_done sep close w (suc n) = refl

  -- up to an end that is not used up, which may be that nothing is left
  pub others_go : (sep ends : S → Bool) (w : W) (n : ℕ) (c : S) (s : List S) → sep c ≡ true
      → onward k front (others sep ends w r (suc n) (c ∷ s))
      ≡ after (r s) (λ v u. onward k (front ++ v ∷ []) (others sep ends w r n u))
  unfolding others
  others_go sep ends w n c s d = ap (onward k front) (pick_true (sep c) _ _ d) ∙ one_more k front (r s) (others sep ends w r n)

  pub others_end : (sep ends : S → Bool) (w : W) (n : ℕ) (c : S) (s : List S) → sep c ≡ false → ends c ≡ true
      → onward k front (others sep ends w r n (c ∷ s)) ≡ k front (c ∷ s)
  unfolding others
  others_end sep ends w zero c s d e = ap (onward k front) (pick_true (ends c) _ _ e) ∙ none_more k front (c ∷ s)
  others_end sep ends w (suc n) c s d e =
      ap (onward k front) (pick_false (sep c) _ _ d ∙ pick_true (ends c) _ _ e) ∙ none_more k front (c ∷ s)

  pub others_other : (sep ends : S → Bool) (w : W) (n : ℕ) (c : S) (s : List S) → sep c ≡ false → ends c ≡ false
      → onward k front (others sep ends w r n (c ∷ s)) ≡ bad (length (c ∷ s)) w
  unfolding others
  others_other sep ends w zero c s d e = ap (onward k front) (pick_false (ends c) _ _ e)
  others_other sep ends w (suc n) c s d e = ap (onward k front) (pick_false (sep c) _ _ d ∙ pick_false (ends c) _ _ e)

  pub others_done : (sep ends : S → Bool) (w : W) (n : ℕ) → onward k front (others sep ends w r n []) ≡ k front []
  unfolding others
  others_done sep ends w zero = none_more k front []
  others_done sep ends w (suc n) = none_more k front []

  -- up to a closing symbol, with no separator: any other symbol begins a value
  pub until_go : (close : S → Bool) (w : W) (n : ℕ) (c : S) (s : List S) → close c ≡ false
      → onward k front (until close w r (suc n) (c ∷ s))
      ≡ after (r (c ∷ s)) (λ v u. onward k (front ++ v ∷ []) (until close w r n u))
  unfolding until
  until_go close w n c s e = ap (onward k front) (pick_false (close c) _ _ e) ∙ one_more k front (r (c ∷ s)) (until close w r n)

  pub until_end : (close : S → Bool) (w : W) (n : ℕ) (c : S) (s : List S) → close c ≡ true
      → onward k front (until close w r n (c ∷ s)) ≡ k front s
  unfolding until
  until_end close w zero c s e = ap (onward k front) (pick_true (close c) _ _ e) ∙ none_more k front s
  until_end close w (suc n) c s e = ap (onward k front) (pick_true (close c) _ _ e) ∙ none_more k front s

  pub until_done : (close : S → Bool) (w : W) (n : ℕ) → onward k front (until close w r n []) ≡ more
  unfolding until
  until_done close w zero = refl
  until_done close w (suc n) = refl

-- ---- one turn of the whole reading, whose bound is the number of symbols that are left

module _ {S W A B : Type 0} (V E : S → Type 0) (L : A → List S → Type 0) (R : List S → S → W → Type 0) (r : List S → Outcome S W A)
    (right : Right V E L R r) (k : List A → List S → Outcome S W B) (front : List A) where
  pub rests_go_on : (sep close : S → Bool) (w : W) (c : S) (s : List S) → Each V s → close c ≡ false → sep c ≡ true
      → onward k front (rests sep close w r (length (c ∷ s)) (c ∷ s))
      ≡ after (r s) (λ v u. onward k (front ++ v ∷ []) (rests sep close w r (length u) u))
  rests_go_on sep close w c s vs e d =
      rests_go r k front sep close w (length s) c s e d
      ∙ after_same (r s) _ _ (λ v u is. let (le, us) = leaves_less V E L R r right s v u vs is in
      ap (onward k (front ++ v ∷ [])) (bound_enough V (rests sep close w r) (rests_same V E L R r right sep close w) (length s) u us le))

  pub others_go_on : (sep ends : S → Bool) (w : W) (c : S) (s : List S) → Each V s → sep c ≡ true
      → onward k front (others sep ends w r (length (c ∷ s)) (c ∷ s))
      ≡ after (r s) (λ v u. onward k (front ++ v ∷ []) (others sep ends w r (length u) u))
  others_go_on sep ends w c s vs d =
      others_go r k front sep ends w (length s) c s d
      ∙ after_same (r s) _ _ (λ v u is. let (le, us) = leaves_less V E L R r right s v u vs is in
      ap (onward k (front ++ v ∷ [])) (bound_enough V (others sep ends w r) (others_same V E L R r right sep ends w) (length s) u us le))

  pub until_go_on : (close : S → Bool) (w : W) → Begins (λ c. IsNot close c × E c) L → (c : S) (s : List S) → Each V (c ∷ s)
      → close c ≡ false → onward k front (until close w r (length (c ∷ s)) (c ∷ s))
      ≡ after (r (c ∷ s)) (λ v u. onward k (front ++ v ∷ []) (until close w r (length u) u))
  until_go_on close w begins c s vs e =
      until_go r k front close w (length s) c s e
      ∙ after_same (r (c ∷ s)) _ _ (λ v u is. let (less, us) = leaves_fewer V E close w L R r right begins (c ∷ s) v u vs is in
      ap (onward k (front ++ v ∷ []))
      (bound_enough V (until close w r) (until_same V E close w L R r right begins) (length s) u us (omega arith)))
