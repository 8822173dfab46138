-- The reader of keys is right, its places have one reason, and it grows.
use Rattle.std.proofs.Common.{◌≡◌, refl, sym, ap, ◌∙◌, subst, true, false, ℕ, zero, suc, nat_eq, List, [], ◌∷◌, length, ◌⊎◌, inl, inr, arith}
use Rattle.std.proofs.lemmas.List.{length-append}
use Rattle.readers.specs.Reader.{Outcome, bad, Each, Any, Right, Done, First, Tells, Grows}
use Rattle.readers.specs.Keys.{Keyed, AllLong, AreApart, KeyWhy, tail_if, next, some_left, key_at}
use Rattle.readers.proofs.Readers.{right_done, right_first, right_same, Continues, Stops}
use Rattle.readers.proofs.Leaves.{is_or, pick_true, pick_false}
use Rattle.readers.proofs.Growing.{grows_first, grows_bad}

equal_or : (c b : ℕ) → ((c ≡ b) × (nat_eq c b ≡ true)) ⊎ ((c ≡ b → ⊥) × (nat_eq c b ≡ false))
equal_or c b = elim (is_or (nat_eq c b)) [ inl t ↦ inl (grind arith, t) | inr f ↦ inr (λ e. grind arith, f) ]

-- ---- the keys that begin with a symbol

tail_into : (b place : ℕ) (key : List ℕ) (ks : List (ℕ × List ℕ)) (q : ℕ) (t : List ℕ)
    → ((q ≡ place) × (b ∷ t ≡ key)) ⊎ Keyed ks q t → Keyed (tail_if b place key ks) q t
tail_into b place [] ks q t (inl (e, same)) = absurd cc
tail_into b place [] ks q t (inr k) = k
tail_into b place (c ∷ key) ks q t (inl (e, same)) = elim (equal_or c b) [
  | inl x ↦ let tk : t ≡ key = cc in subst (λ l. Keyed l q t) (sym (pick_true (nat_eq c b) ((place, key) ∷ ks) ks x.1)) (inl (e, tk))
  | inr x ↦ let cb : c ≡ b = cc in absurd (x.0 cb)
]
tail_into b place (c ∷ key) ks q t (inr k) = elim (equal_or c b) [
  | inl x ↦ subst (λ l. Keyed l q t) (sym (pick_true (nat_eq c b) ((place, key) ∷ ks) ks x.1)) (inr k)
  | inr x ↦ subst (λ l. Keyed l q t) (sym (pick_false (nat_eq c b) ((place, key) ∷ ks) ks x.1)) k
]

tail_out : (b place : ℕ) (key : List ℕ) (ks : List (ℕ × List ℕ)) (q : ℕ) (t : List ℕ)
    → Keyed (tail_if b place key ks) q t → ((q ≡ place) × (b ∷ t ≡ key)) ⊎ Keyed ks q t
tail_out b place [] ks q t k = inr k
tail_out b place (c ∷ key) ks q t k = elim (equal_or c b) [
  | inl x ↦ kept x.0 (subst (λ l. Keyed l q t) (pick_true (nat_eq c b) ((place, key) ∷ ks) ks x.1) k)
  | inr x ↦ inr (subst (λ l. Keyed l q t) (pick_false (nat_eq c b) ((place, key) ∷ ks) ks x.1) k)
]
  where
    kept : c ≡ b → Keyed ((place, key) ∷ ks) q t → ((q ≡ place) × (b ∷ t ≡ c ∷ key)) ⊎ Keyed ks q t
    kept cb (inl (e, same)) = inl (e, cc)
    kept cb (inr k) = inr k

pub next_into : (b : ℕ) (ks : List (ℕ × List ℕ)) (p : ℕ) (t : List ℕ) → Keyed ks p (b ∷ t) → Keyed (next b ks) p t
next_into b [] p t k = k
next_into b (k ∷ ks) p t (inl x) = tail_into b k.0 k.1 (next b ks) p t (inl x)
next_into b (k ∷ ks) p t (inr x) = tail_into b k.0 k.1 (next b ks) p t (inr (next_into b ks p t x))

pub next_out : (b : ℕ) (ks : List (ℕ × List ℕ)) (p : ℕ) (t : List ℕ) → Keyed (next b ks) p t → Keyed ks p (b ∷ t)
next_out b [] p t k = k
next_out b (k ∷ ks) p t x = go (tail_out b k.0 k.1 (next b ks) p t x) (λ y. next_out b ks p t y)
  where
    go : ((p ≡ k.0) × (b ∷ t ≡ k.1)) ⊎ Keyed (next b ks) p t → (Keyed (next b ks) p t → Keyed ks p (b ∷ t)) → Keyed (k ∷ ks) p (b ∷ t)
    go (inl y) rest = inl y
    go (inr y) rest = inr (rest y)

tail_long : (n b place : ℕ) (key : List ℕ) (ks : List (ℕ × List ℕ)) → length key ≡ suc n → AllLong n ks → AllLong n (tail_if b place key ks)
tail_long n b place [] ks len all = absurd (omega arith)
tail_long n b place (c ∷ key) ks len all = elim (is_or (nat_eq c b)) [
  | inl x ↦ subst (AllLong n) (sym (pick_true (nat_eq c b) ((place, key) ∷ ks) ks x)) (omega arith, all)
  | inr x ↦ subst (AllLong n) (sym (pick_false (nat_eq c b) ((place, key) ∷ ks) ks x)) all
]

pub next_long : (n b : ℕ) (ks : List (ℕ × List ℕ)) → AllLong (suc n) ks → AllLong n (next b ks)
next_long n b [] all = tt
next_long n b (k ∷ ks) all = tail_long n b k.0 k.1 (next b ks) all.0 (next_long n b ks all.1)

-- a key has n symbols
pub long_is : (n : ℕ) (ks : List (ℕ × List ℕ)) (p : ℕ) (s : List ℕ) → AllLong n ks → Keyed ks p s → length s ≡ n
long_is n [] p s all k = absurd k
long_is n (k ∷ ks) p s all (inl x) = ap length x.1 ∙ all.0
long_is n (k ∷ ks) p s all (inr x) = long_is n ks p s all.1 x

none_of : (s : List ℕ) → length s ≡ 0 → s ≡ []
none_of [] e = refl
none_of (b ∷ s) e = absurd (omega arith)

-- ---- the reader

module _ {W : Type 0} (V : ℕ → Type 0) (w : W) where
  -- one step more: the keys that are left are read rightly
  key_each : (n : ℕ) (ks : List (ℕ × List ℕ)) → AllLong (suc n) ks → AreApart ks → ((p : ℕ) (s : List ℕ) → Keyed ks p s → Each V s)
      → ((js : List (ℕ × List ℕ)) → AllLong n js → AreApart js → ((p : ℕ) (s : List ℕ) → Keyed js p s → Each V s) → (p : ℕ) (s : List ℕ) → Keyed js p s → Right V Any (Keyed js) (KeyWhy n w) (key_at w n js))
      → (b : ℕ) → V b → (js : List (ℕ × List ℕ)) → next b ks ≡ js
      → Continues V Any (Keyed js) (λ p. KeyWhy (suc n) w (b ∷ p)) (some_left w (key_at w n) js b) ⊎ Stops (Keyed js) (KeyWhy (suc n) w []) (some_left w (key_at w n) js b) b
  key_each n ks long apart valid inner b vb [] e = inr (record { reason = w; is = λ s. refl; none = λ p t k. k; why = (refl, omega arith) })
  key_each n ks long apart valid inner b vb (j ∷ js) e = inl (record {
    right = right_same V Any (Keyed (j ∷ js)) (Keyed (j ∷ js)) (KeyWhy n w) (λ p. KeyWhy (suc n) w (b ∷ p)) (some_left w (key_at w n) (j ∷ js) b)
        (λ p s k. k) (λ p s k. k) (λ p c x y. (y.0, omega (arith, y.1))) (inner (j ∷ js) left_long left_apart left_valid j.0 j.1 (inl (refl, refl)));
    value = j.0;
    text = j.1;
    start = inl (refl, refl);
  })
    where
      left_long : AllLong n (j ∷ js)
      left_long = subst (AllLong n) e (next_long n b ks long)

      before : (p : ℕ) (s : List ℕ) → Keyed (j ∷ js) p s → Keyed ks p (b ∷ s)
      before p s k = next_out b ks p s (subst (λ l. Keyed l p s) (sym e) k)

      left_apart : AreApart (j ∷ js)
      left_apart p q s k l = apart p q (b ∷ s) (before p s k) (before q s l)

      left_valid : (p : ℕ) (s : List ℕ) → Keyed (j ∷ js) p s → Each V s
      left_valid p s k = (valid p (b ∷ s) (before p s k)).1

  pub right_keys : (n : ℕ) (ks : List (ℕ × List ℕ)) → AllLong n ks → AreApart ks → ((p : ℕ) (s : List ℕ) → Keyed ks p s → Each V s)
      → (p : ℕ) (s : List ℕ) → Keyed ks p s → Right V Any (Keyed ks) (KeyWhy n w) (key_at w n ks)
  right_keys zero [] long apart valid p s k = absurd k
  right_keys zero (j ∷ js) long apart valid p s k =
      right_same V Any (Done j.0) (Keyed (j ∷ js)) (KeyWhy 0 w) (KeyWhy 0 w) (key_at w 0 (j ∷ js)) into out (λ p b x y. y) (right_done V j.0 (KeyWhy 0 w))
    where
      into : (q : ℕ) (t : List ℕ) → Done j.0 q t → Keyed (j ∷ js) q t
      into q t d = inl (d.0, d.1 ∙ sym (none_of j.1 long.0))

      out : (q : ℕ) (t : List ℕ) → Keyed (j ∷ js) q t → Done j.0 q t
      out q t l =
          let empty : t ≡ [] = none_of t (long_is 0 (j ∷ js) q t long l) in
          (apart q j.0 t l (inl (refl, empty ∙ sym (none_of j.1 long.0))), empty)
  right_keys (suc n) ks long apart valid p s k =
      right_same V Any (First (λ b. Keyed (next b ks))) (Keyed ks) (KeyWhy (suc n) w) (KeyWhy (suc n) w) (key_at w (suc n) ks) into out (λ p b x y. y)
      (right_first V Any (λ b. Keyed (next b ks)) (KeyWhy (suc n) w) (λ b t. some_left w (key_at w n) (next b ks) b t)
      (λ b vb. key_each n ks long apart valid (λ js. right_keys n js) b vb (next b ks) refl)
      (λ b q t l. (valid q (b ∷ t) (next_out b ks q t l)).0)
      (p, s, out p s k))
    where
      into : (q : ℕ) (t : List ℕ) → First (λ b. Keyed (next b ks)) q t → Keyed ks q t
      into q t (b, u, cut, l) = subst (λ x. Keyed ks q x) (sym cut) (next_out b ks q u l)

      out : (q : ℕ) (t : List ℕ) → Keyed ks q t → First (λ b. Keyed (next b ks)) q t
      out q [] l = absurd (let len : 0 ≡ suc n = long_is (suc n) ks q [] long l in omega arith)
      out q (b ∷ t) l = (b, t, refl, next_into b ks q t l)

  pub tells_keys : (n : ℕ) (ks : List (ℕ × List ℕ)) → AllLong n ks → Tells (Keyed ks) (KeyWhy n w)
  tells_keys n ks long = record {
    one = λ p b v x y z. y.0 ∙ sym z.0;
    silent = λ p t q b x l y. let len : length t ≡ n = long_is n ks p t long l in omega (arith, len, length-append t q, y.1);
  }

grows_left : {W : Type 0} (w : W) (r : List (ℕ × List ℕ) → List ℕ → Outcome ℕ W ℕ) (b : ℕ) (js : List (ℕ × List ℕ)) → ((ks : List (ℕ × List ℕ)) → Grows (r ks))
    → Grows (some_left w r js b)
grows_left w r b [] grows = grows_bad b w
grows_left w r b (j ∷ js) grows = grows (j ∷ js)

-- reading goes on as before whatever follows
pub grows_keys : {W : Type 0} (w : W) (n : ℕ) (ks : List (ℕ × List ℕ)) → Grows (key_at w n ks)
grows_keys w zero [] s x = ap (λ n. bad n w) (length-append s x)
grows_keys w zero (k ∷ ks) s x = refl
grows_keys w (suc n) ks s x =
    grows_first (λ b t. some_left w (key_at w n) (next b ks) b t) (λ b. grows_left w (key_at w n) b (next b ks) (λ js. grows_keys w n js)) s x
