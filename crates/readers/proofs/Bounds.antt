-- Reading a list with a bound: as many more values as there are symbols are enough.
use Rattle.std.proofs.Common.{◌≡◌, ap, ◌∙◌, refl, subst, Bool, if◌then◌else◌, ℕ, zero, suc, ◌+◌, ◌≤◌, List, [], ◌∷◌, length, arith}
use Rattle.std.proofs.lemmas.List.{length-append}
use Rattle.readers.specs.Reader.{Outcome, whole, more, bad, after, mapped, Each, Right, rests, others}
use Rattle.readers.proofs.Readers.{each-rest}

-- reading a value and what follows goes the same way where the readings of what follows agree
pub after_same : {S W A B : Type 0} (o : Outcome S W A) (f g : A → List S → Outcome S W B)
    → ((a : A) (u : List S) → o ≡ whole a u → f a u ≡ g a u) → after o f ≡ after o g
after_same (whole a u) f g same = same a u refl
after_same more f g same = refl
after_same (bad n w) f g same = refl

module _ {S W A : Type 0} (V E : S → Type 0) (L : A → List S → Type 0) (R : List S → S → W → Type 0) (r : List S → Outcome S W A)
    (right : Right V E L R r) where
  -- a reader leaves no more than it was given, of symbols that may come
  pub leaves_less : (s : List S) (a : A) (u : List S) → Each V s → r s ≡ whole a u → (length u ≤ length s) × Each V u
  leaves_less s a u vs e =
      let (t, cut, l, f) = right.sound s a u vs e in
      let lens : length s ≡ length t + length u = ap length cut ∙ length-append t u in
      (omega arith, each-rest V t u (subst (λ x. Each V x) cut vs))

  -- as many more values as there are symbols are enough
  pub rests_same : (sep close : S → Bool) (w : W) (k : ℕ) (s : List S) → Each V s → length s ≤ k
      → rests sep close w r (suc k) s ≡ rests sep close w r k s
  unfolding rests
  rests_same sep close w zero [] vs le = refl
  rests_same sep close w (suc k) [] vs le = refl
  rests_same sep close w zero (c ∷ s) vs le = absurd (omega arith)
  rests_same sep close w (suc k) (c ∷ s) vs le =
      ap (λ o. if close c then whole [] s else if sep c then o else bad (length (c ∷ s)) w)
      (after_same (r s) _ _ (λ v u e. let (short, us) = leaves_less s v u vs.1 e in
      ap (λ o. mapped (λ vs. v ∷ vs) o) (rests_same sep close w k u us (omega arith))))

  pub others_same : (sep ends : S → Bool) (w : W) (k : ℕ) (s : List S) → Each V s → length s ≤ k
      → others sep ends w r (suc k) s ≡ others sep ends w r k s
  unfolding others
  others_same sep ends w zero [] vs le = refl
  others_same sep ends w (suc k) [] vs le = refl
  others_same sep ends w zero (c ∷ s) vs le = absurd (omega arith)
  others_same sep ends w (suc k) (c ∷ s) vs le =
      ap (λ o. if sep c then o else if ends c then whole [] (c ∷ s) else bad (length (c ∷ s)) w)
      (after_same (r s) _ _ (λ v u e. let (short, us) = leaves_less s v u vs.1 e in
      ap (λ o. mapped (λ vs. v ∷ vs) o) (others_same sep ends w k u us (omega arith))))
