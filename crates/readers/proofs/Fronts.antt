-- Readers with fronts of their own, put together: of mapped values, in other words, of a number of values.
use Rattle.std.proofs.Common.{◌≡◌, refl, sym, ap, ◌∙◌, ℕ, zero, suc, List, [], ◌∷◌, ◌++◌}
use Rattle.readers.specs.Reader.{Outcome, whole, more, bad, mapped, Each, Follows, Any, Front, FaultIn, ReadsIn, Mapped, Done, Count, CountFront, CountWhy, count}
use Rattle.readers.proofs.Readers.{right_done, reads_in, then_in, meets_any}

-- ---- a function of the values

module _ {S W A B : Type 0} (V E : S → Type 0) (F : List S → Type 0) (g : A → B) (L : A → List S → Type 0) (R : List S → S → W → Type 0) (r : List S → Outcome S W A)
    (reads : ReadsIn V E F L R r) where
  map_sound : (s : List S) (o : Outcome S W A) → r s ≡ o → (b : B) (u : List S) → Each V s → mapped g o ≡ whole b u
      → (t : List S) × (s ≡ t ++ u) × Mapped g L b t × Follows E u
  map_sound s (whole a w) e b u vs h =
      let is_b : b ≡ g a = cc in
      let is_u : w ≡ u = cc in
      let (t, cut, l, f) = reads.right.sound s a u vs (e ∙ ap (λ x. whole a x) is_u) in
      (t, cut, (a, is_b, l), f)
  map_sound s more e b u vs h = absurd cc
  map_sound s (bad n w) e b u vs h = absurd cc

  map_goes_on : (s : List S) (o : Outcome S W A) → r s ≡ o → Each V s → mapped g o ≡ more → F s
  map_goes_on s (whole a w) e vs h = absurd cc
  map_goes_on s more e vs h = reads.right.goes_on s vs e
  map_goes_on s (bad n w) e vs h = absurd cc

  map_faults : (s : List S) (o : Outcome S W A) → r s ≡ o → (n : ℕ) (w : W) → Each V s → mapped g o ≡ bad n w
      → (p : List S) × (b : S) × (v : List S) × FaultIn F s p b v n × R p b w
  map_faults s (whole a u) e n w vs h = absurd cc
  map_faults s more e n w vs h = absurd cc
  map_faults s (bad k x) e n w vs h = let e' : r s ≡ bad n w = cc in reads.right.faults s n w vs e'

  pub mapped_in : ReadsIn V E F (Mapped g L) R (λ s. mapped g (r s))
  mapped_in = record {
    right = record {
      sound = λ s b u vs h. map_sound s (r s) refl b u vs h;
      complete = λ b t u l f. let (a, e, la) = l in ap (λ o. mapped g o) (reads.right.complete a t u la f) ∙ ap (λ x. whole x u) (sym e);
      goes_on = λ s vs h. map_goes_on s (r s) refl vs h;
      faults = λ s n w vs h. map_faults s (r s) refl n w vs h;
    };
    fronts = record {
      reaches = λ b t l. let (a, e, la) = l in reads.fronts.reaches a t la;
      ends = λ b t c x l. let (a, e, la) = l in reads.fronts.ends a t c x la;
    };
  }

-- ---- in other words

-- the same language and reasons
pub same_in : {S W A : Type 0} (V E : S → Type 0) (F : List S → Type 0) (L M : A → List S → Type 0) (R Q : List S → S → W → Type 0) (r : List S → Outcome S W A)
    → ((a : A) (s : List S) → L a s → M a s) → ((a : A) (s : List S) → M a s → L a s) → ((p : List S) (b : S) (w : W) → R p b w → Q p b w)
    → ReadsIn V E F L R r → ReadsIn V E F M Q r
same_in V E F L M R Q r into out why reads = record {
  right = record {
    sound = λ s a u vs h. let (t, cut, l, f) = reads.right.sound s a u vs h in (t, cut, into a t l, f);
    complete = λ a t u m f. reads.right.complete a t u (out a t m) f;
    goes_on = reads.right.goes_on;
    faults = λ s n w vs h. let (p, b, v, fault, y) = reads.right.faults s n w vs h in (p, b, v, fault, why p b w y);
  };
  fronts = record {
    reaches = λ a t m. reads.fronts.reaches a t (out a t m);
    ends = λ a t b x m. reads.fronts.ends a t b x (out a t m);
  };
}

-- a reader that gives the same
pub by_in : {S W A : Type 0} (V E : S → Type 0) (F : List S → Type 0) (L : A → List S → Type 0) (R : List S → S → W → Type 0) (r q : List S → Outcome S W A)
    → ((s : List S) → r s ≡ q s) → ReadsIn V E F L R r → ReadsIn V E F L R q
by_in V E F L R r q same reads = record {
  right = record {
    sound = λ s a u vs h. reads.right.sound s a u vs (same s ∙ h);
    complete = λ a t u l f. sym (same (t ++ u)) ∙ reads.right.complete a t u l f;
    goes_on = λ s vs h. reads.right.goes_on s vs (same s ∙ h);
    faults = λ s n w vs h. reads.right.faults s n w vs (same s ∙ h);
  };
  fronts = reads.fronts;
}

-- the same fronts
pub fronts_in : {S W A : Type 0} (V E : S → Type 0) (F G : List S → Type 0) (L : A → List S → Type 0) (R : List S → S → W → Type 0) (r : List S → Outcome S W A)
    → ((p : List S) → F p → G p) → ((p : List S) → G p → F p) → ReadsIn V E F L R r → ReadsIn V E G L R r
fronts_in V E F G L R r into out reads = record {
  right = record {
    sound = reads.right.sound;
    complete = reads.right.complete;
    goes_on = λ s vs h. into s (reads.right.goes_on s vs h);
    faults = λ s n w vs h. let (p, b, v, fault, why) = reads.right.faults s n w vs h in
        (p, b, v, record { place = fault.place; left = fault.left; front = into p fault.front; no_front = λ y. fault.no_front (out (p ++ b ∷ []) y) }, why);
  };
  fronts = record {
    reaches = λ a t l. into t (reads.fronts.reaches a t l);
    ends = λ a t b x l e g. reads.fronts.ends a t b x l e (out (t ++ b ∷ x) g);
  };
}

-- ---- nothing

pub nothing_in : {S W A : Type 0} (V : S → Type 0) (x : A) (R : List S → S → W → Type 0) → ReadsIn V Any (λ p. p ≡ []) (Done x) R (λ s. whole x s)
nothing_in {S = S} {A = A} V x R =
    fronts_in V Any (Front (Done x)) (λ p. p ≡ []) (Done x) R (λ s. whole x s) into (λ p e. (x, [], rw e (refl, refl)))
    (reads_in V Any (Done x) R (λ s. whole x s) (right_done V x R))
  where
    into : (p : List S) → Front (Done x) p → p ≡ []
    into [] f = refl
    into (b ∷ p) (a, y, (e, nil)) = absurd cc

-- ---- a number of values

module _ {S W A : Type 0} (V : S → Type 0) (F : List S → Type 0) (L : A → List S → Type 0) (R : List S → S → W → Type 0) (r : List S → Outcome S W A)
    (reads : ReadsIn V Any F L R r) where
  pub count_in : (n : ℕ) → ReadsIn V Any (CountFront L F n) (Count L n) (CountWhy L R n) (count r n)
  count_in zero = nothing_in V [] (CountWhy L R zero)
  count_in (suc n) =
      then_in V Any Any F L R r (λ v. CountFront L F n) (λ v. Mapped (λ us. v ∷ us) (Count L n)) (λ v. CountWhy L R n) (λ v u. mapped (λ us. v ∷ us) (count r n u))
      reads (λ v t l. mapped_in V Any (CountFront L F n) (λ us. v ∷ us) (Count L n) (CountWhy L R n) (count r n) (count_in n))
      (λ v t l. meets_any Any (λ v. CountFront L F n) (λ v. Mapped (λ us. v ∷ us) (Count L n)) v)
