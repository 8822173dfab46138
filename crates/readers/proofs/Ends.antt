-- Readers of ends, of whole texts, and what an answer says by places.
use Rattle.std.proofs.Common.{◌≡◌, refl, sym, ap, ◌∙◌, subst, Some, None, Bool, true, false, ℕ, List, [], ◌∷◌, ◌++◌, length, inl, inr}
use Rattle.std.proofs.lemmas.List.{append-nil}
use Rattle.readers.specs.Reader.{Outcome, whole, more, bad, mapped, Each, Follows, Any, Never, Is, Front, FaultAt, Right, Plain, Mapped, Done, One, OneWhy, one, leaf, kept, good, refused, to_end, IsRefused, stop, at_end, Ended, ended}
use Rattle.readers.proofs.Readers.{cut_two, snoc, right_mapped}
use Rattle.readers.proofs.Leaves.{is_or, pick_true, pick_false, plain_then, right_one}
use Rattle.readers.proofs.Runs.{kept_is}

-- ---- a value where nothing follows, or only symbols of a class

module _ {S W A : Type 0} (V : S → Type 0) (ends : S → Bool) (w : W) (a : A) where
  none_longer : (b : S) → Front (Done a) (b ∷ []) → ⊥
  none_longer b (c, x, (e, n)) = absurd cc

  stop_sound : (s : List S) (c : A) (u : List S) → stop ends w a s ≡ whole c u → (t : List S) × (s ≡ t ++ u) × Done a c t × Follows (Is ends) u
  stop_sound [] c u h = let ca : c ≡ a = cc in let un : u ≡ [] = cc in ([], sym un, (ca, refl), subst (λ l. Follows (Is ends) l) (sym un) tt)
  stop_sound (b ∷ s) c u h = elim (is_or (ends b)) [ inl e ↦ here e | inr e ↦ absurd (clash e) ]
    where
      here : ends b ≡ true → (t : List S) × (b ∷ s ≡ t ++ u) × Done a c t × Follows (Is ends) u
      here e =
          let got : stop ends w a (b ∷ s) ≡ whole a (b ∷ s) = pick_true (ends b) _ _ e in
          let ca : c ≡ a = cc in
          let un : b ∷ s ≡ u = cc in
          ([], un, (ca, refl), subst (λ l. Follows (Is ends) l) un e)

      clash : ends b ≡ false → ⊥
      clash e = let got : stop ends w a (b ∷ s) ≡ bad (length (b ∷ s)) w = pick_false (ends b) _ _ e in cc

  stop_whole : (u : List S) → Follows (Is ends) u → stop ends w a u ≡ whole a u
  stop_whole [] f = refl
  stop_whole (b ∷ u) f = pick_true (ends b) _ _ f

  stop_more : {X : Type 0} (s : List S) → stop ends w a s ≡ more → X
  stop_more [] h = absurd cc
  stop_more (b ∷ s) h = absurd (elim (is_or (ends b)) [ inl e ↦ clash _ (pick_true (ends b) _ _ e) (λ k. cc) | inr e ↦ clash _ (pick_false (ends b) _ _ e) (λ k. cc) ])
    where
      clash : (o : Outcome S W A) → stop ends w a (b ∷ s) ≡ o → (o ≡ more → ⊥) → ⊥
      clash o e not = not (sym e ∙ h)

  stop_fault : (s : List S) (n : ℕ) (x : W) → stop ends w a s ≡ bad n x → (p : List S) × (b : S) × (v : List S) × FaultAt (Done a) s p b v n × Plain p b x
  stop_fault [] n x h = absurd cc
  stop_fault (b ∷ s) n x h = elim (is_or (ends b)) [ inl e ↦ absurd (clash e) | inr e ↦ here e ]
    where
      clash : ends b ≡ true → ⊥
      clash e = let got : stop ends w a (b ∷ s) ≡ whole a (b ∷ s) = pick_true (ends b) _ _ e in cc

      here : ends b ≡ false → (p : List S) × (d : S) × (v : List S) × FaultAt (Done a) (b ∷ s) p d v n × Plain p d x
      here e =
          let got : stop ends w a (b ∷ s) ≡ bad (length (b ∷ s)) w = pick_false (ends b) _ _ e in
          let left : n ≡ length (b ∷ s) = cc in
          ([], b, s, record { place = refl; left = left; front = (a, [], (refl, refl)); no_front = none_longer b }, tt)

  pub right_stop : Right V (Is ends) (Done a) Plain (stop ends w a)
  right_stop = record {
    sound = λ s c u vs h. stop_sound s c u h;
    complete = λ c t u l f. let (ca, tn) = l in ap (λ x. stop ends w a (x ++ u)) tn ∙ (stop_whole u f ∙ ap (λ x. whole x u) (sym ca));
    goes_on = λ s vs h. stop_more s h;
    faults = λ s n x vs h. stop_fault s n x h;
  }

module _ {S W A : Type 0} (V : S → Type 0) (w : W) (a : A) where
  end_sound : (s : List S) (c : A) (u : List S) → at_end w a s ≡ whole c u → (t : List S) × (s ≡ t ++ u) × Done a c t × Follows Never u
  end_sound [] c u h = let ca : c ≡ a = cc in let un : u ≡ [] = cc in ([], sym un, (ca, refl), subst (λ l. Follows Never l) (sym un) tt)
  end_sound (b ∷ s) c u h = absurd cc

  end_whole : (u : List S) → Follows Never u → at_end w a u ≡ whole a u
  end_whole [] f = refl
  end_whole (b ∷ u) f = absurd f

  end_more : {X : Type 0} (s : List S) → at_end w a s ≡ more → X
  end_more [] h = absurd cc
  end_more (b ∷ s) h = absurd cc

  end_fault : (s : List S) (n : ℕ) (x : W) → at_end w a s ≡ bad n x → (p : List S) × (b : S) × (v : List S) × FaultAt (Done a) s p b v n × Plain p b x
  end_fault [] n x h = absurd cc
  end_fault (b ∷ s) n x h = let left : n ≡ length (b ∷ s) = cc in ([], b, s, record { place = refl; left = left; front = (a, [], (refl, refl)); no_front = none }, tt)
    where
      none : Front (Done a) (b ∷ []) → ⊥
      none (c, x, (e, n)) = absurd cc

  pub right_end : Right V Never (Done a) Plain (at_end w a)
  right_end = record {
    sound = λ s c u vs h. end_sound s c u h;
    complete = λ c t u l f. let (ca, tn) = l in ap (λ x. at_end w a (x ++ u)) tn ∙ (end_whole u f ∙ ap (λ x. whole x u) (sym ca));
    goes_on = λ s vs h. end_more s h;
    faults = λ s n x vs h. end_fault s n x h;
  }

pub right_ended : {S W A : Type 0} (V : S → Type 0) (w : W) (E : S → Type 0) (L : A → List S → Type 0) (r : List S → Outcome S W A)
    → Right V E L Plain r → Right V Never (Ended L) Plain (ended w r)
right_ended {S = S} V w E L r right =
    plain_then V E Never L r (λ x. Done x) (at_end w) right (λ x. right_end V w x) (λ x t l. (x, [], (refl, refl))) meets
  where
    meets : {A : Type 0} (a b : A) (u v : List S) → Done a b u → Follows Never v → Follows E (u ++ v)
    meets a b u [] (e, un) f = rw un tt
    meets a b u (c ∷ v) (e, un) f = absurd f

-- ---- a closing symbol, which ends a list

abbrev pub Closing : {S A : Type 0} → (S → Bool) → List A → List S → Type 0
Closing close vs s = Mapped (λ c. []) (One (kept close)) vs s

abbrev pub closing : {S W A : Type 0} → (S → Bool) → W → List S → Outcome S W (List A)
closing close w s = mapped (λ c. []) (one (kept close) w s)

module _ {S W A : Type 0} (close : S → Bool) (w : W) where
  pub closing_is : (c : S) (s : List S) → close c ≡ true → closing {A = A} close w (c ∷ s) ≡ whole [] s
  closing_is c s e = ap (λ o. mapped (λ c. []) (leaf o (length (c ∷ s)) w s)) (pick_true (close c) (Some c) None e)

  pub closing_not : (c : S) (s : List S) → close c ≡ false → closing {A = A} close w (c ∷ s) ≡ bad (length (c ∷ s)) w
  closing_not c s e = ap (λ o. mapped (λ c. []) (leaf o (length (c ∷ s)) w s)) (pick_false (close c) (Some c) None e)

  pub closes_by : (c : S) → close c ≡ true → Closing {A = A} close [] (c ∷ [])
  closes_by c e = (c, refl, (c, refl, pick_true (close c) (Some c) None e))

  pub closed_by : (vs : List A) (s : List S) → Closing close vs s → (c : S) × (close c ≡ true) × (s ≡ c ∷ []) × (vs ≡ [])
  closed_by vs s (a, nil, (c, cut, k)) = (c, (kept_is close c a k).1, cut, nil)

  pub right_closing : (V : S → Type 0) (closer : S) → close closer ≡ true
      → Right V Any (Closing {A = A} close) (OneWhy (kept close) w) (closing close w)
  right_closing V closer closes =
      right_mapped V Any (λ c. []) (One (kept close)) (OneWhy (kept close) w) (one (kept close) w)
      (right_one V (kept close) w closer closer (pick_true (close closer) (Some closer) None closes))

-- ---- whole texts

module _ {S W A : Type 0} (V E : S → Type 0) (L : A → List S → Type 0) (R : List S → S → W → Type 0) (r : List S → Outcome S W A) (right : Right V E L R r) where
  reads : (a : A) (s : List S) → L a s → r s ≡ whole a []
  reads a s l = sym (ap r (append-nil s)) ∙ right.complete a s [] l tt

  pub one_value : (a c : A) (s : List S) → L a s → L c s → a ≡ c
  one_value a c s l m = let e : ◌≡◌ {A = Outcome S W A} (whole a []) (whole c []) = sym (reads a s l) ∙ reads c s m in cc

  pub good_all : (s : List S) (a : A) → L a s → to_end (r s) ≡ good a
  good_all s a l = ap (λ o. to_end o) (reads a s l)

  pub good_is : (s : List S) (a : A) → Each V s → to_end (r s) ≡ good a → L a s
  good_is s a vs h = go (r s) refl h
    where
      go : (o : Outcome S W A) → r s ≡ o → to_end o ≡ good a → L a s
      go (whole c []) e g =
          let (t, cut, l, f) = right.sound s c [] vs e in
          let ca : c ≡ a = cc in
          subst (λ x. L x s) ca (subst (λ x. L c x) (sym (cut ∙ append-nil t)) l)
      go (whole c (b ∷ u)) e g = absurd cc
      go more e g = absurd cc
      go (bad n w) e g = absurd cc

  pub refused_is : (s : List S) (n : ℕ) → Each V s → to_end (r s) ≡ refused n → IsRefused L s n
  refused_is s n vs h = go (r s) refl h
    where
      -- a text that begins with a whole text and one more symbol that may not go on
      longer : (a : A) (t : List S) (b : S) (u : List S) → s ≡ t ++ b ∷ u → L a t → E b → r s ≡ whole a (b ∷ u) → Front L (t ++ b ∷ []) → ⊥
      longer a t b u cut l eb e (c, x, m) =
          let m' : L c (t ++ b ∷ x) = subst (λ z. L c z) (snoc t b x) m in
          let one : r (t ++ b ∷ x) ≡ whole c [] = reads c (t ++ b ∷ x) m' in
          let two : r (t ++ b ∷ x) ≡ whole a (b ∷ x) = right.complete a t (b ∷ x) l eb in
          cc

      go : (o : Outcome S W A) → r s ≡ o → to_end o ≡ refused n → IsRefused L s n
      go (whole a []) e g = absurd cc
      go (whole a (b ∷ u)) e g =
          let (t, cut, l, f) = right.sound s a (b ∷ u) vs e in
          let left : n ≡ length (b ∷ u) = cc in
          inl (t, b, u, record { place = cut; left = left; front = (a, [], rw append-nil l); no_front = longer a t b u cut l f e })
      go more e g =
          let zero_left : n ≡ 0 = cc in
          inr (zero_left, right.goes_on s vs e, λ a l. let got : r s ≡ whole a [] = reads a s l in cc)
      go (bad k w) e g =
          let is_n : k ≡ n = cc in
          let (p, b, v, fault, why) = right.faults s n w vs (e ∙ ap (λ m. bad m w) is_n) in
          inl (p, b, v, fault)

-- a refused text has one place
module _ {S A : Type 0} (L : A → List S → Type 0) where
  -- of two faults the front of none goes past the other
  not_before : (s p q y : List S) (b c : S) (v u : List S) → p ++ b ∷ v ≡ q ++ c ∷ u → q ≡ p ++ y → (y ≡ [] → ⊥) → Front L q → (Front L (p ++ b ∷ []) → ⊥) → ⊥
  not_before s p q [] b c v u same at some front none = some refl
  not_before s p q (d ∷ y) b c v u same at some (a, x, l) none =
      let line : p ++ b ∷ v ≡ p ++ (d ∷ y ++ c ∷ u) = same ∙ (ap (λ z. z ++ c ∷ u) at ∙ again p (d ∷ y) (c ∷ u)) in
      let bd : b ≡ d = heads p b d v (y ++ c ∷ u) line in
      none (a, y ++ x, subst (λ z. L a z) (line_of p q d y x at ∙ ap (λ z. (p ++ z ∷ []) ++ (y ++ x)) (sym bd)) l)
    where
      again : (a b c : List S) → (a ++ b) ++ c ≡ a ++ (b ++ c)
      again [] b c = refl
      again (z ∷ a) b c = ap (λ l. z ∷ l) (again a b c)

      heads : (p : List S) (b d : S) (v w : List S) → p ++ b ∷ v ≡ p ++ d ∷ w → b ≡ d
      heads [] b d v w e = cc
      heads (z ∷ p) b d v w e = let tails : p ++ b ∷ v ≡ p ++ d ∷ w = cc in heads p b d v w tails

      line_of : (p q : List S) (d : S) (y x : List S) → q ≡ p ++ d ∷ y → q ++ x ≡ (p ++ d ∷ []) ++ (y ++ x)
      line_of p q d y x e = ap (λ z. z ++ x) e ∙ (again p (d ∷ y) x ∙ sym (snoc p d (y ++ x)))

  pub one_fault : (s p q : List S) (b c : S) (v u : List S) (n m : ℕ) → FaultAt L s p b v n → FaultAt L s q c u m → n ≡ m
  one_fault s p q b c v u n m f g =
      let same : p ++ b ∷ v ≡ q ++ c ∷ u = sym f.place ∙ g.place in
      elim (cut_two p (b ∷ v) q (c ∷ u) same) [
        | inl (y, at, rest) ↦ after_first y at rest
        | inr (y, at, rest) ↦ before_first y at rest
      ]
    where
      after_first : (y : List S) → q ≡ p ++ y → b ∷ v ≡ y ++ c ∷ u → n ≡ m
      after_first [] at rest = f.left ∙ (ap length rest ∙ sym g.left)
      after_first (d ∷ y) at rest = absurd (not_before s p q (d ∷ y) b c v u (sym f.place ∙ g.place) at (λ e. cc) g.front f.no_front)

      before_first : (y : List S) → p ≡ q ++ y → c ∷ u ≡ y ++ b ∷ v → n ≡ m
      before_first [] at rest = f.left ∙ (sym (ap length rest) ∙ sym g.left)
      before_first (d ∷ y) at rest = absurd (not_before s q p (d ∷ y) c b u v (sym g.place ∙ f.place) at (λ e. cc) f.front g.no_front)

  no_end : (s p : List S) (b : S) (v : List S) (n : ℕ) → FaultAt L s p b v n → Front L s → ⊥
  no_end s p b v n f (a, x, l) =
      let line : s ++ x ≡ (p ++ b ∷ []) ++ (v ++ x) = ap (λ z. z ++ x) f.place ∙ (again p (b ∷ v) x ∙ sym (snoc p b (v ++ x))) in
      f.no_front (a, v ++ x, subst (λ z. L a z) line l)
    where
      again : (a b c : List S) → (a ++ b) ++ c ≡ a ++ (b ++ c)
      again [] b c = refl
      again (z ∷ a) b c = ap (λ l. z ∷ l) (again a b c)

  pub one_place : (s : List S) (n m : ℕ) → IsRefused L s n → IsRefused L s m → n ≡ m
  one_place s n m (inl (p, b, v, f)) (inl (q, c, u, g)) = one_fault s p q b c v u n m f g
  one_place s n m (inl (p, b, v, f)) (inr (z, front, none)) = absurd (no_end s p b v n f front)
  one_place s n m (inr (z, front, none)) (inl (p, b, v, f)) = absurd (no_end s p b v m f front)
  one_place s n m (inr (z, front, none)) (inr (y, other, never)) = z ∙ sym y
