-- Readers of lists with separators are right: up to a closing symbol, up to an end that is not used up, and of at most one value.
use Rattle.std.proofs.Common.{◌≡◌, refl, sym, ap, ◌∙◌, subst, Option, Some, None, Bool, true, false, if◌then◌else◌, ℕ, zero, suc, ◌+◌, ◌≤◌, List, [], ◌∷◌, ◌++◌, length, ◌⊎◌, inl, inr, arith}
use Rattle.std.proofs.lemmas.List.{append-nil, length-append}
use Rattle.readers.specs.Reader.{Outcome, whole, more, bad, after, mapped, Each, Follows, Any, Is, IsNot, Front, FaultAt, Right, Plain, Then, Mapped, Done, OneWhy, kept, Rest, rests, Others, others, stop, Maybe, maybe}
use Rattle.readers.proofs.Readers.{follows-front, right_mapped, right_same, right_by}
use Rattle.readers.proofs.Leaves.{is_or, not_both, pick_true, pick_false, plain, plain_then}
use Rattle.readers.proofs.Limits.{right_limit}
use Rattle.readers.proofs.Bounds.{rests_same, others_same}
use Rattle.readers.proofs.Ends.{right_stop, Closing, closing, closing_is, closing_not, closes_by, closed_by, right_closing}

-- ---- a separator and what follows it, or another language

abbrev pub Separated : {S B : Type 0} → (S → Bool) → (B → List S → Type 0) → (B → List S → Type 0) → B → List S → Type 0
Separated {S = S} sep D K b s = D b s ⊎ ((c : S) × (t : List S) × (s ≡ c ∷ t) × (sep c ≡ true) × K b t)

abbrev pub separated : {S W B : Type 0} → (S → Bool) → (List S → Outcome S W B) → (List S → Outcome S W B) → List S → Outcome S W B
separated sep e q [] = e []
separated sep e q (c ∷ s) = if sep c then q s else e (c ∷ s)

-- with no separator, neither the other language nor what follows it begins
module _ {S W B : Type 0} (V E : S → Type 0) (sep : S → Bool) (D K : B → List S → Type 0) (e q : List S → Outcome S W B)
    (other : Right V E D Plain e) (right : Right V E K Plain q)
    (apart : (b : B) (t u : List S) → D b t → Follows E u → Follows (IsNot sep) (t ++ u)) where
  abbrev Both : B → List S → Type 0
  Both b s = Separated sep D K b s

  by_other : (s : List S) → Follows (IsNot sep) s → separated sep e q s ≡ e s
  by_other [] f = refl
  by_other (c ∷ s) f = pick_false (sep c) (q s) (e (c ∷ s)) f

  by_sep : (c : S) (s : List S) → sep c ≡ true → separated sep e q (c ∷ s) ≡ q s
  by_sep c s is = pick_true (sep c) (q s) (e (c ∷ s)) is

  separated_sound : (s : List S) (b : B) (u : List S) → Each V s → separated sep e q s ≡ whole b u
      → (t : List S) × (s ≡ t ++ u) × Both b t × Follows E u
  separated_sound [] b u vs h = let (t, cut, d, f) = other.sound [] b u vs h in (t, cut, inl d, f)
  separated_sound (c ∷ s) b u vs h = elim (is_or (sep c)) [
    | inl is ↦ let (t, cut, k, f) = right.sound s b u vs.1 (sym (by_sep c s is) ∙ h) in (c ∷ t, ap (λ l. c ∷ l) cut, inr (c, t, refl, is, k), f)
    | inr is ↦ let (t, cut, d, f) = other.sound (c ∷ s) b u vs (sym (by_other (c ∷ s) is) ∙ h) in (t, cut, inl d, f)
  ]

  separated_complete : (b : B) (t u : List S) → Both b t → Follows E u → separated sep e q (t ++ u) ≡ whole b u
  separated_complete b t u (inl d) f = by_other (t ++ u) (apart b t u d f) ∙ other.complete b t u d f
  separated_complete b t u (inr (c, x, cut, is, k)) f =
      ap (λ l. separated sep e q (l ++ u)) cut ∙ (by_sep c (x ++ u) is ∙ right.complete b x u k f)

  front_other : (s : List S) → Front D s → Front Both s
  front_other s (b, x, d) = (b, x, inl d)

  front_sep : (c : S) (s : List S) → sep c ≡ true → Front K s → Front Both (c ∷ s)
  front_sep c s is (b, x, k) = (b, x, inr (c, s ++ x, refl, is, k))

  separated_more : (s : List S) → Each V s → separated sep e q s ≡ more → Front Both s
  separated_more [] vs h = front_other [] (other.goes_on [] vs h)
  separated_more (c ∷ s) vs h = elim (is_or (sep c)) [
    | inl is ↦ front_sep c s is (right.goes_on s vs.1 (sym (by_sep c s is) ∙ h))
    | inr is ↦ front_other (c ∷ s) (other.goes_on (c ∷ s) vs (sym (by_other (c ∷ s) is) ∙ h))
  ]

  fault_other : (s : List S) (n : ℕ) (w : W) → Each V s → Follows (IsNot sep) s → e s ≡ bad n w
      → (p : List S) × (b : S) × (v : List S) × FaultAt Both s p b v n × Plain p b w
  fault_other s n w vs f h =
      let (p, b, v, fault, why) = other.faults s n w vs h in
      (p, b, v, record { place = fault.place; left = fault.left; front = front_other p fault.front; no_front = none p b v fault }, tt)
    where
      none : (p : List S) (b : S) (v : List S) → FaultAt D s p b v n → Front Both (p ++ b ∷ []) → ⊥
      none p b v fault (a, x, inl d) = fault.no_front (a, x, d)
      none p b v fault (a, x, inr (c, t, cut, is, k)) =
          let place : Follows (IsNot sep) (p ++ b ∷ v) = subst (λ l. Follows (IsNot sep) l) fault.place f in
          let here : Follows (IsNot sep) ((p ++ b ∷ []) ++ x) = follows-front (IsNot sep) p b v x place in
          not_both (sep c) is (subst (λ l. Follows (IsNot sep) l) cut here)

  fault_sep : (c : S) (s : List S) (n : ℕ) (w : W) → Each V s → sep c ≡ true → q s ≡ bad n w
      → (p : List S) × (b : S) × (v : List S) × FaultAt Both (c ∷ s) p b v n × Plain p b w
  fault_sep c s n w vs is h =
      let (p, b, v, fault, why) = right.faults s n w vs h in (
        c ∷ p,
        b,
        v,
        record {
          place = ap (λ l. c ∷ l) fault.place;
          left = fault.left;
          front = front_sep c p is fault.front;
          no_front = none p b v fault;
        },
        tt,
      )
    where
      none : (p : List S) (b : S) (v : List S) → FaultAt K s p b v n → Front Both (c ∷ p ++ b ∷ []) → ⊥
      none p b v fault (a, x, inl d) =
          let t = (c ∷ p ++ b ∷ []) ++ x in
          not_both (sep c) is (subst (λ l. Follows (IsNot sep) l) (append-nil t) (apart a t [] d tt))
      none p b v fault (a, x, inr (d, t, cut, f, k)) =
          let tails : (p ++ b ∷ []) ++ x ≡ t = cc in
          fault.no_front (a, x, subst (λ l. K a l) (sym tails) k)

  separated_fault : (s : List S) (n : ℕ) (w : W) → Each V s → separated sep e q s ≡ bad n w
      → (p : List S) × (b : S) × (v : List S) × FaultAt Both s p b v n × Plain p b w
  separated_fault [] n w vs h = fault_other [] n w vs tt h
  separated_fault (c ∷ s) n w vs h = elim (is_or (sep c)) [
    | inl is ↦ fault_sep c s n w vs.1 is (sym (by_sep c s is) ∙ h)
    | inr is ↦ fault_other (c ∷ s) n w vs is (sym (by_other (c ∷ s) is) ∙ h)
  ]

  pub right_separated : Right V E (Separated sep D K) Plain (separated sep e q)
  right_separated = record { sound = separated_sound; complete = separated_complete; goes_on = separated_more; faults = separated_fault }

-- ---- up to a closing symbol

module _ {S W A : Type 0} (V : S → Type 0) (sep close : S → Bool) (w : W) (L : A → List S → Type 0) (r : List S → Outcome S W A)
    (E : S → Type 0) (right : Right {W = W} V E L Plain r) (apart : (c : S) → sep c ≡ true → close c ≡ false) (sep_ends : (c : S) → sep c ≡ true → E c)
    (close_ends : (c : S) → close c ≡ true → E c) (closer : S) (closes : close closer ≡ true) where
  -- at most k more values
  abbrev UpTo : ℕ → List A → List S → Type 0
  UpTo zero vs s = Closing close vs s
  UpTo (suc k) vs s = Separated sep (Closing close) (Then L (λ v. Mapped (λ us. v ∷ us) (UpTo k))) vs s

  closed : (k : ℕ) → UpTo k [] (closer ∷ [])
  closed zero = closes_by {W = W} close w closer closes
  closed (suc k) = inl (closes_by {W = W} close w closer closes)

  close_meets : (vs : List A) (u v : List S) → Closing close vs u → Follows E (u ++ v)
  close_meets vs u v d = let (c, is, cut, nil) = closed_by {W = W} close w vs u d in rw cut (close_ends c is)

  ends_value : (k : ℕ) (vs : List A) (u v : List S) → UpTo k vs u → Follows E (u ++ v)
  ends_value zero vs u v d = close_meets vs u v d
  ends_value (suc k) vs u v (inl d) = close_meets vs u v d
  ends_value (suc k) vs u v (inr (c, t, cut, is, l)) = rw cut (sep_ends c is)

  right_close : Right {W = W} V Any (Closing {A = A} close) Plain (closing close w)
  right_close = plain V Any (Closing close) (OneWhy (kept close) w) (closing close w) (right_closing close w V closer closes)

  close_apart : (vs : List A) (t u : List S) → Closing close vs t → Follows Any u → Follows (IsNot sep) (t ++ u)
  close_apart vs t u d f = let (c, is, cut, nil) = closed_by {W = W} close w vs t d in rw cut (not_sep c is (sep c) refl)
    where
      not_sep : (c : S) → close c ≡ true → (b : Bool) → sep c ≡ b → sep c ≡ false
      not_sep c is true e = not_both (close c) is (apart c e)
      not_sep c is false e = e

  abbrev Going : ℕ → List A → List S → Type 0
  Going k vs s = Then L (λ v. Mapped (λ us. v ∷ us) (UpTo k)) vs s

  abbrev going : ℕ → List S → Outcome S W (List A)
  going k s = after (r s) (λ v u. mapped (λ vs. v ∷ vs) (rests sep close w r k u))

  right_going : (k : ℕ) → Right {W = W} V Any (UpTo k) Plain (rests sep close w r k) → Right {W = W} V Any (Going k) Plain (going k)
  right_going k inner =
      plain_then V E Any L r (λ v. Mapped (λ us. v ∷ us) (UpTo k)) (λ v u. mapped (λ vs. v ∷ vs) (rests sep close w r k u)) right
      (λ v. right_mapped V Any (λ us. v ∷ us) (UpTo k) Plain (rests sep close w r k) inner)
      (λ v t l. (v ∷ [], closer ∷ [], ([], refl, closed k)))
      (λ v vs u x m f. let (us, e, l) = m in ends_value k us u x l)

  none_same : (s : List S) → closing close w s ≡ rests sep close w r zero s
  unfolding rests
  none_same [] = refl
  none_same (c ∷ s) = elim (is_or (close c)) [
    | inl e ↦ closing_is close w c s e ∙ sym (pick_true (close c) _ _ e)
    | inr e ↦ closing_not close w c s e ∙ sym (pick_false (close c) _ _ e)
  ]

  step_same : (k : ℕ) (s : List S) → separated sep (closing close w) (going k) s ≡ rests sep close w r (suc k) s
  unfolding rests
  step_same k [] = refl
  step_same k (c ∷ s) = elim (is_or (sep c)) [
    | inl e ↦ pick_true (sep c) _ _ e ∙ sym (pick_false (close c) _ _ (apart c e) ∙ pick_true (sep c) _ _ e)
    | inr e ↦ pick_false (sep c) _ _ e ∙ elim (is_or (close c)) [
      | inl d ↦ closing_is close w c s d ∙ sym (pick_true (close c) _ _ d)
      | inr d ↦ closing_not close w c s d ∙ sym (pick_false (close c) _ _ d ∙ pick_false (sep c) _ _ e)
    ]
  ]

  right_upto : (k : ℕ) → Right {W = W} V Any (UpTo k) Plain (rests sep close w r k)
  right_upto zero = right_by V Any (Closing close) Plain (closing close w) (rests sep close w r zero) none_same right_close
  right_upto (suc k) =
      right_by V Any (UpTo (suc k)) Plain (separated sep (closing close w) (going k)) (rests sep close w r (suc k)) (step_same k)
      (right_separated V Any sep (Closing close) (Going k) (closing close w) (going k) right_close (right_going k (right_upto k)) close_apart)

  upto_more : (k : ℕ) (vs : List A) (s : List S) → UpTo k vs s → UpTo (suc k) vs s
  upto_more zero vs s d = inl d
  upto_more (suc k) vs s (inl d) = inl d
  upto_more (suc k) vs s (inr (c, t, cut, is, (v, x, u, e, lv, (us, g, m)))) =
      inr (c, t, cut, is, (v, x, u, e, lv, (us, g, upto_more k us u m)))

  -- every number of values
  no_more : (vs : List A) (s : List S) → Closing close vs s → Rest sep close L vs s
  no_more vs s d = let (c, is, cut, nil) = closed_by {W = W} close w vs s d in subst (λ x. Rest sep close L x s) (sym nil) (c, is, cut)

  into : (k : ℕ) (vs : List A) (s : List S) → UpTo k vs s → Rest sep close L vs s
  into zero vs s d = no_more vs s d
  into (suc k) vs s (inl d) = no_more vs s d
  into (suc k) vs s (inr (c, t, cut, is, (v, x, u, e, lv, (us, g, m)))) =
      subst (λ y. Rest sep close L y s) (sym g) (c, x, u, is, cut ∙ ap (λ y. c ∷ y) e, lv, into k us u m)

  out_of : (vs : List A) (s : List S) → Rest sep close L vs s → (k : ℕ) × (k ≤ length s) × UpTo k vs s
  out_of [] s (c, is, cut) = (0, omega arith, subst (λ y. Closing {A = A} close [] y) (sym cut) (closes_by {W = W} close w c is))
  out_of (v ∷ vs) s (c, t, u, is, cut, l, m) =
      let (k, le, x) = out_of vs u m in
      let lens : length s ≡ suc (length t + length u) = ap length cut ∙ ap suc (length-append t u) in
      (suc k, omega arith, inr (c, t ++ u, cut, is, (v, t, u, refl, l, (vs, refl, x))))

  pub right_rest : Right {W = W} V Any (Rest sep close L) Plain (λ s. rests sep close w r (length s) s)
  right_rest =
      right_limit V Any UpTo (Rest sep close L) (λ k. Plain) Plain (rests sep close w r) right_upto upto_more into out_of (λ k p b x le y. y)
      (rests_same V E L Plain r right sep close w)

-- ---- nothing, or a separator and what follows it

abbrev pub Optional : {S B : Type 0} → (S → Bool) → B → (B → List S → Type 0) → B → List S → Type 0
Optional sep x K b s = Separated sep (Done x) K b s

abbrev pub optional : {S W B : Type 0} → (S → Bool) → (S → Bool) → W → B → (List S → Outcome S W B) → List S → Outcome S W B
optional sep ends w x q s = separated sep (stop ends w x) q s

pub right_optional : {S W B : Type 0} (V : S → Type 0) (sep ends : S → Bool) (w : W) → ((c : S) → sep c ≡ true → ends c ≡ false)
    → (x : B) (K : B → List S → Type 0) (q : List S → Outcome S W B) → Right {W = W} V (Is ends) K Plain q
    → Right {W = W} V (Is ends) (Optional sep x K) Plain (optional sep ends w x q)
right_optional {S = S} {B = B} V sep ends w apart x K q right =
    right_separated V (Is ends) sep (Done x) K (stop ends w x) q (right_stop V ends w x) right none
  where
    no_sep : (u : List S) → Follows (Is ends) u → Follows (IsNot sep) u
    no_sep [] f = tt
    no_sep (c ∷ u) f = elim (is_or (sep c)) [ inl e ↦ not_both (ends c) f (apart c e) | inr e ↦ e ]

    none : (b : B) (t u : List S) → Done x b t → Follows (Is ends) u → Follows (IsNot sep) (t ++ u)
    none b t u (e, nil) f = rw nil (no_sep u f)

-- ---- up to an end that is not used up

module _ {S W A : Type 0} (V : S → Type 0) (sep ends : S → Bool) (w : W) (L : A → List S → Type 0) (r : List S → Outcome S W A)
    (E : S → Type 0) (right : Right {W = W} V E L Plain r) (apart : (c : S) → sep c ≡ true → ends c ≡ false) (sep_ends : (c : S) → sep c ≡ true → E c)
    (end_ends : (c : S) → ends c ≡ true → E c) where
  -- at most k values
  abbrev AtMost : ℕ → List A → List S → Type 0
  AtMost zero vs s = Done [] vs s
  AtMost (suc k) vs s = Optional sep [] (Then L (λ v. Mapped (λ us. v ∷ us) (AtMost k))) vs s

  nothing : (k : ℕ) → AtMost k [] []
  nothing zero = (refl, refl)
  nothing (suc k) = inl (refl, refl)

  end_meets : (v : List S) → Follows (Is ends) v → Follows E v
  end_meets [] f = tt
  end_meets (c ∷ v) f = end_ends c f

  at_most_meets : (k : ℕ) (vs : List A) (u v : List S) → AtMost k vs u → Follows (Is ends) v → Follows E (u ++ v)
  at_most_meets zero vs u v (e, n) f = rw n (end_meets v f)
  at_most_meets (suc k) vs u v (inl (e, n)) f = rw n (end_meets v f)
  at_most_meets (suc k) vs u v (inr (c, t, cut, is, l)) f = rw cut (sep_ends c is)

  -- a value after a separator, and at most k more
  abbrev After : ℕ → List A → List S → Type 0
  After k vs s = Then L (λ v. Mapped (λ us. v ∷ us) (AtMost k)) vs s

  abbrev after_sep : ℕ → List S → Outcome S W (List A)
  after_sep k s = after (r s) (λ v u. mapped (λ vs. v ∷ vs) (others sep ends w r k u))

  right_after : (k : ℕ) → Right {W = W} V (Is ends) (AtMost k) Plain (others sep ends w r k)
      → Right {W = W} V (Is ends) (After k) Plain (after_sep k)
  right_after k inner =
      plain_then V E (Is ends) L r (λ v. Mapped (λ us. v ∷ us) (AtMost k)) (λ v u. mapped (λ vs. v ∷ vs) (others sep ends w r k u)) right
      (λ v. right_mapped V (Is ends) (λ us. v ∷ us) (AtMost k) Plain (others sep ends w r k) inner)
      (λ v t l. (v ∷ [], [], ([], refl, nothing k)))
      (λ v vs u x m f. let (us, e, l) = m in at_most_meets k us u x l f)

  others_step : (k : ℕ) (s : List S) → optional sep ends w [] (after_sep k) s ≡ others sep ends w r (suc k) s
  unfolding others
  others_step k [] = refl
  others_step k (c ∷ s) = refl

  others_none : (s : List S) → stop ends w [] s ≡ others sep ends w r zero s
  unfolding others
  others_none [] = refl
  others_none (c ∷ s) = refl

  right_at_most : (k : ℕ) → Right {W = W} V (Is ends) (AtMost k) Plain (others sep ends w r k)
  right_at_most zero = right_by V (Is ends) (Done []) Plain (stop ends w []) (others sep ends w r zero) others_none (right_stop V ends w [])
  right_at_most (suc k) =
      right_by V (Is ends) (AtMost (suc k)) Plain (optional sep ends w [] (after_sep k)) (others sep ends w r (suc k)) (others_step k)
      (right_optional V sep ends w apart [] (After k) (after_sep k) (right_after k (right_at_most k)))

  at_most_more : (k : ℕ) (vs : List A) (s : List S) → AtMost k vs s → AtMost (suc k) vs s
  at_most_more zero vs s d = inl d
  at_most_more (suc k) vs s (inl d) = inl d
  at_most_more (suc k) vs s (inr (c, t, cut, is, (v, x, u, e, lv, (us, g, m)))) =
      inr (c, t, cut, is, (v, x, u, e, lv, (us, g, at_most_more k us u m)))

  -- every number of values
  others_into : (k : ℕ) (vs : List A) (s : List S) → AtMost k vs s → Others sep L vs s
  others_into zero vs s (e, n) = subst (λ x. Others sep L x s) (sym e) n
  others_into (suc k) vs s (inl (e, n)) = subst (λ x. Others sep L x s) (sym e) n
  others_into (suc k) vs s (inr (c, t, cut, is, (v, x, u, e, lv, (us, g, m)))) =
      subst (λ y. Others sep L y s) (sym g) (c, x, u, is, cut ∙ ap (λ y. c ∷ y) e, lv, others_into k us u m)

  others_out_of : (vs : List A) (s : List S) → Others sep L vs s → (k : ℕ) × (k ≤ length s) × AtMost k vs s
  others_out_of [] s n = (0, omega arith, (refl, n))
  others_out_of (v ∷ vs) s (c, t, u, is, cut, l, m) =
      let (k, le, x) = others_out_of vs u m in
      let lens : length s ≡ suc (length t + length u) = ap length cut ∙ ap suc (length-append t u) in
      (suc k, omega arith, inr (c, t ++ u, cut, is, (v, t, u, refl, l, (vs, refl, x))))

  pub right_others : Right {W = W} V (Is ends) (Others sep L) Plain (λ s. others sep ends w r (length s) s)
  right_others =
      right_limit V (Is ends) AtMost (Others sep L) (λ k. Plain) Plain (others sep ends w r)
      right_at_most at_most_more others_into others_out_of (λ k p b x le y. y) (others_same V E L Plain r right sep ends w)

  -- what follows a value of such a list: a separator, or what ends it
  pub others_meet : (vs : List A) (u v : List S) → Others sep L vs u → Follows (Is ends) v → Follows E (u ++ v)
  others_meet [] u v n f = rw n (end_meets v f)
  others_meet (x ∷ vs) u v (c, t, y, is, cut, l, m) f = rw cut (sep_ends c is)

  -- ---- at most one value

  pub maybe_meet : (o : Option A) (u v : List S) → Maybe sep L o u → Follows (Is ends) v → Follows E (u ++ v)
  maybe_meet None u v n f = rw n (end_meets v f)
  maybe_meet (Some x) u v (c, t, is, cut, l) f = rw cut (sep_ends c is)

  abbrev Single : Option A → List S → Type 0
  Single o s = Then L (λ v. Done (Some v)) o s

  abbrev single : List S → Outcome S W (Option A)
  single s = after (r s) (λ v. stop ends w (Some v))

  right_single : Right {W = W} V (Is ends) Single Plain single
  right_single =
      plain_then V E (Is ends) L r (λ v. Done (Some v)) (λ v. stop ends w (Some v)) right (λ v. right_stop V ends w (Some v))
      (λ v t l. (Some v, [], (refl, refl))) (λ v o u x m f. rw (m.1) (end_meets x f))

  maybe_same : (s : List S) → optional sep ends w None single s ≡ maybe sep ends w r s
  maybe_same [] = refl
  maybe_same (c ∷ s) = refl

  pub right_maybe : Right {W = W} V (Is ends) (Maybe sep L) Plain (maybe sep ends w r)
  right_maybe =
      right_same V (Is ends) (Optional sep None Single) (Maybe sep L) Plain Plain (maybe sep ends w r) maybe_into maybe_out (λ p b x y. tt)
      (right_by V (Is ends) (Optional sep None Single) Plain (optional sep ends w None single) (maybe sep ends w r) maybe_same
      (right_optional V sep ends w apart None Single single right_single))
    where
      maybe_into : (o : Option A) (s : List S) → Optional sep None Single o s → Maybe sep L o s
      maybe_into o s (inl (e, n)) = subst (λ x. Maybe sep L x s) (sym e) n
      maybe_into o s (inr (c, t, cut, is, (v, x, u, e, l, (oe, un)))) =
          let same : t ≡ x = e ∙ (ap (λ y. x ++ y) un ∙ append-nil x) in
          subst (λ y. Maybe sep L y s) (sym oe) (c, x, is, cut ∙ ap (λ y. c ∷ y) same, l)

      maybe_out : (o : Option A) (s : List S) → Maybe sep L o s → Optional sep None Single o s
      maybe_out None s n = inl (refl, n)
      maybe_out (Some v) s (c, t, is, cut, l) = inr (c, t, cut, is, (v, t, [], sym (append-nil t), l, (refl, refl)))
