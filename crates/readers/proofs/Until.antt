-- A reader of values up to a closing symbol is right.
use Rattle.std.proofs.Common.{◌≡◌, refl, sym, ap, ◌∙◌, subst, Some, None, Bool, true, if◌then◌else◌, ℕ, zero, suc, ◌+◌, ◌≤◌, ◌<◌, List, [], ◌∷◌, ◌++◌, length, inl, inr, arith}
use Rattle.std.proofs.lemmas.List.{length-append}
use Rattle.readers.specs.Reader.{Outcome, whole, after, mapped, Each, Follows, Any, Is, IsNot, Right, Plain, Then, ThenWhy, Mapped, OneWhy, kept, Branch, branch, Begins}
use Rattle.readers.specs.Until.{Until, UntilWhy, until}
use Rattle.readers.proofs.Readers.{right_then, right_mapped, right_same, right_by, each-rest}
use Rattle.readers.proofs.Leaves.{is_or, pick_true, pick_false, BranchWhy, right_either, then_begins, begins_wider, begins_some, plain}
use Rattle.readers.proofs.Limits.{right_limit}
use Rattle.readers.proofs.Bounds.{after_same}
use Rattle.readers.proofs.Ends.{Closing, closing, closing_is, closing_not, closes_by, closed_by, right_closing}

-- each text of L begins with a symbol that does not close, and that may follow a value; so may a closing symbol
module _ {S W A : Type 0} (V E : S → Type 0) (close : S → Bool) (w : W) (L : A → List S → Type 0) (R : List S → S → W → Type 0)
    (r : List S → Outcome S W A) (right : Right V E L R r) (begins : Begins (λ c. IsNot close c × E c) L) where
  -- a value leaves fewer symbols than there were
  pub leaves_fewer : (s : List S) (a : A) (u : List S) → Each V s → r s ≡ whole a u → (length u < length s) × Each V u
  leaves_fewer s a u vs e =
      let (t, cut, l, f) = right.sound s a u vs e in
      let lens : length s ≡ length t + length u = ap length cut ∙ length-append t u in
      let one : 1 ≤ length t = begins_some begins a t l in
      (omega arith, each-rest V t u (subst (λ x. Each V x) cut vs))

  pub until_same : (k : ℕ) (s : List S) → Each V s → length s ≤ k → until close w r (suc k) s ≡ until close w r k s
  unfolding until
  until_same zero [] vs le = refl
  until_same (suc k) [] vs le = refl
  until_same zero (c ∷ s) vs le = absurd (omega arith)
  until_same (suc k) (c ∷ s) vs le =
      ap (λ o. if close c then whole [] s else o)
      (after_same (r (c ∷ s)) _ _ (λ v u e. let (short, us) = leaves_fewer (c ∷ s) v u vs e in
      ap (λ o. mapped (λ vs. v ∷ vs) o) (until_same k u us (omega arith))))

module _ {S W A : Type 0} (V E : S → Type 0) (close : S → Bool) (w : W) (L : A → List S → Type 0) (R : List S → S → W → Type 0)
    (r : List S → Outcome S W A) (right : Right V E L R r) (begins : Begins (λ c. IsNot close c × E c) L)
    (close_ends : (c : S) → close c ≡ true → E c) (closer : S) (closes : close closer ≡ true) where
  -- at most k values
  abbrev UpTo : ℕ → List A → List S → Type 0
  UpTo zero vs s = Closing close vs s
  UpTo (suc k) vs s = Branch (Closing close) (Then L (λ v. Mapped (λ us. v ∷ us) (UpTo k))) vs s

  abbrev Why : ℕ → List S → S → W → Type 0
  Why zero p b x = OneWhy (kept close) w p b x
  Why (suc k) p b x = Follows (IsNot close) (p ++ b ∷ []) × ThenWhy L R (λ v. Why k) p b x

  closed : (k : ℕ) → UpTo k [] (closer ∷ [])
  closed zero = closes_by {W = W} close w closer closes
  closed (suc k) = inl (closes_by {W = W} close w closer closes)

  close_meets : (vs : List A) (u v : List S) → Closing close vs u → Follows E (u ++ v)
  close_meets vs u v d = let (c, is, cut, nil) = closed_by {W = W} close w vs u d in rw cut (close_ends c is)

  ends_value : (k : ℕ) (vs : List A) (u v : List S) → UpTo k vs u → Follows E (u ++ v)
  ends_value zero vs u v d = close_meets vs u v d
  ends_value (suc k) vs u v (inl d) = close_meets vs u v d
  ends_value (suc k) vs u v (inr (a, t, x, cut, l, m)) = let (b, y, e, c) = begins a t l in rw (cut, e) c.1

  abbrev Going : ℕ → List A → List S → Type 0
  Going k vs s = Then L (λ v. Mapped (λ us. v ∷ us) (UpTo k)) vs s

  abbrev going : ℕ → List S → Outcome S W (List A)
  going k s = after (r s) (λ v u. mapped (λ vs. v ∷ vs) (until close w r k u))

  right_going : (k : ℕ) → Right V Any (UpTo k) (Why k) (until close w r k)
      → Right V Any (Going k) (ThenWhy L R (λ v. Why k)) (going k)
  right_going k inner =
      right_then V E Any L R r (λ v. Mapped (λ us. v ∷ us) (UpTo k)) (λ v. Why k) (λ v u. mapped (λ vs. v ∷ vs) (until close w r k u)) right
      (λ v t l. right_mapped V Any (λ us. v ∷ us) (UpTo k) (Why k) (until close w r k) inner)
      (λ v t l. (v ∷ [], closer ∷ [], ([], refl, closed k)))
      (λ v vs u x m f. let (us, e, l) = m in ends_value k us u x l)

  none_same : (s : List S) → closing close w s ≡ until close w r zero s
  unfolding until
  none_same [] = refl
  none_same (c ∷ s) = elim (is_or (close c)) [
    | inl e ↦ closing_is close w c s e ∙ sym (pick_true (close c) _ _ e)
    | inr e ↦ closing_not close w c s e ∙ sym (pick_false (close c) _ _ e)
  ]

  step_same : (k : ℕ) (s : List S) → branch close (closing close w) (going k) s ≡ until close w r (suc k) s
  unfolding until
  step_same k [] = refl
  step_same k (c ∷ s) = elim (is_or (close c)) [
    | inl e ↦ pick_true (close c) _ _ e ∙ (closing_is close w c s e ∙ sym (pick_true (close c) _ _ e))
    | inr e ↦ pick_false (close c) _ _ e ∙ sym (pick_false (close c) _ _ e)
  ]

  close_begins : Begins (Is close) (Closing {A = A} close)
  close_begins vs s d = let (c, is, cut, nil) = closed_by {W = W} close w vs s d in (c, [], cut, is)

  -- a closing symbol is never at fault
  abbrev Ways : ℕ → List S → S → W → Type 0
  Ways k p b x = BranchWhy close (OneWhy (kept close) w) (ThenWhy L R (λ v. Why k)) p b x

  why_more : (k : ℕ) (p : List S) (b : S) (x : W) → Ways k p b x → Why (suc k) p b x
  why_more k p b x (inl (f, (nil, none, is))) = absurd (clash (subst (λ z. Follows (Is close) (z ++ b ∷ [])) nil f))
    where
      clash : close b ≡ true → ⊥
      clash e = let some : kept close b ≡ Some b = pick_true (close b) (Some b) None e in cc
  why_more k p b x (inr y) = y

  right_upto : (k : ℕ) → Right V Any (UpTo k) (Why k) (until close w r k)
  right_upto zero =
      right_by V Any (Closing close) (Why zero) (closing close w) (until close w r zero) none_same (right_closing close w V closer closes)
  right_upto (suc k) =
      right_same V Any (UpTo (suc k)) (UpTo (suc k)) (Ways k) (Why (suc k)) (until close w r (suc k)) (λ vs s l. l) (λ vs s l. l) (why_more k)
      (right_by V Any (UpTo (suc k)) (Ways k) (branch close (closing close w) (going k)) (until close w r (suc k)) (step_same k)
      (right_either V Any close (Closing close) (Going k) (OneWhy (kept close) w) (ThenWhy L R (λ v. Why k)) (closing close w) (going k)
      (right_closing close w V closer closes) (right_going k (right_upto k)) close_begins
      (then_begins (IsNot close) L (λ v. Mapped (λ us. v ∷ us) (UpTo k)) (begins_wider (λ b c. c.0) begins))
      ([], closer ∷ [], closed (suc k))))

  upto_more : (k : ℕ) (vs : List A) (s : List S) → UpTo k vs s → UpTo (suc k) vs s
  upto_more zero vs s d = inl d
  upto_more (suc k) vs s (inl d) = inl d
  upto_more (suc k) vs s (inr (v, x, u, e, lv, (us, g, m))) = inr (v, x, u, e, lv, (us, g, upto_more k us u m))

  -- every number of values
  no_more : (vs : List A) (s : List S) → Closing close vs s → Until close L vs s
  no_more vs s d = let (c, is, cut, nil) = closed_by {W = W} close w vs s d in subst (λ x. Until close L x s) (sym nil) (c, is, cut)

  into : (k : ℕ) (vs : List A) (s : List S) → UpTo k vs s → Until close L vs s
  into zero vs s d = no_more vs s d
  into (suc k) vs s (inl d) = no_more vs s d
  into (suc k) vs s (inr (v, x, u, e, lv, (us, g, m))) = subst (λ y. Until close L y s) (sym g) (x, u, e, lv, into k us u m)

  out_of : (vs : List A) (s : List S) → Until close L vs s → (k : ℕ) × (k ≤ length s) × UpTo k vs s
  out_of [] s (c, is, cut) = (0, omega arith, subst (λ y. Closing {A = A} close [] y) (sym cut) (closes_by {W = W} close w c is))
  out_of (v ∷ vs) s (t, u, cut, l, m) =
      let (k, le, x) = out_of vs u m in
      let one : 1 ≤ length t = begins_some begins v t l in
      let lens : length s ≡ length t + length u = ap length cut ∙ length-append t u in
      (suc k, omega arith, inr (v, t, u, cut, l, (vs, refl, x)))

  -- within the bound the reasons are those of values
  settle : (k : ℕ) (p : List S) (b : S) (x : W) → length p < k → Why k p b x → UntilWhy close L R p b x
  settle zero p b x le y = absurd (omega arith)
  settle (suc k) p b x le (f, inl y) = ([], (f, y))
  settle (suc k) p b x le (f, inr (v, t, q, cut, l, y)) =
      let one : 1 ≤ length t = begins_some begins v t l in
      let lens : length p ≡ length t + length q = ap length cut ∙ length-append t q in
      let (vs, z) = settle k q b x (omega arith) y in
      (v ∷ vs, (t, q, cut, l, z))

  pub right_until : Right V Any (Until close L) (UntilWhy close L R) (λ s. until close w r (length s) s)
  right_until =
      right_limit V Any UpTo (Until close L) Why (UntilWhy close L R) (until close w r) right_upto upto_more into out_of settle
      (until_same V E close w L R r right begins)

-- without reasons
pub plain_until : {S W A : Type 0} (V E : S → Type 0) (close : S → Bool) (w : W) (L : A → List S → Type 0) (r : List S → Outcome S W A)
    → Right V E L Plain r → Begins (λ c. IsNot close c × E c) L → ((c : S) → close c ≡ true → E c) → (closer : S) → close closer ≡ true
    → Right V Any (Until close L) Plain (λ s. until close w r (length s) s)
plain_until V E close w L r right begins close_ends closer closes =
    plain V Any (Until close L) (UntilWhy close L Plain) (λ s. until close w r (length s) s)
    (right_until V E close w L Plain r right begins close_ends closer closes)
