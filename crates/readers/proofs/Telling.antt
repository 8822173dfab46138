-- A place has one reason, where no text begins another: of composed languages.
use Rattle.std.proofs.Common.{◌≡◌, sym, ap, ◌∙◌, subst, Option, ℕ, zero, suc, List, [], ◌∷◌, ◌++◌, append_assoc, inl, inr}
use Rattle.readers.specs.Reader.{Outcome, whole, Any, RightIn, Tells, Then, ThenWhy, Mapped, NoWhy, One, OneWhy, Count, CountWhy}
use Rattle.readers.proofs.Readers.{follows-any}

-- two texts in front of one list are one
pub one_text : {S W A : Type 0} (V : S → Type 0) (F : List S → Type 0) (L : A → List S → Type 0) (R : List S → S → W → Type 0) (r : List S → Outcome S W A)
    → RightIn V Any F L R r → (a c : A) (t u x y : List S) → L a t → L c u → t ++ x ≡ u ++ y → (a ≡ c) × (x ≡ y)
one_text {S = S} {W = W} {A = A} V F L R r right a c t u x y l m same = apart (sym left ∙ (ap r same ∙ right.complete c u y m (follows-any y)))
  where
    left : r (t ++ x) ≡ whole a x
    left = right.complete a t x l (follows-any x)

    apart : ◌≡◌ {A = Outcome S W A} (whole a x) (whole c y) → (a ≡ c) × (x ≡ y)
    apart e = (cc, cc)

module _ {S W A B : Type 0} (V : S → Type 0) (F : List S → Type 0) (L : A → List S → Type 0) (R : List S → S → W → Type 0) (r : List S → Outcome S W A)
    (M : A → B → List S → Type 0) (Q : A → List S → S → W → Type 0)
    (right : RightIn V Any F L R r) (first : Tells L R) (second : (a : A) (t : List S) → L a t → Tells (M a) (Q a)) where
  then_one : (p : List S) (b : S) (v w : W) → ThenWhy L R Q p b v → ThenWhy L R Q p b w → v ≡ w
  then_one p b v w (inl x) (inl y) = first.one p b v w x y
  then_one p b v w (inl x) (inr (a, t, q, cut, l, y)) = absurd (first.silent a t q b v l (subst (λ z. R z b v) cut x))
  then_one p b v w (inr (a, t, q, cut, l, x)) (inl y) = absurd (first.silent a t q b w l (subst (λ z. R z b w) cut y))
  then_one p b v w (inr (a, t, q, cut, l, x)) (inr (c, u, k, other, m, y)) =
      let (ac, qk) = one_text V F L R r right a c t u q k l m (sym cut ∙ other) in
      (second a t l).one q b v w x (subst (λ d. Q d q b w) (sym ac) (subst (λ z. Q c z b w) (sym qk) y))

  then_silent : (c : B) (s q : List S) (b : S) (w : W) → Then L M c s → ThenWhy L R Q (s ++ q) b w → ⊥
  then_silent c s q b w (a, t, u, cut, l, m) (inl x) =
      first.silent a t (u ++ q) b w l (subst (λ z. R z b w) (ap (λ z. z ++ q) cut ∙ append_assoc t u q) x)
  then_silent c s q b w (a, t, u, cut, l, m) (inr (d, p, k, other, ld, x)) =
      let (ad, same) = one_text V F L R r right a d t p (u ++ q) k l ld (sym (ap (λ z. z ++ q) cut ∙ append_assoc t u q) ∙ other) in
      (second a t l).silent c u q b w m (subst (λ e. Q e (u ++ q) b w) (sym ad) (subst (λ z. Q d z b w) (sym same) x))

  pub tells_then : Tells (Then L M) (ThenWhy L R Q)
  tells_then = record { one = then_one; silent = then_silent }

pub tells_mapped : {S W A B : Type 0} (g : A → B) (L : A → List S → Type 0) (R : List S → S → W → Type 0) → Tells L R → Tells (Mapped g L) R
tells_mapped g L R tells = record { one = tells.one; silent = λ b t q c w l. let (a, e, m) = l in tells.silent a t q c w m }

-- the same language and reasons in other words
pub tells_same : {S W A : Type 0} (L M : A → List S → Type 0) (R Q : List S → S → W → Type 0) → ((a : A) (s : List S) → M a s → L a s)
    → ((p : List S) (b : S) (w : W) → Q p b w → R p b w) → Tells L R → Tells M Q
tells_same L M R Q out why tells = record {
  one = λ p b v w x y. tells.one p b v w (why p b v x) (why p b w y);
  silent = λ a t q b w m x. tells.silent a t q b w (out a t m) (why (t ++ q) b w x);
}

-- where nothing is ever at fault
pub tells_none : {S W A : Type 0} (L : A → List S → Type 0) → Tells {W = W} L NoWhy
tells_none L = record { one = λ p b v w x y. absurd x; silent = λ a t q b w l x. x }

pub tells_one : {S W A : Type 0} (h : S → Option A) (w : W) → Tells (One h) (OneWhy h w)
tells_one {S = S} {W = W} {A = A} h w = record { one = λ p b v x y z. y.2 ∙ sym z.2; silent = silent }
  where
    silent : (a : A) (t q : List S) (b : S) (v : W) → One h a t → OneWhy h w (t ++ q) b v → ⊥
    silent a t q b v (c, cut, e) x = let same : t ++ q ≡ c ∷ q = ap (λ z. z ++ q) cut in let none : t ++ q ≡ [] = x.0 in cc

module _ {S W A : Type 0} (V : S → Type 0) (F : List S → Type 0) (L : A → List S → Type 0) (R : List S → S → W → Type 0) (r : List S → Outcome S W A)
    (right : RightIn V Any F L R r) (tells : Tells L R) where
  pub tells_count : (n : ℕ) → Tells (Count L n) (CountWhy L R n)
  tells_count zero = tells_none (Count L zero)
  tells_count (suc n) =
      tells_then V F L R r (λ v. Mapped (λ us. v ∷ us) (Count L n)) (λ v. CountWhy L R n) right tells
      (λ v t l. tells_mapped (λ us. v ∷ us) (Count L n) (CountWhy L R n) (tells_count n))
