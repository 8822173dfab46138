-- Recursion without a bound: where the language with at most k steps is read rightly for each k, so is the language.
use Rattle.std.proofs.Common.{◌≡◌, refl, sym, ap, ◌∙◌, subst, ℕ, zero, suc, ◌+◌, ◌-◌, ◌≤◌, ◌<◌, List, [], ◌∷◌, ◌++◌, length, arith}
use Rattle.std.proofs.lemmas.List.{length-append}
use Rattle.readers.specs.Reader.{Outcome, whole, bad, Each, Follows, Front, FaultIn, FaultAt, Right}

-- one list has one symbol at a number of symbols from its end
pub cut_same : {S : Type 0} (p q : List S) (b c : S) (v u : List S) → p ++ b ∷ v ≡ q ++ c ∷ u → length v ≡ length u → (p ≡ q) × (b ≡ c)
cut_same [] [] b c v u e len = let bc : b ≡ c = cc in (refl, bc)
cut_same {S = S} [] (d ∷ q) b c v u e len = absurd (clash cc)
  where
    clash : v ≡ q ++ c ∷ u → ⊥
    clash k = let lens : length v ≡ length q + suc (length u) = ap length k ∙ length-append q (c ∷ u) in omega arith
cut_same {S = S} (d ∷ p) [] b c v u e len = absurd (clash cc)
  where
    clash : u ≡ p ++ b ∷ v → ⊥
    clash k = let lens : length u ≡ length p + suc (length v) = ap length k ∙ length-append p (b ∷ v) in omega arith
cut_same {S = S} (x ∷ p) (y ∷ q) b c v u e len =
    let same : x ≡ y = cc in
    let tails : p ++ b ∷ v ≡ q ++ c ∷ u = cc in
    let (pq, bc) = cut_same p q b c v u tails len in
    (ap (λ l. x ∷ l) pq ∙ ap (λ z. z ∷ q) same, bc)

-- faults as far from the end, whatever the fronts are, come after the same symbols
same_place : {S : Type 0} {F G : List S → Type 0} {s p q : List S} {b c : S} {v u : List S} {n : ℕ} → FaultIn F s p b v n → FaultIn G s q c u n
    → p ++ b ∷ [] ≡ q ++ c ∷ []
same_place {p = p} {q = q} {b = b} {c = c} {v = v} {u = u} f g =
    let lens : suc (length v) ≡ suc (length u) = sym f.left ∙ g.left in
    let (pq, bc) = cut_same p q b c v u (sym f.place ∙ g.place) (omega arith) in
    ap (λ z. z ++ b ∷ []) pq ∙ ap (λ z. q ++ z ∷ []) bc

-- ---- bounds

module _ {S W A : Type 0} (V : S → Type 0) (rs : ℕ → List S → Outcome S W A)
    (stable : (k : ℕ) (s : List S) → Each V s → length s ≤ k → rs (suc k) s ≡ rs k s) where
  stable_by : (n k : ℕ) (s : List S) → Each V s → length s ≤ k → rs (n + k) s ≡ rs k s
  stable_by zero k s vs le = let e : 0 + k ≡ k = omega arith in ap (λ m. rs m s) e
  stable_by (suc n) k s vs le =
      let e : suc n + k ≡ suc (n + k) = omega arith in
      ap (λ m. rs m s) e ∙ (stable (n + k) s vs (omega arith) ∙ stable_by n k s vs le)

  -- a bound of as many symbols as there are is enough
  pub bound_enough : (k : ℕ) (s : List S) → Each V s → length s ≤ k → rs k s ≡ rs (length s) s
  bound_enough k s vs le =
      let e : k ≡ (k - length s) + length s = omega arith in
      ap (λ m. rs m s) e ∙ stable_by (k - length s) (length s) s vs (omega arith)

-- ---- the language without a bound

-- A reading with the bound k is right about Ls k, for the reasons Rs k: within the bound those are R.
module _ {S W A : Type 0} (V E : S → Type 0) (Ls : ℕ → A → List S → Type 0) (L : A → List S → Type 0) (Rs : ℕ → List S → S → W → Type 0)
    (R : List S → S → W → Type 0) (rs : ℕ → List S → Outcome S W A) (rights : (k : ℕ) → Right V E (Ls k) (Rs k) (rs k))
    (up : (k : ℕ) (a : A) (t : List S) → Ls k a t → Ls (suc k) a t) (into : (k : ℕ) (a : A) (t : List S) → Ls k a t → L a t)
    (out_of : (a : A) (t : List S) → L a t → (k : ℕ) × (k ≤ length t) × Ls k a t)
    (settle : (k : ℕ) (p : List S) (b : S) (w : W) → length p < k → Rs k p b w → R p b w)
    (stable : (k : ℕ) (s : List S) → Each V s → length s ≤ k → rs (suc k) s ≡ rs k s) where
  up_by : (n k : ℕ) (a : A) (t : List S) → Ls k a t → Ls (n + k) a t
  up_by zero k a t l = let e : k ≡ 0 + k = omega arith in subst (λ m. Ls m a t) e l
  up_by (suc n) k a t l = let e : suc (n + k) ≡ suc n + k = omega arith in subst (λ m. Ls m a t) e (up (n + k) a t (up_by n k a t l))

  limit_complete : (a : A) (t u : List S) → L a t → Follows E u → rs (length (t ++ u)) (t ++ u) ≡ whole a u
  limit_complete a t u l f =
      let (k, le, lk) = out_of a t l in
      let n = length (t ++ u) in
      let lens : n ≡ length t + length u = length-append t u in
      let e : (n - k) + k ≡ n = omega arith in
      (rights n).complete a t u (subst (λ m. Ls m a t) e (up_by (n - k) k a t lk)) f

  -- what is at fault within a bound is so within each larger one
  no_larger : (s p : List S) (b : S) (v : List S) (n : ℕ) (w : W) → Each V s → rs (length s) s ≡ bad n w → FaultAt (Ls (length s)) s p b v n
      → Front L (p ++ b ∷ []) → ⊥
  no_larger s p b v n w vs h fault (a, x, l) =
      let (k, le, lk) = out_of a ((p ++ b ∷ []) ++ x) l in
      let m = length s in
      let e : m + k ≡ k + m = omega arith in
      let above : rs (m + k) s ≡ bad n w = ap (λ j. rs j s) e ∙ (stable_by V rs stable k m s vs (omega arith) ∙ h) in
      let (q, c, u, other, why) = (rights (m + k)).faults s n w vs above in
      other.no_front (a, x, subst (λ z. Ls (m + k) a (z ++ x)) (same_place fault other) (up_by m k a ((p ++ b ∷ []) ++ x) lk))

  limit_faults : (s : List S) (n : ℕ) (w : W) → Each V s → rs (length s) s ≡ bad n w
      → (p : List S) × (b : S) × (v : List S) × FaultAt L s p b v n × R p b w
  limit_faults s n w vs h =
      let (p, b, v, fault, why) = (rights (length s)).faults s n w vs h in
      let (a, x, l) = fault.front in
      let lens : length s ≡ length p + suc (length v) = ap length fault.place ∙ length-append p (b ∷ v) in (
        p,
        b,
        v,
        record {
          place = fault.place;
          left = fault.left;
          front = (a, x, into (length s) a (p ++ x) l);
          no_front = no_larger s p b v n w vs h fault;
        },
        settle (length s) p b w (omega arith) why,
      )

  pub right_limit : Right V E L R (λ s. rs (length s) s)
  right_limit = record {
    sound = λ s a u vs h. let (t, cut, l, f) = (rights (length s)).sound s a u vs h in (t, cut, into (length s) a t l, f);
    complete = limit_complete;
    goes_on = λ s vs h. let (a, x, l) = (rights (length s)).goes_on s vs h in (a, x, into (length s) a (s ++ x) l);
    faults = limit_faults;
  }
