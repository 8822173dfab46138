-- What an answer says of all symbols, by places, where no text begins another: each list of symbols has one answer.
use Rattle.std.proofs.Common.{◌≡◌, refl, sym, ap, ◌∙◌, subst, ℕ, suc, ◌+◌, List, [], ◌∷◌, ◌++◌, length, take, drop, append_assoc, ◌⊎◌, inl, inr, arith}
use Rattle.std.proofs.lemmas.List.{append-nil, length-append, take-append-drop}
use Rattle.std.proofs.Math.Seq.{take-append_seam, drop-append_seam}
use Rattle.readers.specs.Reader.{Outcome, whole, more, bad, Each, Any, Front, FaultAt, Right, Stands, IsProperFront, IsFaultAt}
use Rattle.readers.proofs.Readers.{follows-any, cut_two, snoc}
use Rattle.readers.proofs.Limits.{cut_same}
use Rattle.readers.proofs.Ends.{one_fault}

-- a text in front stands there
pub stands_by : {S A : Type 0} (L : A → List S → Type 0) (a : A) (s t u : List S) → s ≡ t ++ u → L a t → Stands L s a (length t)
stands_by L a s t u cut l =
    let lens : length s ≡ length t + length u = ap length cut ∙ length-append t u in
    (omega arith, subst (λ x. L a x) (sym (ap (λ x. take (length t) x) cut ∙ take-append_seam t u)) l)

module _ {S W A : Type 0} (V : S → Type 0) (L : A → List S → Type 0) (R : List S → S → W → Type 0) (r : List S → Outcome S W A) (right : Right V Any L R r) where
  front_reads : (a : A) (t u : List S) → L a t → r (t ++ u) ≡ whole a u
  front_reads a t u l = right.complete a t u l (follows-any u)

  pub told_whole : (s : List S) (a : A) (u : List S) → Each V s → r s ≡ whole a u → (k : ℕ) × Stands L s a k × (u ≡ drop k s)
  told_whole s a u vs h =
      let (t, cut, l, f) = right.sound s a u vs h in
      (length t, stands_by L a s t u cut l, sym (ap (λ x. drop (length t) x) cut ∙ drop-append_seam t u))

  pub only_whole : (s : List S) (a : A) (k : ℕ) → Stands L s a k → r s ≡ whole a (drop k s)
  only_whole s a k stands = sym (ap r (take-append-drop k s)) ∙ front_reads a (take k s) (drop k s) stands.1

  -- no text goes on another
  pub prefix_free : (a c : A) (t u x y : List S) → L a t → L c u → t ++ x ≡ u ++ y → (a ≡ c) × (t ≡ u)
  prefix_free a c t u x y l m same =
      let e : ◌≡◌ {A = Outcome S W A} (whole a x) (whole c y) = sym (front_reads a t x l) ∙ (ap r same ∙ front_reads c u y m) in
      let ac : a ≡ c = cc in
      let xy : x ≡ y = cc in
      (ac, same_front t u x y same (ap length xy))
    where
      same_front : (t u x y : List S) → t ++ x ≡ u ++ y → length x ≡ length y → t ≡ u
      same_front [] [] x y e len = refl
      same_front [] (b ∷ u) x y e len = let lens : length x ≡ suc (length u + length y) = ap length e ∙ ap suc (length-append u y) in absurd (omega arith)
      same_front (b ∷ t) [] x y e len = let lens : suc (length t + length x) ≡ length y = sym (ap suc (length-append t x)) ∙ ap length e in absurd (omega arith)
      same_front (b ∷ t) (c ∷ u) x y e len =
          let bc : b ≡ c = cc in
          let tails : t ++ x ≡ u ++ y = cc in
          ap (λ l. b ∷ l) (same_front t u x y tails len) ∙ ap (λ z. z ∷ u) bc

  -- what begins a longer text has no text in front
  no_text : (a c : A) (b : S) (t u x : List S) → L a (t ++ b ∷ x) → L c u → (z : List S) → t ≡ u ++ z → ⊥
  no_text a c b t u x l m z cut =
      let line : (t ++ b ∷ x) ++ [] ≡ u ++ (z ++ b ∷ x) = append-nil (t ++ b ∷ x) ∙ (ap (λ y. y ++ b ∷ x) cut ∙ append_assoc u z (b ∷ x)) in
      let (ac, same) = prefix_free a c (t ++ b ∷ x) u [] (z ++ b ∷ x) l m line in
      let one : length (t ++ b ∷ x) ≡ length t + suc (length x) = length-append t (b ∷ x) in
      let two : length t ≡ length u + length z = ap length cut ∙ length-append u z in
      let three : length (t ++ b ∷ x) ≡ length u = ap length same in
      omega arith

  pub told_more : (s : List S) → Each V s → r s ≡ more → IsProperFront L s
  told_more s vs h = let (a, x, l) = right.goes_on s vs h in go a x l
    where
      go : (a : A) (x : List S) → L a (s ++ x) → IsProperFront L s
      go a [] l = let got : r s ≡ whole a [] = sym (ap r (append-nil s)) ∙ front_reads a s [] (subst (λ z. L a z) (append-nil s) l) in absurd cc
      go a (b ∷ x) l = (a, b, x, l)

  pub only_more : (s : List S) → Each V s → IsProperFront L s → r s ≡ more
  only_more s vs (a, b, x, l) = go (r s) refl
    where
      go : (o : Outcome S W A) → r s ≡ o → r s ≡ more
      go (whole c u) e = let (t, cut, m, f) = right.sound s c u vs e in absurd (no_text a c b s t x l m u cut)
      go more e = e
      go (bad n w) e = let (p, d, v, fault, why) = right.faults s n w vs e in absurd (clash p d v n fault)
        where
          clash : (p : List S) (d : S) (v : List S) (n : ℕ) → FaultAt L s p d v n → ⊥
          clash p d v n fault =
              let line : s ++ b ∷ x ≡ (p ++ d ∷ []) ++ (v ++ b ∷ x) = ap (λ z. z ++ b ∷ x) fault.place ∙ (append_assoc p (d ∷ v) (b ∷ x) ∙ sym (snoc p d (v ++ b ∷ x))) in
              fault.no_front (a, v ++ b ∷ x, subst (λ z. L a z) line l)

  pub told_bad : (s : List S) (n : ℕ) (w : W) → Each V s → r s ≡ bad n w → (k : ℕ) × (k + n ≡ length s) × IsFaultAt L R s k w
  told_bad s n w vs h =
      let (p, b, v, fault, why) = right.faults s n w vs h in
      let (a, x, l) = fault.front in
      let lens : length s ≡ length p + suc (length v) = ap length fault.place ∙ length-append p (b ∷ v) in
      let left : n ≡ suc (length v) = fault.left in
      (length p, omega arith, (p, b, v, fault.place, refl, proper p b v fault.place a x l, fault.no_front, why))
    where
      proper : (p : List S) (b : S) (v : List S) → s ≡ p ++ b ∷ v → (a : A) (x : List S) → L a (p ++ x) → IsProperFront L p
      proper p b v cut a [] l = let got : r s ≡ whole a (b ∷ v) = ap r cut ∙ front_reads a p (b ∷ v) (subst (λ z. L a z) (append-nil p) l) in absurd cc
      proper p b v cut a (d ∷ x) l = (a, d, x, l)

  pub only_bad : (s : List S) (k : ℕ) (w : W) → Each V s → IsFaultAt L R s k w → ((p : List S) (b : S) (x y : W) → R p b x → R p b y → x ≡ y) → (n : ℕ) × (k + n ≡ length s) × (r s ≡ bad n w)
  only_bad s k w vs (p, b, v, cut, at, (a, d, x, l), none, why) one_reason = go (r s) refl
    where
      go : (o : Outcome S W A) → r s ≡ o → (n : ℕ) × (k + n ≡ length s) × (r s ≡ bad n w)
      go (whole c u) e = let (t, here, m, f) = right.sound s c u vs e in absurd (over c t u here m (cut_two t u p (b ∷ v) (sym here ∙ cut)))
        where
          over : (c : A) (t u : List S) → s ≡ t ++ u → L c t → ((y : List S) × (p ≡ t ++ y) × (u ≡ y ++ b ∷ v)) ⊎ ((y : List S) × (t ≡ p ++ y) × (b ∷ v ≡ y ++ u)) → ⊥
          over c t u here m (inl (y, pt, rest)) = no_text a c d p t x l m y pt
          over c t u here m (inr ([], tp, rest)) = no_text a c d p t x l m [] (sym (append-nil p) ∙ (sym tp ∙ sym (append-nil t)))
          over c t u here m (inr (f ∷ y, tp, rest)) =
              let bf : b ≡ f = cc in
              let line : t ≡ (p ++ b ∷ []) ++ y = tp ∙ (sym (snoc p f y) ∙ ap (λ z. (p ++ z ∷ []) ++ y) (sym bf)) in
              none (c, y, subst (λ z. L c z) line m)
      go more e = absurd (none (front_of (right.goes_on s vs e)))
        where
          front_of : Front L s → Front L (p ++ b ∷ [])
          front_of (c, y, m) =
              let line : s ++ y ≡ (p ++ b ∷ []) ++ (v ++ y) = ap (λ z. z ++ y) cut ∙ (append_assoc p (b ∷ v) y ∙ sym (snoc p b (v ++ y))) in
              (c, v ++ y, subst (λ z. L c z) line m)
      go (bad n y) e = let (q, c, u, fault, reason) = right.faults s n y vs e in at_fault n y e q c u fault reason
        where
          at_fault : (n : ℕ) (y : W) → r s ≡ bad n y → (q : List S) (c : S) (u : List S) → FaultAt L s q c u n → R q c y → (n : ℕ) × (k + n ≡ length s) × (r s ≡ bad n w)
          at_fault n y e q c u fault reason =
              let lens : length s ≡ length p + suc (length v) = ap length cut ∙ length-append p (b ∷ v) in
              let here : FaultAt L s p b v (length (b ∷ v)) = record { place = cut; left = refl; front = (a, d ∷ x, l); no_front = none } in
              let same : suc (length v) ≡ n = one_fault L s p q b c v u (length (b ∷ v)) n here fault in
              let left : n ≡ suc (length u) = fault.left in
              let (pq, bc) = cut_same p q b c v u (sym cut ∙ fault.place) (omega arith) in
              let yw : y ≡ w = one_reason p b y w (subst (λ z. R p z y) (sym bc) (subst (λ z. R z c y) (sym pq) reason)) why in
              (n, omega arith, e ∙ ap (λ z. bad n z) yw)
