-- Readers of a sequence, of mapped values, of nothing, and of a first symbol are right.
use Rattle.std.proofs.Common.{◌≡◌, refl, sym, ap, ◌∙◌, subst, ℕ, List, [], ◌∷◌, ◌++◌, length, append_assoc, ◌⊎◌, inl, inr}
use Rattle.std.proofs.lemmas.List.{append-nil}
use Rattle.readers.specs.Reader.{Outcome, whole, more, bad, after, mapped, Each, Follows, Any, Front, FaultIn, FaultAt, RightIn, Right, AreFronts, ReadsIn, Then, ThenFront, ThenWhy, Mapped, Done, First, first}

-- two ways to cut one list
pub cut_two : {S : Type 0} (a b c d : List S) → a ++ b ≡ c ++ d
    → ((y : List S) × (c ≡ a ++ y) × (b ≡ y ++ d)) ⊎ ((y : List S) × (a ≡ c ++ y) × (d ≡ y ++ b))
cut_two [] b c d e = inl (c, refl, e)
cut_two (x ∷ a) b [] d e = inr (x ∷ a, refl, sym e)
cut_two {S = S} (x ∷ a) b (z ∷ c) d e =
    let same : x ≡ z = cc in
    let tails : a ++ b ≡ c ++ d = cc in
    elim (cut_two a b c d tails) [ inl w ↦ inl (w.0, cons_same same w.1, w.2) | inr w ↦ inr (w.0, cons_same (sym same) w.1, w.2) ]
  where
    cons_same : {x z : S} {s t : List S} → x ≡ z → s ≡ t → z ∷ s ≡ x ∷ t
    cons_same p q = cc

-- each symbol of two lists is each of the first and each of the second
pub each-join : {S : Type 0} (V : S → Type 0) (t u : List S) → Each V t → Each V u → Each V (t ++ u)
each-join V [] u p q = q
each-join V (b ∷ t) u p q = (p.0, each-join V t u p.1 q)

pub each-front : {S : Type 0} (V : S → Type 0) (t u : List S) → Each V (t ++ u) → Each V t
each-front V [] u p = tt
each-front V (b ∷ t) u p = (p.0, each-front V t u p.1)

pub each-rest : {S : Type 0} (V : S → Type 0) (t u : List S) → Each V (t ++ u) → Each V u
each-rest V [] u p = p
each-rest V (b ∷ t) u p = each-rest V t u p.1

pub each-any : {S : Type 0} (s : List S) → Each Any s
each-any [] = tt
each-any (b ∷ s) = (tt, each-any s)

pub follows-any : {S : Type 0} (s : List S) → Follows Any s
follows-any [] = tt
follows-any (b ∷ s) = tt

-- what follows is known by its first symbol
pub follows-front : {S : Type 0} (E : S → Type 0) (p : List S) (b : S) (v x : List S) → Follows E (p ++ b ∷ v) → Follows E ((p ++ b ∷ []) ++ x)
follows-front E [] b v x f = f
follows-front E (c ∷ p) b v x f = f

-- one symbol moves to the front part
pub snoc : {S : Type 0} (p : List S) (b : S) (x : List S) → (p ++ b ∷ []) ++ x ≡ p ++ b ∷ x
snoc p b x = append_assoc p (b ∷ []) x

pub front-more : {S A : Type 0} (L : A → List S → Type 0) (p : List S) (b : S) (x : List S) (a : A) → L a (p ++ b ∷ x) → Front L (p ++ b ∷ [])
front-more L p b x a l = (a, x, rw (snoc p b x) l)

-- ---- sets of fronts

-- what begins a text may be the fronts
pub fronts_of : {S W A : Type 0} (V E : S → Type 0) (L : A → List S → Type 0) (R : List S → S → W → Type 0) (r : List S → Outcome S W A)
    → Right V E L R r → AreFronts E (Front L) L
fronts_of {S = S} {W = W} {A = A} V E L R r right = record { reaches = λ a t l. (a, [], rw (append-nil t) l); ends = ends }
  where
    ends : (a : A) (t : List S) (b : S) (x : List S) → L a t → E b → Front L (t ++ b ∷ x) → ⊥
    ends a t b x l e (c, y, m) =
        let line : (t ++ b ∷ x) ++ y ≡ t ++ b ∷ (x ++ y) = append_assoc t (b ∷ x) y in
        let one : r (t ++ b ∷ (x ++ y)) ≡ whole a (b ∷ (x ++ y)) = right.complete a t (b ∷ (x ++ y)) l e in
        let two : r (((t ++ b ∷ x) ++ y) ++ []) ≡ whole c [] = right.complete c ((t ++ b ∷ x) ++ y) [] m tt in
        let same : r (t ++ b ∷ (x ++ y)) ≡ whole c [] = ap r (sym (append-nil ((t ++ b ∷ x) ++ y) ∙ line)) ∙ two in
        cc

pub reads_in : {S W A : Type 0} (V E : S → Type 0) (L : A → List S → Type 0) (R : List S → S → W → Type 0) (r : List S → Outcome S W A)
    → Right V E L R r → ReadsIn V E (Front L) L R r
reads_in V E L R r right = record { right = right; fronts = fronts_of V E L R r right }

-- the same fronts in other words
pub right_fronts : {S W A : Type 0} (V E : S → Type 0) (F G : List S → Type 0) (L : A → List S → Type 0) (R : List S → S → W → Type 0) (r : List S → Outcome S W A)
    → ((p : List S) → F p → G p) → ((p : List S) → G p → F p) → RightIn V E F L R r → RightIn V E G L R r
right_fronts V E F G L R r into out right = record {
  sound = right.sound;
  complete = right.complete;
  goes_on = λ s vs h. into s (right.goes_on s vs h);
  faults = λ s n w vs h. let (p, b, v, fault, why) = right.faults s n w vs h in
      (p, b, v, record { place = fault.place; left = fault.left; front = into p fault.front; no_front = λ y. fault.no_front (out (p ++ b ∷ []) y) }, why);
}

-- ---- one language after another

-- what may follow a text of the first: what begins a front of the second, and after an empty text of it what may follow that
pub record Meets {S A B : Type 0} (E F : S → Type 0) (G : A → List S → Type 0) (M : A → B → List S → Type 0) (a : A) : Type 0 where
  pub begins : (b : S) (q : List S) → G a (b ∷ q) → E b
  pub passes : (b : B) (v : List S) → M a b [] → Follows F v → Follows E v

-- where no text of the first begins another
pub meets_any : {S A B : Type 0} (F : S → Type 0) (G : A → List S → Type 0) (M : A → B → List S → Type 0) (a : A) → Meets Any F G M a
meets_any F G M a = record { begins = λ b q g. tt; passes = λ b v m f. follows-any v }

module _ {S W A B : Type 0} (V E E' : S → Type 0) (F : List S → Type 0) (L : A → List S → Type 0) (R : List S → S → W → Type 0) (r : List S → Outcome S W A)
    (G : A → List S → Type 0) (M : A → B → List S → Type 0) (Q : A → List S → S → W → Type 0) (f : A → List S → Outcome S W B)
    (first_reads : ReadsIn V E F L R r) (second : (a : A) (t : List S) → L a t → ReadsIn V E' (G a) (M a) (Q a) (f a))
    (meets : (a : A) (t : List S) → L a t → Meets E E' G M a) where
  abbrev Both : B → List S → Type 0
  Both b s = Then L M b s

  abbrev Fronts : List S → Type 0
  Fronts p = ThenFront L F G p

  abbrev Why : List S → S → W → Type 0
  Why p b w = ThenWhy L R Q p b w

  joined : (s t w q u : List S) → s ≡ t ++ w → w ≡ q ++ u → s ≡ (t ++ q) ++ u
  joined s t w q u d e = d ∙ (ap (λ l. t ++ l) e ∙ sym (append_assoc t q u))

  -- a front of the second follows a text of the first
  front_follows : (a : A) (t q : List S) → L a t → G a q → Follows E q
  front_follows a t [] l g = tt
  front_follows a t (b ∷ q) l g = (meets a t l).begins b q g

  text_follows : (a : A) (b : B) (t u v : List S) → L a t → M a b u → Follows E' v → Follows E (u ++ v)
  text_follows a b t [] v l m e = (meets a t l).passes b v m e
  text_follows a b t (c ∷ u) v l m e = (meets a t l).begins c u ((second a t l).fronts.reaches b (c ∷ u) m)

  -- what follows a whole text of the first, where two texts of it stand in front of one list
  one_cut : (a d : A) (t p u y : List S) → L a t → L d p → Follows E u → Follows E y → t ++ u ≡ p ++ y → (a ≡ d) × (u ≡ y)
  one_cut a d t p u y la ld eu ey cut =
      let left : r (t ++ u) ≡ whole a u = first_reads.right.complete a t u la eu in
      let right : r (t ++ u) ≡ whole d y = ap r cut ∙ first_reads.right.complete d p y ld ey in
      same (sym left ∙ right)
    where
      same : ◌≡◌ {A = Outcome S W A} (whole a u) (whole d y) → (a ≡ d) × (u ≡ y)
      same e = (cc, cc)

  sound : (s : List S) (o : Outcome S W A) → r s ≡ o → (b : B) (u : List S) → Each V s → after o f ≡ whole b u
      → (t : List S) × (s ≡ t ++ u) × Both b t × Follows E' u
  sound s (whole a w) e b u vs h =
      let x : (t : List S) × (s ≡ t ++ w) × L a t × Follows E w = first_reads.right.sound s a w vs e in
      let ws : Each V w = each-rest V x.0 w (subst (λ l. Each V l) x.1 vs) in
      let y : (t : List S) × (w ≡ t ++ u) × M a b t × Follows E' u = (second a x.0 x.2).right.sound w b u ws h in
      (x.0 ++ y.0, joined s x.0 w y.0 u x.1 y.1, (a, x.0, y.0, refl, x.2, y.2), y.3)
  sound s more e b u vs h = absurd cc
  sound s (bad n w) e b u vs h = absurd cc

  complete : (b : B) (t u : List S) → Both b t → Follows E' u → after (r (t ++ u)) f ≡ whole b u
  complete b t u l v =
      let (a, p, q, e, la, m) = l in
      let cut : t ++ u ≡ p ++ (q ++ u) = ap (λ x. x ++ u) e ∙ append_assoc p q u in
      let one : r (p ++ (q ++ u)) ≡ whole a (q ++ u) = first_reads.right.complete a p (q ++ u) la (text_follows a b p q u la m v) in
      ap (λ x. after (r x) f) cut ∙ (ap (λ o. after o f) one ∙ (second a p la).right.complete b q u m v)

  goes_on : (s : List S) (o : Outcome S W A) → r s ≡ o → Each V s → after o f ≡ more → Fronts s
  goes_on s (whole a w) e vs h =
      let x : (t : List S) × (s ≡ t ++ w) × L a t × Follows E w = first_reads.right.sound s a w vs e in
      let ws : Each V w = each-rest V x.0 w (subst (λ l. Each V l) x.1 vs) in
      inr (a, x.0, w, x.1, x.2, (second a x.0 x.2).right.goes_on w ws h)
  goes_on s more e vs h = inl (first_reads.right.goes_on s vs e)
  goes_on s (bad n w) e vs h = absurd cc

  -- a fault of the first is one of both: else a text of the first would stand in front of s
  no_first : (s p : List S) (b : S) (v : List S) (n : ℕ) (w : W) → r s ≡ bad n w → FaultIn F s p b v n → Fronts (p ++ b ∷ []) → ⊥
  no_first s p b v n w e fault (inl y) = fault.no_front y
  no_first s p b v n w e fault (inr (a, t, [], cut, la, g)) =
      fault.no_front (first_reads.fronts.reaches a (p ++ b ∷ []) (subst (λ l. L a l) (sym (cut ∙ append-nil t)) la))
  no_first s p b v n w e fault (inr (a, t, d ∷ q, cut, la, g)) =
      let place : s ≡ t ++ (d ∷ q ++ v) = fault.place ∙ (sym (snoc p b v) ∙ (ap (λ l. l ++ v) cut ∙ append_assoc t (d ∷ q) v)) in
      let got : r s ≡ whole a (d ∷ q ++ v) = ap r place ∙ first_reads.right.complete a t (d ∷ q ++ v) la (front_follows a t (d ∷ q) la g) in
      cc

  -- a fault of the second is one of both: the first reads the same text whatever follows
  no_second : (a : A) (t q : List S) (b : S) (v : List S) → L a t → Follows E (q ++ b ∷ v) → (G a (q ++ b ∷ []) → ⊥) → Fronts ((t ++ q) ++ b ∷ []) → ⊥
  no_second a t q b v la fe none (inl y) = past q fe (subst F (append_assoc t q (b ∷ [])) y)
    where
      past : (q : List S) → Follows E (q ++ b ∷ v) → F (t ++ (q ++ b ∷ [])) → ⊥
      past [] fe y = first_reads.fronts.ends a t b [] la fe y
      past (c ∷ q) fe y = first_reads.fronts.ends a t c (q ++ b ∷ []) la fe y
  no_second a t q b v la fe none (inr (d, p, y, cut, ld, g)) =
      let here : t ++ (q ++ b ∷ []) ≡ p ++ y = sym (append_assoc t q (b ∷ [])) ∙ cut in
      let follows : Follows E (q ++ b ∷ []) = subst (λ l. Follows E l) (append-nil (q ++ b ∷ [])) (follows-front E q b v [] fe) in
      let (ad, same) = one_cut a d t p (q ++ b ∷ []) y la ld follows (front_follows d p y ld g) here in
      none (subst (λ k. G k (q ++ b ∷ [])) (sym ad) (subst (λ l. G d l) (sym same) g))

  faults : (s : List S) (o : Outcome S W A) → r s ≡ o → (n : ℕ) (w : W) → Each V s → after o f ≡ bad n w
      → (p : List S) × (b : S) × (v : List S) × FaultIn Fronts s p b v n × Why p b w
  faults s (whole a u) e n w vs h =
      let x : (t : List S) × (s ≡ t ++ u) × L a t × Follows E u = first_reads.right.sound s a u vs e in
      let us : Each V u = each-rest V x.0 u (subst (λ l. Each V l) x.1 vs) in
      let (q, b, v, fault, why) = (second a x.0 x.2).right.faults u n w us h in (
        x.0 ++ q,
        b,
        v,
        record {
          place = joined s x.0 u q (b ∷ v) x.1 fault.place;
          left = fault.left;
          front = inr (a, x.0, q, refl, x.2, fault.front);
          no_front = no_second a x.0 q b v x.2 (subst (λ l. Follows E l) fault.place x.3) fault.no_front;
        },
        inr (a, x.0, q, refl, x.2, why),
      )
  faults s more e n w vs h = absurd cc
  faults s (bad k x) e n w vs h =
      let e' : r s ≡ bad n w = cc in
      let (p, b, v, fault, why) = first_reads.right.faults s n w vs e' in
      (p, b, v, record { place = fault.place; left = fault.left; front = inl fault.front; no_front = no_first s p b v n w e' fault }, inl why)

  -- no front goes on a text of both
  ends_both : (b : B) (s : List S) (c : S) (x : List S) → Both b s → E' c → Fronts (s ++ c ∷ x) → ⊥
  ends_both b s c x (a, t, u, cut, la, m) ec (inl y) =
      past u (text_follows a b t u (c ∷ x) la m ec) (subst F (ap (λ l. l ++ c ∷ x) cut ∙ append_assoc t u (c ∷ x)) y)
    where
      past : (u : List S) → Follows E (u ++ c ∷ x) → F (t ++ (u ++ c ∷ x)) → ⊥
      past [] fe y = first_reads.fronts.ends a t c x la fe y
      past (d ∷ u) fe y = first_reads.fronts.ends a t d (u ++ c ∷ x) la fe y
  ends_both b s c x (a, t, u, cut, la, m) ec (inr (d, p, y, other, ld, g)) =
      let here : t ++ (u ++ c ∷ x) ≡ p ++ y = sym (append_assoc t u (c ∷ x)) ∙ (ap (λ l. l ++ c ∷ x) (sym cut) ∙ other) in
      let (ad, same) = one_cut a d t p (u ++ c ∷ x) y la ld (text_follows a b t u (c ∷ x) la m ec) (front_follows d p y ld g) here in
      (second a t la).fronts.ends b u c x m ec (subst (λ k. G k (u ++ c ∷ x)) (sym ad) (subst (λ l. G d l) (sym same) g))

  pub then_in : ReadsIn V E' (ThenFront L F G) (Then L M) (ThenWhy L R Q) (λ s. after (r s) f)
  then_in = record {
    right = record {
      sound = λ s b u vs h. sound s (r s) refl b u vs h;
      complete = complete;
      goes_on = λ s vs h. goes_on s (r s) refl vs h;
      faults = λ s n w vs h. faults s (r s) refl n w vs h;
    };
    fronts = record {
      reaches = λ b s l. let (a, t, u, cut, la, m) = l in inr (a, t, u, cut, la, (second a t la).fronts.reaches b u m);
      ends = ends_both;
    };
  }

-- what begins a text of both, where each text of the first goes on
module _ {S A B : Type 0} (L : A → List S → Type 0) (M : A → B → List S → Type 0) where
  pub then_front : ((a : A) (t : List S) → L a t → (b : B) × (u : List S) × M a b u) → (p : List S) → ThenFront L (Front L) (λ a. Front (M a)) p → Front (Then L M) p
  then_front goes p (inl (a, x, l)) =
      let (b, u, m) = goes a (p ++ x) l in
      (b, x ++ u, (a, p ++ x, u, sym (append_assoc p x u), l, m))
  then_front goes p (inr (a, t, q, cut, l, (b, x, m))) =
      (b, x, (a, t, q ++ x, ap (λ y. y ++ x) cut ∙ append_assoc t q x, l, m))

  pub front_then : (p : List S) → Front (Then L M) p → ThenFront L (Front L) (λ a. Front (M a)) p
  front_then p (b, x, (a, t, u, cut, l, m)) = elim (cut_two p x t u cut) [
    | inl (y, at, rest) ↦ inl (a, y, subst (λ z. L a z) at l)
    | inr (y, at, rest) ↦ inr (a, t, y, at, l, (b, x, subst (λ z. M a b z) rest m))
  ]

pub right_then : {S W A B : Type 0} (V E F : S → Type 0) (L : A → List S → Type 0) (R : List S → S → W → Type 0) (r : List S → Outcome S W A)
    (M : A → B → List S → Type 0) (Q : A → List S → S → W → Type 0) (f : A → List S → Outcome S W B)
    → Right V E L R r → ((a : A) (t : List S) → L a t → Right V F (M a) (Q a) (f a)) → ((a : A) (t : List S) → L a t → (b : B) × (u : List S) × M a b u)
    → ((a : A) (b : B) (u v : List S) → M a b u → Follows F v → Follows E (u ++ v)) → Right V F (Then L M) (ThenWhy L R Q) (λ s. after (r s) f)
right_then {S = S} {A = A} V E F L R r M Q f one_right second goes follows =
    right_fronts V F (ThenFront L (Front L) (λ a. Front (M a))) (Front (Then L M)) (Then L M) (ThenWhy L R Q) (λ s. after (r s) f)
    (then_front L M goes) (front_then L M)
    (then_in V E F (Front L) L R r (λ a. Front (M a)) M Q f (reads_in V E L R r one_right) (λ a t l. reads_in V F (M a) (Q a) (f a) (second a t l)) (λ a t l. meets a)).right
  where
    meets : (a : A) → Meets E F (λ a. Front (M a)) M a
    meets a = record {
      begins = λ b q g. let (c, x, m) = g in subst (λ l. Follows E l) (append-nil ((b ∷ q) ++ x)) (follows a c ((b ∷ q) ++ x) [] m tt);
      passes = λ b v m f. follows a b [] v m f;
    }

-- ---- a function of the values

module _ {S W A B : Type 0} (V E : S → Type 0) (g : A → B) (L : A → List S → Type 0) (R : List S → S → W → Type 0) (r : List S → Outcome S W A) (right : Right V E L R r) where
  abbrev Image : B → List S → Type 0
  Image b s = Mapped g L b s

  map_sound : (s : List S) (o : Outcome S W A) → r s ≡ o → (b : B) (u : List S) → Each V s → mapped g o ≡ whole b u
      → (t : List S) × (s ≡ t ++ u) × Image b t × Follows E u
  map_sound s (whole a w) e b u vs h =
      let is_b : b ≡ g a = cc in
      let is_u : w ≡ u = cc in
      let e' : r s ≡ whole a u = e ∙ ap (λ x. whole a x) is_u in
      let (t, cut, l, f) = right.sound s a u vs e' in
      (t, cut, (a, is_b, l), f)
  map_sound s more e b u vs h = absurd cc
  map_sound s (bad n w) e b u vs h = absurd cc

  map_complete : (b : B) (t u : List S) → Image b t → Follows E u → mapped g (r (t ++ u)) ≡ whole b u
  map_complete b t u l f = let (a, e, la) = l in ap (λ o. mapped g o) (right.complete a t u la f) ∙ ap (λ x. whole x u) (sym e)

  map_front : (p : List S) → Front L p → Front Image p
  map_front p (a, x, l) = (g a, x, (a, refl, l))

  map_goes_on : (s : List S) (o : Outcome S W A) → r s ≡ o → Each V s → mapped g o ≡ more → Front Image s
  map_goes_on s (whole a w) e vs h = absurd cc
  map_goes_on s more e vs h = map_front s (right.goes_on s vs e)
  map_goes_on s (bad n w) e vs h = absurd cc

  map_faults : (s : List S) (o : Outcome S W A) → r s ≡ o → (n : ℕ) (w : W) → Each V s → mapped g o ≡ bad n w
      → (p : List S) × (b : S) × (v : List S) × FaultAt Image s p b v n × R p b w
  map_faults s (whole a u) e n w vs h = absurd cc
  map_faults s more e n w vs h = absurd cc
  map_faults s (bad k x) e n w vs h =
      let e' : r s ≡ bad n w = cc in
      let (p, b, v, fault, why) = right.faults s n w vs e' in
      (p, b, v, record { place = fault.place; left = fault.left; front = map_front p fault.front; no_front = λ (c, y, m). fault.no_front (m.0, y, m.2) }, why)

  pub right_mapped : Right V E (Mapped g L) R (λ s. mapped g (r s))
  right_mapped = record {
    sound = λ s b u vs h. map_sound s (r s) refl b u vs h;
    complete = map_complete;
    goes_on = λ s vs h. map_goes_on s (r s) refl vs h;
    faults = λ s n w vs h. map_faults s (r s) refl n w vs h;
  }

-- ---- the same language or reader, said in other words

pub right_same : {S W A : Type 0} (V E : S → Type 0) (L M : A → List S → Type 0) (R Q : List S → S → W → Type 0) (r : List S → Outcome S W A)
    → ((a : A) (s : List S) → L a s → M a s) → ((a : A) (s : List S) → M a s → L a s) → ((p : List S) (b : S) (w : W) → R p b w → Q p b w)
    → Right V E L R r → Right V E M Q r
right_same V E L M R Q r into out why right = record {
  sound = λ s a u vs h. let (t, cut, l, f) = right.sound s a u vs h in (t, cut, into a t l, f);
  complete = λ a t u m f. right.complete a t u (out a t m) f;
  goes_on = λ s vs h. let (a, x, l) = right.goes_on s vs h in (a, x, into a (s ++ x) l);
  faults = λ s n w vs h. let (p, b, v, fault, y) = right.faults s n w vs h in
      let (c, z, l) = fault.front in
      (p, b, v, record { place = fault.place; left = fault.left; front = (c, z, into c (p ++ z) l); no_front = λ (d, x, m). fault.no_front (d, x, out d ((p ++ b ∷ []) ++ x) m) }, why p b w y);
}

pub right_by : {S W A : Type 0} (V E : S → Type 0) (L : A → List S → Type 0) (R : List S → S → W → Type 0) (r q : List S → Outcome S W A)
    → ((s : List S) → r s ≡ q s) → Right V E L R r → Right V E L R q
right_by V E L R r q same right = record {
  sound = λ s a u vs h. right.sound s a u vs (same s ∙ h);
  complete = λ a t u l f. sym (same (t ++ u)) ∙ right.complete a t u l f;
  goes_on = λ s vs h. right.goes_on s vs (same s ∙ h);
  faults = λ s n w vs h. right.faults s n w vs (same s ∙ h);
}

-- ---- nothing

pub right_done : {S W A : Type 0} (V : S → Type 0) (x : A) (R : List S → S → W → Type 0) → Right V Any (Done x) R (λ s. whole x s)
right_done {S = S} {W = W} {A = A} V x R = record {
  sound = λ s a u vs h. let is_a : a ≡ x = cc in let is_u : s ≡ u = cc in ([], is_u, (is_a, refl), follows-any u);
  complete = λ a t u l f. let (ax, tn) = l in rw (tn, ax) refl;
  goes_on = λ s vs h. absurd cc;
  faults = λ s n w vs h. absurd cc;
}

-- ---- a first symbol

-- after this first symbol a reader is right; or it is at fault
pub record Continues {S W A : Type 0} (V E : S → Type 0) (L : A → List S → Type 0) (R : List S → S → W → Type 0) (r : List S → Outcome S W A) : Type 0 where
  pub right : Right V E L R r
  pub value : A
  pub text : List S
  pub start : L value text

pub record Stops {S W A : Type 0} (L : A → List S → Type 0) (R : S → W → Type 0) (r : List S → Outcome S W A) (b : S) : Type 0 where
  pub reason : W
  pub is : (s : List S) → r s ≡ bad (length (b ∷ s)) reason
  pub none : (a : A) (t : List S) → L a t → ⊥
  pub why : R b reason

module _ {S W A : Type 0} (V E : S → Type 0) (L : S → A → List S → Type 0) (R : List S → S → W → Type 0) (f : S → List S → Outcome S W A)
    (each : (b : S) → V b → Continues V E (L b) (λ p. R (b ∷ p)) (f b) ⊎ Stops (L b) (R []) (f b) b)
    (valid : (b : S) (a : A) (t : List S) → L b a t → V b)
    (some : Front (First L) []) where
  abbrev Firsts : A → List S → Type 0
  Firsts a s = First L a s

  first_sound : (s : List S) (a : A) (u : List S) → Each V s → first f s ≡ whole a u → (t : List S) × (s ≡ t ++ u) × Firsts a t × Follows E u
  first_sound [] a u vs h = absurd cc
  first_sound (b ∷ s) a u vs h = go (each b vs.0)
    where
      go : Continues V E (L b) (λ p. R (b ∷ p)) (f b) ⊎ Stops (L b) (R []) (f b) b → (t : List S) × (b ∷ s ≡ t ++ u) × Firsts a t × Follows E u
      go (inl c) = let (t, cut, l, e) = c.right.sound s a u vs.1 h in (b ∷ t, ap (λ x. b ∷ x) cut, (b, t, refl, l), e)
      go (inr c) = let stopped : f b s ≡ bad (length (b ∷ s)) c.reason = c.is s in absurd cc

  first_complete : (a : A) (t u : List S) → Firsts a t → Follows E u → first f (t ++ u) ≡ whole a u
  first_complete a t u (b, q, cut, l) e = ap (λ x. first f (x ++ u)) cut ∙ go (each b (valid b a q l))
    where
      go : Continues V E (L b) (λ p. R (b ∷ p)) (f b) ⊎ Stops (L b) (R []) (f b) b → f b (q ++ u) ≡ whole a u
      go (inl c) = c.right.complete a q u l e
      go (inr c) = absurd (c.none a q l)

  first_front : (b : S) (p : List S) → Front (L b) p → Front Firsts (b ∷ p)
  first_front b p (a, x, l) = (a, x, (b, p ++ x, refl, l))

  first_goes_on : (s : List S) → Each V s → first f s ≡ more → Front Firsts s
  first_goes_on [] vs h = some
  first_goes_on (b ∷ s) vs h = go (each b vs.0)
    where
      go : Continues V E (L b) (λ p. R (b ∷ p)) (f b) ⊎ Stops (L b) (R []) (f b) b → Front Firsts (b ∷ s)
      go (inl c) = first_front b s (c.right.goes_on s vs.1 h)
      go (inr c) = let stopped : f b s ≡ bad (length (b ∷ s)) c.reason = c.is s in absurd cc

  -- what begins with b is a text after b
  past : (b : S) (p : List S) → Front Firsts (b ∷ p) → Front (L b) p
  past b p (a, x, (c, t, cut, l)) =
      let bc : b ≡ c = cc in
      let tx : p ++ x ≡ t = cc in
      (a, x, subst (λ d. L d a (p ++ x)) (sym bc) (subst (λ y. L c a y) (sym tx) l))

  first_faults : (s : List S) (n : ℕ) (w : W) → Each V s → first f s ≡ bad n w
      → (p : List S) × (b : S) × (v : List S) × FaultAt Firsts s p b v n × R p b w
  first_faults [] n w vs h = absurd cc
  first_faults (b ∷ s) n w vs h = go (each b vs.0)
    where
      go : Continues V E (L b) (λ p. R (b ∷ p)) (f b) ⊎ Stops (L b) (R []) (f b) b
          → (p : List S) × (d : S) × (v : List S) × FaultAt Firsts (b ∷ s) p d v n × R p d w
      go (inl c) =
          let (p, d, v, fault, why) = c.right.faults s n w vs.1 h in
          (b ∷ p, d, v, record { place = ap (λ x. b ∷ x) fault.place; left = fault.left; front = first_front b p fault.front; no_front = λ y. fault.no_front (past b (p ++ d ∷ []) y) }, why)
      go (inr c) =
          let stopped : f b s ≡ bad (length (b ∷ s)) c.reason = c.is s in
          let is_n : n ≡ length (b ∷ s) = cc in
          let is_w : c.reason ≡ w = cc in
          ([], b, s, record { place = refl; left = is_n; front = some; no_front = λ y. let m = past b [] y in c.none m.0 m.1 m.2 }, subst (λ x. R [] b x) is_w c.why)

  pub right_first : Right V E (First L) R (first f)
  right_first = record { sound = first_sound; complete = first_complete; goes_on = first_goes_on; faults = first_faults }
