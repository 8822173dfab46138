-- Readers of one symbol, of a branch by the first symbol, and of a fixed text are right.
use Rattle.std.proofs.Common.{◌≡◌, refl, sym, ap, ◌∙◌, subst, Option, Some, None, Bool, true, false, if◌then◌else◌, ℕ, suc, nat_eq, ◌≤◌, List, [], ◌∷◌, ◌++◌, length, ◌⊎◌, inl, inr, arith}
use Rattle.readers.specs.Reader.{Outcome, whole, more, bad, after, Each, Follows, Any, Is, IsNot, Front, FaultAt, Right, Plain, Then, One, OneWhy, one, leaf, Branch, branch, Begins, Fixed, fixed, this, Done}
use Rattle.readers.proofs.Readers.{follows-any, right_then, right_same, right_done}

-- ---- tests

pub is_or : (b : Bool) → (b ≡ true) ⊎ (b ≡ false)
is_or true = inl refl
is_or false = inr refl

pub not_both : {X : Type 0} (b : Bool) → b ≡ true → b ≡ false → X
not_both b t f = absurd cc

pub pick_true : {X : Type 0} (b : Bool) (x y : X) → b ≡ true → (if b then x else y) ≡ x
pick_true b x y e = ap (λ t. if t then x else y) e

pub pick_false : {X : Type 0} (b : Bool) (x y : X) → b ≡ false → (if b then x else y) ≡ y
pick_false b x y e = ap (λ t. if t then x else y) e

pub some_or : {A : Type 0} (o : Option A) → ((a : A) × (o ≡ Some a)) ⊎ (o ≡ None)
some_or (Some a) = inl (a, refl)
some_or None = inr refl

-- ---- without reasons

pub plain : {S W A : Type 0} (V E : S → Type 0) (L : A → List S → Type 0) (R : List S → S → W → Type 0) (r : List S → Outcome S W A) → Right V E L R r → Right V E L Plain r
plain V E L R r right = right_same V E L L R Plain r (λ a s l. l) (λ a s l. l) (λ p b w y. tt) right

pub plain_then : {S W A B : Type 0} (V E F : S → Type 0) (L : A → List S → Type 0) (r : List S → Outcome S W A) (M : A → B → List S → Type 0)
    (f : A → List S → Outcome S W B) → Right V E L Plain r → ((a : A) → Right V F (M a) Plain (f a))
    → ((a : A) (t : List S) → L a t → (b : B) × (u : List S) × M a b u)
    → ((a : A) (b : B) (u v : List S) → M a b u → Follows F v → Follows E (u ++ v)) → Right V F (Then L M) Plain (λ s. after (r s) f)
plain_then V E F L r M f one_right second goes meets =
    plain V F (Then L M) _ (λ s. after (r s) f) (right_then V E F L Plain r M (λ a. Plain) f one_right (λ a t l. second a) goes meets)

-- ---- one symbol

module _ {S W A : Type 0} (V : S → Type 0) (h : S → Option A) (w : W) (symbol : S) (value : A) (has : h symbol ≡ Some value) where
  abbrev One_ : A → List S → Type 0
  One_ a s = One h a s

  one_sound : (b : S) (s : List S) (o : Option A) → h b ≡ o → (a : A) (u : List S) → leaf o (length (b ∷ s)) w s ≡ whole a u
      → (t : List S) × (b ∷ s ≡ t ++ u) × One_ a t × Follows Any u
  one_sound b s (Some x) e a u g = let xa : x ≡ a = cc in let su : s ≡ u = cc in (b ∷ [], ap (λ l. b ∷ l) su, (b, refl, e ∙ ap (λ y. Some y) xa), follows-any u)
  one_sound b s None e a u g = absurd cc

  one_front : Front One_ []
  one_front = (value, symbol ∷ [], (symbol, refl, has))

  one_more : (b : S) (s : List S) (o : Option A) → leaf o (length (b ∷ s)) w s ≡ more → Front One_ (b ∷ s)
  one_more b s (Some x) g = absurd cc
  one_more b s None g = absurd cc

  one_fault : (b : S) (s : List S) (o : Option A) → h b ≡ o → (n : ℕ) (x : W) → leaf o (length (b ∷ s)) w s ≡ bad n x
      → (p : List S) × (d : S) × (v : List S) × FaultAt One_ (b ∷ s) p d v n × OneWhy h w p d x
  one_fault b s (Some x) e n y g = absurd cc
  one_fault b s None e n x g =
      let left : n ≡ length (b ∷ s) = cc in
      let reason : x ≡ w = cc in
      ([], b, s, record { place = refl; left = left; front = one_front; no_front = none }, (refl, e, reason))
    where
      none : Front One_ (b ∷ []) → ⊥
      none (a, y, (c, cut, hc)) = let bc : b ≡ c = cc in let clash : h b ≡ Some a = ap h bc ∙ hc in absurd cc

  pub right_one : Right V Any (One h) (OneWhy h w) (one h w)
  right_one = record {
    sound = λ s a u vs g. sound s a u g;
    complete = λ a t u l f. let (b, cut, hb) = l in ap (λ x. one h w (x ++ u)) cut ∙ ap (λ o. leaf o (length (b ∷ u)) w u) hb;
    goes_on = λ s vs g. goes s g;
    faults = λ s n x vs g. faults s n x g;
  }
    where
      sound : (s : List S) (a : A) (u : List S) → one h w s ≡ whole a u → (t : List S) × (s ≡ t ++ u) × One_ a t × Follows Any u
      sound [] a u g = absurd cc
      sound (b ∷ s) a u g = one_sound b s (h b) refl a u g

      goes : (s : List S) → one h w s ≡ more → Front One_ s
      goes [] g = one_front
      goes (b ∷ s) g = one_more b s (h b) g

      faults : (s : List S) (n : ℕ) (x : W) → one h w s ≡ bad n x → (p : List S) × (d : S) × (v : List S) × FaultAt One_ s p d v n × OneWhy h w p d x
      faults [] n x g = absurd cc
      faults (b ∷ s) n x g = one_fault b s (h b) refl n x g

  pub plain_one : Right V Any (One h) Plain (one h w)
  plain_one = plain V Any (One h) (OneWhy h w) (one h w) right_one

-- ---- one of two ways

-- the first symbol of what begins with some symbols
pub head_of : {S : Type 0} (b : S) (s p : List S) (d : S) (v x : List S) → b ∷ s ≡ p ++ d ∷ v → (z : List S) × ((p ++ d ∷ []) ++ x ≡ b ∷ z)
head_of b s [] d v x e = (x, cc)
head_of b s (c ∷ p) d v x e = ((p ++ d ∷ []) ++ x, cc)

-- what begins with these symbols begins with the first of them
pub follows_short : {S : Type 0} (D : S → Type 0) (p : List S) (b : S) (v x : List S) → Follows D (p ++ b ∷ v) → Follows D (p ++ b ∷ x)
follows_short D [] b v x f = f
follows_short D (c ∷ p) b v x f = f

-- the reason of the way that the first symbol goes
abbrev pub BranchWhy : {S W : Type 0} → (S → Bool) → (List S → S → W → Type 0) → (List S → S → W → Type 0) → List S → S → W → Type 0
BranchWhy C R Q p b w = (Follows (Is C) (p ++ b ∷ []) × R p b w) ⊎ (Follows (IsNot C) (p ++ b ∷ []) × Q p b w)

module _ {S W A : Type 0} (V E : S → Type 0) (C : S → Bool) (L M : A → List S → Type 0) (R Q : List S → S → W → Type 0)
    (r q : List S → Outcome S W A) (left : Right V E L R r) (other : Right V E M Q q) (is : Begins (Is C) L) (isnt : Begins (IsNot C) M)
    (some : Front (Branch L M) []) where
  abbrev Either : A → List S → Type 0
  Either a s = Branch L M a s

  abbrev Why : List S → S → W → Type 0
  Why p b w = BranchWhy C R Q p b w

  class_of : (D : S → Type 0) (K : A → List S → Type 0) → Begins D K → (a : A) (b : S) (s p : List S) (d : S) (v x : List S)
      → b ∷ s ≡ p ++ d ∷ v → K a ((p ++ d ∷ []) ++ x) → D b
  class_of D K begins a b s p d v x e k =
      let (z, same) = head_of b s p d v x e in
      let (c, t, cut, dc) = begins a (b ∷ z) (subst (λ l. K a l) same k) in
      let bc : b ≡ c = cc in
      subst D (sym bc) dc

  branch_sound : (s : List S) (a : A) (u : List S) → Each V s → branch C r q s ≡ whole a u → (t : List S) × (s ≡ t ++ u) × Either a t × Follows E u
  branch_sound [] a u vs h = absurd cc
  branch_sound (b ∷ s) a u vs h = elim (is_or (C b)) [
    | inl c ↦ let (t, cut, l, f) = left.sound (b ∷ s) a u vs (sym (pick_true (C b) (r (b ∷ s)) (q (b ∷ s)) c) ∙ h) in (t, cut, inl l, f)
    | inr c ↦ let (t, cut, l, f) = other.sound (b ∷ s) a u vs (sym (pick_false (C b) (r (b ∷ s)) (q (b ∷ s)) c) ∙ h) in (t, cut, inr l, f)
  ]

  branch_complete : (a : A) (t u : List S) → Either a t → Follows E u → branch C r q (t ++ u) ≡ whole a u
  branch_complete a t u (inl l) f =
      let (b, w, cut, c) = is a t l in
      ap (λ x. branch C r q (x ++ u)) cut ∙ (pick_true (C b) (r (b ∷ w ++ u)) (q (b ∷ w ++ u)) c ∙ left.complete a (b ∷ w) u (subst (λ x. L a x) cut l) f)
  branch_complete a t u (inr m) f =
      let (b, w, cut, c) = isnt a t m in
      ap (λ x. branch C r q (x ++ u)) cut ∙ (pick_false (C b) (r (b ∷ w ++ u)) (q (b ∷ w ++ u)) c ∙ other.complete a (b ∷ w) u (subst (λ x. M a x) cut m) f)

  branch_goes_on : (s : List S) → Each V s → branch C r q s ≡ more → Front Either s
  branch_goes_on [] vs h = some
  branch_goes_on (b ∷ s) vs h = elim (is_or (C b)) [
    | inl c ↦ let (a, x, l) = left.goes_on (b ∷ s) vs (sym (pick_true (C b) (r (b ∷ s)) (q (b ∷ s)) c) ∙ h) in (a, x, inl l)
    | inr c ↦ let (a, x, l) = other.goes_on (b ∷ s) vs (sym (pick_false (C b) (r (b ∷ s)) (q (b ∷ s)) c) ∙ h) in (a, x, inr l)
  ]

  -- the first symbol of those up to a fault
  first_of : (D : S → Type 0) (b : S) (s p : List S) (d : S) (v : List S) → b ∷ s ≡ p ++ d ∷ v → D b → Follows D (p ++ d ∷ [])
  first_of D b s p d v e f = follows_short D p d v [] (subst (λ l. Follows D l) e f)

  branch_faults : (s : List S) (n : ℕ) (w : W) → Each V s → branch C r q s ≡ bad n w
      → (p : List S) × (b : S) × (v : List S) × FaultAt Either s p b v n × Why p b w
  branch_faults [] n w vs h = absurd cc
  branch_faults (b ∷ s) n w vs h = elim (is_or (C b)) [
    | inl c ↦ in_left c (left.faults (b ∷ s) n w vs (sym (pick_true (C b) (r (b ∷ s)) (q (b ∷ s)) c) ∙ h))
    | inr c ↦ in_other c (other.faults (b ∷ s) n w vs (sym (pick_false (C b) (r (b ∷ s)) (q (b ∷ s)) c) ∙ h))
  ]
    where
      in_left : C b ≡ true → (p : List S) × (d : S) × (v : List S) × FaultAt L (b ∷ s) p d v n × R p d w
          → (p : List S) × (d : S) × (v : List S) × FaultAt Either (b ∷ s) p d v n × Why p d w
      in_left c (p, d, v, fault, why) =
          let (a, x, l) = fault.front in
          let begins : Follows (Is C) (p ++ d ∷ []) = first_of (Is C) b s p d v fault.place c in
          (p, d, v, record { place = fault.place; left = fault.left; front = (a, x, inl l); no_front = none }, inl (begins, why))
        where
          none : Front Either (p ++ d ∷ []) → ⊥
          none (a, x, inl l) = fault.no_front (a, x, l)
          none (a, x, inr m) = not_both (C b) c (class_of (IsNot C) M isnt a b s p d v x fault.place m)

      in_other : C b ≡ false → (p : List S) × (d : S) × (v : List S) × FaultAt M (b ∷ s) p d v n × Q p d w
          → (p : List S) × (d : S) × (v : List S) × FaultAt Either (b ∷ s) p d v n × Why p d w
      in_other c (p, d, v, fault, why) =
          let (a, x, l) = fault.front in
          let begins : Follows (IsNot C) (p ++ d ∷ []) = first_of (IsNot C) b s p d v fault.place c in
          (p, d, v, record { place = fault.place; left = fault.left; front = (a, x, inr l); no_front = none }, inr (begins, why))
        where
          none : Front Either (p ++ d ∷ []) → ⊥
          none (a, x, inl l) = not_both (C b) (class_of (Is C) L is a b s p d v x fault.place l) c
          none (a, x, inr m) = fault.no_front (a, x, m)

  pub right_either : Right V E (Branch L M) (BranchWhy C R Q) (branch C r q)
  right_either = record { sound = branch_sound; complete = branch_complete; goes_on = branch_goes_on; faults = branch_faults }

-- where the reasons are the same
pub right_branch : {S W A : Type 0} (V E : S → Type 0) (C : S → Bool) (L M : A → List S → Type 0) (R : List S → S → W → Type 0)
    (r q : List S → Outcome S W A) → Right V E L R r → Right V E M R q → Begins (Is C) L → Begins (IsNot C) M → Front (Branch L M) []
    → Right V E (Branch L M) R (branch C r q)
right_branch {S = S} {W = W} V E C L M R r q left other is isnt some =
    right_same V E (Branch L M) (Branch L M) (BranchWhy C R R) R (branch C r q) (λ a s l. l) (λ a s l. l) why
    (right_either V E C L M R R r q left other is isnt some)
  where
    why : (p : List S) (b : S) (w : W) → BranchWhy C R R p b w → R p b w
    why p b w (inl y) = y.1
    why p b w (inr y) = y.1

-- what the texts of composed languages begin with
pub then_begins : {S A B : Type 0} (C : S → Type 0) (L : A → List S → Type 0) (M : A → B → List S → Type 0) → Begins C L → Begins C (Then L M)
then_begins C L M begins b s (a, t, u, cut, l, m) =
    let (c, w, e, k) = begins a t l in
    (c, w ++ u, cut ∙ ap (λ x. x ++ u) e, k)

pub begins_wider : {S A : Type 0} {C D : S → Type 0} {L : A → List S → Type 0} → ((b : S) → C b → D b) → Begins C L → Begins D L
begins_wider wider begins a s l = let (b, t, cut, c) = begins a s l in (b, t, cut, wider b c)

-- such a text is not empty
pub begins_some : {S A : Type 0} {C : S → Type 0} {L : A → List S → Type 0} → Begins C L → (a : A) (s : List S) → L a s → 1 ≤ length s
begins_some begins a s l = let (b, t, cut, c) = begins a s l in let lens : length s ≡ suc (length t) = ap length cut in omega arith

pub one_begins : {S A : Type 0} (C : S → Type 0) (h : S → Option A) → ((b : S) (a : A) → h b ≡ Some a → C b) → Begins C (One h)
one_begins C h class a s (b, cut, e) = (b, [], cut, class b a e)

pub branch_begins : {S A : Type 0} (C : S → Type 0) (L M : A → List S → Type 0) → Begins C L → Begins C M → Begins C (Branch L M)
branch_begins C L M left other a s (inl l) = left a s l
branch_begins C L M left other a s (inr m) = other a s m

-- ---- a fixed text

pub this_is : (c b : ℕ) (u : Unit {0}) → this c b ≡ Some u → b ≡ c
this_is c b u e = elim (is_or (nat_eq b c)) [ inl t ↦ grind arith | inr f ↦ absurd (clash f) ]
  where
    clash : nat_eq b c ≡ false → ⊥
    clash f = let none : this c b ≡ None = pick_false (nat_eq b c) (Some tt) None f in absurd cc

pub this_same : (c : ℕ) → this c c ≡ Some tt
this_same c = pick_true (nat_eq c c) (Some tt) None (grind arith)

pub right_fixed : {W : Type 0} (V : ℕ → Type 0) (w : W) (cs : List ℕ) → Right V Any (Fixed cs) Plain (fixed w cs)
right_fixed V w [] =
    right_same V Any (Done tt) (Fixed []) Plain Plain (fixed w []) (λ a s d. d.1) (λ a s e. (refl, e)) (λ p b x y. tt) (right_done V tt Plain)
right_fixed V w (c ∷ cs) =
    right_same V Any (Then (One (this c)) (λ u. Fixed cs)) (Fixed (c ∷ cs)) Plain Plain (fixed w (c ∷ cs)) into out (λ p b x y. tt)
    (plain_then V Any Any (One (this c)) (one (this c) w) (λ u. Fixed cs) (λ u t. fixed w cs t)
    (plain_one V (this c) w c tt (this_same c)) (λ u. right_fixed V w cs) (λ u t l. (tt, cs, refl)) (λ a b u v m f. follows-any (u ++ v)))
  where
    into : (a : Unit {0}) (s : List ℕ) → Then (One (this c)) (λ u. Fixed cs) a s → Fixed (c ∷ cs) a s
    into a s (x, t, u, cut, (b, e, h), m) = let bc : b ≡ c = this_is c b x h in cc

    out : (a : Unit {0}) (s : List ℕ) → Fixed (c ∷ cs) a s → Then (One (this c)) (λ u. Fixed cs) a s
    out a s e = (tt, c ∷ [], cs, e, (c, refl, this_same c), refl)
