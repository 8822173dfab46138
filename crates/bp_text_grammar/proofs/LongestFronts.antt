-- The reading of the longest front gives its value just where it is a text.
use Rattle.std.proofs.Common.{◌≡◌, refl, sym, ap, ◌∙◌, subst, ℕ, ◌+◌, ◌-◌, List, [], ◌∷◌, ◌++◌, length, take, drop, append_assoc, inl, inr, arith}
use Rattle.std.proofs.lemmas.List.{append-nil, length-append}
use Rattle.std.proofs.Math.Seq.{take-append_seam, drop-append_seam}
use Rattle.readers.specs.Reader.{Outcome, whole, more, bad, Any, Follows, Front, FaultAt, Right, Is}
use Rattle.readers.proofs.Readers.{each-any, cut_two, snoc, fronts_of}
use Rattle.readers.proofs.Ends.{one_value}
use Rattle.bp_value.specs.declared.shape.Shape.{Shape}
use Rattle.bp_text_grammar.specs.Tokens.{Token}
use Rattle.bp_text_grammar.specs.Texts.{Why}
use Rattle.bp_text_grammar.specs.ShapeTexts.{ends_shape, IsShapeTokens, IsShapeFault, shape_at}
use Rattle.bp_text_grammar.specs.ShapeFronts.{IsLongestFront, before, taken, front_at, shape_front_at}
use Rattle.bp_text_grammar.proofs.RightShapes.{right_shape}

-- a part of a list, by how many symbols are left
cut_at : {S : Type 0} (s p x : List S) (n : ℕ) → s ≡ p ++ x → n ≡ length x → (take (length s - n) s ≡ p) × (drop (length s - n) s ≡ x)
cut_at s p x n cut left =
    let lens : length s ≡ length p + length x = ap length cut ∙ length-append p x in
    let at : length s - n ≡ length p = omega arith in
    (ap (λ k. take k s) at ∙ (ap (λ y. take (length p) y) cut ∙ take-append_seam p x), ap (λ k. drop k s) at ∙ (ap (λ y. drop (length p) y) cut ∙ drop-append_seam p x))

module _ {S W A : Type 0} (E : S → Type 0) (L : A → List S → Type 0) (R : List S → S → W → Type 0) (r : List S → Outcome S W A) (right : Right Any E L R r) where
  reads : (a : A) (t : List S) → L a t → r t ≡ whole a []
  reads a t l = sym (ap r (append-nil t)) ∙ right.complete a t [] l tt

  ends : (a : A) (t : List S) (b : S) (x : List S) → L a t → E b → Front L (t ++ b ∷ x) → ⊥
  ends = (fronts_of Any E L R r right).ends

  shorter : (t : List S) (b : S) (x : List S) → Front L (t ++ b ∷ x) → Front L (t ++ b ∷ [])
  shorter t b x (a, y, l) = (a, x ++ y, subst (λ z. L a z) (append_assoc t (b ∷ x) y ∙ sym (snoc t b (x ++ y))) l)

  text_front : (a : A) (t : List S) → L a t → Front L t
  text_front a t l = (a, [], rw (append-nil t) l)

  follows_class : (u : List S) (b : S) (x : List S) → Follows E u → u ≡ b ∷ x → E b
  follows_class u b x f e = subst (λ y. Follows E y) e f

  -- ---- what a reading gives

  pub front_good : (s u : List S) (a : A) → front_at r s ≡ whole a u → (t : List S) × IsLongestFront L s t u × L a t
  front_good s u a h = go (r s) refl h
    where
      found : (k : ℕ) (o : Outcome S W A) → r (take k s) ≡ o → (n : ℕ) (w : W) → before o (drop k s) n w ≡ whole a u → L a (take k s) × (u ≡ drop k s)
      found k (whole c []) e n w g =
          let (t, cut, l, f) = right.sound (take k s) c [] (each-any (take k s)) e in
          let ca : c ≡ a = cc in
          let ud : drop k s ≡ u = cc in
          (subst (λ x. L x (take k s)) ca (subst (λ x. L c x) (sym (cut ∙ append-nil t)) l), sym ud)
      found k (whole c (b ∷ y)) e n w g = absurd cc
      found k more e n w g = absurd cc
      found k (bad m x) e n w g = absurd cc

      go : (o : Outcome S W A) → r s ≡ o → taken r s o ≡ whole a u → (t : List S) × IsLongestFront L s t u × L a t
      go (whole c y) e g =
          let (t, cut, l, f) = right.sound s c y (each-any s) e in
          let ca : c ≡ a = cc in
          let yu : y ≡ u = cc in
          let la : L a t = subst (λ x. L x t) ca l in
          let fu : Follows E u = subst (λ x. Follows E x) yu f in
          (t, record { cut = cut ∙ ap (λ x. t ++ x) yu; front = text_front a t la; longest = λ b x same. ends a t b [] la (follows_class u b x fu same) }, la)
      go more e g = absurd cc
      go (bad n w) e g =
          let (p, b, v, fault, why) = right.faults s n w (each-any s) e in
          let (is_p, is_v) = cut_at s p (b ∷ v) n fault.place fault.left in
          let (la, ud) = found (length s - n) (r (take (length s - n) s)) refl n w g in
          let uv : u ≡ b ∷ v = ud ∙ is_v in (
            p,
            record {
              cut = fault.place ∙ ap (λ x. p ++ x) (sym uv);
              front = fault.front;
              longest = λ c x same. let bc : b ≡ c = heads b c v x (sym uv ∙ same) in subst (λ d. Front L (p ++ d ∷ []) → ⊥) bc fault.no_front;
            },
            subst (λ x. L a x) is_p la,
          )
        where
          heads : (b c : S) (v x : List S) → b ∷ v ≡ c ∷ x → b ≡ c
          heads b c v x e = cc

  pub front_more : (s : List S) → front_at r s ≡ more → IsLongestFront L s s [] × ((a : A) → L a s → ⊥)
  front_more s h = go (r s) refl h
    where
      never : (o : Outcome S W A) (y : List S) (n : ℕ) (w : W) → before o y n w ≡ more → ⊥
      never (whole c []) y n w g = cc
      never (whole c (b ∷ z)) y n w g = cc
      never more y n w g = cc
      never (bad m x) y n w g = cc

      nothing : (b : S) (x : List S) → [] ≡ b ∷ x → Front L (s ++ b ∷ []) → ⊥
      nothing b x e f = cc

      go : (o : Outcome S W A) → r s ≡ o → taken r s o ≡ more → IsLongestFront L s s [] × ((a : A) → L a s → ⊥)
      go (whole c y) e g = absurd cc
      go more e g = (
        record { cut = sym (append-nil s); front = right.goes_on s (each-any s) e; longest = nothing },
        λ a l. let got : r s ≡ whole a [] = reads a s l in cc,
      )
      go (bad n w) e g = absurd (never (r (take (length s - n) s)) (drop (length s - n) s) n w g)

  pub front_bad : (s : List S) (n : ℕ) (w : W) → front_at r s ≡ bad n w
      → (p : List S) × (b : S) × (v : List S) × FaultAt L s p b v n × R p b w × ((a : A) → L a p → ⊥)
  front_bad s n w h = go (r s) refl h
    where
      -- the fault stands, and the symbols before it are no text
      kept : (o : Outcome S W A) (y : List S) (m : ℕ) (x : W) → before o y m x ≡ bad n w → (m ≡ n) × (x ≡ w) × ((a : A) → o ≡ whole a [] → ⊥)
      kept (whole c []) y m x g = absurd cc
      kept (whole c (b ∷ z)) y m x g = (cc, cc, λ a e. cc)
      kept more y m x g = (cc, cc, λ a e. cc)
      kept (bad k d) y m x g = (cc, cc, λ a e. cc)

      go : (o : Outcome S W A) → r s ≡ o → taken r s o ≡ bad n w
          → (p : List S) × (b : S) × (v : List S) × FaultAt L s p b v n × R p b w × ((a : A) → L a p → ⊥)
      go (whole c y) e g = absurd cc
      go more e g = absurd cc
      go (bad m x) e g =
          let (mn, xw, none) = kept (r (take (length s - m) s)) (drop (length s - m) s) m x g in
          let same : r s ≡ bad n w = e ∙ (ap (λ k. bad k x) mn ∙ ap (λ z. bad n z) xw) in
          let (p, b, v, fault, why) = right.faults s n w (each-any s) same in
          let left : m ≡ length (b ∷ v) = mn ∙ fault.left in
          let is_p : take (length s - m) s ≡ p = (cut_at s p (b ∷ v) m fault.place left).0 in
          (p, b, v, fault, why, λ a l. none a (ap r is_p ∙ reads a p l))

  -- ---- what is given

  -- two longest fronts of one list are one
  pub one_front : (s t u p y : List S) → IsLongestFront L s t u → IsLongestFront L s p y → (t ≡ p) × (u ≡ y)
  one_front s t u p y first second = elim (cut_two t u p y (sym first.cut ∙ second.cut)) [
    | inl (z, at, rest) ↦ past t u p y z at rest first second
    | inr (z, at, rest) ↦ let (pt, yu) = past p y t u z at rest second first in (sym pt, sym yu)
  ]
    where
      past : (t u p y z : List S) → p ≡ t ++ z → u ≡ z ++ y → IsLongestFront L s t u → IsLongestFront L s p y → (t ≡ p) × (u ≡ y)
      past t u p y [] at rest first second = (sym (at ∙ append-nil t), rest)
      past t u p y (b ∷ z) at rest first second = absurd (first.longest b (z ++ y) rest (shorter t b z (subst (λ x. Front L x) at second.front)))

  pub front_all : (s t u : List S) (a : A) → IsLongestFront L s t u → L a t → front_at r s ≡ whole a u
  front_all s t u a is l = go (front_at r s) refl
    where
      go : (o : Outcome S W A) → front_at r s ≡ o → front_at r s ≡ whole a u
      go (whole c y) e =
          let (p, other, lc) = front_good s y c e in
          let (tp, uy) = one_front s t u p y is other in
          let ca : c ≡ a = one_value Any E L R r right c a t (subst (λ x. L c x) (sym tp) lc) l in
          e ∙ (ap (λ x. whole x y) ca ∙ ap (λ x. whole a x) (sym uy))
      go more e =
          let (other, none) = front_more s e in
          let (ts, un) = one_front s t u s [] is other in
          absurd (none a (subst (λ x. L a x) ts l))
      go (bad n w) e =
          let (p, b, v, fault, why, none) = front_bad s n w e in
          let (tp, uv) = one_front s t u p (b ∷ v) is (record { cut = fault.place; front = fault.front; longest = λ c x same. at_fault b c v x p same fault.no_front }) in
          absurd (none a (subst (λ x. L a x) tp l))
        where
          at_fault : (b c : S) (v x p : List S) → b ∷ v ≡ c ∷ x → (Front L (p ++ b ∷ []) → ⊥) → Front L (p ++ c ∷ []) → ⊥
          at_fault b c v x p same none f = let bc : b ≡ c = cc in none (subst (λ d. Front L (p ++ d ∷ [])) (sym bc) f)

-- ---- shapes

-- just the shapes whose texts are the longest front
pub shape_front_good : (s u : List Token) (a : Shape) → shape_front_at s ≡ whole a u → (t : List Token) × IsLongestFront IsShapeTokens s t u × IsShapeTokens a t
unfolding shape_front_at
shape_front_good s u a h = front_good (Is ends_shape) IsShapeTokens IsShapeFault shape_at right_shape s u a h

pub shape_front_all : (s t u : List Token) (a : Shape) → IsLongestFront IsShapeTokens s t u → IsShapeTokens a t → shape_front_at s ≡ whole a u
unfolding shape_front_at
shape_front_all s t u a is l = front_all (Is ends_shape) IsShapeTokens IsShapeFault shape_at right_shape s t u a is l

-- all tokens are the longest front, and no text
pub shape_front_more : (s : List Token) → shape_front_at s ≡ more → IsLongestFront IsShapeTokens s s [] × ((a : Shape) → IsShapeTokens a s → ⊥)
unfolding shape_front_at
shape_front_more s h = front_more (Is ends_shape) IsShapeTokens IsShapeFault shape_at right_shape s h

-- the longest front is no text, and the token after it is at fault
pub shape_front_bad : (s : List Token) (n : ℕ) (w : Why) → shape_front_at s ≡ bad n w
    → (p : List Token) × (b : Token) × (v : List Token) × FaultAt IsShapeTokens s p b v n × IsShapeFault p b w × ((a : Shape) → IsShapeTokens a p → ⊥)
unfolding shape_front_at
shape_front_bad s n w h = front_bad (Is ends_shape) IsShapeTokens IsShapeFault shape_at right_shape s n w h
