-- Readers of tokens that are right and whose reasons are told by the readings of twins, put together.
use Rattle.std.proofs.Common.{◌≡◌, refl, sym, ap, ◌∙◌, subst, suc, arith, Option, Some, None, Bool, true, false, ℕ, List, [], ◌∷◌, ◌++◌, length, inl, inr}
use Rattle.std.proofs.lemmas.List.{append-nil}
use Rattle.readers.specs.Reader.{Outcome, whole, more, bad, after, mapped, Any, Never, Follows, Is, IsNot, Front, FaultAt, Right, Plain, Then, Mapped, Done, One, one, Branch, branch, Begins, Run, run, Rest, rests, Others, others, Maybe, maybe, at_end, Ended, ended}
use Rattle.readers.specs.Until.{Until, until}
use Rattle.readers.proofs.Readers.{each-any, right_then, right_mapped, right_done}
use Rattle.readers.proofs.Leaves.{plain, plain_one, right_branch}
use Rattle.readers.proofs.Runs.{right_run}
use Rattle.readers.proofs.Separators.{right_rest, right_others, right_maybe}
use Rattle.readers.proofs.Ends.{right_end}
use Rattle.readers.proofs.Limits.{cut_same}
use Rattle.readers.proofs.Until.{plain_until}
use Rattle.bp_text_grammar.specs.Tokens.{Token}
use Rattle.bp_text_grammar.specs.Texts.{Why, BadText, IsValueFault}
use Rattle.bp_text_grammar.specs.ShapeTexts.{IsFloatFault}
use Rattle.bp_text_grammar.proofs.Twins.{Own, NoWord, FloatWord, is_own, int_word, Passed, Says, Twins, IsBlind, short_reads, passed_reads, mapped_twins, after_twins, leaf_twins, branch_twins, run_twins, early, here}
use Rattle.bp_text_grammar.proofs.TwinLists.{others_twins, maybe_twins, rests_twins, until_twins}

-- a reader of tokens is right, and the other reading tells its reasons
pub record Reads {A : Type 0} (k : Own) (E : Token → Type 0) (L : A → List Token → Type 0) (r : List Token → Outcome Token Why A) : Type 0 where
  pub right : Right Any E L Plain r
  pub twins : (c : Token) (v p : List Token) → Twins k c v (r (p ++ c ∷ v)) (r (p ++ int_word ∷ []))

pub one_reads : {k : Own} {A : Type 0} (h : Token → Option A) (t : Token) (a : A) → h t ≡ Some a
    → ((b : Token) → is_own k b ≡ true → h b ≡ None → h int_word ≡ None) → Reads k Any (One h) (one h BadText)
one_reads {k = k} h t a has alike = record {
  right = plain_one Any h BadText t a has;
  twins = λ c v p. leaf_twins k c v h (λ b. BadText) (λ b none. inr (refl, λ own. alike b own none)) p;
}

pub done_reads : {k : Own} {A : Type 0} (a : A) → Reads k Any (Done a) (λ ts. whole a ts)
done_reads a = record { right = right_done Any a Plain; twins = λ c v p. inr (p, refl, λ own. refl) }

pub mapped_reads : {k : Own} {A B : Type 0} (E : Token → Type 0) (g : A → B) (L : A → List Token → Type 0) (r : List Token → Outcome Token Why A)
    → Reads k E L r → Reads k E (Mapped g L) (λ ts. mapped g (r ts))
mapped_reads {k = k} E g L r reads = record {
  right = right_mapped Any E g L Plain r reads.right;
  twins = λ c v p. mapped_twins k c v g (r (p ++ c ∷ v)) (r (p ++ int_word ∷ [])) (reads.twins c v p);
}

-- one language after another
module _ {k : Own} {A B : Type 0} (E F : Token → Type 0) (L : A → List Token → Type 0) (r : List Token → Outcome Token Why A) (M : A → B → List Token → Type 0)
    (f : A → List Token → Outcome Token Why B) (first_reads : Reads k E L r) (second : (a : A) (t : List Token) → L a t → Reads k F (M a) (f a)) where
  -- a value that was read has a text
  text_of_value : (s u : List Token) (a : A) → r s ≡ whole a u → (t : List Token) × L a t
  text_of_value s u a e = let (t, cut, l, y) = first_reads.right.sound s a u (each-any s) e in (t, l)

  pub meeting_reads : ((a : A) (t : List Token) → L a t → (b : B) × (u : List Token) × M a b u)
      → ((a : A) (b : B) (u v : List Token) → M a b u → Follows F v → Follows E (u ++ v)) → Reads k F (Then L M) (λ ts. after (r ts) f)
  meeting_reads goes meets = record {
    right = plain Any F (Then L M) _ (λ ts. after (r ts) f) (right_then Any E F L Plain r M (λ a. Plain) f first_reads.right (λ a t l. (second a t l).right) goes meets);
    twins = λ c v p. after_twins k c v (r (p ++ c ∷ v)) (r (p ++ int_word ∷ [])) f f (first_reads.twins c v p)
        (λ a u e le. let (t, l) = text_of_value (p ++ c ∷ v) u a e in short_reads F (M a) (f a) ((second a t l).right) v u le)
        (λ a q e. let (t, l) = text_of_value (p ++ c ∷ v) (q ++ c ∷ v) a e in (second a t l).twins c v q)
        (λ a e. let (t, l) = text_of_value (p ++ int_word ∷ []) [] a e in passed_reads F (M a) (f a) ((second a t l).right));
  }

-- one of two ways
pub branch_reads : {k : Own} {A : Type 0} (E : Token → Type 0) (C : Token → Bool) (L M : A → List Token → Type 0) (r q : List Token → Outcome Token Why A)
    → IsBlind k C → Reads k E L r → Reads k E M q → Begins (Is C) L → Begins (IsNot C) M → Front (Branch L M) [] → Reads k E (Branch L M) (branch C r q)
branch_reads {k = k} E C L M r q blind left other is isnt some = record {
  right = right_branch Any E C L M Plain r q left.right other.right is isnt some;
  twins = λ c v p. branch_twins k c v C r q blind (λ x. left.twins c v x) (λ x. other.twins c v x) p;
}

pub run_reads : {k : Own} (C : Token → Bool) (n : ℕ) → IsBlind k C → C int_word ≡ false → Reads k (IsNot C) (Run C n) (run C BadText n)
run_reads {k = k} C n blind none = record {
  right = plain Any (IsNot C) (Run C n) _ (run C BadText n) (right_run Any C BadText n);
  twins = λ c v p. run_twins k c v C blind none n p;
}

-- lists, of values that are read rightly
module _ {k : Own} {A : Type 0} (E : Token → Type 0) (L : A → List Token → Type 0) (r : List Token → Outcome Token Why A) (reads : Reads k E L r) where
  pub rest_reads : (sep close : Token → Bool) → IsBlind k sep → IsBlind k close → ((c : Token) → sep c ≡ true → close c ≡ false)
      → ((c : Token) → sep c ≡ true → E c) → ((c : Token) → close c ≡ true → E c) → (closer : Token) → close closer ≡ true
      → Reads k Any (Rest sep close L) (λ ts. rests sep close BadText r (length ts) ts)
  rest_reads sep close blind_sep blind_close apart by_sep by_close closer closes = record {
    right = right_rest Any sep close BadText L r E reads.right apart by_sep by_close closer closes;
    twins = λ c v p. rests_twins k c v E L r reads.right (λ x. reads.twins c v x) sep close blind_sep blind_close p;
  }

  pub others_reads : (sep ends : Token → Bool) → IsBlind k sep → IsBlind k ends → ((c : Token) → sep c ≡ true → ends c ≡ false)
      → ((c : Token) → sep c ≡ true → E c) → ((c : Token) → ends c ≡ true → E c)
      → Reads k (Is ends) (Others sep L) (λ ts. others sep ends BadText r (length ts) ts)
  others_reads sep ends blind_sep blind_ends apart by_sep by_end = record {
    right = right_others Any sep ends BadText L r E reads.right apart by_sep by_end;
    twins = λ c v p. others_twins k c v E L r reads.right (λ x. reads.twins c v x) sep ends blind_sep blind_ends p;
  }

  pub maybe_reads : (sep ends : Token → Bool) → IsBlind k sep → IsBlind k ends → ((c : Token) → sep c ≡ true → ends c ≡ false)
      → ((c : Token) → sep c ≡ true → E c) → ((c : Token) → ends c ≡ true → E c)
      → Reads k (Is ends) (Maybe sep L) (maybe sep ends BadText r)
  maybe_reads sep ends blind_sep blind_ends apart by_sep by_end = record {
    right = right_maybe Any sep ends BadText L r E reads.right apart by_sep by_end;
    twins = λ c v p. maybe_twins k c v E L r reads.right (λ x. reads.twins c v x) sep ends blind_sep blind_ends p;
  }

  pub until_reads : (close : Token → Bool) → IsBlind k close → Begins (λ t. IsNot close t × E t) L → ((c : Token) → close c ≡ true → E c)
      → (closer : Token) → close closer ≡ true → Reads k Any (Until close L) (λ ts. until close BadText r (length ts) ts)
  until_reads close blind begins by_close closer closes = record {
    right = plain_until Any E close BadText L r reads.right begins by_close closer closes;
    twins = λ c v p. until_twins k c v E L r reads.right (λ x. reads.twins c v x) close blind begins p;
  }

-- ---- the end of all tokens

end_reads : {k : Own} {A : Type 0} (a : A) → Reads k Never (Done a) (at_end BadText a)
end_reads {k = k} {A = A} a = record { right = right_end Any BadText a; twins = twins }
  where
    twins : (c : Token) (v p : List Token) → Twins k c v (at_end BadText a (p ++ c ∷ v)) (at_end BadText a (p ++ int_word ∷ []))
    twins c v [] = let o : Outcome Token Why A = bad 1 BadText in here k c v BadText o refl (λ own. (BadText, refl))
    twins c v (b ∷ p) = let o : Outcome Token Why A = bad (length (b ∷ p ++ int_word ∷ [])) BadText in early k c v b p BadText o

pub ended_reads : {k : Own} {A : Type 0} (E : Token → Type 0) (L : A → List Token → Type 0) (r : List Token → Outcome Token Why A) → Reads k E L r
    → Reads k Never (Ended L) (ended BadText r)
ended_reads E L r reads = meeting_reads E Never L r (λ x. Done x) (at_end BadText) reads (λ a t l. end_reads a) (λ a t l. (a, [], (refl, refl))) meets
  where
    meets : {A : Type 0} (a b : A) (u v : List Token) → Done a b u → Follows Never v → Follows E (u ++ v)
    meets a b u [] (e, nil) f = rw nil tt
    meets a b u (c ∷ v) (e, nil) f = absurd f

-- what begins a text and the end begins a text
pub ended_front : {A : Type 0} (L : A → List Token → Type 0) (p : List Token) → Front (Ended L) p → Front L p
ended_front L p (a, x, (b, t, u, cut, l, (e, nil))) = (b, x, subst (λ y. L b y) (sym (cut ∙ (ap (λ y. t ++ y) nil ∙ append-nil t))) l)

pub front_ended : {A : Type 0} (L : A → List Token → Type 0) (p : List Token) → Front L p → Front (Ended L) p
front_ended L p (a, x, l) = (a, x, (a, p ++ x, [], sym (append-nil (p ++ x)), l, (refl, refl)))

-- ---- what the other reading tells

-- where no token has a reason of its own
pub right_common : {A : Type 0} (E : Token → Type 0) (L : A → List Token → Type 0) (r : List Token → Outcome Token Why A) → Reads NoWord E L r
    → Right Any E L IsValueFault r
right_common {A = A} E L r reads = record {
  sound = reads.right.sound;
  complete = reads.right.complete;
  goes_on = reads.right.goes_on;
  faults = λ s n w vs h. let (p, b, v, fault, y) = reads.right.faults s n w vs h in (p, b, v, fault, common s p b v n w h fault);
}
  where
    common : (s p : List Token) (b : Token) (v : List Token) (n : ℕ) (w : Why) → r s ≡ bad n w → FaultAt L s p b v n → w ≡ BadText
    common s p b v n w h fault =
        elim (subst (λ o. Twins NoWord b v o (r (p ++ int_word ∷ []))) (ap r (sym fault.place) ∙ h) (reads.twins b v p) fault.left) [
          | inl y ↦ absurd (clash y.1)
          | inr y ↦ y.0
        ]
      where
        clash : is_own NoWord b ≡ true → ⊥
        clash own = cc

-- where the word `float` has: it stands where the word `int` may stand just where it is at fault as such
pub right_float : {A : Type 0} (E : Token → Type 0) (L : A → List Token → Type 0) (r : List Token → Outcome Token Why A) → Reads FloatWord E L r
    → Right Any E L (IsFloatFault L) r
right_float {A = A} E L r reads = record {
  sound = reads.right.sound;
  complete = reads.right.complete;
  goes_on = reads.right.goes_on;
  faults = λ s n w vs h. let (p, b, v, fault, y) = reads.right.faults s n w vs h in
      (p, b, v, fault, told p b w (subst (λ o. Twins FloatWord b v o (r (p ++ int_word ∷ []))) (ap r (sym fault.place) ∙ h) (reads.twins b v p) fault.left));
}
  where
    passes : (p : List Token) (o : Outcome Token Why A) → r (p ++ int_word ∷ []) ≡ o → Passed o → Front L (p ++ int_word ∷ [])
    passes p (whole a u) e nil =
        let (t, cut, l, f) = reads.right.sound (p ++ int_word ∷ []) a u (each-any (p ++ int_word ∷ [])) e in
        (a, [], subst (λ x. L a x) (sym (append-nil (p ++ int_word ∷ []) ∙ (cut ∙ (ap (λ x. t ++ x) nil ∙ append-nil t)))) l)
    passes p more e y = reads.right.goes_on (p ++ int_word ∷ []) (each-any (p ++ int_word ∷ [])) e
    passes p (bad n w) e y = absurd y

    stops : (p : List Token) (x : Why) → r (p ++ int_word ∷ []) ≡ bad 1 x → Front L (p ++ int_word ∷ []) → ⊥
    stops p x e =
        let (q, b, v, fault, y) = reads.right.faults (p ++ int_word ∷ []) 1 x (each-any (p ++ int_word ∷ [])) e in
        let left : 1 ≡ suc (length v) = fault.left in
        let (pq, same) = cut_same p q int_word b [] v fault.place (omega arith) in
        λ f. fault.no_front (subst (λ z. Front L (z ++ b ∷ [])) pq (subst (λ z. Front L (p ++ z ∷ [])) same f))

    told : (p : List Token) (b : Token) (w : Why) → Says FloatWord b w (r (p ++ int_word ∷ [])) → IsFloatFault L p b w
    told p b w (inl y) = rw (y.0) (y.1, passes p (r (p ++ int_word ∷ [])) refl y.2)
    told p b w (inr y) = rw (y.0) (λ own. let (x, e) = y.1 own in stops p x e)
