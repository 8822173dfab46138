-- Why a token is at fault, told by another reading: of the same tokens before it, and then the word `int`. Where the token is the
-- word `float`, it is at fault as such just where that reading passes.
use Rattle.std.proofs.Common.{◌≡◌, refl, sym, ap, ◌∙◌, subst, Option, Some, None, Bool, true, false, if◌then◌else◌, ℕ, zero, suc, ◌+◌, ◌≤◌, List, [], ◌∷◌, ◌++◌, length, codes, ◌⊎◌, inl, inr, arith}
use Rattle.std.proofs.lemmas.List.{length-append}
use Rattle.readers.specs.Reader.{Outcome, whole, more, bad, after, mapped, Any, Right, Plain, IsNot, Run, leaf, first, branch, run, stop}
use Rattle.readers.proofs.Readers.{each-any}
use Rattle.readers.proofs.Leaves.{is_or, not_both, pick_true, pick_false, plain}
use Rattle.readers.proofs.Runs.{right_run}
use Rattle.bp_text_grammar.specs.Tokens.{Token, Word}
use Rattle.bp_text_grammar.specs.Texts.{Why, Float, BadText}
use Rattle.bp_text_grammar.specs.ShapeTexts.{is_float}

-- which tokens have a reason of their own: in texts of values none, in texts of shapes the word `float`
pub data Own : Type 0 where
  NoWord : Own
  FloatWord : Own

abbrev pub is_own : Own → Token → Bool
is_own NoWord t = false
is_own FloatWord t = is_float t

abbrev pub int_word : Token
int_word = Word (codes "int")

-- all tokens are read, or they end too early
abbrev pub Passed : {A : Type 0} → Outcome Token Why A → Type 0
Passed (whole a u) = u ≡ []
Passed more = Unit {0}
Passed (bad n w) = ⊥

-- what the reason w of the token c says of the other reading
abbrev pub Says : {A : Type 0} → Own → Token → Why → Outcome Token Why A → Type 0
Says k c w o = ((w ≡ Float) × (is_own k c ≡ true) × Passed o) ⊎ ((w ≡ BadText) × (is_own k c ≡ true → (x : Why) × (o ≡ bad 1 x)))

-- what a reading that meets the token c, with v after it, says of the other reading
abbrev pub Twins : {A : Type 0} → Own → Token → List Token → Outcome Token Why A → Outcome Token Why A → Type 0
Twins k c v (whole a u) o = (length u ≤ length v) ⊎ ((q : List Token) × (u ≡ q ++ c ∷ v) × (is_own k c ≡ true → o ≡ whole a (q ++ int_word ∷ [])))
Twins k c v more o = Unit {0}
Twins k c v (bad n w) o = n ≡ suc (length v) → Says k c w o

-- a reading of no more tokens than v has
abbrev pub Short : {A : Type 0} → List Token → Outcome Token Why A → Type 0
Short v (whole a u) = length u ≤ length v
Short v more = Unit {0}
Short v (bad n w) = n ≤ length v

-- a test that does not tell a token with a reason of its own from the word `int`
abbrev pub IsBlind : Own → (Token → Bool) → Type 0
IsBlind k C = (t : Token) → is_own k t ≡ true → C t ≡ C int_word

-- ---- of one reading

pub short_reads : {A : Type 0} (E : Token → Type 0) (L : A → List Token → Type 0) (r : List Token → Outcome Token Why A) → Right Any E L Plain r
    → (v s : List Token) → length s ≤ length v → Short v (r s)
short_reads {A = A} E L r right v s le = go (r s) refl
  where
    go : (o : Outcome Token Why A) → r s ≡ o → Short v o
    go (whole a u) e =
        let (t, cut, l, f) = right.sound s a u (each-any s) e in
        let lens : length s ≡ length t + length u = ap length cut ∙ length-append t u in
        omega arith
    go more e = tt
    go (bad n w) e =
        let (p, b, x, fault, why) = right.faults s n w (each-any s) e in
        let lens : length s ≡ length p + suc (length x) = ap length fault.place ∙ length-append p (b ∷ x) in
        let left : n ≡ suc (length x) = fault.left in
        omega arith

pub passed_reads : {A : Type 0} (E : Token → Type 0) (L : A → List Token → Type 0) (r : List Token → Outcome Token Why A) → Right Any E L Plain r → Passed (r [])
passed_reads {A = A} E L r right = go (r []) refl
  where
    go : (o : Outcome Token Why A) → r [] ≡ o → Passed o
    go (whole a u) e = let (t, cut, l, f) = right.sound [] a u tt e in nothing t u cut
      where
        nothing : (t u : List Token) → [] ≡ t ++ u → u ≡ []
        nothing [] u cut = sym cut
        nothing (b ∷ t) u cut = absurd cc
    go more e = tt
    go (bad n w) e = let (p, b, x, fault, why) = right.faults [] n w tt e in none p b x fault.place
      where
        none : (p : List Token) (b : Token) (x : List Token) → [] ≡ p ++ b ∷ x → ⊥
        none [] b x cut = absurd cc
        none (y ∷ p) b x cut = absurd cc

pub short_mapped : {A B : Type 0} (g : A → B) (v : List Token) (o : Outcome Token Why A) → Short v o → Short v (mapped g o)
short_mapped g v (whole a u) s = s
short_mapped g v more s = s
short_mapped g v (bad n w) s = s

pub short_after : {A B : Type 0} (v : List Token) (o : Outcome Token Why A) (f : A → List Token → Outcome Token Why B) → Short v o
    → ((a : A) (u : List Token) → o ≡ whole a u → length u ≤ length v → Short v (f a u)) → Short v (after o f)
short_after v (whole a u) f s next = next a u refl s
short_after v more f s next = s
short_after v (bad n w) f s next = s

-- ---- of two readings

module _ (k : Own) (c : Token) (v : List Token) where
  -- past the token, the other reading does not matter
  pub twins_short : {A : Type 0} (o p : Outcome Token Why A) → Short v o → Twins k c v o p
  twins_short (whole a u) p s = inl s
  twins_short more p s = tt
  twins_short (bad n w) p s = λ e. absurd (omega arith)

  -- nor where the token has no reason of its own
  pub twins_other : {A : Type 0} → is_own k c ≡ false → (o p q : Outcome Token Why A) → Twins k c v o p → Twins k c v o q
  twins_other not_own (whole a u) p q (inl le) = inl le
  twins_other not_own (whole a u) p q (inr (x, e, same)) = inr (x, e, λ own. not_both (is_own k c) own not_own)
  twins_other not_own more p q t = tt
  twins_other not_own (bad n w) p q t = λ e. elim (t e) [
    | inl y ↦ not_both (is_own k c) y.1 not_own
    | inr y ↦ inr (y.0, λ own. not_both (is_own k c) own not_own)
  ]

  pub mapped_twins : {A B : Type 0} (g : A → B) (o p : Outcome Token Why A) → Twins k c v o p → Twins k c v (mapped g o) (mapped g p)
  mapped_twins g (whole a u) p (inl le) = inl le
  mapped_twins g (whole a u) p (inr (q, e, same)) = inr (q, e, λ own. ap (mapped g) (same own))
  mapped_twins g more p t = tt
  mapped_twins {A = A} g (bad n w) p t = λ e. elim (t e) [
    | inl y ↦ inl (y.0, y.1, passed p y.2)
    | inr y ↦ inr (y.0, λ own. let (x, at) = y.1 own in (x, ap (mapped g) at))
  ]
    where
      passed : (p : Outcome Token Why A) → Passed p → Passed (mapped g p)
      passed (whole a u) y = y
      passed more y = y
      passed (bad n w) y = y

  pub after_twins : {A B : Type 0} (o p : Outcome Token Why A) (f g : A → List Token → Outcome Token Why B) → Twins k c v o p
      → ((a : A) (u : List Token) → o ≡ whole a u → length u ≤ length v → Short v (f a u))
      → ((a : A) (q : List Token) → o ≡ whole a (q ++ c ∷ v) → Twins k c v (f a (q ++ c ∷ v)) (g a (q ++ int_word ∷ [])))
      → ((a : A) → p ≡ whole a [] → Passed (g a [])) → Twins k c v (after o f) (after p g)
  after_twins (whole a u) p f g (inl le) short next passed = twins_short (f a u) (after p g) (short a u refl le)
  after_twins (whole a u) p f g (inr (q, e, same)) short next passed =
      subst (λ x. Twins k c v (f a x) (after p g)) (sym e) (elim (is_or (is_own k c)) [
        | inl own ↦ subst (λ z. Twins k c v (f a (q ++ c ∷ v)) z) (sym (ap (λ z. after z g) (same own))) (next a q (ap (λ x. whole a x) e))
        | inr other ↦ twins_other other (f a (q ++ c ∷ v)) (g a (q ++ int_word ∷ [])) (after p g) (next a q (ap (λ x. whole a x) e))
      ])
  after_twins more p f g t short next passed = tt
  after_twins {A = A} {B = B} (bad n w) p f g t short next passed = λ e. elim (t e) [
    | inl y ↦ inl (y.0, y.1, goes p y.2 passed)
    | inr y ↦ inr (y.0, λ own. let (x, at) = y.1 own in (x, ap (λ z. after z g) at))
  ]
    where
      goes : (p : Outcome Token Why A) → Passed p → ((a : A) → p ≡ whole a [] → Passed (g a [])) → Passed (after p g)
      goes (whole a u) y passed = subst (λ z. Passed (g a z)) (sym y) (passed a (ap (λ z. whole a z) y))
      goes more y passed = tt
      goes (bad n w) y passed = y

  -- a fault before the token
  pub early : {A : Type 0} (b : Token) (p : List Token) (w : Why) (o : Outcome Token Why A) → Twins k c v (bad (length (b ∷ p ++ c ∷ v)) w) o
  early b p w o = λ e. let lens : length (p ++ c ∷ v) ≡ length p + suc (length v) = length-append p (c ∷ v) in absurd (omega arith)

  -- a fault at the token, for the common reason
  pub here : {A : Type 0} (w : Why) (o : Outcome Token Why A) → w ≡ BadText → (is_own k c ≡ true → (x : Why) × (o ≡ bad 1 x)) → Twins k c v (bad (length (c ∷ v)) w) o
  here w o e f = λ at. inr (e, f)

  -- ---- of one token

  pub leaf_twins : {A : Type 0} (h : Token → Option A) (why : Token → Why)
      → ((t : Token) → h t ≡ None → ((why t ≡ Float) × (is_own k t ≡ true) × ((a : A) × (h int_word ≡ Some a))) ⊎ ((why t ≡ BadText) × (is_own k t ≡ true → h int_word ≡ None)))
      → (p : List Token) → Twins k c v (first (λ b t. leaf (h b) (length (b ∷ t)) (why b) t) (p ++ c ∷ v)) (first (λ b t. leaf (h b) (length (b ∷ t)) (why b) t) (p ++ int_word ∷ []))
  leaf_twins {A = A} h why tells [] = go (h c) refl
    where
      pass : (o : Option A) (a : A) → o ≡ Some a → Passed (leaf o 1 (why int_word) [])
      pass o a e = rw e refl

      go : (o : Option A) → h c ≡ o → Twins k c v (leaf o (length (c ∷ v)) (why c) v) (leaf (h int_word) 1 (why int_word) [])
      go (Some a) e = inl (omega arith)
      go None e = λ at. elim (tells c e) [
        | inl y ↦ inl (y.0, y.1, pass (h int_word) y.2.0 y.2.1)
        | inr y ↦ inr (y.0, λ own. (why int_word, ap (λ o. leaf o 1 (why int_word) []) (y.1 own)))
      ]
  leaf_twins {A = A} h why tells (b ∷ p) = go (h b)
    where
      go : (o : Option A) → Twins k c v (leaf o (length (b ∷ p ++ c ∷ v)) (why b) (p ++ c ∷ v)) (leaf o (length (b ∷ p ++ int_word ∷ [])) (why b) (p ++ int_word ∷ []))
      go (Some a) = inr (p, refl, λ own. refl)
      go None = early b p (why b) (bad (length (b ∷ p ++ int_word ∷ [])) (why b))

  -- ---- one of two ways

  -- the way that a test takes, at the token and before it
  pub if_twins : {A : Type 0} (C : Token → Bool) → IsBlind k C → (o1 o2 p1 p2 : Outcome Token Why A) → Twins k c v o1 p1 → Twins k c v o2 p2
      → Twins k c v (if C c then o1 else o2) (if C int_word then p1 else p2)
  if_twins {A = A} C blind o1 o2 p1 p2 t1 t2 = elim (is_or (C c)) [
    | inl is ↦ subst (λ o. Twins k c v o (if C int_word then p1 else p2)) (sym (pick_true (C c) o1 o2 is)) (way o1 p1 t1 (λ own. pick_true (C int_word) p1 p2 (sym (blind c own) ∙ is)))
    | inr is ↦ subst (λ o. Twins k c v o (if C int_word then p1 else p2)) (sym (pick_false (C c) o1 o2 is)) (way o2 p2 t2 (λ own. pick_false (C int_word) p1 p2 (sym (blind c own) ∙ is)))
  ]
    where
      way : (o p : Outcome Token Why A) → Twins k c v o p → (is_own k c ≡ true → (if C int_word then p1 else p2) ≡ p) → Twins k c v o (if C int_word then p1 else p2)
      way o p t same = elim (is_or (is_own k c)) [
        | inl own ↦ subst (λ z. Twins k c v o z) (sym (same own)) t
        | inr other ↦ twins_other other o p (if C int_word then p1 else p2) t
      ]

  pub same_if_twins : {A : Type 0} (b : Bool) (o1 o2 p1 p2 : Outcome Token Why A) → Twins k c v o1 p1 → Twins k c v o2 p2 → Twins k c v (if b then o1 else o2) (if b then p1 else p2)
  same_if_twins true o1 o2 p1 p2 t1 t2 = t1
  same_if_twins false o1 o2 p1 p2 t1 t2 = t2

  pub branch_twins : {A : Type 0} (C : Token → Bool) (r q : List Token → Outcome Token Why A) → IsBlind k C
      → ((p : List Token) → Twins k c v (r (p ++ c ∷ v)) (r (p ++ int_word ∷ []))) → ((p : List Token) → Twins k c v (q (p ++ c ∷ v)) (q (p ++ int_word ∷ [])))
      → (p : List Token) → Twins k c v (branch C r q (p ++ c ∷ v)) (branch C r q (p ++ int_word ∷ []))
  branch_twins C r q blind left other [] = if_twins C blind (r (c ∷ v)) (q (c ∷ v)) (r (int_word ∷ [])) (q (int_word ∷ [])) (left []) (other [])
  branch_twins C r q blind left other (b ∷ p) =
      same_if_twins (C b) (r (b ∷ p ++ c ∷ v)) (q (b ∷ p ++ c ∷ v)) (r (b ∷ p ++ int_word ∷ [])) (q (b ∷ p ++ int_word ∷ [])) (left (b ∷ p)) (other (b ∷ p))

  -- ---- ends

  pub stop_twins : {A : Type 0} (ends : Token → Bool) (a : A) → IsBlind k ends
      → (p : List Token) → Twins k c v (stop ends BadText a (p ++ c ∷ v)) (stop ends BadText a (p ++ int_word ∷ []))
  stop_twins ends a blind [] =
      if_twins ends blind (whole a (c ∷ v)) (bad (length (c ∷ v)) BadText) (whole a (int_word ∷ [])) (bad 1 BadText)
      (inr ([], refl, λ own. refl)) (here BadText (bad 1 BadText) refl (λ own. (BadText, refl)))
  stop_twins ends a blind (b ∷ p) =
      same_if_twins (ends b) (whole a (b ∷ p ++ c ∷ v)) (bad (length (b ∷ p ++ c ∷ v)) BadText) (whole a (b ∷ p ++ int_word ∷ [])) (bad (length (b ∷ p ++ int_word ∷ [])) BadText)
      (inr (b ∷ p, refl, λ own. refl)) (early b p BadText (bad (length (b ∷ p ++ int_word ∷ [])) BadText))

  -- ---- runs

  run_rest : (C : Token → Bool) (n : ℕ) → Short v (run C BadText n v)
  run_rest C n =
      short_reads (IsNot C) (Run C n) (run C BadText n) (plain Any (IsNot C) (Run C n) _ (run C BadText n) (right_run Any C BadText n)) v v (omega arith)

  pub run_twins : (C : Token → Bool) → IsBlind k C → C int_word ≡ false
      → (n : ℕ) (p : List Token) → Twins k c v (run C BadText n (p ++ c ∷ v)) (run C BadText n (p ++ int_word ∷ []))
  run_twins C blind none zero [] =
      if_twins C blind (bad (length (c ∷ v)) BadText) (whole [] (c ∷ v)) (bad 1 BadText) (whole [] (int_word ∷ []))
      (here BadText (bad 1 BadText) refl (λ own. (BadText, refl))) (inr ([], refl, λ own. refl))
  run_twins C blind none zero (b ∷ p) =
      same_if_twins (C b) (bad (length (b ∷ p ++ c ∷ v)) BadText) (whole [] (b ∷ p ++ c ∷ v)) (bad (length (b ∷ p ++ int_word ∷ [])) BadText) (whole [] (b ∷ p ++ int_word ∷ []))
      (early b p BadText (bad (length (b ∷ p ++ int_word ∷ [])) BadText)) (inr (b ∷ p, refl, λ own. refl))
  run_twins C blind none (suc n) [] =
      if_twins C blind (mapped (λ t. c ∷ t) (run C BadText n v)) (whole [] (c ∷ v)) (mapped (λ t. int_word ∷ t) (run C BadText n [])) (whole [] (int_word ∷ []))
      (twins_short (mapped (λ t. c ∷ t) (run C BadText n v)) _ (short_mapped (λ t. c ∷ t) v (run C BadText n v) (run_rest C n))) (inr ([], refl, λ own. refl))
  run_twins C blind none (suc n) (b ∷ p) =
      same_if_twins (C b) (mapped (λ t. b ∷ t) (run C BadText n (p ++ c ∷ v))) (whole [] (b ∷ p ++ c ∷ v)) (mapped (λ t. b ∷ t) (run C BadText n (p ++ int_word ∷ []))) (whole [] (b ∷ p ++ int_word ∷ []))
      (mapped_twins (λ t. b ∷ t) (run C BadText n (p ++ c ∷ v)) (run C BadText n (p ++ int_word ∷ [])) (run_twins C blind none n p)) (inr (b ∷ p, refl, λ own. refl))
