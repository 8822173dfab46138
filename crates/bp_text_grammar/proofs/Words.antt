-- The words of the grammars are read rightly, and what their texts begin with.
use Rattle.std.proofs.Common.{◌≡◌, refl, ap, ◌∙◌, Some, None, Bool, true, false, ◌&&◌, ℕ, nat_eq, List, [], ◌∷◌, ◌++◌, codes, arith}
use Rattle.readers.specs.Reader.{Outcome, after, mapped, Any, Is, IsNot, Then, Mapped, One, one, Begins}
use Rattle.readers.proofs.Readers.{follows-any}
use Rattle.readers.proofs.Leaves.{pick_true, one_begins}
use Rattle.bp_text_grammar.specs.Tokens.{Token, Word, Mark}
use Rattle.bp_text_grammar.specs.Texts.{Why, BadText, same, is_mark, is_word, when, mark, word_for, ThisMark, mark_at, ThisWord, Closed, closed_at, Onto}
use Rattle.bp_text_grammar.proofs.Twins.{Own, NoWord, FloatWord, int_word, IsBlind}
use Rattle.bp_text_grammar.proofs.Told.{Reads, one_reads, mapped_reads, meeting_reads}

-- a language has a text
abbrev pub HasText : {A : Type 0} → (A → List Token → Type 0) → Type 0
HasText {A = A} L = (a : A) × (ts : List Token) × L a ts

-- ---- tests

pub same_refl : (w : List ℕ) → same w w ≡ true
same_refl [] = refl
same_refl (b ∷ w) = both (nat_eq b b) (same w w) (grind arith) (same_refl w)
  where
    both : (p q : Bool) → p ≡ true → q ≡ true → (p && q) ≡ true
    both p q e f = rw (e, f) refl

pub same_is : (v w : List ℕ) → same v w ≡ true → v ≡ w
same_is [] [] e = refl
same_is [] (b ∷ w) e = absurd cc
same_is (a ∷ v) [] e = absurd cc
same_is (a ∷ v) (b ∷ w) e =
    let (first, rest) = both (nat_eq a b) (same v w) e in
    heads a b v w (equal first) (same_is v w rest)
  where
    both : (p q : Bool) → (p && q) ≡ true → (p ≡ true) × (q ≡ true)
    both true q e = (refl, e)
    both false q e = absurd cc

    equal : nat_eq a b ≡ true → a ≡ b
    equal t = grind arith

    heads : (a b : ℕ) (v w : List ℕ) → a ≡ b → v ≡ w → a ∷ v ≡ b ∷ w
    heads a b v w p q = cc

pub when_is : {A : Type 0} (b : Bool) (a c : A) → when b a ≡ Some c → (b ≡ true) × (c ≡ a)
when_is true a c e = (refl, cc)
when_is false a c e = absurd cc

-- ---- a mark

pub mark_same : (m : ℕ) → mark m (Mark m) ≡ Some tt
mark_same m = pick_true (nat_eq m m) (Some tt) None (grind arith)

pub mark_text : (m : ℕ) → ThisMark m tt (Mark m ∷ [])
mark_text m = (Mark m, refl, mark_same m)

pub mark_reads : {k : Own} (m : ℕ) → Reads k Any (ThisMark m) (mark_at m)
mark_reads m = one_reads (mark m) (Mark m) tt (mark_same m) (λ b own none. refl)

pub mark_is : (m : ℕ) (t : Token) → is_mark m t ≡ true → t ≡ Mark m
mark_is m (Mark b) e = ap Mark (equal e)
  where
    equal : nat_eq b m ≡ true → b ≡ m
    equal t = grind arith
mark_is m _ e = absurd cc

pub mark_begins : (m : ℕ) → Begins (Is (is_mark m)) (ThisMark m)
mark_begins m = one_begins (Is (is_mark m)) (mark m) (λ t u e. (when_is (is_mark m t) tt u e).0)

-- one mark is no other
pub marks_apart : (m n : ℕ) → nat_eq n m ≡ false → (t : Token) → is_mark n t ≡ true → is_mark m t ≡ false
marks_apart m n apart t e = ap (λ x. is_mark m x) (mark_is n t e) ∙ apart

pub mark_begins_not : (m n : ℕ) → nat_eq n m ≡ false → Begins (IsNot (is_mark m)) (ThisMark n)
mark_begins_not m n apart = one_begins (IsNot (is_mark m)) (mark n) (λ t u e. marks_apart m n apart t (when_is (is_mark n t) tt u e).0)

-- no word has a reason of its own; or the word `float` alone, and then a test is blind that does not tell it from `int`
pub none_blind : (C : Token → Bool) → IsBlind NoWord C
none_blind C t own = absurd cc

-- ---- a word

pub word_same : {A : Type 0} (w : List ℕ) (a : A) → word_for w a (Word w) ≡ Some a
word_same w a = pick_true (same w w) (Some a) None (same_refl w)

pub word_reads : {A : Type 0} (w : List ℕ) (a : A) → Reads NoWord Any (One (word_for w a)) (one (word_for w a) BadText)
word_reads w a = one_reads (word_for w a) (Word w) a (word_same w a) (λ b own none. absurd cc)

pub word_text : (w : List ℕ) → ThisWord w tt (Word w ∷ [])
word_text w = (Word w, refl, word_same w tt)

pub word_begins : {A : Type 0} (w : List ℕ) (a : A) → Begins (Is (is_word w)) (One (word_for w a))
word_begins w a = one_begins (Is (is_word w)) (word_for w a) (λ t b e. (when_is (is_word w t) a b e).0)

pub words_is : (w : List ℕ) (t : Token) → is_word w t ≡ true → t ≡ Word w
words_is w (Word x) e = ap Word (same_is x w e)
words_is w _ e = absurd cc

pub float_blind : (C : Token → Bool) → C (Word (codes "float")) ≡ C int_word → IsBlind FloatWord C
float_blind C same t own = ap C (words_is (codes "float") t own) ∙ same

pub mark_blind : (k : Own) (m : ℕ) → IsBlind k (is_mark m)
mark_blind NoWord m = none_blind (is_mark m)
mark_blind FloatWord m = float_blind (is_mark m) refl

-- a word is no mark
pub word_no_mark : (w : List ℕ) (m : ℕ) (t : Token) → is_word w t ≡ true → is_mark m t ≡ false
word_no_mark w m t e = ap (λ x. is_mark m x) (words_is w t e)

-- one word is no other
pub words_apart : (v w : List ℕ) → same w v ≡ false → (t : Token) → is_word w t ≡ true → is_word v t ≡ false
words_apart v w apart t e = ap (λ x. is_word v x) (words_is w t e) ∙ apart

pub word_begins_not : (v w : List ℕ) → same w v ≡ false → Begins (IsNot (is_word v)) (ThisWord w)
word_begins_not v w apart = one_begins (IsNot (is_word v)) (word_for w tt) (λ t b e. words_apart v w apart t (when_is (is_word w t) tt b e).0)

-- ---- put together

pub map_begins : {A B : Type 0} (C : Token → Type 0) (g : A → B) (L : A → List Token → Type 0) → Begins C L → Begins C (Mapped g L)
map_begins C g L begins b ts (a, e, l) = begins a ts l

-- where no text of the first begins another
pub then_reads : {k : Own} {A B : Type 0} (E : Token → Type 0) (L : A → List Token → Type 0) (r : List Token → Outcome Token Why A) (M : A → B → List Token → Type 0)
    (f : A → List Token → Outcome Token Why B) → Reads k Any L r → ((a : A) → Reads k E (M a) (f a)) → ((a : A) → HasText (M a))
    → Reads k E (Then L M) (λ ts. after (r ts) f)
then_reads E L r M f first second has =
    meeting_reads Any E L r M f first (λ a t l. second a) (λ a t l. has a) (λ a b u v m e. follows-any (u ++ v))

pub then_text : {A B : Type 0} (L : A → List Token → Type 0) (M : A → B → List Token → Type 0) (a : A) (t : List Token) → L a t → HasText (M a) → HasText (Then L M)
then_text L M a t l (b, u, m) = (b, t ++ u, (a, t, u, refl, l, m))

pub mapped_text : {A B : Type 0} (g : A → B) (L : A → List Token → Type 0) → HasText L → HasText (Mapped g L)
mapped_text g L (a, ts, l) = (g a, ts, (a, refl, l))

-- a mark, and what follows it
pub after_mark : {B : Type 0} (m : ℕ) (M : B → List Token → Type 0) → HasText M → HasText (Then (ThisMark m) (λ u. M))
after_mark m M has = then_text (ThisMark m) (λ u. M) tt (Mark m ∷ []) (mark_text m) has

pub after_mark_reads : {k : Own} {B : Type 0} (E : Token → Type 0) (m : ℕ) (M : B → List Token → Type 0) (q : List Token → Outcome Token Why B)
    → Reads k E M q → HasText M → Reads k E (Then (ThisMark m) (λ u. M)) (λ ts. after (mark_at m ts) (λ u us. q us))
after_mark_reads E m M q right has = then_reads E (ThisMark m) (mark_at m) (λ u. M) (λ u us. q us) (mark_reads m) (λ u. right) (λ u. has)

-- ---- lists

pub closed_text : {A : Type 0} (m : ℕ) → HasText (Closed {A = A} m)
closed_text m = mapped_text (λ u. []) (ThisMark m) (tt, Mark m ∷ [], mark_text m)

pub closed_reads : {k : Own} {A : Type 0} (m : ℕ) → Reads k Any (Closed {A = A} m) (closed_at m)
closed_reads m = mapped_reads Any (λ u. []) (ThisMark m) (mark_at m) (mark_reads m)

pub onto_text : {A : Type 0} (L : A → List Token → Type 0) (M : List A → List Token → Type 0) → HasText L → HasText M → HasText (Onto L M)
onto_text L M (v, t, l) has = then_text L (λ v. Mapped (λ us. v ∷ us) M) v t l (mapped_text (λ us. v ∷ us) M has)

pub onto_reads : {k : Own} {A : Type 0} (E : Token → Type 0) (L : A → List Token → Type 0) (r : List Token → Outcome Token Why A) (M : List A → List Token → Type 0)
    (q : List Token → Outcome Token Why (List A)) → Reads k Any L r → Reads k E M q → HasText M
    → Reads k E (Onto L M) (λ ts. after (r ts) (λ v us. mapped (λ vs. v ∷ vs) (q us)))
onto_reads E L r M q first second has =
    then_reads E L r (λ v. Mapped (λ us. v ∷ us) M) (λ v us. mapped (λ vs. v ∷ vs) (q us)) first
    (λ v. mapped_reads E (λ us. v ∷ us) M q second) (λ v. mapped_text (λ us. v ∷ us) M has)
