-- The tokens of a shape are words and marks, which their bytes spell as they are.
use Rattle.std.proofs.Common.{◌≡◌, refl, sym, subst, Option, Some, None, Bool, true, false, ◌||◌, ℕ, zero, suc, List, [], ◌∷◌, ◌++◌, codes, ◌⊎◌, inl, inr}
use Rattle.readers.specs.Reader.{Each, Is, Then, Mapped, One, Branch, Run, Rest, Others, Maybe}
use Rattle.readers.proofs.Readers.{each-join}
use Rattle.bp_value.specs.declared.shape.Shape.{Shape}
use Rattle.bp_value.specs.declared.shape.Shape.TheVariants as shp
use Rattle.bp_value.specs.declared.shape.PolyCase.{PolyCase}
use Rattle.bp_text_grammar.specs.Tokens.{Token, Word, Number, Big, Text, Char, Mark, Wrong, OpenText, OpenChar}
use Rattle.bp_text_grammar.specs.Texts.{round_open, round_close, colon, semicolon, square_open, square_close, backtick, curly_open, bar, curly_close, is_mark, is_word, mark, ThisMark, Onto}
use Rattle.bp_text_grammar.specs.ShapeTexts.{most_brackets, most_posts, name_of, base_of, is_star, is_post, is_of, posted, tupled, no_arguments, IsPart, AreFactors, IsProduct, IsField, IsSumCase, IsPolyCase, AreSome, InRound, InCurly, InSquare, IsBase, IsShapeTokens}
use Rattle.bp_text_grammar.proofs.Words.{when_is}

abbrev pub is_spelled : Token → Bool
is_spelled (Word w) = true
is_spelled (Mark b) = true
is_spelled _ = false

abbrev pub AllSpelled : {A : Type 0} → (A → List Token → Type 0) → Type 0
AllSpelled {A = A} L = (a : A) (ts : List Token) → L a ts → Each (Is is_spelled) ts

-- ---- one token

mark_spelled : (m : ℕ) (t : Token) → is_mark m t ≡ true → is_spelled t ≡ true
mark_spelled m (Mark b) e = refl
mark_spelled m (Word w) e = absurd cc
mark_spelled m (Number n) e = absurd cc
mark_spelled m Big e = absurd cc
mark_spelled m (Text w) e = absurd cc
mark_spelled m (Char b) e = absurd cc
mark_spelled m Wrong e = absurd cc
mark_spelled m OpenText e = absurd cc
mark_spelled m OpenChar e = absurd cc

word_spelled : (w : List ℕ) (t : Token) → is_word w t ≡ true → is_spelled t ≡ true
word_spelled w (Word x) e = refl
word_spelled w (Mark b) e = absurd cc
word_spelled w (Number n) e = absurd cc
word_spelled w Big e = absurd cc
word_spelled w (Text x) e = absurd cc
word_spelled w (Char b) e = absurd cc
word_spelled w Wrong e = absurd cc
word_spelled w OpenText e = absurd cc
word_spelled w OpenChar e = absurd cc

either : (a b : Bool) → (a || b) ≡ true → (a ≡ true) ⊎ (b ≡ true)
either true b e = inl refl
either false b e = inr e

post_spelled : (t : Token) → is_post t ≡ true → is_spelled t ≡ true
post_spelled t e = elim (either (is_word (codes "list") t) (is_word (codes "option") t) e) [
  | inl is ↦ word_spelled (codes "list") t is
  | inr is ↦ word_spelled (codes "option") t is
]

name_spelled : (t : Token) (w : List ℕ) → name_of t ≡ Some w → is_spelled t ≡ true
name_spelled (Word x) w e = refl
name_spelled (Mark b) w e = absurd cc
name_spelled (Number n) w e = absurd cc
name_spelled Big w e = absurd cc
name_spelled (Text x) w e = absurd cc
name_spelled (Char b) w e = absurd cc
name_spelled Wrong w e = absurd cc
name_spelled OpenText w e = absurd cc
name_spelled OpenChar w e = absurd cc

base_spelled : (t : Token) (s : Shape) → base_of t ≡ Some s → is_spelled t ≡ true
base_spelled (Word x) s e = refl
base_spelled (Mark b) s e = absurd cc
base_spelled (Number n) s e = absurd cc
base_spelled Big s e = absurd cc
base_spelled (Text x) s e = absurd cc
base_spelled (Char b) s e = absurd cc
base_spelled Wrong s e = absurd cc
base_spelled OpenText s e = absurd cc
base_spelled OpenChar s e = absurd cc

-- ---- languages

one_spelled : {A : Type 0} (h : Token → Option A) → ((t : Token) (a : A) → h t ≡ Some a → is_spelled t ≡ true) → AllSpelled (One h)
one_spelled h spelled a ts (t, cut, is) = subst (λ z. Each (Is is_spelled) z) (sym cut) (spelled t a is, tt)

this_mark : (m : ℕ) → AllSpelled (ThisMark m)
this_mark m = one_spelled (mark m) (λ t u is. mark_spelled m t (when_is (is_mark m t) tt u is).0)

then_spelled : {A B : Type 0} (L : A → List Token → Type 0) (M : A → B → List Token → Type 0) → AllSpelled L → ((a : A) → AllSpelled (M a))
    → AllSpelled (Then L M)
then_spelled L M first next b ts (a, t, u, cut, l, m) =
    subst (λ z. Each (Is is_spelled) z) (sym cut) (each-join (Is is_spelled) t u (first a t l) (next a b u m))

map_spelled : {A B : Type 0} (g : A → B) (L : A → List Token → Type 0) → AllSpelled L → AllSpelled (Mapped g L)
map_spelled g L spelled b ts (a, is, l) = spelled a ts l

branch_spelled : {A : Type 0} (L M : A → List Token → Type 0) → AllSpelled L → AllSpelled M → AllSpelled (Branch L M)
branch_spelled L M one two a ts (inl l) = one a ts l
branch_spelled L M one two a ts (inr m) = two a ts m

run_spelled : (n : ℕ) → AllSpelled (Run is_post n)
run_spelled n a ts (same, short, each) = go ts each
  where
    go : (ts : List Token) → Each (Is is_post) ts → Each (Is is_spelled) ts
    go [] e = tt
    go (t ∷ ts) (is, e) = (post_spelled t is, go ts e)

separated : {A : Type 0} (sep : Token → Bool) (L : A → List Token → Type 0) → ((t : Token) → sep t ≡ true → is_spelled t ≡ true) → AllSpelled L
    → (c : Token) (v : A) (t u ts : List Token) → sep c ≡ true → ts ≡ c ∷ (t ++ u) → L v t → Each (Is is_spelled) u → Each (Is is_spelled) ts
separated sep L by_sep spelled c v t u ts is cut l rest =
    subst (λ z. Each (Is is_spelled) z) (sym cut) (by_sep c is, each-join (Is is_spelled) t u (spelled v t l) rest)

rest_spelled : {A : Type 0} (sep close : ℕ) (L : A → List Token → Type 0) → AllSpelled L → AllSpelled (Rest (is_mark sep) (is_mark close) L)
rest_spelled sep close L spelled [] ts (c, is, cut) = subst (λ z. Each (Is is_spelled) z) (sym cut) (mark_spelled close c is, tt)
rest_spelled sep close L spelled (v ∷ vs) ts (c, t, u, is, cut, l, m) =
    separated (is_mark sep) L (mark_spelled sep) spelled c v t u ts is cut l (rest_spelled sep close L spelled vs u m)

others_spelled : {A : Type 0} (L : A → List Token → Type 0) → AllSpelled L → AllSpelled (Others is_star L)
others_spelled L spelled [] ts none = subst (λ z. Each (Is is_spelled) z) (sym none) tt
others_spelled L spelled (v ∷ vs) ts (c, t, u, is, cut, l, m) =
    separated is_star L (mark_spelled 42) spelled c v t u ts is cut l (others_spelled L spelled vs u m)

maybe_spelled : {A : Type 0} (L : A → List Token → Type 0) → AllSpelled L → AllSpelled (Maybe is_of L)
maybe_spelled L spelled None ts none = subst (λ z. Each (Is is_spelled) z) (sym none) tt
maybe_spelled L spelled (Some v) ts (c, t, is, cut, l) = subst (λ z. Each (Is is_spelled) z) (sym cut) (word_spelled (codes "of") c is, spelled v t l)

onto_spelled : {A : Type 0} (L : A → List Token → Type 0) (M : List A → List Token → Type 0) → AllSpelled L → AllSpelled M → AllSpelled (Onto L M)
onto_spelled L M first rest = then_spelled L (λ v. Mapped (λ us. v ∷ us) M) first (λ v. map_spelled (λ us. v ∷ us) M rest)

some_spelled : {A : Type 0} (sep close : ℕ) (L : A → List Token → Type 0) → AllSpelled L → AllSpelled (AreSome sep close L)
some_spelled sep close L spelled = onto_spelled L (Rest (is_mark sep) (is_mark close) L) spelled (rest_spelled sep close L spelled)

-- ---- shapes

module _ (B : Shape → List Token → Type 0) (bases : AllSpelled B) where
  part_spelled : AllSpelled (IsPart B)
  part_spelled = then_spelled B (λ b. Mapped (λ ws. posted b ws) (Run is_post most_posts)) bases
      (λ b. map_spelled (λ ws. posted b ws) (Run is_post most_posts) (run_spelled most_posts))

  factors_spelled : AllSpelled (AreFactors B)
  factors_spelled = onto_spelled (IsPart B) (Others is_star (IsPart B)) part_spelled (others_spelled (IsPart B) part_spelled)

  product_spelled : AllSpelled (IsProduct B)
  product_spelled = map_spelled tupled (AreFactors B) factors_spelled

  field_spelled : AllSpelled (IsField B)
  field_spelled =
      then_spelled (One name_of) (λ n. Then (ThisMark colon) (λ u. Mapped (λ s. record { name = n; shape = s }) (IsProduct B)))
      (one_spelled name_of name_spelled)
      (λ n. then_spelled (ThisMark colon) (λ u. Mapped (λ s. record { name = n; shape = s }) (IsProduct B)) (this_mark colon)
      (λ u. map_spelled (λ s. record { name = n; shape = s }) (IsProduct B) product_spelled))

  sum_case_spelled : AllSpelled (IsSumCase B)
  sum_case_spelled =
      then_spelled (One name_of) (λ n. Mapped (λ o. record { name = n; args = no_arguments o }) (Maybe is_of (AreFactors B)))
      (one_spelled name_of name_spelled)
      (λ n. map_spelled (λ o. record { name = n; args = no_arguments o }) (Maybe is_of (AreFactors B)) (maybe_spelled (AreFactors B) factors_spelled))

  poly_case_spelled : AllSpelled (IsPolyCase B)
  poly_case_spelled =
      then_spelled (ThisMark backtick) (λ u. Then (One name_of) (λ n. Mapped (λ o. record { name = n; arg = o }) (Maybe is_of (IsProduct B))))
      (this_mark backtick)
      (λ u. then_spelled {B = PolyCase} (One name_of) (λ n. Mapped (λ o. record { name = n; arg = o }) (Maybe is_of (IsProduct B)))
      (one_spelled name_of name_spelled)
      (λ n. map_spelled (λ o. record { name = n; arg = o }) (Maybe is_of (IsProduct B)) (maybe_spelled (IsProduct B) product_spelled)))

  round_spelled : AllSpelled (InRound B)
  round_spelled =
      then_spelled (ThisMark round_open) (λ u. Then (IsProduct B) (λ p. Mapped (λ x. p) (ThisMark round_close))) (this_mark round_open)
      (λ u. then_spelled (IsProduct B) (λ p. Mapped (λ x. p) (ThisMark round_close)) product_spelled
      (λ p. map_spelled (λ x. p) (ThisMark round_close) (this_mark round_close)))

  curly_spelled : AllSpelled (InCurly B)
  curly_spelled =
      then_spelled (ThisMark curly_open) (λ u. Mapped shp.Fields (AreSome semicolon curly_close (IsField B))) (this_mark curly_open)
      (λ u. map_spelled shp.Fields (AreSome semicolon curly_close (IsField B)) (some_spelled semicolon curly_close (IsField B) field_spelled))

  square_spelled : AllSpelled (InSquare B)
  square_spelled =
      then_spelled (ThisMark square_open) (λ u. Branch (Mapped shp.Poly (AreSome bar square_close (IsPolyCase B)))
      (Mapped shp.Sum (AreSome bar square_close (IsSumCase B)))) (this_mark square_open)
      (λ u. branch_spelled (Mapped shp.Poly (AreSome bar square_close (IsPolyCase B))) (Mapped shp.Sum (AreSome bar square_close (IsSumCase B)))
      (map_spelled shp.Poly (AreSome bar square_close (IsPolyCase B)) (some_spelled bar square_close (IsPolyCase B) poly_case_spelled))
      (map_spelled shp.Sum (AreSome bar square_close (IsSumCase B)) (some_spelled bar square_close (IsSumCase B) sum_case_spelled)))

bases_spelled : (d : ℕ) → AllSpelled (IsBase d)
unfolding IsBase
bases_spelled zero = one_spelled base_of base_spelled
bases_spelled (suc d) =
    branch_spelled (InRound (IsBase d)) (Branch (InCurly (IsBase d)) (Branch (InSquare (IsBase d)) (One base_of)))
    (round_spelled (IsBase d) (bases_spelled d))
    (branch_spelled (InCurly (IsBase d)) (Branch (InSquare (IsBase d)) (One base_of)) (curly_spelled (IsBase d) (bases_spelled d))
    (branch_spelled (InSquare (IsBase d)) (One base_of) (square_spelled (IsBase d) (bases_spelled d)) (one_spelled base_of base_spelled)))

pub shape_spelled : AllSpelled IsShapeTokens
unfolding IsShapeTokens
shape_spelled = product_spelled (IsBase most_brackets) (bases_spelled most_brackets)
