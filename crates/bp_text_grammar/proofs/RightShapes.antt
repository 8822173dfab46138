-- The reading of shapes is right: it gives just the shapes that have texts, and refuses at the first token at fault.
use Rattle.std.proofs.Common.{◌≡◌, refl, sym, ap, ◌∙◌, Option, Some, None, Bool, true, false, not, ◌||◌, ℕ, zero, suc, nat_eq, List, [], ◌∷◌, ◌++◌, length, codes, ◌⊎◌, inl, inr, arith}
use Rattle.readers.specs.Reader.{Outcome, after, mapped, Any, Never, Ended, Follows, Is, IsNot, Right, Then, Mapped, One, one, leaf, Branch, branch, Run, run, Rest, rests, Others, Maybe, maybe}
use Rattle.readers.proofs.Readers.{right_same}
use Rattle.readers.proofs.Leaves.{is_or, not_both, pick_true, pick_false, plain_one, then_begins, branch_begins}
use Rattle.readers.proofs.Separators.{others_meet}
use Rattle.bp_value.specs.declared.shape.Shape.{Shape}
use Rattle.bp_value.specs.declared.shape.Shape.TheVariants as shp
use Rattle.bp_value.specs.declared.shape.Field.{Field}
use Rattle.bp_value.specs.declared.shape.PolyCase.{PolyCase}
use Rattle.bp_text_grammar.specs.Tokens.{Token, Word, Mark}
use Rattle.bp_text_grammar.specs.Texts.{Why, Float, BadText, round_open, round_close, star, colon, semicolon, square_open, square_close, backtick, curly_open, bar, curly_close, is_mark, ThisMark, mark_at}
use Rattle.bp_text_grammar.specs.ShapeTexts.{most_brackets, most_posts, name_of, base_of, is_float, is_star, is_post, is_of, ends_shape, ends_case, posted, tupled, no_arguments, IsPart, AreFactors, IsProduct, IsField, IsSumCase, IsPolyCase, AreSome, InRound, InCurly, InSquare, IsBase, IsShapeTokens, IsFloatFault, IsShapeFault, base_why, base_word_at, part_at, more_factors_at, factors_at, product_at, field_at, sum_case_at, poly_case_at, some_at, round_at, curly_at, square_at, base_at, shape_at, whole_shape_at}
use Rattle.bp_text_grammar.proofs.Twins.{FloatWord, is_own, int_word, leaf_twins}
use Rattle.bp_text_grammar.proofs.Told.{Reads, one_reads, mapped_reads, meeting_reads, branch_reads, run_reads, rest_reads, others_reads, maybe_reads, right_float, ended_reads, ended_front, front_ended}
use Rattle.bp_text_grammar.proofs.Words.{HasText, when_is, mark_is, mark_text, mark_reads, mark_begins, mark_begins_not, marks_apart, words_is, float_blind, mark_blind, map_begins, then_reads, then_text, mapped_text, after_mark, after_mark_reads, onto_text}
use Rattle.bp_text_grammar.proofs.ValueStarts.{leaf_begins}
use Rattle.bp_text_grammar.proofs.Blind.{blind, right_blind}

-- ---- what follows what

neither : (a b : Bool) → not (a || b) ≡ true → (a ≡ false) × (b ≡ false)
neither false false e = (refl, refl)
neither false true e = absurd cc
neither true b e = absurd cc

star_ends : (t : Token) → is_star t ≡ true → ends_shape t ≡ false
star_ends t e = ap (λ x. ends_shape x) (mark_is star t e)

star_no_post : (t : Token) → is_star t ≡ true → IsNot is_post t
star_no_post t e = ap (λ x. is_post x) (mark_is star t e)

end_no_post : (t : Token) → ends_shape t ≡ true → IsNot is_post t
end_no_post t e = (neither (is_star t) (is_post t) e).1

of_ends : (t : Token) → is_of t ≡ true → ends_case t ≡ false
of_ends t e = ap (λ x. ends_case x) (words_is (codes "of") t e)

of_ends_shape : (t : Token) → is_of t ≡ true → ends_shape t ≡ true
of_ends_shape t e = ap (λ x. ends_shape x) (words_is (codes "of") t e)

case_ends_shape : (t : Token) → ends_case t ≡ true → ends_shape t ≡ true
case_ends_shape t e = ap (λ b. not b) (neither (is_of t) (is_star t || is_post t) e).1

-- ---- leaves

name_reads : Reads FloatWord Any (One name_of) (one name_of BadText)
name_reads = one_reads name_of (Word []) [] refl (λ b own none. absurd (clash b own none))
  where
    clash : (b : Token) → is_own FloatWord b ≡ true → name_of b ≡ None → ⊥
    clash b own none = let some : ◌≡◌ {A = Option (List ℕ)} None (Some (codes "float")) = sym none ∙ ap (λ t. name_of t) (words_is (codes "float") b own) in cc

name_text : HasText (One name_of)
name_text = ([], Word [] ∷ [], (Word [], refl, refl))

-- a word that is no base: `float` is at fault as such, where `int` would be a base
base_word_tells : (t : Token) → base_of t ≡ None → ((base_why t ≡ Float) × (is_own FloatWord t ≡ true) × ((a : Shape) × (base_of int_word ≡ Some a)))
    ⊎ ((base_why t ≡ BadText) × (is_own FloatWord t ≡ true → base_of int_word ≡ None))
base_word_tells t none = elim (is_or (is_float t)) [
  | inl own ↦ inl (pick_true (is_float t) Float BadText own, own, (shp.Int, refl))
  | inr other ↦ inr (pick_false (is_float t) Float BadText other, λ own. not_both (is_float t) own other)
]

base_word_reads : Reads FloatWord Any (One base_of) base_word_at
base_word_reads = record {
  right = right_blind Any Any (One base_of) (one base_of BadText) base_word_at same (plain_one Any base_of BadText (Word (codes "unit")) shp.Unit refl);
  twins = λ c v p. leaf_twins FloatWord c v base_of base_why base_word_tells p;
}
  where
    leaf_same : (o : Option Shape) (n : ℕ) (w : Why) (ts : List Token) → blind (leaf o n w ts) ≡ blind (leaf o n BadText ts)
    leaf_same (Some s) n w ts = refl
    leaf_same None n w ts = refl

    same : (ts : List Token) → blind (base_word_at ts) ≡ blind (one base_of BadText ts)
    same [] = refl
    same (t ∷ ts) = leaf_same (base_of t) (length (t ∷ ts)) (base_why t) ts

-- ---- lists up to a closing mark

-- what begins with a mark may follow where the mark may
mark_follows : (E : Token → Type 0) (m : ℕ) → E (Mark m) → (u : Unit {0}) (ts vs : List Token) → ThisMark m u ts → Follows E (ts ++ vs)
mark_follows E m may u ts vs (t, cut, e) = rw cut (rw (mark_is m t (when_is (is_mark m t) tt u e).0) may)

module _ {A : Type 0} (sep close : ℕ) (apart : nat_eq sep close ≡ false) (E : Token → Type 0) (L : A → List Token → Type 0)
    (r : List Token → Outcome Token Why A) (right : Reads FloatWord E L r) (has : HasText L) (by_sep : E (Mark sep)) (by_close : E (Mark close)) where
  sep_follows : (t : Token) → is_mark sep t ≡ true → E t
  sep_follows t e = rw (mark_is sep t e) by_sep

  close_follows : (t : Token) → is_mark close t ≡ true → E t
  close_follows t e = rw (mark_is close t e) by_close

  rest_follows : (vs : List A) (ts us : List Token) → Rest (is_mark sep) (is_mark close) L vs ts → Follows E (ts ++ us)
  rest_follows [] ts us (c, is, cut) = rw cut (close_follows c is)
  rest_follows (v ∷ vs) ts us (c, t, x, is, cut, l, m) = rw cut (sep_follows c is)

  pub some_reads : Reads FloatWord Any (AreSome sep close L) (some_at sep close r)
  some_reads =
      meeting_reads E Any L r (λ v. Mapped (λ us. v ∷ us) (Rest (is_mark sep) (is_mark close) L))
      (λ v us. mapped (λ vs. v ∷ vs) (rests (is_mark sep) (is_mark close) BadText r (length us) us)) right
      (λ v t l. mapped_reads Any (λ us. v ∷ us) (Rest (is_mark sep) (is_mark close) L) (λ us. rests (is_mark sep) (is_mark close) BadText r (length us) us)
      (rest_reads E L r right (is_mark sep) (is_mark close) (mark_blind FloatWord sep) (mark_blind FloatWord close) (marks_apart close sep apart) sep_follows close_follows (Mark close) (closes close)))
      (λ v t l. (v ∷ [], Mark close ∷ [], ([], refl, (Mark close, closes close, refl))))
      (λ v vs u x m f. let (us, e, l) = m in rest_follows us u x l)
    where
      closes : (m : ℕ) → is_mark m (Mark m) ≡ true
      closes m = grind arith

  pub some_text : HasText (AreSome sep close L)
  some_text = onto_text L (Rest (is_mark sep) (is_mark close) L) has ([], Mark close ∷ [], (Mark close, closes close, refl))
    where
      closes : (m : ℕ) → is_mark m (Mark m) ≡ true
      closes m = grind arith

-- ---- parts of shapes, over bases that are read rightly

module _ (B : Shape → List Token → Type 0) (r : List Token → Outcome Token Why Shape) (right : Reads FloatWord Any B r) (has : HasText B) where
  pub part_reads : Reads FloatWord (IsNot is_post) (IsPart B) (part_at r)
  part_reads =
      then_reads (IsNot is_post) B r (λ b. Mapped (λ ws. posted b ws) (Run is_post most_posts)) (λ b us. mapped (λ ws. posted b ws) (run is_post BadText most_posts us))
      right (λ b. mapped_reads (IsNot is_post) (λ ws. posted b ws) (Run is_post most_posts) (run is_post BadText most_posts)
      (run_reads is_post most_posts (float_blind is_post refl) refl))
      (λ b. (b, [], ([], refl, (refl, omega arith, tt))))

  part_text : HasText (IsPart B)
  part_text = let (b, ts, l) = has in then_text B (λ b. Mapped (λ ws. posted b ws) (Run is_post most_posts)) b ts l (b, [], ([], refl, (refl, omega arith, tt)))

  more_reads : Reads FloatWord (Is ends_shape) (Others is_star (IsPart B)) (more_factors_at r)
  more_reads =
      others_reads (IsNot is_post) (IsPart B) (part_at r) part_reads is_star ends_shape (float_blind is_star refl) (float_blind ends_shape refl)
      star_ends star_no_post end_no_post

  pub factors_reads : Reads FloatWord (Is ends_shape) (AreFactors B) (factors_at r)
  factors_reads =
      meeting_reads (IsNot is_post) (Is ends_shape) (IsPart B) (part_at r) (λ v. Mapped (λ us. v ∷ us) (Others is_star (IsPart B)))
      (λ v us. mapped (λ vs. v ∷ vs) (more_factors_at r us)) part_reads
      (λ v t l. mapped_reads (Is ends_shape) (λ us. v ∷ us) (Others is_star (IsPart B)) (more_factors_at r) more_reads)
      (λ v t l. (v ∷ [], [], ([], refl, refl)))
      (λ v vs u x m f. let (us, e, l) = m in
      others_meet Any is_star ends_shape BadText (IsPart B) (part_at r) (IsNot is_post) part_reads.right star_ends star_no_post end_no_post us u x l f)

  pub factors_text : HasText (AreFactors B)
  factors_text = onto_text (IsPart B) (Others is_star (IsPart B)) part_text ([], [], refl)

  pub product_reads : Reads FloatWord (Is ends_shape) (IsProduct B) (product_at r)
  product_reads = mapped_reads (Is ends_shape) tupled (AreFactors B) (factors_at r) factors_reads

  pub product_text : HasText (IsProduct B)
  product_text = mapped_text tupled (AreFactors B) factors_text

  -- ---- members

  pub field_reads : Reads FloatWord (Is ends_shape) (IsField B) (field_at r)
  field_reads =
      then_reads (Is ends_shape) (One name_of) (one name_of BadText) (λ n. Then (ThisMark colon) (λ u. Mapped (λ s. record { name = n; shape = s }) (IsProduct B)))
      (λ n us. after (mark_at colon us) (λ u xs. mapped (λ s. record { name = n; shape = s }) (product_at r xs))) name_reads
      (λ n. after_mark_reads (Is ends_shape) colon (Mapped (λ s. record { name = n; shape = s }) (IsProduct B)) (λ xs. mapped (λ s. record { name = n; shape = s }) (product_at r xs))
      (mapped_reads (Is ends_shape) (λ s. record { name = n; shape = s }) (IsProduct B) (product_at r) product_reads) (product_named n))
      (λ n. after_mark colon (Mapped (λ s. record { name = n; shape = s }) (IsProduct B)) (product_named n))
    where
      product_named : (n : List ℕ) → HasText {A = Field} (Mapped (λ s. record { name = n; shape = s }) (IsProduct B))
      product_named n = mapped_text (λ s. record { name = n; shape = s }) (IsProduct B) product_text

  pub field_text : HasText (IsField B)
  field_text =
      let (n, ts, l) = name_text in
      then_text (One name_of) (λ n. Then (ThisMark colon) (λ u. Mapped (λ s. record { name = n; shape = s }) (IsProduct B))) n ts l
      (after_mark colon (Mapped (λ s. record { name = n; shape = s }) (IsProduct B)) (mapped_text (λ s. record { name = n; shape = s }) (IsProduct B) product_text))

  pub sum_case_reads : Reads FloatWord (Is ends_case) (IsSumCase B) (sum_case_at r)
  sum_case_reads =
      then_reads (Is ends_case) (One name_of) (one name_of BadText) (λ n. Mapped (λ o. record { name = n; args = no_arguments o }) (Maybe is_of (AreFactors B)))
      (λ n us. mapped (λ o. record { name = n; args = no_arguments o }) (maybe is_of ends_case BadText (factors_at r) us)) name_reads
      (λ n. mapped_reads (Is ends_case) (λ o. record { name = n; args = no_arguments o }) (Maybe is_of (AreFactors B)) (maybe is_of ends_case BadText (factors_at r))
      (maybe_reads (Is ends_shape) (AreFactors B) (factors_at r) factors_reads is_of ends_case (float_blind is_of refl) (float_blind ends_case refl) of_ends of_ends_shape case_ends_shape))
      (λ n. (record { name = n; args = [] }, [], (None, refl, refl)))

  pub sum_case_text : HasText (IsSumCase B)
  sum_case_text =
      let (n, ts, l) = name_text in
      then_text (One name_of) (λ n. Mapped (λ o. record { name = n; args = no_arguments o }) (Maybe is_of (AreFactors B))) n ts l
      (record { name = n; args = [] }, [], (None, refl, refl))

  pub named_reads : Reads {A = PolyCase} FloatWord (Is ends_case) (Then (One name_of) (λ n. Mapped (λ o. record { name = n; arg = o }) (Maybe is_of (IsProduct B))))
      (λ us. after (one name_of BadText us) (λ n xs. mapped (λ o. record { name = n; arg = o }) (maybe is_of ends_case BadText (product_at r) xs)))
  named_reads =
      then_reads {B = PolyCase} (Is ends_case) (One name_of) (one name_of BadText) (λ n. Mapped (λ o. record { name = n; arg = o }) (Maybe is_of (IsProduct B)))
      (λ n xs. mapped (λ o. record { name = n; arg = o }) (maybe is_of ends_case BadText (product_at r) xs)) name_reads
      (λ n. mapped_reads (Is ends_case) (λ o. record { name = n; arg = o }) (Maybe is_of (IsProduct B)) (maybe is_of ends_case BadText (product_at r))
      (maybe_reads (Is ends_shape) (IsProduct B) (product_at r) product_reads is_of ends_case (float_blind is_of refl) (float_blind ends_case refl) of_ends of_ends_shape case_ends_shape))
      (λ n. (record { name = n; arg = None }, [], (None, refl, refl)))

  pub named_text : HasText {A = PolyCase} (Then (One name_of) (λ n. Mapped (λ o. record { name = n; arg = o }) (Maybe is_of (IsProduct B))))
  named_text =
      let (n, ts, l) = name_text in
      then_text (One name_of) (λ n. Mapped (λ o. record { name = n; arg = o }) (Maybe is_of (IsProduct B))) n ts l
      (record { name = n; arg = None }, [], (None, refl, refl))

  pub poly_case_reads : Reads FloatWord (Is ends_case) (IsPolyCase B) (poly_case_at r)
  poly_case_reads =
      after_mark_reads (Is ends_case) backtick (Then (One name_of) (λ n. Mapped (λ o. record { name = n; arg = o }) (Maybe is_of (IsProduct B))))
      (λ us. after (one name_of BadText us) (λ n xs. mapped (λ o. record { name = n; arg = o }) (maybe is_of ends_case BadText (product_at r) xs)))
      named_reads named_text

  pub poly_case_text : HasText (IsPolyCase B)
  poly_case_text = after_mark backtick (Then (One name_of) (λ n. Mapped (λ o. record { name = n; arg = o }) (Maybe is_of (IsProduct B)))) named_text

  -- ---- brackets

  pub round_reads : Reads FloatWord Any (InRound B) (round_at r)
  round_reads =
      after_mark_reads Any round_open (Then (IsProduct B) (λ p. Mapped (λ x. p) (ThisMark round_close))) (λ us. after (product_at r us) (λ p xs. mapped (λ x. p) (mark_at round_close xs)))
      (meeting_reads (Is ends_shape) Any (IsProduct B) (product_at r) (λ p. Mapped (λ x. p) (ThisMark round_close)) (λ p xs. mapped (λ x. p) (mark_at round_close xs)) product_reads
      (λ p t l. mapped_reads Any (λ x. p) (ThisMark round_close) (mark_at round_close) (mark_reads round_close))
      (λ p t l. (p, Mark round_close ∷ [], (tt, refl, mark_text round_close)))
      (λ p s u x m f. let (y, e, l) = m in mark_follows (Is ends_shape) round_close refl y u x l))
      (let (p, ts, l) = product_text in
      then_text (IsProduct B) (λ p. Mapped (λ x. p) (ThisMark round_close)) p ts l (p, Mark round_close ∷ [], (tt, refl, mark_text round_close)))

  pub curly_reads : Reads FloatWord Any (InCurly B) (curly_at r)
  curly_reads =
      after_mark_reads Any curly_open (Mapped shp.Fields (AreSome semicolon curly_close (IsField B))) (λ us. mapped shp.Fields (some_at semicolon curly_close (field_at r) us))
      (mapped_reads Any shp.Fields (AreSome semicolon curly_close (IsField B)) (some_at semicolon curly_close (field_at r))
      (some_reads semicolon curly_close refl (Is ends_shape) (IsField B) (field_at r) field_reads field_text refl refl))
      (mapped_text shp.Fields (AreSome semicolon curly_close (IsField B))
      (some_text semicolon curly_close refl (Is ends_shape) (IsField B) (field_at r) field_reads field_text refl refl))

  pub square_reads : Reads FloatWord Any (InSquare B) (square_at r)
  square_reads =
      after_mark_reads Any square_open (Branch (Mapped shp.Poly (AreSome bar square_close (IsPolyCase B))) (Mapped shp.Sum (AreSome bar square_close (IsSumCase B))))
      (λ us. branch (is_mark backtick) (λ xs. mapped shp.Poly (some_at bar square_close (poly_case_at r) xs)) (λ xs. mapped shp.Sum (some_at bar square_close (sum_case_at r) xs)) us)
      (branch_reads Any (is_mark backtick) (Mapped shp.Poly (AreSome bar square_close (IsPolyCase B))) (Mapped shp.Sum (AreSome bar square_close (IsSumCase B)))
      (λ xs. mapped shp.Poly (some_at bar square_close (poly_case_at r) xs)) (λ xs. mapped shp.Sum (some_at bar square_close (sum_case_at r) xs)) (mark_blind FloatWord backtick)
      (mapped_reads Any shp.Poly (AreSome bar square_close (IsPolyCase B)) (some_at bar square_close (poly_case_at r))
      (some_reads bar square_close refl (Is ends_case) (IsPolyCase B) (poly_case_at r) poly_case_reads poly_case_text refl refl))
      (mapped_reads Any shp.Sum (AreSome bar square_close (IsSumCase B)) (some_at bar square_close (sum_case_at r))
      (some_reads bar square_close refl (Is ends_case) (IsSumCase B) (sum_case_at r) sum_case_reads sum_case_text refl refl))
      (map_begins (Is (is_mark backtick)) shp.Poly (AreSome bar square_close (IsPolyCase B))
      (then_begins (Is (is_mark backtick)) (IsPolyCase B) (λ v. Mapped (λ us. v ∷ us) (Rest (is_mark bar) (is_mark square_close) (IsPolyCase B)))
      (then_begins (Is (is_mark backtick)) (ThisMark backtick) (λ u. Then (One name_of) (λ n. Mapped (λ o. record { name = n; arg = o }) (Maybe is_of (IsProduct B)))) (mark_begins backtick))))
      (map_begins (IsNot (is_mark backtick)) shp.Sum (AreSome bar square_close (IsSumCase B))
      (then_begins (IsNot (is_mark backtick)) (IsSumCase B) (λ v. Mapped (λ us. v ∷ us) (Rest (is_mark bar) (is_mark square_close) (IsSumCase B)))
      (then_begins (IsNot (is_mark backtick)) (One name_of) (λ n. Mapped (λ o. record { name = n; args = no_arguments o }) (Maybe is_of (AreFactors B))) (leaf_begins backtick name_of (λ b. refl)))))
      (let (s, ts, l) = sums in (s, ts, inr l)))
      (let (s, ts, l) = sums in (s, ts, inr l))
    where
      sums : HasText (Mapped shp.Sum (AreSome bar square_close (IsSumCase B)))
      sums = mapped_text shp.Sum (AreSome bar square_close (IsSumCase B)) (some_text bar square_close refl (Is ends_case) (IsSumCase B) (sum_case_at r) sum_case_reads sum_case_text refl refl)

-- ---- all shapes

pub base_text : (d : ℕ) → HasText (IsBase d)
unfolding IsBase
base_text zero = (shp.Unit, Word (codes "unit") ∷ [], (Word (codes "unit"), refl, refl))
base_text (suc d) = (shp.Unit, Word (codes "unit") ∷ [], inr (inr (inr (Word (codes "unit"), refl, refl))))

pub base_reads : (d : ℕ) → Reads FloatWord Any (IsBase d) (base_at d)
unfolding IsBase base_at
base_reads zero = base_word_reads
base_reads (suc d) =
    branch_reads Any (is_mark round_open) (InRound (IsBase d)) (Branch (InCurly (IsBase d)) (Branch (InSquare (IsBase d)) (One base_of)))
    (round_at (base_at d)) (branch (is_mark curly_open) (curly_at (base_at d)) (branch (is_mark square_open) (square_at (base_at d)) base_word_at)) (mark_blind FloatWord round_open)
    (round_reads (IsBase d) (base_at d) (base_reads d) (base_text d))
    (branch_reads Any (is_mark curly_open) (InCurly (IsBase d)) (Branch (InSquare (IsBase d)) (One base_of))
    (curly_at (base_at d)) (branch (is_mark square_open) (square_at (base_at d)) base_word_at) (mark_blind FloatWord curly_open)
    (curly_reads (IsBase d) (base_at d) (base_reads d) (base_text d))
    (branch_reads Any (is_mark square_open) (InSquare (IsBase d)) (One base_of) (square_at (base_at d)) base_word_at (mark_blind FloatWord square_open)
    (square_reads (IsBase d) (base_at d) (base_reads d) (base_text d)) base_word_reads
    (then_begins (Is (is_mark square_open)) (ThisMark square_open) _ (mark_begins square_open))
    (leaf_begins square_open base_of (λ b. refl)) (shp.Unit, unit_word, inr is_unit))
    (then_begins (Is (is_mark curly_open)) (ThisMark curly_open) _ (mark_begins curly_open))
    (branch_begins (IsNot (is_mark curly_open)) (InSquare (IsBase d)) (One base_of)
    (then_begins (IsNot (is_mark curly_open)) (ThisMark square_open) _ (mark_begins_not curly_open square_open refl)) (leaf_begins curly_open base_of (λ b. refl)))
    (shp.Unit, unit_word, inr (inr is_unit)))
    (then_begins (Is (is_mark round_open)) (ThisMark round_open) _ (mark_begins round_open))
    (branch_begins (IsNot (is_mark round_open)) (InCurly (IsBase d)) (Branch (InSquare (IsBase d)) (One base_of))
    (then_begins (IsNot (is_mark round_open)) (ThisMark curly_open) _ (mark_begins_not round_open curly_open refl))
    (branch_begins (IsNot (is_mark round_open)) (InSquare (IsBase d)) (One base_of)
    (then_begins (IsNot (is_mark round_open)) (ThisMark square_open) _ (mark_begins_not round_open square_open refl)) (leaf_begins round_open base_of (λ b. refl))))
    (shp.Unit, unit_word, inr (inr (inr is_unit)))
  where
    unit_word : List Token
    unit_word = Word (codes "unit") ∷ []

    is_unit : One base_of shp.Unit unit_word
    is_unit = (Word (codes "unit"), refl, refl)

shape_reads : Reads FloatWord (Is ends_shape) IsShapeTokens shape_at
unfolding IsShapeTokens shape_at
shape_reads = product_reads (IsBase most_brackets) (base_at most_brackets) (base_reads most_brackets) (base_text most_brackets)

-- the reading is right, where nothing follows or a token that goes on no shape; and a word `float` has its own reason
pub right_shape : Right Any (Is ends_shape) IsShapeTokens IsShapeFault shape_at
right_shape = right_float (Is ends_shape) IsShapeTokens shape_at shape_reads

-- and of a text of nothing but a shape
pub right_whole_shape : Right Any Never (Ended IsShapeTokens) IsShapeFault whole_shape_at
right_whole_shape =
    right_same Any Never (Ended IsShapeTokens) (Ended IsShapeTokens) (IsFloatFault (Ended IsShapeTokens)) IsShapeFault whole_shape_at (λ s ts l. l) (λ s ts l. l) why
    (right_float Never (Ended IsShapeTokens) whole_shape_at (ended_reads (Is ends_shape) IsShapeTokens shape_at shape_reads))
  where
    why : (p : List Token) (t : Token) (w : Why) → IsFloatFault (Ended IsShapeTokens) p t w → IsShapeFault p t w
    why p t Float (own, front) = (own, ended_front IsShapeTokens (p ++ int_word ∷ []) front)
    why p t BadText none = λ own front. none own (front_ended IsShapeTokens (p ++ int_word ∷ []) front)
