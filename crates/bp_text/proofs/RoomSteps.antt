-- Bases by the brackets that may still be opened, and the readers of what stands in them.
use Rattle.std.proofs.Common.{◌≡◌, ◌≢◌, refl, sym, ap, ◌∙◌, ℕ, zero, suc, ◌-◌, true, false, not, ◌||◌, List, [], ◌∷◌, length, Ok, inl, inr, arith}
use Rattle.readers.specs.Reader.{Outcome, whole, Any, Follows, Is, IsNot, Right, Plain, branch}
use Rattle.readers.proofs.Readers.{each-any}
use Rattle.readers.proofs.Leaves.{is_or}
use Rattle.readers.proofs.Loops.{onward, others_go_on, others_end, others_done}
use Rattle.bp_value.specs.declared.shape.Shape.{Shape}
use Rattle.bp_text_grammar.specs.Tokens.{Token, Word, Number, Big, Text, Char, Mark, Wrong, OpenText, OpenChar}
use Rattle.bp_text_grammar.specs.Texts.{Why, BadText, round_open, curly_open, square_open, bar, square_close, is_mark}
use Rattle.bp_text_grammar.specs.ShapeTexts.{is_star, is_post, ends_shape, ends_case, IsPart, IsField, IsSumCase, IsPolyCase, IsBase, base_word_at, part_at, more_factors_at, factors_at, field_at, sum_case_at, poly_case_at, round_at, curly_at, square_at, base_at}
use Rattle.bp_text_grammar.proofs.RightShapes.{base_text, base_reads, part_reads, field_reads, sum_case_reads, poly_case_reads}
use Rattle.bp_text.specs.declared.token.Token.{Token as Token_}
use Rattle.bp_text.specs.Given.{token_of}
use Rattle.bp_text.specs.Unread.{Unread, ahead, is_first, ReadsFrom, TakesFirst}
use Rattle.bp_text.proofs.Ahead.{goes_join}
use Rattle.bp_text.proofs.Readings.{branch_is, branch_not}
use Rattle.bp_text.proofs.ItemSteps.{gives_all, Looping, Standing}

-- ---- by the first token

one_less : (d : ℕ) → suc d - 1 ≡ d
one_less d = omega arith

pub base_none : (room : ℕ) (ts : List Token) → room ≡ 0 → base_at room ts ≡ base_word_at ts
unfolding base_at
base_none zero ts none = refl
base_none (suc d) ts none = absurd (omega arith)

-- what a base may begin with
abbrev squares : ℕ → List Token → Outcome Token Why Shape
squares d = branch (is_mark square_open) (square_at (base_at d)) base_word_at

abbrev curlies : ℕ → List Token → Outcome Token Why Shape
curlies d = branch (is_mark curly_open) (curly_at (base_at d)) (squares d)

module _ (ts : List Token) where
  pub base_round : (room : ℕ) → room ≢ 0 → is_first (is_mark round_open) ts ≡ true → base_at room ts ≡ round_at (base_at (room - 1)) ts
  unfolding base_at
  base_round zero some is = absurd (some refl)
  base_round (suc d) some is =
      branch_is (is_mark round_open) (round_at (base_at d)) (curlies d) ts is ∙ ap (λ k. round_at (base_at k) ts) (sym (one_less d))

  pub base_curly : (room : ℕ) → room ≢ 0 → is_first (is_mark round_open) ts ≡ false → is_first (is_mark curly_open) ts ≡ true
      → base_at room ts ≡ curly_at (base_at (room - 1)) ts
  unfolding base_at
  base_curly zero some no_round is = absurd (some refl)
  base_curly (suc d) some no_round is =
      branch_not (is_mark round_open) (round_at (base_at d)) (curlies d) ts refl no_round
      ∙ (branch_is (is_mark curly_open) (curly_at (base_at d)) (squares d) ts is ∙ ap (λ k. curly_at (base_at k) ts) (sym (one_less d)))

  pub base_square : (room : ℕ) → room ≢ 0 → is_first (is_mark round_open) ts ≡ false → is_first (is_mark curly_open) ts ≡ false
      → is_first (is_mark square_open) ts ≡ true → base_at room ts ≡ square_at (base_at (room - 1)) ts
  unfolding base_at
  base_square zero some no_round no_curly is = absurd (some refl)
  base_square (suc d) some no_round no_curly is =
      branch_not (is_mark round_open) (round_at (base_at d)) (curlies d) ts refl no_round
      ∙ (branch_not (is_mark curly_open) (curly_at (base_at d)) (squares d) ts refl no_curly
      ∙ (branch_is (is_mark square_open) (square_at (base_at d)) base_word_at ts is ∙ ap (λ k. square_at (base_at k) ts) (sym (one_less d))))

  pub base_plain : (room : ℕ) → room ≢ 0 → is_first (is_mark round_open) ts ≡ false → is_first (is_mark curly_open) ts ≡ false
      → is_first (is_mark square_open) ts ≡ false → base_at room ts ≡ base_word_at ts
  unfolding base_at
  base_plain zero some no_round no_curly no_square = absurd (some refl)
  base_plain (suc d) some no_round no_curly no_square =
      branch_not (is_mark round_open) (round_at (base_at d)) (curlies d) ts refl no_round
      ∙ (branch_not (is_mark curly_open) (curly_at (base_at d)) (squares d) ts refl no_curly
      ∙ branch_not (is_mark square_open) (square_at (base_at d)) base_word_at ts refl no_square)

-- ---- items

pub right_part : (room : ℕ) → Right Any (IsNot is_post) (IsPart (IsBase room)) Plain (part_at (base_at room))
right_part room = (part_reads (IsBase room) (base_at room) (base_reads room) (base_text room)).right

pub right_field : (room : ℕ) → Right Any (Is ends_shape) (IsField (IsBase room)) Plain (field_at (base_at room))
right_field room = (field_reads (IsBase room) (base_at room) (base_reads room) (base_text room)).right

pub right_sum_case : (room : ℕ) → Right Any (Is ends_case) (IsSumCase (IsBase room)) Plain (sum_case_at (base_at room))
right_sum_case room = (sum_case_reads (IsBase room) (base_at room) (base_reads room) (base_text room)).right

pub right_poly_case : (room : ℕ) → Right Any (Is ends_case) (IsPolyCase (IsBase room)) Plain (poly_case_at (base_at room))
right_poly_case room = (poly_case_reads (IsBase room) (base_at room) (base_reads room) (base_text room)).right

-- the marks after a case may follow it
pub case_apart : (c : Token) → ends_case c ≡ false → (is_mark square_close c ≡ false) × (is_mark bar c ≡ false)
case_apart (Word w) e = (refl, refl)
case_apart (Number n) e = (refl, refl)
case_apart Big e = (refl, refl)
case_apart (Text w) e = (refl, refl)
case_apart (Char b) e = (refl, refl)
case_apart (Mark b) e = elim (is_or (is_star (Mark b))) [
  | inl is ↦ (grind arith, grind arith)
  | inr is ↦ absurd cc
]
case_apart Wrong e = (refl, refl)
case_apart OpenText e = (refl, refl)
case_apart OpenChar e = (refl, refl)

-- ---- factors

ends_by : (t : Token) → is_star t ≡ false → is_post t ≡ false → ends_shape t ≡ true
ends_by t e d = ap (λ b. not (b || is_post t)) e ∙ ap not d

-- a part leaves no word after it that makes a list or an option of it
part_leaves : (room : ℕ) (s u : List Token) (v : Shape) → part_at (base_at room) s ≡ whole v u → Follows (IsNot is_post) u
part_leaves room s u v is = let (t, cut, l, f) = (right_part room).sound s v u (each-any s) is in f

module _ (room : ℕ) {start now : Unread} {factors : List Shape} where
  pub factors_end : (before : Unread) (v : Shape) (listed : List Shape) → ReadsFrom {A = Shape} (part_at (base_at room)) before now (Ok v)
      → is_first is_star (ahead now) ≡ false → Standing (more_factors_at (base_at room)) (factors_at (base_at room)) start now factors
      → listed ≡ factors
      → ReadsFrom {A = List Shape} (factors_at (base_at room)) start now (Ok listed)
  factors_end before v listed reads other standing list = (
    standing.goes,
    go (ahead now) (part_leaves room (ahead before) (ahead now) v reads.1) other (sym standing.between) ∙ ap
        (λ vs. whole vs (ahead now)) (sym list),
  )
    where
      go : {total : Outcome Token Why (List Shape)} (u : List Token) → Follows (IsNot is_post) u → is_first is_star u ≡ false
          → total ≡ onward gives_all factors ((more_factors_at (base_at room)) u) → total ≡ whole factors u
      go [] f o b = b ∙ others_done (part_at (base_at room)) gives_all factors is_star ends_shape BadText (length {A = Token} [])
      go (c ∷ u) f o b = b ∙ others_end (part_at (base_at room)) gives_all factors is_star ends_shape BadText (length (c ∷ u)) c u o (ends_by c o f)

  pub factors_go : (new : Unread) (token : Token_) → is_first is_star (ahead now) ≡ true → TakesFirst now new (Ok token)
      → Standing (more_factors_at (base_at room)) (factors_at (base_at room)) start now factors → Looping (part_at (base_at room))
      (more_factors_at (base_at room)) (factors_at (base_at room)) start new factors
  factors_go new token is (goes, cut) standing = record {
    goes = goes_join start now new standing.goes goes;
    going =
        sym (others_go_on Any (IsNot is_post) (IsPart (IsBase room)) Plain (part_at (base_at room))
        (right_part room) gives_all factors is_star ends_shape BadText
        (token_of token) (ahead new) (each-any (ahead new)) (sym (ap (is_first is_star) cut) ∙ is))
        ∙ (sym (ap (λ s. onward gives_all factors ((more_factors_at (base_at room)) s)) cut) ∙ standing.between);
  }
