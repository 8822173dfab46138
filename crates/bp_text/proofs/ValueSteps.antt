-- The readings of values, one layer of a form at a time.
use Rattle.std.proofs.Common.{◌≡◌, refl, sym, ap, ◌∙◌, true, false, ◌==◌, Option, Some, None, ℕ, suc, ◌+◌, ◌<◌, ◌≤◌, List, [], ◌∷◌, length, map, option_map, drop, get_or, codes, Ok, add-one, arith}
use Rattle.std.proofs.lemmas.List.{drop_all}
use Rattle.std.proofs.Math.Seq.{drop-cons}
use Rattle.readers.specs.Reader.{whole, more, after, mapped, one}
use Rattle.readers.proofs.Leaves.{pick_true}
use Rattle.readers.proofs.Loops.{onward, after_self, after_whole, after_more, mapped_after}
use Rattle.bp_value.specs.declared.shape.Shape.{Shape}
use Rattle.bp_value.specs.declared.shape.Field.{Field}
use Rattle.bp_value.specs.declared.value.Value.{Value}
use Rattle.bp_value.specs.declared.value.Value.TheVariants as val
use Rattle.bp_value.specs.Form.{Form, Parts, unit, bool, char, int, int32, int64, text, opt, listed, tuple, fields, sum, poly, sexp, part, end, form_of, field_form, parts, named_parts, argument}
use Rattle.bp_text_grammar.specs.Tokens.{Token}
use Rattle.bp_text_grammar.specs.Texts.{BadText, is_word, is_mark, word_at, word_for, square_close, semicolon, curly_open, round_open, round_close, mark_at, closed_at, onto_at}
use Rattle.bp_text_grammar.specs.ValueTexts.{value_at, items_at, parts_at, fields_at, more_parts_at, arguments_at, sexp_at}
use Rattle.bp_text.specs.Unread.{Unread, ahead, HasOutcome, is_first, taken_at}
use Rattle.bp_text.specs.Leaves.{TokenReader, next_item_at}
use Rattle.bp_text.proofs.Ahead.{goes_none}
use Rattle.bp_text.proofs.Readings.{branch_is, branch_not}
use Rattle.bp_text.proofs.OneToken.{word_there}
use Rattle.bp_text.proofs.Parts.{PartsLeft, part_words, field_words, is_none_yet}
use Rattle.bp_text.proofs.Turns.{Turning, more_items}

-- a value has a token at least
pub value_none : (f : Form) → value_at f [] ≡ more
unfolding value_at sexp_at
value_none unit = refl
value_none bool = refl
value_none char = refl
value_none int = refl
value_none int32 = refl
value_none int64 = refl
value_none text = refl
value_none (opt f) = refl
value_none (listed f) = refl
value_none (tuple fs) = refl
value_none (fields fs) = refl
value_none (sum cs) = refl
value_none (poly cs) = refl
value_none sexp = refl

-- ---- options

abbrev after_some : Form → TokenReader Value
after_some f ts = after (word_at (codes "some") ts) (λ u xs. mapped val.Present (value_at f xs))

pub none_there : (f : Form) (ts : List Token) → true ≡ is_first (is_word (codes "none")) ts
    → value_at (opt f) ts ≡ mapped (λ u. val.Absent) (taken_at true ts)
unfolding value_at
none_there f ts is =
    branch_is (is_word (codes "none")) (one (word_for (codes "none") val.Absent) BadText) (after_some f) ts (sym is)
    ∙ word_there (codes "none") val.Absent (word_for (codes "none") val.Absent) ts (λ t e. pick_true (is_word (codes "none") t) (Some val.Absent) None e) (sym is)

pub some_there : (f : Form) (ts : List Token) → false ≡ is_first (is_word (codes "none")) ts
    → value_at (opt f) ts ≡ after (word_at (codes "some") ts) (λ u xs. mapped val.Present (value_at f xs))
unfolding value_at
some_there f ts is = branch_not (is_word (codes "none")) (one (word_for (codes "none") val.Absent) BadText) (after_some f) ts refl (sym is)

-- ---- lists

module _ (r : TokenReader Value) (none : r [] ≡ more) where
  pub items_open : (ts : List Token) → false ≡ is_first (is_mark square_close) ts
      → items_at r ts ≡ after (r ts) (λ v us. mapped (λ vs. v ∷ vs) (more_items r (length us) us))
  items_open ts is = branch_not (is_mark square_close) (closed_at square_close) (onto_at r (λ us. more_items r (length us) us)) ts (after_more (λ v us. mapped (λ vs. v ∷ vs) (more_items r (length us) us)) none) (sym is)

  pub items_start : (old new : Unread) (v : Value) (values : List Value) → false ≡ is_first (is_mark square_close) (ahead old)
      → HasOutcome (r (ahead old)) old new (Ok v) → values ≡ v ∷ [] → Turning (more_items r) (items_at r (ahead old)) old new values
  items_start old new v values other is one_value = record {
    goes = is.0;
    bound = length (ahead new);
    enough = omega arith;
    reads =
        ap (λ vs. onward (λ xs us. whole xs us) vs (more_items r (length (ahead new)) (ahead new))) one_value
        ∙ sym (items_open (ahead old) other
        ∙ (after_whole (λ x us. mapped (λ vs. x ∷ vs) (more_items r (length us) us)) is.1
        ∙ mapped_after (more_items r (length (ahead new)) (ahead new)) (λ vs. v ∷ vs)));
  }

-- a mark, and what is read behind it
pub next_item_open : {A : Type 0} (r : TokenReader A) (ts : List Token) → false ≡ is_first (is_mark square_close) ts
    → next_item_at r ts ≡ after (mark_at semicolon ts) (λ u xs. mapped (λ v. Some v) (r xs))
next_item_open r ts is =
    branch_not (is_mark square_close) (λ us. mapped (λ u. None) (mark_at square_close us)) (λ us. after (mark_at semicolon us) (λ u xs. mapped (λ v. Some v) (r xs))) ts refl
    (sym is)

-- ---- parts

pub none_yet_is : (n : ℕ) (values : List Value) → n ≡ length values → (n == 0) ≡ is_none_yet values
none_yet_is n [] e = ap (λ m. m == 0) e
none_yet_is n (v ∷ vs) e = let some : n ≡ suc (length vs) = e in grind arith

pub parts_start : (fs : Parts) (c : Unread) (values : List Value) → values ≡ []
    → PartsLeft part_words (λ vs us. whole vs us) (parts_at fs (ahead c)) c c values fs
parts_start fs c values none = record {
  goes = goes_none c;
  reads = ap (λ vs. onward (λ xs us. whole xs us) vs (part_words.rest vs fs (ahead c))) none ∙ after_self (parts_at fs (ahead c));
}

pub record_start : (fs : Parts) (old new : Unread) (values : List Value) → HasOutcome (mark_at curly_open (ahead old)) old new (Ok tt) → values ≡ []
    → PartsLeft field_words (λ vs us. whole (val.Parts vs) us) (value_at (fields fs) (ahead old)) old new values fs
unfolding value_at
record_start fs old new values is none = record {
  goes = is.0;
  reads =
      ap (λ vs. onward (λ xs us. whole (val.Parts xs) us) vs (field_words.rest vs fs (ahead new))) none
      ∙ sym (after_whole (λ u us. mapped val.Parts (fields_at fs us)) is.1 ∙ mapped_after (fields_at fs (ahead new)) val.Parts);
}

next_at : {X : Type 0} (xs : List X) (i : ℕ) (x : X) → i < length xs → x ≡ get_or xs i x → drop i xs ≡ x ∷ drop (i + 1) xs
next_at xs i x lt is = rw (drop-cons xs i x lt, add-one, ← is) refl

pub shapes_next : (xs : List Shape) (i : ℕ) (x : Shape) → i < length xs → x ≡ get_or xs i x
    → parts (map form_of (drop i xs)) ≡ part [] (form_of x) (parts (map form_of (drop (i + 1) xs)))
shapes_next xs i x lt is = ap (λ ys. parts (map form_of ys)) (next_at xs i x lt is)

pub shapes_end : (xs : List Shape) (i : ℕ) → length xs ≤ i → parts (map form_of (drop i xs)) ≡ end
shapes_end xs i le = ap (λ ys. parts (map form_of ys)) (drop_all i xs le)

pub fields_next : (xs : List Field) (i : ℕ) (x : Field) → i < length xs → x ≡ get_or xs i x
    → named_parts (map field_form (drop i xs)) ≡ part x.name (form_of x.shape) (named_parts (map field_form (drop (i + 1) xs)))
fields_next xs i x lt is = ap (λ ys. named_parts (map field_form ys)) (next_at xs i x lt is)

pub fields_end : (xs : List Field) (i : ℕ) → length xs ≤ i → named_parts (map field_form (drop i xs)) ≡ end
fields_end xs i le = ap (λ ys. named_parts (map field_form ys)) (drop_all i xs le)

-- ---- arguments

pub no_arguments : (xs : List Shape) (ts : List Token) → true ≡ (length xs == 0) → arguments_at (parts (map form_of xs)) ts ≡ whole [] ts
unfolding arguments_at
no_arguments [] ts none = refl
no_arguments (x ∷ xs) ts none = absurd (grind arith)

pub some_arguments : (xs : List Shape) (ts : List Token) → false ≡ (length xs == 0)
    → arguments_at (parts (map form_of xs)) ts ≡ after (mark_at round_open ts) (λ u us. parts_at (parts (map form_of xs)) us)
unfolding arguments_at parts_at
some_arguments [] ts some = absurd (grind arith)
some_arguments (x ∷ xs) ts some = refl

-- the argument of a case that has one
pub one_argument : (arg : Option Shape) (x y : Shape) (ts : List Token) → arg ≡ Some x → y ≡ x
    → arguments_at (argument (option_map form_of arg)) ts
    ≡ after (mark_at round_open ts) (λ u us. after (value_at (form_of y) us) (λ v xs. mapped (λ vs. v ∷ vs) (closed_at round_close xs)))
unfolding arguments_at more_parts_at
one_argument arg x y ts is same =
    ap (λ o. arguments_at (argument (option_map form_of o)) ts) is
    ∙ ap (λ z. after (mark_at round_open ts) (λ u us. after (value_at (form_of z) us) (λ v xs. mapped (λ vs. v ∷ vs) (closed_at round_close xs)))) (sym same)

pub none_argument : (arg : Option Shape) (ts : List Token) → arg ≡ None → arguments_at (argument (option_map form_of arg)) ts ≡ whole [] ts
unfolding arguments_at
none_argument arg ts is = ap (λ o. arguments_at (argument (option_map form_of o)) ts) is
