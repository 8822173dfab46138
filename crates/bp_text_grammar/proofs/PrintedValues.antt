-- The printed text of a value that fits is a text of it.
use Rattle.std.proofs.Common.{◌≡◌, refl, sym, ap, ◌∙◌, Some, None, true, false, ℕ, ℤ, pos, negsuc, zero, suc, ◌^◌, ◌<◌, List, [], ◌∷◌, ◌++◌, length, map, slice_get, codes, inl, inr, arith}
use Rattle.std.specs.Option.{option_map}
use Rattle.std.specs.List.{All}
use Rattle.std.proofs.lemmas.List.Elements.{All-head, All-tail}
use Rattle.std.proofs.lemmas.Int.{ints}
use lib.Signed.{mag}
use Rattle.readers.specs.Reader.{Then, Mapped, One, Rest}
use Rattle.readers.specs.Until.{Until}
use Rattle.readers.proofs.Leaves.{is_or, pick_true, pick_false}
use Rattle.bp_value.specs.declared.value.Value.{Value}
use Rattle.bp_value.specs.declared.value.Value.TheVariants as val
use Rattle.bp_value.specs.declared.value.Sexp.{Sexp, fold-roll-Sexp}
use Rattle.bp_value.specs.declared.value.Sexp.TheVariants as sx
use Rattle.bp_value.specs.declared.value.Sexp.TheOpen as sexp_layer
use Rattle.bp_value.specs.Names.{IsDistinct}
use Rattle.bp_value.specs.Form.{Form, Parts, Cases, unit, bool, char, int, int32, int64, text, opt, listed, tuple, fields, sum, poly, sexp, end, part, end_cases, case}
use Rattle.bp_value.specs.Faults.{case_names, IsGood}
use Rattle.bp_value.specs.Limits.{deepest_sexp}
use Rattle.bp_value.specs.Fits.{InRange, FitsSexp, Fits, FitParts, FitCase}
use Rattle.bp_value.proofs.Distinct.{distinct_tail}
use Rattle.bp_value.proofs.Fitted.{range_is}
use Rattle.bp_value.proofs.Layers.{out_absent, out_bool, out_char, out_num, out_text, out_sexp, out_present, out_items, out_parts, out_case}
use Rattle.bp_text_grammar.specs.Tokens.{Token, Word, Number, Text, Char, Mark}
use Rattle.bp_text_grammar.specs.Texts.{round_open, round_close, comma, semicolon, equals, square_open, square_close, backtick, curly_open, curly_close, same, is_mark, ThisMark, Closed, Onto}
use Rattle.bp_text_grammar.specs.ValueTexts.{in_range, number_of, case_named, case_of, Items, Label, Inside, IsSexpTokens, IsValueTokens, ArePartTokens, AreMorePartTokens, AreFieldTokens, AreMoreFieldTokens, AreCaseTokens, AreArgumentTokens}
use Rattle.bp_text_grammar.specs.PrintedPieces.{Piece, tight, after_blank, tokens_of, more_pieces, list_pieces}
use Rattle.bp_text_grammar.specs.PrintedValues.{more_items, all_items, print_sexp_step, sexp_pieces, name_at, labelled, value_pieces, part_pieces, more_part_pieces, field_pieces, more_field_pieces, argument_pieces_at, argument_pieces, value_tokens}
use Rattle.bp_text_grammar.proofs.Words.{same_is, mark_text, word_text, word_same}
use Rattle.bp_text_grammar.proofs.ValueStarts.{IsRead, ArePartsRead, AreCasesRead, case_count, good_read, first_named}
use Rattle.bp_text_grammar.proofs.PieceTokens.{tokens_join, tokens_blank, tokens_after_blank, rest_printed}

-- ---- parts

-- a mark, and what is read after it
marked : {A : Type 0} (m : ℕ) (M : A → List Token → Type 0) (a : A) (ts us : List Token) → ts ≡ Mark m ∷ us → M a us → Then (ThisMark m) (λ u. M) a ts
marked m M a ts us cut l = (tt, Mark m ∷ [], us, cut, mark_text m, l)

closed : {A : Type 0} (m : ℕ) → Closed {A = A} m [] (Mark m ∷ [])
closed m = (tt, refl, mark_text m)

onto : {A : Type 0} (L : A → List Token → Type 0) (M : List A → List Token → Type 0) (v : A) (vs : List A) (ts t u : List Token) → ts ≡ t ++ u → L v t → M vs u
    → Onto L M (v ∷ vs) ts
onto L M v vs ts t u cut l m = (v, t, u, cut, l, (vs, refl, m))

-- ---- numbers

within : (bits : ℕ) (n : ℤ) → InRange bits n → in_range bits n ≡ true
within bits (pos k) x = let lt : mag (pos k) < 2 ^ bits = (range_is bits (pos k)).0 x in let le : k < 2 ^ bits = omega (arith, ints) in grind arith
within bits (negsuc k) x = let lt : mag (negsuc k) < 2 ^ bits = (range_is bits (negsuc k)).0 x in let le : k < 2 ^ bits = omega (arith, ints) in grind arith

number_printed : (bits : ℕ) (n : ℤ) → InRange bits n → One (number_of bits) (val.Num n) (Number n ∷ [])
number_printed bits n x = (Number n, refl, pick_true (in_range bits n) (Some (val.Num n)) None (within bits n x))

-- ---- names of cases

name_stands : (cs : Cases) (place : ℕ) → place < case_count cs → slice_get (case_names cs) place ≡ Some (name_at cs place)
name_stands end_cases place lt = absurd (omega arith)
name_stands (case name fs cs) zero lt = refl
name_stands (case name fs cs) (suc place) lt = name_stands cs place (omega arith)

count_is : (cs : Cases) → case_count cs ≡ length (case_names cs)
count_is end_cases = refl
count_is (case name fs cs) = ap suc (count_is cs)

-- a case is found by its name
found : (cs : Cases) (place : ℕ) → IsDistinct (case_names cs) → place < case_count cs → case_named cs (name_at cs place) ≡ Some place
found end_cases place distinct lt = absurd (omega arith)
found (case name fs cs) zero distinct lt = first_named name fs cs
found (case name fs cs) (suc place) distinct lt =
    elim (is_or (same (name_at cs place) name)) [
      | inl e ↦ absurd (clash (same_is (name_at cs place) name e))
      | inr e ↦ pick_false (same (name_at cs place) name) (Some zero) (option_map suc (case_named cs (name_at cs place))) e
          ∙ ap (λ o. option_map suc o) (found cs place (distinct_tail name (case_names cs) distinct) (omega arith))
    ]
  where
    clash : name_at cs place ≡ name → ⊥
    clash e =
        let there : slice_get (case_names cs) place ≡ Some (name_at cs place) = name_stands cs place (omega arith) in
        let few : case_count cs ≡ length (case_names cs) = count_is cs in
        distinct 0 (suc place) (omega arith) (omega arith) (sym (there ∙ ap (λ x. Some x) e))

-- ---- S-expressions

pub sexp_pieces-Atom : (t : List ℕ) → sexp_pieces (sx.Atom t) ≡ tight (Text t) ∷ []
unfolding sexp_pieces
sexp_pieces-Atom t = ap sexp_pieces (sym (sx.rolls-Atom t)) ∙ fold-roll-Sexp (List Piece) print_sexp_step (sexp_layer.Atom t)

pub sexp_pieces-List : (ss : List Sexp) → sexp_pieces (sx.List ss) ≡ tight (Mark round_open) ∷ all_items (map sexp_pieces ss)
unfolding sexp_pieces
sexp_pieces-List ss = ap sexp_pieces (sym (sx.rolls-List ss)) ∙ fold-roll-Sexp (List Piece) print_sexp_step (sexp_layer.List ss)

module _ (L : Sexp → List Token → Type 0) (F : Sexp → Type 0) (each : (s : Sexp) → F s → L s (tokens_of (sexp_pieces s))) where
  more_printed : (ss : List Sexp) → All F ss → Until (is_mark round_close) L ss (tokens_of (more_items (map sexp_pieces ss)))
  more_printed [] all = (Mark round_close, refl, refl)
  more_printed (s ∷ ss) all = (
    tokens_of (sexp_pieces s),
    tokens_of (more_items (map sexp_pieces ss)),
    tokens_after_blank (sexp_pieces s) (more_items (map sexp_pieces ss)),
    each s (All-head F s ss all),
    more_printed ss (All-tail F s ss all),
  )

  items_printed : (ss : List Sexp) → All F ss → Until (is_mark round_close) L ss (tokens_of (all_items (map sexp_pieces ss)))
  items_printed [] all = (Mark round_close, refl, refl)
  items_printed (s ∷ ss) all = (
    tokens_of (sexp_pieces s),
    tokens_of (more_items (map sexp_pieces ss)),
    tokens_join (sexp_pieces s) (more_items (map sexp_pieces ss)),
    each s (All-head F s ss all),
    more_printed ss (All-tail F s ss all),
  )

list_printed : (d : ℕ) (ss : List Sexp) → Inside d (IsSexpTokens d) ss (tokens_of (all_items (map sexp_pieces ss))) → IsSexpTokens (suc d) (sx.List ss) (tokens_of (sexp_pieces (sx.List ss)))
unfolding IsSexpTokens
list_printed d ss l =
    rw (sexp_pieces-List ss)
    (inl (marked round_open (Mapped sx.List (Inside d (IsSexpTokens d))) (sx.List ss) _ (tokens_of (all_items (map sexp_pieces ss))) refl (ss, refl, l)))

pub sexp_printed : (m d : ℕ) (s : Sexp) → FitsSexp m d s → IsSexpTokens d s (tokens_of (sexp_pieces s))
unfolding FitsSexp IsSexpTokens
sexp_printed m zero s fits = absurd fits
sexp_printed m (suc d) s (inl (t, is, le)) = rw (is, sexp_pieces-Atom t) (inr (Text t, refl, refl))
sexp_printed m (suc zero) s (inr ([], is, (le, all))) = rw is (list_printed 0 [] (closed round_close))
sexp_printed m (suc zero) s (inr (x ∷ ss, is, (le, all))) = absurd (All-head (FitsSexp m zero) x ss all)
sexp_printed m (suc (suc d)) s (inr (ss, is, (le, all))) =
    rw is (list_printed (suc d) ss (items_printed (IsSexpTokens (suc d)) (FitsSexp m (suc d)) (λ x f. sexp_printed m (suc d) x f) ss all))

-- ---- all forms

-- the values of a list after its first bracket
list_of_printed : {A : Type 0} (L : A → List Token → Type 0) (w : A → List Piece) (F : A → Type 0) → ((a : A) → F a → L a (tokens_of (w a)))
    → (vs : List A) → All F vs → Items L vs (tokens_of (list_pieces (tight (Mark semicolon)) square_close w vs))
list_of_printed L w F each [] all = inl (closed square_close)
list_of_printed L w F each (v ∷ vs) all =
    inr (onto L (Rest (is_mark semicolon) (is_mark square_close) L) v vs _ (tokens_of (w v)) (tokens_of (more_pieces (tight (Mark semicolon)) square_close w vs))
    (tokens_join (w v) (more_pieces (tight (Mark semicolon)) square_close w vs)) (each v (All-head F v vs all))
    (rest_printed (tight (Mark semicolon)) semicolon square_close L w F refl each vs (All-tail F v vs all)))

-- a field, and what stands after it
labelled_printed : (name : List ℕ) (M : List Value → List Token → Type 0) (vs : List Value) (ps qs : List Piece) → M vs (tokens_of (ps ++ qs))
    → Then (Label name) (λ u. M) vs (tokens_of (labelled name ps ++ qs))
labelled_printed name M vs ps qs l = (
  tt,
  Word name ∷ Mark equals ∷ [],
  tokens_of (ps ++ qs),
  ap (λ ts. Word name ∷ Mark equals ∷ ts) (tokens_after_blank ps qs ∙ sym (tokens_join ps qs)),
  (tt, Word name ∷ [], Mark equals ∷ [], refl, word_text name, mark_text equals),
  l,
)

-- the name of a case, and its arguments
chosen : (cs : Cases) (place : ℕ) (vs : List Value) (ts : List Token) → IsDistinct (case_names cs) → place < case_count cs → AreCaseTokens cs place vs ts
    → Then (One (case_of cs)) (λ p. Mapped (val.Case p) (AreCaseTokens cs p)) (val.Case place vs) (Word (name_at cs place) ∷ ts)
chosen cs place vs ts distinct lt l =
    (place, Word (name_at cs place) ∷ [], ts, refl, (Word (name_at cs place), refl, found cs place distinct lt), (vs, refl, l))

mutual
  unfolding Fits FitParts FitCase IsValueTokens ArePartTokens AreMorePartTokens AreFieldTokens AreMoreFieldTokens AreCaseTokens AreArgumentTokens value_pieces part_pieces more_part_pieces field_pieces more_field_pieces argument_pieces_at argument_pieces IsRead ArePartsRead AreCasesRead

  value_printed : (m : ℕ) (f : Form) (v : Value) → IsRead f → Fits m f v → IsValueTokens f v (tokens_of (value_pieces f v))
  value_printed m unit v is fits = marked round_open (Mapped (λ x. val.Unit) (ThisMark round_close)) v _ (Mark round_close ∷ []) refl (tt, fits, mark_text round_close)
  value_printed m bool v is (true, same, x) = rw (same, out_bool true) (Word (codes "true"), refl, refl)
  value_printed m bool v is (false, same, x) = rw (same, out_bool false) (Word (codes "false"), refl, refl)
  value_printed m char v is (b, same, x) = rw (same, out_char b) (Char b, refl, refl)
  value_printed m int v is (n, same, x) = rw (same, out_num n) (number_printed 62 n x)
  value_printed m int32 v is (n, same, x) = rw (same, out_num n) (number_printed 31 n x)
  value_printed m int64 v is (n, same, x) = rw (same, out_num n) (number_printed 63 n x)
  value_printed m text v is (t, same, le) = rw (same, out_text t) (Text t, refl, refl)
  value_printed m (opt f) v is (inl same) = rw (same, out_absent) (inl (Word (codes "none"), refl, word_same (codes "none") val.Absent))
  value_printed m (opt f) v is (inr (x, same, fits)) =
      rw (same, out_present x) (inr (
        tt,
        Word (codes "some") ∷ [],
        tokens_of (value_pieces f x),
        ap (λ ts. Word (codes "some") ∷ ts) (tokens_blank (value_pieces f x)),
        word_text (codes "some"),
        (x, refl, value_printed m f x is fits),
      ))
  value_printed m (listed f) v is (vs, same, (le, all)) =
      rw (same, out_items vs) (marked square_open (Mapped val.Items (Items (IsValueTokens f))) (val.Items vs) _ (tokens_of (list_pieces (tight (Mark semicolon)) square_close (value_pieces f) vs)) refl
      (vs, refl, list_of_printed (IsValueTokens f) (value_pieces f) (Fits m f) (λ x fits. value_printed m f x is fits) vs all))
  value_printed m (tuple fs) v is (vs, same, fits) =
      rw (same, out_parts vs) (marked round_open (Mapped val.Parts (ArePartTokens fs)) (val.Parts vs) _ (tokens_of (part_pieces fs vs)) refl (vs, refl, parts_printed m fs vs is fits))
  value_printed m (fields fs) v is (vs, same, fits) =
      rw (same, out_parts vs) (marked curly_open (Mapped val.Parts (AreFieldTokens fs)) (val.Parts vs) _ (tokens_of (field_pieces fs vs)) refl (vs, refl, fields_printed m fs vs is fits))
  value_printed m (sum cs) v is (place, (vs, same, fits)) =
      let (lt, l) = case_printed m cs place vs is.2 fits in
      rw (same, out_case place vs) (chosen cs place vs _ is.1 lt l)
  value_printed m (poly cs) v is (place, (vs, same, fits)) =
      let (lt, l) = case_printed m cs place vs is.2 fits in
      rw (same, out_case place vs) (marked backtick (Then (One (case_of cs)) (λ p. Mapped (val.Case p) (AreCaseTokens cs p))) (val.Case place vs) _
      (Word (name_at cs place) ∷ tokens_of (argument_pieces_at cs place vs)) refl (chosen cs place vs (tokens_of (argument_pieces_at cs place vs)) is.1 lt l))
  value_printed m sexp v is (s, same, fits) = rw (same, out_sexp s) (s, refl, sexp_printed m deepest_sexp s fits)

  parts_printed : (m : ℕ) (fs : Parts) (vs : List Value) → ArePartsRead fs → FitParts m fs vs → ArePartTokens fs vs (tokens_of (part_pieces fs vs))
  parts_printed m end [] is fits = closed round_close
  parts_printed m end (v ∷ vs) is fits = absurd fits
  parts_printed m (part name f fs) [] is fits = absurd fits
  parts_printed m (part name f fs) (v ∷ vs) is fits =
      onto (IsValueTokens f) (AreMorePartTokens fs) v vs _ (tokens_of (value_pieces f v)) (tokens_of (more_part_pieces fs vs))
      (tokens_join (value_pieces f v) (more_part_pieces fs vs)) (value_printed m f v is.0 fits.0) (more_parts_printed m fs vs is.1 fits.1)

  more_parts_printed : (m : ℕ) (fs : Parts) (vs : List Value) → ArePartsRead fs → FitParts m fs vs → AreMorePartTokens fs vs (tokens_of (more_part_pieces fs vs))
  more_parts_printed m end [] is fits = closed round_close
  more_parts_printed m end (v ∷ vs) is fits = absurd fits
  more_parts_printed m (part name f fs) [] is fits = absurd fits
  more_parts_printed m (part name f fs) (v ∷ vs) is fits =
      marked comma (Onto (IsValueTokens f) (AreMorePartTokens fs)) (v ∷ vs) _ (tokens_of (after_blank (value_pieces f v) ++ more_part_pieces fs vs)) refl
      (onto (IsValueTokens f) (AreMorePartTokens fs) v vs _ (tokens_of (value_pieces f v)) (tokens_of (more_part_pieces fs vs))
      (tokens_after_blank (value_pieces f v) (more_part_pieces fs vs)) (value_printed m f v is.0 fits.0) (more_parts_printed m fs vs is.1 fits.1))

  fields_printed : (m : ℕ) (fs : Parts) (vs : List Value) → ArePartsRead fs → FitParts m fs vs → AreFieldTokens fs vs (tokens_of (field_pieces fs vs))
  fields_printed m end [] is fits = closed curly_close
  fields_printed m end (v ∷ vs) is fits = absurd fits
  fields_printed m (part name f fs) [] is fits = absurd fits
  fields_printed m (part name f fs) (v ∷ vs) is fits =
      labelled_printed name (Onto (IsValueTokens f) (AreMoreFieldTokens fs)) (v ∷ vs) (value_pieces f v) (more_field_pieces fs vs)
      (onto (IsValueTokens f) (AreMoreFieldTokens fs) v vs _ (tokens_of (value_pieces f v)) (tokens_of (more_field_pieces fs vs))
      (tokens_join (value_pieces f v) (more_field_pieces fs vs)) (value_printed m f v is.0 fits.0) (more_fields_printed m fs vs is.1 fits.1))

  more_fields_printed : (m : ℕ) (fs : Parts) (vs : List Value) → ArePartsRead fs → FitParts m fs vs → AreMoreFieldTokens fs vs (tokens_of (more_field_pieces fs vs))
  more_fields_printed m end [] is fits = closed curly_close
  more_fields_printed m end (v ∷ vs) is fits = absurd fits
  more_fields_printed m (part name f fs) [] is fits = absurd fits
  more_fields_printed m (part name f fs) (v ∷ vs) is fits =
      marked semicolon (Then (Label name) (λ u. Onto (IsValueTokens f) (AreMoreFieldTokens fs))) (v ∷ vs) _ (tokens_of (labelled name (value_pieces f v) ++ more_field_pieces fs vs)) refl
      (labelled_printed name (Onto (IsValueTokens f) (AreMoreFieldTokens fs)) (v ∷ vs) (value_pieces f v) (more_field_pieces fs vs)
      (onto (IsValueTokens f) (AreMoreFieldTokens fs) v vs _ (tokens_of (value_pieces f v)) (tokens_of (more_field_pieces fs vs))
      (tokens_join (value_pieces f v) (more_field_pieces fs vs)) (value_printed m f v is.0 fits.0) (more_fields_printed m fs vs is.1 fits.1)))

  case_printed : (m : ℕ) (cs : Cases) (place : ℕ) (vs : List Value) → AreCasesRead cs → FitCase m cs place vs
      → (place < case_count cs) × AreCaseTokens cs place vs (tokens_of (argument_pieces_at cs place vs))
  case_printed m end_cases place vs is fits = absurd fits
  case_printed m (case name fs cs) zero vs is fits = (omega arith, arguments_printed m fs vs is.0 fits)
  case_printed m (case name fs cs) (suc place) vs is fits = let (lt, l) = case_printed m cs place vs is.1 fits in (omega arith, l)

  arguments_printed : (m : ℕ) (fs : Parts) (vs : List Value) → ArePartsRead fs → FitParts m fs vs → AreArgumentTokens fs vs (tokens_of (argument_pieces fs vs))
  arguments_printed m end [] is fits = (refl, refl)
  arguments_printed m end (v ∷ vs) is fits = absurd fits
  arguments_printed m (part name f fs) [] is fits = absurd fits
  arguments_printed m (part name f fs) (v ∷ vs) is fits =
      marked round_open (Onto (IsValueTokens f) (AreMorePartTokens fs)) (v ∷ vs) _ (tokens_of (value_pieces f v ++ more_part_pieces fs vs)) refl
      (onto (IsValueTokens f) (AreMorePartTokens fs) v vs _ (tokens_of (value_pieces f v)) (tokens_of (more_part_pieces fs vs))
      (tokens_join (value_pieces f v) (more_part_pieces fs vs)) (value_printed m f v is.0 fits.0) (more_parts_printed m fs vs is.1 fits.1))

-- the printed tokens of a value that fits are a text of it
pub printed_value : (m : ℕ) (f : Form) (v : Value) → IsGood f → Fits m f v → IsValueTokens f v (value_tokens f v)
unfolding value_tokens
printed_value m f v good fits = value_printed m f v (good_read f good) fits
