-- In the printed text of a value that fits each token is one of its own.
use Rattle.std.proofs.Common.{refl, true, false, ℕ, zero, suc, ◌+◌, List, [], ◌∷◌, ◌++◌, map, inl, inr, codes, arith}
use Rattle.std.specs.List.{All}
use Rattle.std.proofs.lemmas.List.Elements.{All-nil, All-cons, All-head, All-tail}
use Rattle.readers.specs.Reader.{Any}
use Rattle.bp_value.specs.declared.value.Value.{Value}
use Rattle.bp_value.specs.declared.value.Sexp.{Sexp}
use Rattle.bp_value.specs.Names.{IsShapeName}
use Rattle.bp_value.specs.Form.{Form, Parts, Cases, unit, bool, char, int, int32, int64, text, opt, listed, tuple, fields, sum, poly, sexp, end, part, end_cases, case}
use Rattle.bp_value.specs.Faults.{nodes, part_nodes, case_nodes, part_names, case_names, IsGood}
use Rattle.bp_value.specs.Limits.{deepest_sexp}
use Rattle.bp_value.specs.Fits.{FitsSexp, Fits, FitParts, FitCase}
use Rattle.bp_value.proofs.Layers.{out_absent, out_bool, out_char, out_num, out_text, out_sexp, out_present, out_items, out_parts, out_case}
use Rattle.bp_value.proofs.Good.{AreGood, good_root, good_node, good_opt, good_listed, good_tuple, good_fields, good_sum, good_poly, good_part, good_case, good_names}
use Rattle.bp_text_grammar.specs.Tokens.{Word, Mark}
use Rattle.bp_text_grammar.specs.Texts.{round_open, round_close, comma, semicolon, equals, square_open, square_close, backtick, curly_open, curly_close}
use Rattle.bp_text_grammar.specs.PrintedPieces.{Piece, tight, spaced, after_blank, list_pieces, IsApart, AreLaid}
use Rattle.bp_text_grammar.specs.PrintedValues.{more_items, all_items, sexp_pieces, name_at, labelled, value_pieces, part_pieces, more_part_pieces, field_pieces, more_field_pieces, argument_pieces_at, argument_pieces}
use Rattle.bp_text_grammar.proofs.LaidPieces.{laid_join, laid_blank, apart_blank, apart_after, laid_mark, laid_word, list_laid, plain_name, wider}
use Rattle.bp_text_grammar.proofs.PrintedValues.{sexp_pieces-Atom, sexp_pieces-List}

-- ---- S-expressions

module _ (F : Sexp → Type 0) (each : (s : Sexp) → F s → AreLaid Any (sexp_pieces s)) where
  more_laid : (ss : List Sexp) → All F ss → AreLaid Any (more_items (map sexp_pieces ss)) × IsApart (more_items (map sexp_pieces ss))
  more_laid [] all = (laid_mark Any false round_close [] refl tt, tt)
  more_laid (s ∷ ss) all =
      let (rest, apart) = more_laid ss (All-tail F s ss all) in (
        laid_join Any (after_blank (sexp_pieces s)) (more_items (map sexp_pieces ss)) (laid_blank Any (sexp_pieces s) (each s (All-head F s ss all))) rest apart,
        apart_blank (sexp_pieces s) (more_items (map sexp_pieces ss)) apart,
      )

  items_laid : (ss : List Sexp) → All F ss → AreLaid Any (all_items (map sexp_pieces ss))
  items_laid [] all = laid_mark Any false round_close [] refl tt
  items_laid (s ∷ ss) all =
      let (rest, apart) = more_laid ss (All-tail F s ss all) in
      laid_join Any (sexp_pieces s) (more_items (map sexp_pieces ss)) (each s (All-head F s ss all)) rest apart

sexp_laid : (m d : ℕ) (s : Sexp) → FitsSexp m d s → AreLaid Any (sexp_pieces s)
unfolding FitsSexp
sexp_laid m zero s fits = absurd fits
sexp_laid m (suc d) s (inl (t, is, le)) = rw (is, sexp_pieces-Atom t) (tt, λ run. absurd run, tt)
sexp_laid m (suc d) s (inr (ss, is, (le, all))) =
    rw (is, sexp_pieces-List ss)
    (laid_mark Any false round_open (all_items (map sexp_pieces ss)) refl (items_laid (FitsSexp m d) (λ x f. sexp_laid m d x f) ss all))

-- ---- parts

all_laid : (w : Value → List Piece) (F : Value → Type 0) → ((v : Value) → F v → AreLaid Any (w v)) → (vs : List Value) → All F vs → All (λ v. AreLaid Any (w v)) vs
all_laid w F each [] all = All-nil (λ v. AreLaid Any (w v))
all_laid w F each (v ∷ vs) all = All-cons (λ v. AreLaid Any (w v)) v vs (each v (All-head F v vs all)) (all_laid w F each vs (All-tail F v vs all))

-- `=` and a value after the name of a field
labelled_laid : (name : List ℕ) (ps : List Piece) → IsShapeName name → AreLaid Any ps → AreLaid Any (labelled name ps)
labelled_laid name ps is laid =
    laid_word Any false name (spaced (Mark equals) ∷ after_blank ps) is tt (laid_mark Any true equals (after_blank ps) refl (laid_blank Any ps laid))

some_name : (cs : Cases) (place : ℕ) → All IsShapeName (case_names cs) → (m : ℕ) (vs : List Value) → FitCase m cs place vs → IsShapeName (name_at cs place)
unfolding FitCase
some_name end_cases place names m vs fits = absurd fits
some_name (case name fs cs) zero names m vs fits = All-head IsShapeName name (case_names cs) names
some_name (case name fs cs) (suc place) names m vs fits = some_name cs place (All-tail IsShapeName name (case_names cs) names) m vs fits

-- ---- all forms

mutual
  unfolding Fits FitParts FitCase value_pieces part_pieces more_part_pieces field_pieces more_field_pieces argument_pieces_at argument_pieces

  laid_at : (m d : ℕ) (f : Form) (v : Value) → AreGood (nodes d f) → Fits m f v → AreLaid Any (value_pieces f v)
  laid_at m d unit v good fits = laid_mark Any false round_open (tight (Mark round_close) ∷ []) refl (laid_mark Any false round_close [] refl tt)
  laid_at m d bool v good (true, is, x) = rw (is, out_bool true) (laid_word Any false (codes "true") [] (plain_name (codes "true") refl) tt tt)
  laid_at m d bool v good (false, is, x) = rw (is, out_bool false) (laid_word Any false (codes "false") [] (plain_name (codes "false") refl) tt tt)
  laid_at m d char v good (b, is, x) = rw (is, out_char b) (tt, λ run. absurd run, tt)
  laid_at m d int v good (n, is, x) = rw (is, out_num n) (wider 62 n (omega arith) x, λ run. tt, tt)
  laid_at m d int32 v good (n, is, x) = rw (is, out_num n) (wider 31 n (omega arith) x, λ run. tt, tt)
  laid_at m d int64 v good (n, is, x) = rw (is, out_num n) (x, λ run. tt, tt)
  laid_at m d text v good (t, is, le) = rw (is, out_text t) (tt, λ run. absurd run, tt)
  laid_at m d (opt f) v good (inl is) = rw (is, out_absent) (laid_word Any false (codes "none") [] (plain_name (codes "none") refl) tt tt)
  laid_at m d (opt f) v good (inr (x, is, fits)) =
      rw (is, out_present x) (laid_word Any false (codes "some") (after_blank (value_pieces f x)) (plain_name (codes "some") refl) (apart_after (value_pieces f x))
      (laid_blank Any (value_pieces f x) (laid_at m (d + 1) f x (good_opt d f good) fits)))
  laid_at m d (listed f) v good (vs, is, (le, all)) =
      rw (is, out_items vs) (laid_mark Any false square_open (list_pieces (tight (Mark semicolon)) square_close (value_pieces f) vs) refl
      (list_laid Any semicolon square_close false (value_pieces f) refl refl vs
      (all_laid (value_pieces f) (Fits m f) (λ x fits. laid_at m (d + 1) f x (good_listed d f good) fits) vs all)))
  laid_at m d (tuple fs) v good (vs, is, fits) =
      rw (is, out_parts vs) (laid_mark Any false round_open (part_pieces fs vs) refl (parts_laid m (d + 1) fs vs (good_tuple d fs good) fits))
  laid_at m d (fields fs) v good (vs, is, fits) =
      rw (is, out_parts vs) (laid_mark Any false curly_open (field_pieces fs vs) refl
      (fields_laid m (d + 1) fs vs (good_names d (fields fs) (good_node d (fields fs) good)) (good_fields d fs good) fits))
  laid_at m d (sum cs) v good (place, (vs, is, fits)) =
      let (laid, apart) = case_laid m (d + 1) cs place vs (good_sum d cs good) fits in
      rw (is, out_case place vs) (laid_word Any false (name_at cs place) (argument_pieces_at cs place vs)
      (some_name cs place (good_names d (sum cs) (good_node d (sum cs) good)) m vs fits) apart laid)
  laid_at m d (poly cs) v good (place, (vs, is, fits)) =
      let (laid, apart) = case_laid m (d + 1) cs place vs (good_poly d cs good) fits in
      rw (is, out_case place vs) (laid_mark Any false backtick (tight (Word (name_at cs place)) ∷ argument_pieces_at cs place vs) refl
      (laid_word Any false (name_at cs place) (argument_pieces_at cs place vs) (some_name cs place (good_names d (poly cs) (good_node d (poly cs) good)) m vs fits) apart laid))
  laid_at m d sexp v good (s, is, fits) = rw (is, out_sexp s) (sexp_laid m deepest_sexp s fits)

  parts_laid : (m d : ℕ) (fs : Parts) (vs : List Value) → AreGood (part_nodes d fs) → FitParts m fs vs → AreLaid Any (part_pieces fs vs)
  parts_laid m d end [] good fits = laid_mark Any false round_close [] refl tt
  parts_laid m d end (v ∷ vs) good fits = absurd fits
  parts_laid m d (part name f fs) [] good fits = absurd fits
  parts_laid m d (part name f fs) (v ∷ vs) good fits =
      let both = good_part d name f fs good in
      let (rest, apart) = more_parts_laid m d fs vs both.1 fits.1 in
      laid_join Any (value_pieces f v) (more_part_pieces fs vs) (laid_at m d f v both.0 fits.0) rest apart

  more_parts_laid : (m d : ℕ) (fs : Parts) (vs : List Value) → AreGood (part_nodes d fs) → FitParts m fs vs
      → AreLaid Any (more_part_pieces fs vs) × IsApart (more_part_pieces fs vs)
  more_parts_laid m d end [] good fits = (laid_mark Any false round_close [] refl tt, tt)
  more_parts_laid m d end (v ∷ vs) good fits = absurd fits
  more_parts_laid m d (part name f fs) [] good fits = absurd fits
  more_parts_laid m d (part name f fs) (v ∷ vs) good fits =
      let both = good_part d name f fs good in
      let (rest, apart) = more_parts_laid m d fs vs both.1 fits.1 in (
        laid_mark Any false comma (after_blank (value_pieces f v) ++ more_part_pieces fs vs) refl
            (laid_join Any (after_blank (value_pieces f v)) (more_part_pieces fs vs) (laid_blank Any (value_pieces f v) (laid_at m d f v both.0 fits.0)) rest apart),
        tt,
      )

  fields_laid : (m d : ℕ) (fs : Parts) (vs : List Value) → All IsShapeName (part_names fs) → AreGood (part_nodes d fs) → FitParts m fs vs → AreLaid Any (field_pieces fs vs)
  fields_laid m d end [] names good fits = laid_mark Any false curly_close [] refl tt
  fields_laid m d end (v ∷ vs) names good fits = absurd fits
  fields_laid m d (part name f fs) [] names good fits = absurd fits
  fields_laid m d (part name f fs) (v ∷ vs) names good fits =
      let both = good_part d name f fs good in
      let (rest, apart) = more_fields_laid m d fs vs (All-tail IsShapeName name (part_names fs) names) both.1 fits.1 in
      laid_join Any (labelled name (value_pieces f v)) (more_field_pieces fs vs)
      (labelled_laid name (value_pieces f v) (All-head IsShapeName name (part_names fs) names) (laid_at m d f v both.0 fits.0)) rest apart

  more_fields_laid : (m d : ℕ) (fs : Parts) (vs : List Value) → All IsShapeName (part_names fs) → AreGood (part_nodes d fs) → FitParts m fs vs
      → AreLaid Any (more_field_pieces fs vs) × IsApart (more_field_pieces fs vs)
  more_fields_laid m d end [] names good fits = (laid_mark Any false curly_close [] refl tt, tt)
  more_fields_laid m d end (v ∷ vs) names good fits = absurd fits
  more_fields_laid m d (part name f fs) [] names good fits = absurd fits
  more_fields_laid m d (part name f fs) (v ∷ vs) names good fits =
      let both = good_part d name f fs good in
      let (rest, apart) = more_fields_laid m d fs vs (All-tail IsShapeName name (part_names fs) names) both.1 fits.1 in (
        laid_mark Any false semicolon (after_blank (labelled name (value_pieces f v)) ++ more_field_pieces fs vs) refl
            (laid_join Any (after_blank (labelled name (value_pieces f v))) (more_field_pieces fs vs)
            (laid_blank Any (labelled name (value_pieces f v)) (labelled_laid name (value_pieces f v) (All-head IsShapeName name (part_names fs) names) (laid_at m d f v both.0 fits.0))) rest apart),
        tt,
      )

  case_laid : (m d : ℕ) (cs : Cases) (place : ℕ) (vs : List Value) → AreGood (case_nodes d cs) → FitCase m cs place vs
      → AreLaid Any (argument_pieces_at cs place vs) × IsApart (argument_pieces_at cs place vs)
  case_laid m d end_cases place vs good fits = absurd fits
  case_laid m d (case name fs cs) zero vs good fits = arguments_laid m d fs vs (good_case d name fs cs good).0 fits
  case_laid m d (case name fs cs) (suc place) vs good fits = case_laid m d cs place vs (good_case d name fs cs good).1 fits

  arguments_laid : (m d : ℕ) (fs : Parts) (vs : List Value) → AreGood (part_nodes d fs) → FitParts m fs vs → AreLaid Any (argument_pieces fs vs) × IsApart (argument_pieces fs vs)
  arguments_laid m d end [] good fits = (tt, tt)
  arguments_laid m d end (v ∷ vs) good fits = absurd fits
  arguments_laid m d (part name f fs) [] good fits = absurd fits
  arguments_laid m d (part name f fs) (v ∷ vs) good fits =
      let both = good_part d name f fs good in
      let (rest, apart) = more_parts_laid m d fs vs both.1 fits.1 in (
        laid_mark Any false round_open (value_pieces f v ++ more_part_pieces fs vs) refl
            (laid_join Any (value_pieces f v) (more_part_pieces fs vs) (laid_at m d f v both.0 fits.0) rest apart),
        tt,
      )

-- each printed token has bytes, and the next does not go on it
pub value_laid : (m : ℕ) (f : Form) (v : Value) → IsGood f → Fits m f v → AreLaid Any (value_pieces f v)
value_laid m f v good fits = laid_at m 1 f v (good_root f good) fits
