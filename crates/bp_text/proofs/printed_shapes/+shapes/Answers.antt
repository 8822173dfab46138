-- By the variant of the shape; in a loop, member by member.
use Rattle.std.proofs.Common.{sym, ◌∙◌, ◌++◌, ◌+◌, [], ◌∷◌, Ok, Err, map, codes, rules}
use Rattle.std.proofs.lemmas.List.{length-map, get_or_read}
use Rattle.bp_value.specs.declared.shape.Shape.{the_lemmas as shape_lemmas}
use Rattle.bp_value.specs.Form.{field_form, case_form, poly_form}
use Rattle.bp_value.proofs.Forms.{form_of-Opt, form_of-List, form_of-Tuple, form_of-Fields, form_of-Sum, form_of-Poly}
use Rattle.bp_value.proofs.Good.{good_opt, good_listed, good_tuple, good_fields, good_sum, good_poly, good_part_at, good_case_at}
use Rattle.bp_text_grammar.specs.Texts.{curly_close, curly_open, round_close, round_open, square_close, square_open}
use Rattle.bp_text_grammar.specs.PrintedTexts.{shape_text}
use Rattle.bp_text.specs.Printing.{case_text, field_text, lead, part_text, poly_text}
use Rattle.bp_text.proofs.Appending.{appends_then, leads_as, leads_start, leads_next, leads_failed, leads_last, leads_done, mapped_at, rest_next, rest_done, rest_of}
use Rattle.bp_text.proofs.ShapeBytes.{part_tuple, part_other, factors_bytes, text_Unit, text_Bool, text_Char, text_Int, text_Int32, text_Int64, text_Text, text_Sexp, text_Opt, text_List, text_Tuple, text_Fields, text_Sum, text_Poly}
use Rattle.bp_text.proofs.GoodInside.{item_good, argument_good}
use Rattle.bp_text.proofs.printed_shapes.+shapes.Goals as goal

-- ---- the dispatch

pub append_shape-returns-in-Unit : goal.append_shape-returns-in-Unit
append_shape-returns-in-Unit t c = rw (c.in-Unit.is, text_Unit) c.append_bytes.ensures

pub append_shape-returns-in-Bool : goal.append_shape-returns-in-Bool
append_shape-returns-in-Bool t c = rw (c.in-Bool.is, text_Bool) c.append_bytes-in-Bool.ensures

pub append_shape-returns-in-Char : goal.append_shape-returns-in-Char
append_shape-returns-in-Char t c = rw (c.in-Char.is, text_Char) c.append_bytes-in-Char.ensures

pub append_shape-returns-in-Int : goal.append_shape-returns-in-Int
append_shape-returns-in-Int t c = rw (c.in-Int.is, text_Int) c.append_bytes-in-Int.ensures

pub append_shape-returns-in-Int32 : goal.append_shape-returns-in-Int32
append_shape-returns-in-Int32 t c = rw (c.in-Int32.is, text_Int32) c.append_bytes-in-Int32.ensures

pub append_shape-returns-in-Int64 : goal.append_shape-returns-in-Int64
append_shape-returns-in-Int64 t c = rw (c.in-Int64.is, text_Int64) c.append_bytes-in-Int64.ensures

pub append_shape-returns-in-Text : goal.append_shape-returns-in-Text
append_shape-returns-in-Text t c = rw (c.in-Text.is, text_Text) c.append_bytes-in-Text.ensures

pub append_shape-returns-in-Sexp : goal.append_shape-returns-in-Sexp
append_shape-returns-in-Sexp t c = rw (c.in-Sexp.is, text_Sexp) c.append_bytes-in-Sexp.ensures

pub append_shape-append_applied-requires : goal.append_shape-append_applied-requires
append_shape-append_applied-requires t c =
    let good = rw (c.in-Opt.is, form_of-Opt) at c.requires in
    (search (rules, shape_lemmas), rw c.get.ensures (good.0 + 1, good_opt good.0 _ good.1))

pub append_shape-returns-in-Opt : goal.append_shape-returns-in-Opt
append_shape-returns-in-Opt t c = rw (c.in-Opt.is, text_Opt) (rw c.get.ensures at c.append_applied.ensures)

pub append_shape-append_applied-requires-in-List : goal.append_shape-append_applied-requires-in-List
append_shape-append_applied-requires-in-List t c =
    let good = rw (c.in-List.is, form_of-List) at c.requires in
    (search (rules, shape_lemmas), rw c.get-in-List.ensures (good.0 + 1, good_listed good.0 _ good.1))

pub append_shape-returns-in-List : goal.append_shape-returns-in-List
append_shape-returns-in-List t c = rw (c.in-List.is, text_List) (rw c.get-in-List.ensures at c.append_applied-in-List.ensures)

pub append_shape-append_factors-requires : goal.append_shape-append_factors-requires
append_shape-append_factors-requires t c =
    let good = rw (c.in-Tuple.is, form_of-Tuple) at c.requires in
    (search (rules, shape_lemmas), rw c.as_slice.ensures (good.0 + 1, good_tuple good.0 _ good.1))

pub append_shape-returns-in-Tuple : goal.append_shape-returns-in-Tuple
append_shape-returns-in-Tuple t c = rw (c.in-Tuple.is, text_Tuple) (rw c.as_slice.ensures at c.append_factors.ensures)

pub append_shape-append_fields-requires : goal.append_shape-append_fields-requires
append_shape-append_fields-requires t c =
    (search (rules, shape_lemmas), rw c.as_slice-in-Fields.ensures (rw (c.in-Fields.is, form_of-Fields) at c.requires))

pub append_shape-append_sum-requires : goal.append_shape-append_sum-requires
append_shape-append_sum-requires t c = (search (rules, shape_lemmas), rw c.as_slice-in-Sum.ensures (rw (c.in-Sum.is, form_of-Sum) at c.requires))

pub append_shape-append_poly-requires : goal.append_shape-append_poly-requires
append_shape-append_poly-requires t c = (search (rules, shape_lemmas), rw c.as_slice-in-Poly.ensures (rw (c.in-Poly.is, form_of-Poly) at c.requires))

-- ---- a part

pub append_part-returns-then-not-is_tuple : goal.append_part-returns-then-not-is_tuple
append_part-returns-then-not-is_tuple t c =
    rw (part_other c.args.shape.now (sym c.is_tuple.ensures ∙ c.if-not-is_tuple.true)) c.append_shape.ensures

pub append_part-returns : goal.append_part-returns
append_part-returns t c =
    rw (part_tuple c.args.shape.now (sym c.is_tuple.ensures ∙ c.if-not-is_tuple.false))
    (appends_then (round_open ∷ []) (shape_text c.args.shape.now ++ round_close ∷ []) _ _ _ _ c.in_ok-append_byte.ensures
    (appends_then (shape_text c.args.shape.now) (round_close ∷ []) _ _ _ _ c.in_ok-append_shape.ensures c.append_byte-2.ensures))

-- ---- factors

pub append_factors-loop-place-init : goal.append_factors-loop-place-init
append_factors-loop-place-init t c = leads_as _ _ _ (factors_bytes c.args.shapes.now)

pub append_factors-append_part-requires : goal.append_factors-append_part-requires
append_factors-append_part-requires t c = (
  search (rules, shape_lemmas, get_or_read),
  item_good c.args.shapes.now c.loop-place.place _ c.loop-place-test.true c.index-shapes-place.is c.requires,
)

pub append_factors-loop-place-preserved : goal.append_factors-loop-place-preserved
append_factors-loop-place-preserved t c =
    let shapes = c.args.shapes.now in
    let i = c.loop-place.place in
    let text = part_text c.index-shapes-place.result in
    leads_next _ _ _ _ c.loop-place.invariant (lead (codes " * ") i ++ text) (rest_of (codes " * ") (map part_text shapes) (i + 1) ++ []) _
    (rest_next (codes " * ") (map part_text shapes) i text [] (mapped_at part_text shapes i _ c.loop-place-test.true c.index-shapes-place.is))
    (appends_then (lead (codes " * ") i) text _ _ _ (Ok tt) c.in_ok-append_lead.ensures c.in_ok-append_part.ensures)

pub append_factors-returns-in_err-append_part : goal.append_factors-returns-in_err-append_part
append_factors-returns-in_err-append_part t c =
    let shapes = c.args.shapes.now in
    let i = c.loop-place.place in
    let text = part_text c.index-shapes-place.result in
    leads_failed _ _ _ _ c.loop-place.invariant (lead (codes " * ") i ++ text) (rest_of (codes " * ") (map part_text shapes) (i + 1) ++ []) _ _ _
    (rest_next (codes " * ") (map part_text shapes) i text [] (mapped_at part_text shapes i _ c.loop-place-test.true c.index-shapes-place.is))
    c.from_residual-in_err-append_part.ensures.1
    (appends_then (lead (codes " * ") i) text _ _ _ (Err _) c.in_ok-append_lead.ensures c.in_err-append_part.ensures)

pub append_factors-returns : goal.append_factors-returns
append_factors-returns t c =
    let shapes = c.args.shapes.now in
    leads_done _ _ _ _ c.loop-place.invariant
    (rest_done (codes " * ") (map part_text shapes) c.loop-place.place [] (rw (length-map shapes part_text) c.loop-place-test.false))

-- ---- records

pub append_fields-loop-place-init : goal.append_fields-loop-place-init
append_fields-loop-place-init t c =
    leads_start (curly_open ∷ []) _ _ _ _
    (text_Fields (c.requires.0 + 1) c.args.fields.now (good_fields c.requires.0 _ c.requires.1)) c.in_ok-append_byte.ensures

pub append_fields-append_field-requires : goal.append_fields-append_field-requires
append_fields-append_field-requires t c = (
  search (rules, shape_lemmas, get_or_read),
  (
    c.requires.0 + 1,
    good_part_at (c.requires.0 + 1) c.loop-place.place (map field_form c.args.fields.now) (field_form c.index-fields-place.result)
        (mapped_at field_form c.args.fields.now _ _ c.loop-place-test.true c.index-fields-place.is) (good_fields c.requires.0 _ c.requires.1),
  ),
)

pub append_fields-loop-place-preserved : goal.append_fields-loop-place-preserved
append_fields-loop-place-preserved t c =
    let fields = c.args.fields.now in
    let i = c.loop-place.place in
    let text = field_text c.index-fields-place.result in
    leads_next _ _ _ _ c.loop-place.invariant (lead (codes "; ") i ++ text) (rest_of (codes "; ") (map field_text fields) (i + 1) ++ curly_close ∷ []) _
    (rest_next (codes "; ") (map field_text fields) i text (curly_close ∷ []) (mapped_at field_text fields i _ c.loop-place-test.true c.index-fields-place.is))
    c.in_ok-append_field.ensures

pub append_fields-returns : goal.append_fields-returns
append_fields-returns t c =
    let fields = c.args.fields.now in
    leads_last _ _ _ _ c.loop-place.invariant (curly_close ∷ []) _ _
    (rest_done (codes "; ") (map field_text fields) c.loop-place.place (curly_close ∷ []) (rw (length-map fields field_text) c.loop-place-test.false))
    c.append_byte-2.ensures

-- ---- variants

pub append_sum-loop-place-init : goal.append_sum-loop-place-init
append_sum-loop-place-init t c = leads_start (square_open ∷ []) _ _ _ _ (text_Sum c.args.sum.now) c.in_ok-append_byte.ensures

pub append_sum-append_case-requires : goal.append_sum-append_case-requires
append_sum-append_case-requires t c = (
  search (rules, shape_lemmas, get_or_read),
  (
    c.requires.0 + 1,
    good_case_at (c.requires.0 + 1) c.loop-place.place (map case_form c.args.sum.now) (case_form c.index-sum-place.result)
        (mapped_at case_form c.args.sum.now _ _ c.loop-place-test.true c.index-sum-place.is) (good_sum c.requires.0 _ c.requires.1),
  ),
)

pub append_sum-loop-place-preserved : goal.append_sum-loop-place-preserved
append_sum-loop-place-preserved t c =
    let sum = c.args.sum.now in
    let i = c.loop-place.place in
    let text = case_text c.index-sum-place.result in
    leads_next _ _ _ _ c.loop-place.invariant (lead (codes " | ") i ++ text) (rest_of (codes " | ") (map case_text sum) (i + 1) ++ square_close ∷ []) _
    (rest_next (codes " | ") (map case_text sum) i text (square_close ∷ []) (mapped_at case_text sum i _ c.loop-place-test.true c.index-sum-place.is))
    c.in_ok-append_case.ensures

pub append_sum-returns : goal.append_sum-returns
append_sum-returns t c =
    let sum = c.args.sum.now in
    leads_last _ _ _ _ c.loop-place.invariant (square_close ∷ []) _ _
    (rest_done (codes " | ") (map case_text sum) c.loop-place.place (square_close ∷ []) (rw (length-map sum case_text) c.loop-place-test.false))
    c.append_byte-2.ensures

pub append_poly-loop-place-init : goal.append_poly-loop-place-init
append_poly-loop-place-init t c =
    leads_start (square_open ∷ []) _ _ _ _ (text_Poly (c.requires.0 + 1) c.args.poly.now (good_poly c.requires.0 _ c.requires.1)) c.in_ok-append_byte.ensures

pub append_poly-append_poly_case-requires : goal.append_poly-append_poly_case-requires
append_poly-append_poly_case-requires t c = (
  search (rules, shape_lemmas, get_or_read),
  (
    c.requires.0 + 1,
    good_case_at (c.requires.0 + 1) c.loop-place.place (map poly_form c.args.poly.now) (poly_form c.index-poly-place.result)
        (mapped_at poly_form c.args.poly.now _ _ c.loop-place-test.true c.index-poly-place.is) (good_poly c.requires.0 _ c.requires.1),
  ),
)

pub append_poly-loop-place-preserved : goal.append_poly-loop-place-preserved
append_poly-loop-place-preserved t c =
    let poly = c.args.poly.now in
    let i = c.loop-place.place in
    let text = poly_text c.index-poly-place.result in
    leads_next _ _ _ _ c.loop-place.invariant (lead (codes " | ") i ++ text) (rest_of (codes " | ") (map poly_text poly) (i + 1) ++ square_close ∷ []) _
    (rest_next (codes " | ") (map poly_text poly) i text (square_close ∷ []) (mapped_at poly_text poly i _ c.loop-place-test.true c.index-poly-place.is))
    c.in_ok-append_poly_case.ensures

pub append_poly-returns : goal.append_poly-returns
append_poly-returns t c =
    let poly = c.args.poly.now in
    leads_last _ _ _ _ c.loop-place.invariant (square_close ∷ []) _ _
    (rest_done (codes " | ") (map poly_text poly) c.loop-place.place (square_close ∷ []) (rw (length-map poly poly_text) c.loop-place-test.false))
    c.append_byte-2.ensures

pub append_poly_case-append_argument-requires : goal.append_poly_case-append_argument-requires
append_poly_case-append_argument-requires t c =
    (search (rules, shape_lemmas), rw c.get.ensures (argument_good c.args.case.now.arg _ c.in-Some.is c.requires))
