-- By the variant of the shape; in a loop, value by value.
use Rattle.std.proofs.Common.{refl, sym, ◌<◌, [], ◌∷◌, length, map, Some, arith, rules, append-nil}
use Rattle.std.specs.List.{flat_map}
use Rattle.std.proofs.lemmas.List.{length-map, get_or_read}
use Rattle.bp_num.specs.Forms.{signed_bytes, written_nat}
use Rattle.bp_num.proofs.SignedBytes.{length-signed_bytes}
use Rattle.bp_value.specs.declared.shape.Shape.{the_lemmas as shape_lemmas}
use Rattle.bp_value.specs.Form.{form_of, field_form, case_form, poly_form, unnamed}
use Rattle.bp_value.specs.Tags.{tag_of}
use Rattle.bp_value.proofs.Forms.{form_of-Unit, form_of-Bool, form_of-Char, form_of-Int, form_of-Int32, form_of-Int64, form_of-Text, form_of-Opt, form_of-List, form_of-Tuple, form_of-Fields, form_of-Sum, form_of-Poly, form_of-Sexp}
use Rattle.bp_grammar.specs.Written.{written, written_flag}
use Rattle.bp_codec.proofs.WrittenLayers.{flag_long, bool_is, char_is, text_is, sexp_is, written_opt-Absent, written_opt-Present, written_listed, written_tuple, written_fields, written_sum, written_poly, case_at, written_argument-None, written_argument-Some, rest_done, parts_next, parts_done}
use Rattle.bp_codec.proofs.Leaving.{taken, taken_then, not_taken, uses_next, uses_none, uses_done}
use Rattle.bp_codec.proofs.Writable.{is_bool, is_char, is_int, is_int32, is_int64, is_text, is_sexp, is_option, present_writable, is_list, items_writable, is_tuple, is_record, tuple_writable, record_writable, read_at, mapped_at, value_at, as_many, part_writable, is_sum, is_poly, sum_case, poly_case, one_argument, argument_writable}
use Rattle.bp_codec.proofs.sizing.+afters.Goals as goal

-- ---- the dispatch

pub after_value-returns-in-Unit : goal.after_value-returns-in-Unit
unfolding written
after_value-returns-in-Unit t c = rw (c.in-Unit.is, form_of-Unit) (taken _ 1 (0 ∷ []) refl _ c.checked_sub.ensures)

pub after_value-returns-in-Bool : goal.after_value-returns-in-Bool
unfolding written
after_value-returns-in-Bool t c =
    let m = is_bool _ (rw (c.in-Bool.is, form_of-Bool) at c.requires) in
    rw (c.in-Bool.is, form_of-Bool, bool_is _ m.0 m.1) (taken _ 1 (written_flag m.0) (flag_long m.0) _ c.checked_sub-in-Bool.ensures)

pub after_value-returns-in-Char : goal.after_value-returns-in-Char
unfolding written
after_value-returns-in-Char t c =
    let m = is_char _ (rw (c.in-Char.is, form_of-Char) at c.requires) in
    rw (c.in-Char.is, form_of-Char, char_is _ m.0 m.1) (taken _ 1 (m.0 ∷ []) refl _ c.checked_sub-in-Char.ensures)

pub after_value-after_number-requires : goal.after_value-after_number-requires
after_value-after_number-requires t c = is_int _ (rw (c.in-Int.is, form_of-Int) at c.requires)

pub after_value-returns-in-Int : goal.after_value-returns-in-Int
unfolding written
after_value-returns-in-Int t c = rw (c.in-Int.is, form_of-Int) c.after_number.ensures

pub after_value-after_number-requires-in-Int32 : goal.after_value-after_number-requires-in-Int32
after_value-after_number-requires-in-Int32 t c = is_int32 _ (rw (c.in-Int32.is, form_of-Int32) at c.requires)

pub after_value-returns-in-Int32 : goal.after_value-returns-in-Int32
unfolding written
after_value-returns-in-Int32 t c = rw (c.in-Int32.is, form_of-Int32) c.after_number-in-Int32.ensures

pub after_value-after_number-requires-in-Int64 : goal.after_value-after_number-requires-in-Int64
after_value-after_number-requires-in-Int64 t c = is_int64 _ (rw (c.in-Int64.is, form_of-Int64) at c.requires)

pub after_value-returns-in-Int64 : goal.after_value-returns-in-Int64
unfolding written
after_value-returns-in-Int64 t c = rw (c.in-Int64.is, form_of-Int64) c.after_number-in-Int64.ensures

pub after_value-text_in-requires : goal.after_value-text_in-requires
after_value-text_in-requires t c = is_text _ (rw (c.in-Text.is, form_of-Text) at c.requires)

pub after_value-returns-in-Text : goal.after_value-returns-in-Text
unfolding written
after_value-returns-in-Text t c = rw (c.in-Text.is, form_of-Text, text_is _ _ c.text_in.ensures) c.after_bytes.ensures

pub after_value-sexp_in-requires : goal.after_value-sexp_in-requires
after_value-sexp_in-requires t c = is_sexp _ (rw (c.in-Sexp.is, form_of-Sexp) at c.requires)

pub after_value-returns-in-Sexp : goal.after_value-returns-in-Sexp
unfolding written
after_value-returns-in-Sexp t c = rw (c.in-Sexp.is, form_of-Sexp, sexp_is _ _ c.sexp_in.ensures) c.after_sexp.ensures

pub after_value-after_option-requires : goal.after_value-after_option-requires
after_value-after_option-requires t c = (search (rules, shape_lemmas), rw c.get.ensures (rw (c.in-Opt.is, form_of-Opt) at c.requires))

pub after_value-returns-in-Opt : goal.after_value-returns-in-Opt
after_value-returns-in-Opt t c = rw (c.in-Opt.is, form_of-Opt) (rw c.get.ensures at c.after_option.ensures)

pub after_value-after_list-requires : goal.after_value-after_list-requires
after_value-after_list-requires t c = (search (rules, shape_lemmas), rw c.get-in-List.ensures (rw (c.in-List.is, form_of-List) at c.requires))

pub after_value-returns-in-List : goal.after_value-returns-in-List
after_value-returns-in-List t c = rw (c.in-List.is, form_of-List) (rw c.get-in-List.ensures at c.after_list.ensures)

pub after_value-after_sum-requires : goal.after_value-after_sum-requires
after_value-after_sum-requires t c = (search (rules, shape_lemmas), rw c.as_slice-in-Sum.ensures (rw (c.in-Sum.is, form_of-Sum) at c.requires))

pub after_value-returns-in-Sum : goal.after_value-returns-in-Sum
after_value-returns-in-Sum t c = rw (c.in-Sum.is, form_of-Sum) (rw c.as_slice-in-Sum.ensures at c.after_sum.ensures)

pub after_value-after_poly-requires : goal.after_value-after_poly-requires
after_value-after_poly-requires t c = (search (rules, shape_lemmas), rw c.as_slice-in-Poly.ensures (rw (c.in-Poly.is, form_of-Poly) at c.requires))

pub after_value-returns-in-Poly : goal.after_value-returns-in-Poly
after_value-returns-in-Poly t c = rw (c.in-Poly.is, form_of-Poly) (rw c.as_slice-in-Poly.ensures at c.after_poly.ensures)

pub after_value-parts_in-requires : goal.after_value-parts_in-requires
after_value-parts_in-requires t c = is_tuple _ _ (rw (c.in-Tuple.is, form_of-Tuple) at c.requires)

pub after_value-after_parts-requires : goal.after_value-after_parts-requires
after_value-after_parts-requires t c =
    (search (rules, shape_lemmas), rw c.as_slice.ensures (tuple_writable _ _ _ c.parts_in.ensures (rw (c.in-Tuple.is, form_of-Tuple) at c.requires)))

pub after_value-returns-in-Tuple : goal.after_value-returns-in-Tuple
after_value-returns-in-Tuple t c = rw (c.in-Tuple.is, form_of-Tuple, written_tuple _ _ _ c.parts_in.ensures) (rw c.as_slice.ensures at c.after_parts.ensures)

pub after_value-parts_in-requires-in-Fields : goal.after_value-parts_in-requires-in-Fields
after_value-parts_in-requires-in-Fields t c = is_record _ _ (rw (c.in-Fields.is, form_of-Fields) at c.requires)

pub after_value-after_fields-requires : goal.after_value-after_fields-requires
after_value-after_fields-requires t c =
    (search (rules, shape_lemmas), rw c.as_slice-in-Fields.ensures (record_writable _ _ _ c.parts_in-in-Fields.ensures (rw (c.in-Fields.is, form_of-Fields) at c.requires)))

pub after_value-returns-in-Fields : goal.after_value-returns-in-Fields
after_value-returns-in-Fields t c = rw (c.in-Fields.is, form_of-Fields, written_fields _ _ _ c.parts_in-in-Fields.ensures) (rw c.as_slice-in-Fields.ensures at c.after_fields.ensures)

-- ---- options

pub after_option-option_in-requires : goal.after_option-option_in-requires
after_option-option_in-requires t c = is_option _ _ c.requires

pub after_option-returns-in-None : goal.after_option-returns-in-None
after_option-returns-in-None t c = rw (written_opt-Absent _ _ c.in-None.ensures) (taken _ 1 (0 ∷ []) refl _ c.checked_sub.ensures)

pub after_option-after_value-requires : goal.after_option-after_value-requires
after_option-after_value-requires t c = (search rules, present_writable _ _ _ c.in-Some.ensures c.requires)

pub after_option-returns-in_err-checked_sub-in-Some : goal.after_option-returns-in_err-checked_sub-in-Some
after_option-returns-in_err-checked_sub-in-Some t c =
    rw (written_opt-Present _ _ _ c.in-Some.ensures) (not_taken _ 1 (1 ∷ []) refl _ _ c.from_residual.ensures c.in_err-checked_sub-in-Some.ensures)

pub after_option-returns-in_ok-checked_sub-in-Some : goal.after_option-returns-in_ok-checked_sub-in-Some
after_option-returns-in_ok-checked_sub-in-Some t c =
    rw (written_opt-Present _ _ _ c.in-Some.ensures) (taken_then _ 1 (1 ∷ []) refl _ _ _ c.in_ok-checked_sub-in-Some.ensures c.after_value.ensures)

-- ---- lists

pub after_list-items_in-items-requires : goal.after_list-items_in-items-requires
after_list-items_in-items-requires t c = is_list _ _ c.requires

pub after_list-after_items-requires : goal.after_list-after_items-requires
after_list-after_items-requires t c = (search rules, items_writable _ _ _ c.items_in-items.ensures c.requires)

pub after_list-returns-in_err-left : goal.after_list-returns-in_err-left
after_list-returns-in_err-left t c =
    let vs = c.items_in-items.result.now in
    rw (written_listed _ _ vs c.items_in-items.ensures)
    (not_taken _ _ (written_nat (length vs)) c.nat_len.ensures (flat_map (written (form_of c.args.item.now)) vs) _ c.from_residual.ensures c.in_err-left.ensures)

pub after_list-returns : goal.after_list-returns
after_list-returns t c =
    let vs = c.items_in-items.result.now in
    rw (written_listed _ _ vs c.items_in-items.ensures)
    (taken_then _ _ (written_nat (length vs)) c.nat_len.ensures _ (flat_map (written (form_of c.args.item.now)) vs) _ c.in_ok-left.ensures c.after_items.ensures)

pub after_items-returns : goal.after_items-returns
after_items-returns t c = uses_done _ _ _ _ c.loop-value.invariant (rest_done (written (form_of c.args.item.now)) _ _ c.loop-value-test.false)

-- ---- parts

pub after_parts-bounds-values-place : goal.after_parts-bounds-values-place
after_parts-bounds-values-place t c = omega (arith, as_many unnamed (map form_of c.args.shapes.now) c.args.values.now c.requires, length-map c.args.shapes.now form_of)

pub after_parts-after_value-requires : goal.after_parts-after_value-requires
after_parts-after_value-requires t c =
    let lt : c.loop-place.place < length (map form_of c.args.shapes.now) = rw (length-map c.args.shapes.now form_of) c.loop-place-test.true in (
      search (rules, shape_lemmas, get_or_read),
      part_writable unnamed (map form_of c.args.shapes.now) c.args.values.now c.requires _ _ _
          (mapped_at form_of c.args.shapes.now _ _ c.loop-place-test.true c.index-shapes-place.is)
          (value_at unnamed (map form_of c.args.shapes.now) c.args.values.now c.requires _ _ lt c.index-values-place.is),
    )

pub after_parts-loop-place-preserved : goal.after_parts-loop-place-preserved
after_parts-loop-place-preserved t c =
    let lt : c.loop-place.place < length (map form_of c.args.shapes.now) = rw (length-map c.args.shapes.now form_of) c.loop-place-test.true in
    uses_next _ _ _ _ c.loop-place.invariant _ _ _
    (parts_next unnamed (map form_of c.args.shapes.now) c.args.values.now _ _ _
    (mapped_at form_of c.args.shapes.now _ _ c.loop-place-test.true c.index-shapes-place.is)
    (value_at unnamed (map form_of c.args.shapes.now) c.args.values.now c.requires _ _ lt c.index-values-place.is))
    c.in_ok-left.ensures

pub after_parts-returns-in_err-left : goal.after_parts-returns-in_err-left
after_parts-returns-in_err-left t c =
    let lt : c.loop-place.place < length (map form_of c.args.shapes.now) = rw (length-map c.args.shapes.now form_of) c.loop-place-test.true in
    uses_none _ _ _ _ c.loop-place.invariant _ _ _
    (parts_next unnamed (map form_of c.args.shapes.now) c.args.values.now _ _ _
    (mapped_at form_of c.args.shapes.now _ _ c.loop-place-test.true c.index-shapes-place.is)
    (value_at unnamed (map form_of c.args.shapes.now) c.args.values.now c.requires _ _ lt c.index-values-place.is))
    c.from_residual.ensures c.in_err-left.ensures

pub after_parts-returns : goal.after_parts-returns
after_parts-returns t c =
    uses_done _ _ _ _ c.loop-place.invariant (parts_done unnamed (map form_of c.args.shapes.now) c.args.values.now _ (rw (length-map c.args.shapes.now form_of) c.loop-place-test.false))

pub after_fields-bounds-values-place : goal.after_fields-bounds-values-place
after_fields-bounds-values-place t c = omega (arith, as_many field_form c.args.fields.now c.args.values.now c.requires)

pub after_fields-after_value-requires : goal.after_fields-after_value-requires
after_fields-after_value-requires t c = (
  search (rules, shape_lemmas, get_or_read),
  part_writable field_form c.args.fields.now c.args.values.now c.requires _ _ _
      (read_at c.args.fields.now _ _ c.loop-place-test.true c.index-fields-place.is)
      (value_at field_form c.args.fields.now c.args.values.now c.requires _ _ c.loop-place-test.true c.index-values-place.is),
)

pub after_fields-loop-place-preserved : goal.after_fields-loop-place-preserved
after_fields-loop-place-preserved t c =
    uses_next _ _ _ _ c.loop-place.invariant _ _ _
    (parts_next field_form c.args.fields.now c.args.values.now _ _ _
    (read_at c.args.fields.now _ _ c.loop-place-test.true c.index-fields-place.is)
    (value_at field_form c.args.fields.now c.args.values.now c.requires _ _ c.loop-place-test.true c.index-values-place.is))
    c.in_ok-left.ensures

pub after_fields-returns-in_err-left : goal.after_fields-returns-in_err-left
after_fields-returns-in_err-left t c =
    uses_none _ _ _ _ c.loop-place.invariant _ _ _
    (parts_next field_form c.args.fields.now c.args.values.now _ _ _
    (read_at c.args.fields.now _ _ c.loop-place-test.true c.index-fields-place.is)
    (value_at field_form c.args.fields.now c.args.values.now c.requires _ _ c.loop-place-test.true c.index-values-place.is))
    c.from_residual.ensures c.in_err-left.ensures

pub after_fields-returns : goal.after_fields-returns
after_fields-returns t c =
    uses_done _ _ _ _ c.loop-place.invariant (parts_done field_form c.args.fields.now c.args.values.now _ c.loop-place-test.false)

-- ---- cases

pub after_sum-case_in-place-requires : goal.after_sum-case_in-place-requires
after_sum-case_in-place-requires t c = is_sum _ _ c.requires

pub after_sum-bounds-sum-place : goal.after_sum-bounds-sum-place
after_sum-bounds-sum-place t c = omega (arith, (sum_case _ _ _ _ c.case_in-place.ensures c.requires).1.within, length-map c.args.sum.now case_form)

pub after_sum-after_parts-requires : goal.after_sum-after_parts-requires
after_sum-after_parts-requires t c =
    let has = (sum_case _ _ _ _ c.case_in-place.ensures c.requires).1 in
    let lt : c.case_in-place.result.0 < length c.args.sum.now = omega (arith, has.within, length-map c.args.sum.now case_form) in
    (search (rules, shape_lemmas, get_or_read), rw (c.as_slice.ensures, ← c.index-sum-place.is) (has.writable _ (mapped_at case_form c.args.sum.now _ _ lt c.index-sum-place.is)))

pub after_sum-returns-in_err-left : goal.after_sum-returns-in_err-left
after_sum-returns-in_err-left t c =
    rw (written_sum _ _ _ _ c.case_in-place.ensures) (not_taken _ 1 (c.case_in-place.result.0 ∷ []) refl _ _ c.from_residual.ensures c.in_err-left.ensures)

pub after_sum-returns : goal.after_sum-returns
after_sum-returns t c =
    let has = (sum_case _ _ _ _ c.case_in-place.ensures c.requires).1 in
    let lt : c.case_in-place.result.0 < length c.args.sum.now = omega (arith, has.within, length-map c.args.sum.now case_form) in
    rw (written_sum _ _ _ _ c.case_in-place.ensures, case_at _ _ _ _ (mapped_at case_form c.args.sum.now _ _ lt c.index-sum-place.is))
    (taken_then _ 1 (c.case_in-place.result.0 ∷ []) refl _ _ _ c.in_ok-left.ensures (rw (c.as_slice.ensures, ← c.index-sum-place.is) at c.after_parts.ensures))

pub after_poly-case_in-place-requires : goal.after_poly-case_in-place-requires
after_poly-case_in-place-requires t c = is_poly _ _ c.requires

pub after_poly-bounds-poly-place : goal.after_poly-bounds-poly-place
after_poly-bounds-poly-place t c = omega (arith, (poly_case _ _ _ _ c.case_in-place.ensures c.requires).within, length-map c.args.poly.now poly_form)

pub after_poly-bounds-args-0 : goal.after_poly-bounds-args-0
after_poly-bounds-args-0 t c =
    let has = poly_case _ _ _ _ c.case_in-place.ensures c.requires in
    let lt : c.case_in-place.result.0 < length c.args.poly.now = omega (arith, has.within, length-map c.args.poly.now poly_form) in
    let case = c.index-poly-place.result in
    let at = mapped_at poly_form c.args.poly.now _ _ lt c.index-poly-place.is in
    one_argument case.arg _ c.in-Some.is _ (has.writable _ at)

pub after_poly-after_value-requires : goal.after_poly-after_value-requires
after_poly-after_value-requires t c =
    let has = poly_case _ _ _ _ c.case_in-place.ensures c.requires in
    let lt : c.case_in-place.result.0 < length c.args.poly.now = omega (arith, has.within, length-map c.args.poly.now poly_form) in
    let case = c.index-poly-place.result in
    let at = mapped_at poly_form c.args.poly.now _ _ lt c.index-poly-place.is in
    let some : 0 < length c.case_in-place.result.1.now = one_argument case.arg _ c.in-Some.is _ (has.writable _ at) in (
      search (rules, shape_lemmas, get_or_read),
      rw c.get.ensures
          (argument_writable case.arg _ c.in-Some.is _ (has.writable _ at) _ (read_at c.case_in-place.result.1.now _ _ some c.index-args-0.is)),
    )

pub after_poly-returns-in_err-left : goal.after_poly-returns-in_err-left
after_poly-returns-in_err-left t c =
    let has = poly_case _ _ _ _ c.case_in-place.ensures c.requires in
    let lt : c.case_in-place.result.0 < length c.args.poly.now = omega (arith, has.within, length-map c.args.poly.now poly_form) in
    let case = c.index-poly-place.result in
    let at = mapped_at poly_form c.args.poly.now _ _ lt c.index-poly-place.is in
    rw (written_poly _ _ _ _ c.case_in-place.ensures _ at)
    (not_taken _ 4 (signed_bytes 4 (tag_of case.name)) (sym (length-signed_bytes 4 (tag_of case.name))) _ _ c.from_residual.ensures c.in_err-left.ensures)

pub after_poly-returns-in-None : goal.after_poly-returns-in-None
after_poly-returns-in-None t c =
    let has = poly_case _ _ _ _ c.case_in-place.ensures c.requires in
    let lt : c.case_in-place.result.0 < length c.args.poly.now = omega (arith, has.within, length-map c.args.poly.now poly_form) in
    let case = c.index-poly-place.result in
    let at = mapped_at poly_form c.args.poly.now _ _ lt c.index-poly-place.is in
    rw (written_poly _ _ _ _ c.case_in-place.ensures _ at)
    (rw (written_argument-None case.arg c.case_in-place.result.1.now c.in-None.is, append-nil (signed_bytes 4 (tag_of case.name)))
    (taken _ 4 (signed_bytes 4 (tag_of case.name)) (sym (length-signed_bytes 4 (tag_of case.name))) (Some c.in_ok-left.left) c.in_ok-left.ensures))

pub after_poly-returns-in-Some : goal.after_poly-returns-in-Some
after_poly-returns-in-Some t c =
    let has = poly_case _ _ _ _ c.case_in-place.ensures c.requires in
    let lt : c.case_in-place.result.0 < length c.args.poly.now = omega (arith, has.within, length-map c.args.poly.now poly_form) in
    let case = c.index-poly-place.result in
    let at = mapped_at poly_form c.args.poly.now _ _ lt c.index-poly-place.is in
    let some : 0 < length c.case_in-place.result.1.now = one_argument case.arg _ c.in-Some.is _ (has.writable _ at) in
    rw (written_poly _ _ _ _ c.case_in-place.ensures _ at)
    (rw (written_argument-Some case.arg c.in-Some.shape c.case_in-place.result.1.now c.index-args-0.result c.in-Some.is (read_at c.case_in-place.result.1.now _ _ some c.index-args-0.is))
    (taken_then _ 4 (signed_bytes 4 (tag_of case.name)) (sym (length-signed_bytes 4 (tag_of case.name))) _ _ _ c.in_ok-left.ensures (rw c.get.ensures at c.after_value.ensures)))
