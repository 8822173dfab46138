-- By the variant of the shape; in a loop, value by value.
use Rattle.std.proofs.Common.{◌<◌, [], ◌∷◌, length, map, arith, rules, append-nil}
use Rattle.std.specs.List.{flat_map}
use Rattle.std.proofs.lemmas.List.{length-map, get_or_read}
use Rattle.std.proofs.lemmas.List.Elements.{All-weaker}
use Rattle.bp_num.specs.Forms.{signed_bytes, written_nat}
use Rattle.bp_value.specs.declared.shape.Shape.{the_lemmas as shape_lemmas}
use Rattle.bp_value.specs.Form.{form_of, field_form, case_form, poly_form, unnamed, parts, named_parts}
use Rattle.bp_value.specs.Form as form
use Rattle.bp_value.specs.Tags.{tag_of}
use Rattle.bp_value.proofs.Forms.{form_of-Unit, form_of-Bool, form_of-Char, form_of-Int, form_of-Int32, form_of-Int64, form_of-Text, form_of-Opt, form_of-List, form_of-Tuple, form_of-Fields, form_of-Sum, form_of-Poly, form_of-Sexp}
use Rattle.bp_grammar.specs.Written.{written}
use Rattle.bp_codec.specs.Fitting.{IsWritable}
use Rattle.bp_codec.proofs.WrittenLayers.{rest_done, written_opt-Absent, written_opt-Present, written_listed, written_tuple, written_fields, written_sum, written_poly, case_at, written_argument-None, written_argument-Some, parts_next, parts_done}
use Rattle.bp_codec.proofs.Putting.{puts_then, puts_failed, leads_next, leads_failed, leads_done}
use Rattle.bp_codec.proofs.Writable.{is_bool, is_char, is_int, is_int32, is_int64, is_text, is_sexp, is_option, present_writable, is_list, items_writable, is_tuple, is_record, tuple_writable, record_writable, read_at, mapped_at, value_at, as_many, part_writable, is_sum, is_poly, sum_case, poly_case, one_argument, argument_writable}
use Rattle.bp_codec.proofs.encoding.+puts.Goals as goal

-- ---- the dispatch

pub put_value-returns-in-Unit : goal.put_value-returns-in-Unit
unfolding written
put_value-returns-in-Unit t c = rw (c.in-Unit.is, form_of-Unit) c.put_byte.ensures

pub put_value-put_bool-requires : goal.put_value-put_bool-requires
put_value-put_bool-requires t c = is_bool _ (rw (c.in-Bool.is, form_of-Bool) at c.requires)

pub put_value-returns-in-Bool : goal.put_value-returns-in-Bool
unfolding written
put_value-returns-in-Bool t c = rw (c.in-Bool.is, form_of-Bool) c.put_bool.ensures

pub put_value-put_char-requires : goal.put_value-put_char-requires
put_value-put_char-requires t c = is_char _ (rw (c.in-Char.is, form_of-Char) at c.requires)

pub put_value-returns-in-Char : goal.put_value-returns-in-Char
unfolding written
put_value-returns-in-Char t c = rw (c.in-Char.is, form_of-Char) c.put_char.ensures

pub put_value-put_number-requires : goal.put_value-put_number-requires
put_value-put_number-requires t c = is_int _ (rw (c.in-Int.is, form_of-Int) at c.requires)

pub put_value-returns-in-Int : goal.put_value-returns-in-Int
unfolding written
put_value-returns-in-Int t c = rw (c.in-Int.is, form_of-Int) c.put_number.ensures

pub put_value-put_number-requires-in-Int32 : goal.put_value-put_number-requires-in-Int32
put_value-put_number-requires-in-Int32 t c = is_int32 _ (rw (c.in-Int32.is, form_of-Int32) at c.requires)

pub put_value-returns-in-Int32 : goal.put_value-returns-in-Int32
unfolding written
put_value-returns-in-Int32 t c = rw (c.in-Int32.is, form_of-Int32) c.put_number-in-Int32.ensures

pub put_value-put_number-requires-in-Int64 : goal.put_value-put_number-requires-in-Int64
put_value-put_number-requires-in-Int64 t c = is_int64 _ (rw (c.in-Int64.is, form_of-Int64) at c.requires)

pub put_value-returns-in-Int64 : goal.put_value-returns-in-Int64
unfolding written
put_value-returns-in-Int64 t c = rw (c.in-Int64.is, form_of-Int64) c.put_number-in-Int64.ensures

pub put_value-put_text-requires : goal.put_value-put_text-requires
put_value-put_text-requires t c = is_text _ (rw (c.in-Text.is, form_of-Text) at c.requires)

pub put_value-returns-in-Text : goal.put_value-returns-in-Text
unfolding written
put_value-returns-in-Text t c = rw (c.in-Text.is, form_of-Text) c.put_text.ensures

pub put_value-put_any_sexp-requires : goal.put_value-put_any_sexp-requires
put_value-put_any_sexp-requires t c = is_sexp _ (rw (c.in-Sexp.is, form_of-Sexp) at c.requires)

pub put_value-returns-in-Sexp : goal.put_value-returns-in-Sexp
unfolding written
put_value-returns-in-Sexp t c = rw (c.in-Sexp.is, form_of-Sexp) c.put_any_sexp.ensures

pub put_value-put_option-requires : goal.put_value-put_option-requires
put_value-put_option-requires t c = (search (rules, shape_lemmas), rw c.get.ensures (rw (c.in-Opt.is, form_of-Opt) at c.requires))

pub put_value-returns-in-Opt : goal.put_value-returns-in-Opt
put_value-returns-in-Opt t c = rw (c.in-Opt.is, form_of-Opt) (rw c.get.ensures at c.put_option.ensures)

pub put_value-put_list-requires : goal.put_value-put_list-requires
put_value-put_list-requires t c = (search (rules, shape_lemmas), rw c.get-in-List.ensures (rw (c.in-List.is, form_of-List) at c.requires))

pub put_value-returns-in-List : goal.put_value-returns-in-List
put_value-returns-in-List t c = rw (c.in-List.is, form_of-List) (rw c.get-in-List.ensures at c.put_list.ensures)

pub put_value-put_tuple-requires : goal.put_value-put_tuple-requires
put_value-put_tuple-requires t c = (search (rules, shape_lemmas), rw c.as_slice.ensures (rw (c.in-Tuple.is, form_of-Tuple) at c.requires))

pub put_value-returns-in-Tuple : goal.put_value-returns-in-Tuple
put_value-returns-in-Tuple t c = rw (c.in-Tuple.is, form_of-Tuple) (rw c.as_slice.ensures at c.put_tuple.ensures)

pub put_value-put_record-requires : goal.put_value-put_record-requires
put_value-put_record-requires t c = (search (rules, shape_lemmas), rw c.as_slice-in-Fields.ensures (rw (c.in-Fields.is, form_of-Fields) at c.requires))

pub put_value-returns-in-Fields : goal.put_value-returns-in-Fields
put_value-returns-in-Fields t c = rw (c.in-Fields.is, form_of-Fields) (rw c.as_slice-in-Fields.ensures at c.put_record.ensures)

pub put_value-put_sum-requires : goal.put_value-put_sum-requires
put_value-put_sum-requires t c = (search (rules, shape_lemmas), rw c.as_slice-in-Sum.ensures (rw (c.in-Sum.is, form_of-Sum) at c.requires))

pub put_value-returns-in-Sum : goal.put_value-returns-in-Sum
put_value-returns-in-Sum t c = rw (c.in-Sum.is, form_of-Sum) (rw c.as_slice-in-Sum.ensures at c.put_sum.ensures)

pub put_value-put_poly-requires : goal.put_value-put_poly-requires
put_value-put_poly-requires t c = (search (rules, shape_lemmas), rw c.as_slice-in-Poly.ensures (rw (c.in-Poly.is, form_of-Poly) at c.requires))

pub put_value-returns-in-Poly : goal.put_value-returns-in-Poly
put_value-returns-in-Poly t c = rw (c.in-Poly.is, form_of-Poly) (rw c.as_slice-in-Poly.ensures at c.put_poly.ensures)

-- ---- options

pub put_option-option_in-requires : goal.put_option-option_in-requires
put_option-option_in-requires t c = is_option _ _ c.requires

pub put_option-returns-in-None : goal.put_option-returns-in-None
put_option-returns-in-None t c = rw (written_opt-Absent _ _ c.in-None.ensures) c.put_byte.ensures

pub put_option-put_value-requires : goal.put_option-put_value-requires
put_option-put_value-requires t c = (search rules, present_writable _ _ _ c.in-Some.ensures c.requires)

pub put_option-returns-in_err-put_byte-in-Some : goal.put_option-returns-in_err-put_byte-in-Some
put_option-returns-in_err-put_byte-in-Some t c =
    rw (written_opt-Present _ _ _ c.in-Some.ensures) (puts_failed _ (1 ∷ []) _ _ _ _ _ c.from_residual.ensures.1 c.in_err-put_byte-in-Some.ensures)

pub put_option-returns-in_ok-put_byte-in-Some : goal.put_option-returns-in_ok-put_byte-in-Some
put_option-returns-in_ok-put_byte-in-Some t c =
    rw (written_opt-Present _ _ _ c.in-Some.ensures) (puts_then _ (1 ∷ []) _ _ _ _ _ c.in_ok-put_byte-in-Some.ensures c.put_value.ensures)

-- ---- lists

pub put_list-items_in-items-requires : goal.put_list-items_in-items-requires
put_list-items_in-items-requires t c = is_list _ _ c.requires

pub put_list-put_items-requires : goal.put_list-put_items-requires
put_list-put_items-requires t c = (search rules, items_writable _ _ _ c.items_in-items.ensures c.requires)

pub put_list-returns-in_err-put_nat : goal.put_list-returns-in_err-put_nat
put_list-returns-in_err-put_nat t c =
    let vs = c.items_in-items.result.now in
    rw (written_listed _ _ vs c.items_in-items.ensures)
    (puts_failed _ (written_nat (length vs)) (flat_map (written (form_of c.args.item.now)) vs) _ _ _ _ c.from_residual.ensures.1 c.in_err-put_nat.ensures)

pub put_list-returns : goal.put_list-returns
put_list-returns t c =
    let vs = c.items_in-items.result.now in
    rw (written_listed _ _ vs c.items_in-items.ensures)
    (puts_then _ (written_nat (length vs)) (flat_map (written (form_of c.args.item.now)) vs) _ _ _ _ c.in_ok-put_nat.ensures c.put_items.ensures)

pub put_items-put_numbers-requires : goal.put_items-put_numbers-requires
put_items-put_numbers-requires t c = All-weaker (IsWritable form.int) _ is_int _ (rw (c.in-Int.is, form_of-Int) at c.requires)

pub put_items-put_numbers-requires-in-Int32 : goal.put_items-put_numbers-requires-in-Int32
put_items-put_numbers-requires-in-Int32 t c = All-weaker (IsWritable form.int32) _ is_int32 _ (rw (c.in-Int32.is, form_of-Int32) at c.requires)

pub put_items-put_numbers-requires-in-Int64 : goal.put_items-put_numbers-requires-in-Int64
put_items-put_numbers-requires-in-Int64 t c = All-weaker (IsWritable form.int64) _ is_int64 _ (rw (c.in-Int64.is, form_of-Int64) at c.requires)

pub put_items-put_texts-requires : goal.put_items-put_texts-requires
put_items-put_texts-requires t c = All-weaker (IsWritable form.text) _ is_text _ (rw (c.in-Text.is, form_of-Text) at c.requires)

pub put_items-returns-in-Int : goal.put_items-returns-in-Int
unfolding written
put_items-returns-in-Int t c = rw (c.in-Int.is, form_of-Int) c.put_numbers.ensures

pub put_items-returns-in-Int32 : goal.put_items-returns-in-Int32
unfolding written
put_items-returns-in-Int32 t c = rw (c.in-Int32.is, form_of-Int32) c.put_numbers-in-Int32.ensures

pub put_items-returns-in-Int64 : goal.put_items-returns-in-Int64
unfolding written
put_items-returns-in-Int64 t c = rw (c.in-Int64.is, form_of-Int64) c.put_numbers-in-Int64.ensures

pub put_items-returns-in-Text : goal.put_items-returns-in-Text
unfolding written
put_items-returns-in-Text t c = rw (c.in-Text.is, form_of-Text) c.put_texts.ensures

pub put_each-returns : goal.put_each-returns
put_each-returns t c = leads_done _ _ _ _ _ c.loop-value.invariant (rest_done (written (form_of c.args.item.now)) _ _ c.loop-value-test.false)

-- ---- parts

pub put_tuple-parts_in-requires : goal.put_tuple-parts_in-requires
put_tuple-parts_in-requires t c = is_tuple _ _ c.requires

pub put_tuple-put_parts-requires : goal.put_tuple-put_parts-requires
put_tuple-put_parts-requires t c = (search rules, tuple_writable _ _ _ c.parts_in.ensures c.requires)

pub put_tuple-returns : goal.put_tuple-returns
put_tuple-returns t c = rw (written_tuple _ _ _ c.parts_in.ensures) c.put_parts.ensures

pub put_parts-bounds-values-place : goal.put_parts-bounds-values-place
put_parts-bounds-values-place t c =
    omega (arith, as_many unnamed (map form_of c.args.shapes.now) c.args.values.now c.requires, length-map c.args.shapes.now form_of)

pub put_parts-put_value-requires : goal.put_parts-put_value-requires
put_parts-put_value-requires t c =
    let lt : c.loop-place.place < length (map form_of c.args.shapes.now) = rw (length-map c.args.shapes.now form_of) c.loop-place-test.true in (
      search (rules, shape_lemmas, get_or_read),
      part_writable unnamed (map form_of c.args.shapes.now) c.args.values.now c.requires _ _ _
          (mapped_at form_of c.args.shapes.now _ _ c.loop-place-test.true c.index-shapes-place.is)
          (value_at unnamed (map form_of c.args.shapes.now) c.args.values.now c.requires _ _ lt c.index-values-place.is),
    )

pub put_parts-loop-place-preserved : goal.put_parts-loop-place-preserved
put_parts-loop-place-preserved t c =
    let lt : c.loop-place.place < length (map form_of c.args.shapes.now) = rw (length-map c.args.shapes.now form_of) c.loop-place-test.true in
    leads_next _ _ _ _ _ c.loop-place.invariant _ _ _
    (parts_next unnamed (map form_of c.args.shapes.now) c.args.values.now _ _ _
    (mapped_at form_of c.args.shapes.now _ _ c.loop-place-test.true c.index-shapes-place.is)
    (value_at unnamed (map form_of c.args.shapes.now) c.args.values.now c.requires _ _ lt c.index-values-place.is))
    c.in_ok-put_value.ensures

pub put_parts-returns-in_err-put_value : goal.put_parts-returns-in_err-put_value
put_parts-returns-in_err-put_value t c =
    let lt : c.loop-place.place < length (map form_of c.args.shapes.now) = rw (length-map c.args.shapes.now form_of) c.loop-place-test.true in
    leads_failed _ _ _ _ _ c.loop-place.invariant _ _ _ _ _
    (parts_next unnamed (map form_of c.args.shapes.now) c.args.values.now _ _ _
    (mapped_at form_of c.args.shapes.now _ _ c.loop-place-test.true c.index-shapes-place.is)
    (value_at unnamed (map form_of c.args.shapes.now) c.args.values.now c.requires _ _ lt c.index-values-place.is))
    c.from_residual.ensures.1 c.in_err-put_value.ensures

pub put_parts-returns : goal.put_parts-returns
put_parts-returns t c =
    leads_done _ _ _ _ _ c.loop-place.invariant
    (parts_done unnamed (map form_of c.args.shapes.now) c.args.values.now _ (rw (length-map c.args.shapes.now form_of) c.loop-place-test.false))

pub put_record-parts_in-values-requires : goal.put_record-parts_in-values-requires
put_record-parts_in-values-requires t c = is_record _ _ c.requires

pub put_record-bounds-values-place : goal.put_record-bounds-values-place
put_record-bounds-values-place t c =
    let w = record_writable _ _ _ c.parts_in-values.ensures c.requires in
    omega (arith, as_many field_form c.args.fields.now c.parts_in-values.result.now w)

pub put_record-put_value-requires : goal.put_record-put_value-requires
put_record-put_value-requires t c =
    let w = record_writable _ _ _ c.parts_in-values.ensures c.requires in (
      search (rules, shape_lemmas, get_or_read),
      part_writable field_form c.args.fields.now c.parts_in-values.result.now w _ _ _
          (read_at c.args.fields.now _ _ c.loop-place-test.true c.index-fields-place.is)
          (value_at field_form c.args.fields.now c.parts_in-values.result.now w _ _ c.loop-place-test.true c.index-values-place.is),
    )

pub put_record-loop-place-preserved : goal.put_record-loop-place-preserved
put_record-loop-place-preserved t c =
    let w = record_writable _ _ _ c.parts_in-values.ensures c.requires in
    leads_next _ _ _ _ _ c.loop-place.invariant _ _ _
    (parts_next field_form c.args.fields.now c.parts_in-values.result.now _ _ _
    (read_at c.args.fields.now _ _ c.loop-place-test.true c.index-fields-place.is)
    (value_at field_form c.args.fields.now c.parts_in-values.result.now w _ _ c.loop-place-test.true c.index-values-place.is))
    c.in_ok-put_value.ensures

pub put_record-returns-in_err-put_value : goal.put_record-returns-in_err-put_value
put_record-returns-in_err-put_value t c =
    let w = record_writable _ _ _ c.parts_in-values.ensures c.requires in
    rw (written_fields _ _ _ c.parts_in-values.ensures)
    (leads_failed _ _ _ _ _ c.loop-place.invariant _ _ _ _ _
    (parts_next field_form c.args.fields.now c.parts_in-values.result.now _ _ _
    (read_at c.args.fields.now _ _ c.loop-place-test.true c.index-fields-place.is)
    (value_at field_form c.args.fields.now c.parts_in-values.result.now w _ _ c.loop-place-test.true c.index-values-place.is))
    c.from_residual.ensures.1 c.in_err-put_value.ensures)

pub put_record-returns : goal.put_record-returns
put_record-returns t c =
    rw (written_fields _ _ _ c.parts_in-values.ensures)
    (leads_done _ _ _ _ _ c.loop-place.invariant (parts_done field_form c.args.fields.now c.parts_in-values.result.now _ c.loop-place-test.false))

-- ---- cases

pub put_sum-case_in-place-requires : goal.put_sum-case_in-place-requires
put_sum-case_in-place-requires t c = is_sum _ _ c.requires

pub put_sum-overflow_cast-place : goal.put_sum-overflow_cast-place
put_sum-overflow_cast-place t c = omega (arith, (sum_case _ _ _ _ c.case_in-place.ensures c.requires).0)

pub put_sum-bounds-sum-place : goal.put_sum-bounds-sum-place
put_sum-bounds-sum-place t c = omega (arith, (sum_case _ _ _ _ c.case_in-place.ensures c.requires).1.within, length-map c.args.sum.now case_form)

pub put_sum-put_parts-requires : goal.put_sum-put_parts-requires
put_sum-put_parts-requires t c =
    let has = (sum_case _ _ _ _ c.case_in-place.ensures c.requires).1 in
    let lt : c.case_in-place.result.0 < length c.args.sum.now = omega (arith, has.within, length-map c.args.sum.now case_form) in
    (search (rules, shape_lemmas, get_or_read), rw (c.as_slice.ensures, ← c.index-sum-place.is) (has.writable _ (mapped_at case_form c.args.sum.now _ _ lt c.index-sum-place.is)))

pub put_sum-returns-in_err-put_byte : goal.put_sum-returns-in_err-put_byte
put_sum-returns-in_err-put_byte t c =
    rw (written_sum _ _ _ _ c.case_in-place.ensures) (puts_failed _ (c.case_in-place.result.0 ∷ []) _ _ _ _ _ c.from_residual.ensures.1 c.in_err-put_byte.ensures)

pub put_sum-returns : goal.put_sum-returns
put_sum-returns t c =
    let has = (sum_case _ _ _ _ c.case_in-place.ensures c.requires).1 in
    let lt : c.case_in-place.result.0 < length c.args.sum.now = omega (arith, has.within, length-map c.args.sum.now case_form) in
    rw (written_sum _ _ _ _ c.case_in-place.ensures, case_at _ _ _ _ (mapped_at case_form c.args.sum.now _ _ lt c.index-sum-place.is))
    (puts_then _ (c.case_in-place.result.0 ∷ []) _ _ _ _ _ c.in_ok-put_byte.ensures (rw (c.as_slice.ensures, ← c.index-sum-place.is) at c.put_parts.ensures))

pub put_poly-case_in-place-requires : goal.put_poly-case_in-place-requires
put_poly-case_in-place-requires t c = is_poly _ _ c.requires

pub put_poly-bounds-poly-place : goal.put_poly-bounds-poly-place
put_poly-bounds-poly-place t c = omega (arith, (poly_case _ _ _ _ c.case_in-place.ensures c.requires).within, length-map c.args.poly.now poly_form)

pub put_poly-bounds-args-0 : goal.put_poly-bounds-args-0
put_poly-bounds-args-0 t c =
    let has = poly_case _ _ _ _ c.case_in-place.ensures c.requires in
    let lt : c.case_in-place.result.0 < length c.args.poly.now = omega (arith, has.within, length-map c.args.poly.now poly_form) in
    one_argument c.index-poly-place.result.arg _ c.in-Some.is _ (has.writable _ (mapped_at poly_form c.args.poly.now _ _ lt c.index-poly-place.is))

pub put_poly-put_value-requires : goal.put_poly-put_value-requires
put_poly-put_value-requires t c =
    let has = poly_case _ _ _ _ c.case_in-place.ensures c.requires in
    let lt : c.case_in-place.result.0 < length c.args.poly.now = omega (arith, has.within, length-map c.args.poly.now poly_form) in
    let w = has.writable _ (mapped_at poly_form c.args.poly.now _ _ lt c.index-poly-place.is) in
    let some : 0 < length c.case_in-place.result.1.now = one_argument c.index-poly-place.result.arg _ c.in-Some.is _ w in (
      search (rules, shape_lemmas, get_or_read),
      rw c.get.ensures
          (argument_writable c.index-poly-place.result.arg _ c.in-Some.is _ w _ (read_at c.case_in-place.result.1.now _ _ some c.index-args-0.is)),
    )

pub put_poly-returns-in_err-put_tag : goal.put_poly-returns-in_err-put_tag
put_poly-returns-in_err-put_tag t c =
    let has = poly_case _ _ _ _ c.case_in-place.ensures c.requires in
    let lt : c.case_in-place.result.0 < length c.args.poly.now = omega (arith, has.within, length-map c.args.poly.now poly_form) in
    let case = c.index-poly-place.result in
    rw (written_poly _ _ _ _ c.case_in-place.ensures _ (mapped_at poly_form c.args.poly.now _ _ lt c.index-poly-place.is))
    (puts_failed _ (signed_bytes 4 (tag_of case.name)) _ _ _ _ _ c.from_residual.ensures.1 (rw c.as_slice.ensures at c.in_err-put_tag.ensures))

pub put_poly-returns-in-None : goal.put_poly-returns-in-None
put_poly-returns-in-None t c =
    let has = poly_case _ _ _ _ c.case_in-place.ensures c.requires in
    let lt : c.case_in-place.result.0 < length c.args.poly.now = omega (arith, has.within, length-map c.args.poly.now poly_form) in
    let case = c.index-poly-place.result in
    rw (written_poly _ _ _ _ c.case_in-place.ensures _ (mapped_at poly_form c.args.poly.now _ _ lt c.index-poly-place.is))
    (rw (written_argument-None case.arg c.case_in-place.result.1.now c.in-None.is, append-nil (signed_bytes 4 (tag_of case.name)))
    (rw c.as_slice.ensures at c.in_ok-put_tag.ensures))

pub put_poly-returns-in-Some : goal.put_poly-returns-in-Some
put_poly-returns-in-Some t c =
    let has = poly_case _ _ _ _ c.case_in-place.ensures c.requires in
    let lt : c.case_in-place.result.0 < length c.args.poly.now = omega (arith, has.within, length-map c.args.poly.now poly_form) in
    let case = c.index-poly-place.result in
    let at = mapped_at poly_form c.args.poly.now _ _ lt c.index-poly-place.is in
    let some : 0 < length c.case_in-place.result.1.now = one_argument case.arg _ c.in-Some.is _ (has.writable _ at) in
    rw (written_poly _ _ _ _ c.case_in-place.ensures _ at)
    (rw (written_argument-Some case.arg c.in-Some.shape c.case_in-place.result.1.now c.index-args-0.result c.in-Some.is (read_at c.case_in-place.result.1.now _ _ some c.index-args-0.is))
    (puts_then _ (signed_bytes 4 (tag_of case.name)) _ _ _ _ _ (rw c.as_slice.ensures at c.in_ok-put_tag.ensures) (rw c.get.ensures at c.put_value.ensures)))
