-- By the variant of the shape; in a loop, value by value.
use Rattle.std.proofs.Common.{refl, sym, ap, ◌≡◌, ◌<◌, ◌∙◌, ◌++◌, ◌+◌, [], ◌∷◌, Ok, length, map, codes, arith, rules, append-nil}
use Rattle.std.specs.Option.{option_map}
use Rattle.std.proofs.lemmas.Option.{slice_get-map}
use Rattle.std.proofs.lemmas.List.{length-map, get_or_read}
use Rattle.bp_value.specs.declared.shape.Shape.{the_lemmas as shape_lemmas}
use Rattle.bp_value.specs.Form.{form_of, field_form, case_form, poly_form, unnamed, named_parts}
use Rattle.bp_value.proofs.Forms.{form_of-Unit, form_of-Bool, form_of-Char, form_of-Int, form_of-Int32, form_of-Int64, form_of-Text, form_of-Opt, form_of-List, form_of-Tuple, form_of-Fields, form_of-Sum, form_of-Poly, form_of-Sexp}
use Rattle.bp_text_grammar.specs.Texts.{backtick, curly_close, curly_open, round_close, round_open, square_close, square_open}
use Rattle.bp_text_grammar.specs.PrintedTexts.{value_text}
use Rattle.bp_text.specs.Printing.{lead}
use Rattle.bp_text.proofs.Appending.{appends_then, leads_start, leads_next, leads_last, read_at, mapped_at, rest_next, rest_done, rest_of}
use Rattle.bp_text.proofs.ValueBytes.{alone, named, texts_by, text_at, texts_few, text_unit, text_bool, text_char, text_int, text_int32, text_int64, text_text, text_sexp, text_absent, text_present, text_listed, text_tuple, text_fields, part_bytes, field_bytes, text_sum, text_poly, no_arguments, some_arguments, argument_none, argument_some}
use Rattle.bp_text.proofs.OfForm.{is_bool, is_char, is_int, is_int32, is_int64, is_text, is_sexp, is_option, present_of, is_list, items_of, item_of, is_tuple, is_record, tuple_parts, record_parts, as_many, value_at, part_of, is_sum, is_poly, sum_case, poly_case, one_argument, argument_of}
use Rattle.bp_text.proofs.printed_values.+values.Goals as goal

-- ---- the dispatch

pub append_value-returns-in-Unit : goal.append_value-returns-in-Unit
append_value-returns-in-Unit t c = rw (c.in-Unit.is, form_of-Unit, text_unit c.args.value.now) c.append_bytes.ensures

pub append_value-append_bool-requires : goal.append_value-append_bool-requires
append_value-append_bool-requires t c = is_bool _ (rw (c.in-Bool.is, form_of-Bool) at c.requires)

pub append_value-returns-in-Bool : goal.append_value-returns-in-Bool
append_value-returns-in-Bool t c = rw (c.in-Bool.is, form_of-Bool, text_bool c.args.value.now) c.append_bool.ensures

pub append_value-char_in-requires : goal.append_value-char_in-requires
append_value-char_in-requires t c = is_char _ (rw (c.in-Char.is, form_of-Char) at c.requires)

pub append_value-returns-in-Char : goal.append_value-returns-in-Char
append_value-returns-in-Char t c = rw (c.in-Char.is, form_of-Char, text_char _ _ c.char_in.ensures) c.append_char.ensures

pub append_value-append_number-requires : goal.append_value-append_number-requires
append_value-append_number-requires t c = is_int _ (rw (c.in-Int.is, form_of-Int) at c.requires)

pub append_value-returns-in-Int : goal.append_value-returns-in-Int
append_value-returns-in-Int t c = rw (c.in-Int.is, form_of-Int, text_int c.args.value.now) c.append_number.ensures

pub append_value-append_number-requires-in-Int32 : goal.append_value-append_number-requires-in-Int32
append_value-append_number-requires-in-Int32 t c = is_int32 _ (rw (c.in-Int32.is, form_of-Int32) at c.requires)

pub append_value-returns-in-Int32 : goal.append_value-returns-in-Int32
append_value-returns-in-Int32 t c = rw (c.in-Int32.is, form_of-Int32, text_int32 c.args.value.now) c.append_number-in-Int32.ensures

pub append_value-append_number-requires-in-Int64 : goal.append_value-append_number-requires-in-Int64
append_value-append_number-requires-in-Int64 t c = is_int64 _ (rw (c.in-Int64.is, form_of-Int64) at c.requires)

pub append_value-returns-in-Int64 : goal.append_value-returns-in-Int64
append_value-returns-in-Int64 t c = rw (c.in-Int64.is, form_of-Int64, text_int64 c.args.value.now) c.append_number-in-Int64.ensures

pub append_value-text_in-requires : goal.append_value-text_in-requires
append_value-text_in-requires t c = is_text _ (rw (c.in-Text.is, form_of-Text) at c.requires)

pub append_value-returns-in-Text : goal.append_value-returns-in-Text
append_value-returns-in-Text t c = rw (c.in-Text.is, form_of-Text, text_text _ _ c.text_in.ensures) c.append_quoted.ensures

pub append_value-sexp_in-requires : goal.append_value-sexp_in-requires
append_value-sexp_in-requires t c = is_sexp _ (rw (c.in-Sexp.is, form_of-Sexp) at c.requires)

pub append_value-returns-in-Sexp : goal.append_value-returns-in-Sexp
append_value-returns-in-Sexp t c = rw (c.in-Sexp.is, form_of-Sexp, text_sexp _ _ c.sexp_in.ensures) c.append_sexp.ensures

pub append_value-append_option-requires : goal.append_value-append_option-requires
append_value-append_option-requires t c = (search (rules, shape_lemmas), rw c.get.ensures (rw (c.in-Opt.is, form_of-Opt) at c.requires))

pub append_value-returns-in-Opt : goal.append_value-returns-in-Opt
append_value-returns-in-Opt t c = rw (c.in-Opt.is, form_of-Opt) (rw c.get.ensures at c.append_option.ensures)

pub append_value-append_list-requires : goal.append_value-append_list-requires
append_value-append_list-requires t c = (search (rules, shape_lemmas), rw c.get-in-List.ensures (rw (c.in-List.is, form_of-List) at c.requires))

pub append_value-returns-in-List : goal.append_value-returns-in-List
append_value-returns-in-List t c = rw (c.in-List.is, form_of-List) (rw c.get-in-List.ensures at c.append_list.ensures)

pub append_value-parts_in-requires : goal.append_value-parts_in-requires
append_value-parts_in-requires t c = is_tuple _ _ (rw (c.in-Tuple.is, form_of-Tuple) at c.requires)

pub append_value-append_parts-requires : goal.append_value-append_parts-requires
append_value-append_parts-requires t c =
    (search (rules, shape_lemmas), rw c.as_slice.ensures (tuple_parts _ _ _ c.parts_in.ensures (rw (c.in-Tuple.is, form_of-Tuple) at c.requires)))

pub append_value-returns-in-Tuple : goal.append_value-returns-in-Tuple
append_value-returns-in-Tuple t c = rw (c.in-Tuple.is, form_of-Tuple, text_tuple _ _ _ c.parts_in.ensures) (rw c.as_slice.ensures at c.append_parts.ensures)

pub append_value-parts_in-requires-in-Fields : goal.append_value-parts_in-requires-in-Fields
append_value-parts_in-requires-in-Fields t c = is_record _ _ (rw (c.in-Fields.is, form_of-Fields) at c.requires)

pub append_value-append_fields-requires : goal.append_value-append_fields-requires
append_value-append_fields-requires t c = (
  search (rules, shape_lemmas),
  rw c.as_slice-in-Fields.ensures (record_parts _ _ _ c.parts_in-in-Fields.ensures (rw (c.in-Fields.is, form_of-Fields) at c.requires)),
)

pub append_value-returns-in-Fields : goal.append_value-returns-in-Fields
append_value-returns-in-Fields t c =
    rw (c.in-Fields.is, form_of-Fields, text_fields _ _ _ c.parts_in-in-Fields.ensures) (rw c.as_slice-in-Fields.ensures at c.append_fields.ensures)

pub append_value-append_sum-requires : goal.append_value-append_sum-requires
append_value-append_sum-requires t c = (search (rules, shape_lemmas), rw c.as_slice-in-Sum.ensures (rw (c.in-Sum.is, form_of-Sum) at c.requires))

pub append_value-returns-in-Sum : goal.append_value-returns-in-Sum
append_value-returns-in-Sum t c = rw (c.in-Sum.is, form_of-Sum) (rw c.as_slice-in-Sum.ensures at c.append_sum.ensures)

pub append_value-append_poly-requires : goal.append_value-append_poly-requires
append_value-append_poly-requires t c = (search (rules, shape_lemmas), rw c.as_slice-in-Poly.ensures (rw (c.in-Poly.is, form_of-Poly) at c.requires))

pub append_value-returns-in-Poly : goal.append_value-returns-in-Poly
append_value-returns-in-Poly t c = rw (c.in-Poly.is, form_of-Poly) (rw c.as_slice-in-Poly.ensures at c.append_poly.ensures)

-- ---- options

pub append_option-option_in-requires : goal.append_option-option_in-requires
append_option-option_in-requires t c = is_option _ _ c.requires

pub append_option-returns-in-None : goal.append_option-returns-in-None
append_option-returns-in-None t c = rw (text_absent _ (form_of c.args.item.now) c.in-None.ensures) c.append_bytes.ensures

pub append_option-append_value-requires : goal.append_option-append_value-requires
append_option-append_value-requires t c = (search rules, present_of _ _ _ c.in-Some.ensures c.requires)

pub append_option-returns-in_ok-append_bytes-in-Some : goal.append_option-returns-in_ok-append_bytes-in-Some
append_option-returns-in_ok-append_bytes-in-Some t c =
    let f = form_of c.args.item.now in
    let fit = present_of f _ _ c.in-Some.ensures c.requires in
    rw (text_present _ fit.0 f _ c.in-Some.ensures fit.1)
    (appends_then (codes "some ") (value_text f _) _ _ _ _ c.in_ok-append_bytes-in-Some.ensures c.append_value.ensures)

-- ---- lists

pub append_list-items_in-values-requires : goal.append_list-items_in-values-requires
append_list-items_in-values-requires t c = is_list _ _ c.requires

pub append_list-loop-place-init : goal.append_list-loop-place-init
append_list-loop-place-init t c =
    let f = form_of c.args.item.now in
    let fit = items_of f _ _ c.items_in-values.ensures c.requires in
    leads_start (square_open ∷ []) _ _ _ _ (text_listed _ fit.0 f _ c.items_in-values.ensures fit.1) c.in_ok-append_byte.ensures

pub append_list-append_member-requires : goal.append_list-append_member-requires
append_list-append_member-requires t c =
    let f = form_of c.args.item.now in
    (search rules, item_of f _ _ _ c.loop-place-test.true c.index-values-place.is (items_of f _ _ c.items_in-values.ensures c.requires))

pub append_list-loop-place-preserved : goal.append_list-loop-place-preserved
append_list-loop-place-preserved t c =
    let w = value_text (form_of c.args.item.now) in
    let values = c.items_in-values.result.now in
    let i = c.loop-place.place in
    let text = w c.index-values-place.result in
    leads_next _ _ _ _ c.loop-place.invariant (lead (codes "; ") i ++ text) (rest_of (codes "; ") (map w values) (i + 1) ++ square_close ∷ []) _
    (rest_next (codes "; ") (map w values) i text (square_close ∷ []) (mapped_at w values i _ c.loop-place-test.true c.index-values-place.is))
    c.in_ok-append_member.ensures

pub append_list-returns : goal.append_list-returns
append_list-returns t c =
    let w = value_text (form_of c.args.item.now) in
    let values = c.items_in-values.result.now in
    leads_last _ _ _ _ c.loop-place.invariant (square_close ∷ []) _ _
    (rest_done (codes "; ") (map w values) c.loop-place.place (square_close ∷ []) (rw (length-map values w) c.loop-place-test.false)) c.append_byte-2.ensures

-- ---- parts

pub append_parts-loop-place-init : goal.append_parts-loop-place-init
append_parts-loop-place-init t c =
    leads_start (round_open ∷ []) _ _ _ _ (ap (λ s. round_open ∷ s) (part_bytes c.requires.0 _ _ c.requires.1)) c.in_ok-append_byte.ensures

pub append_parts-bounds-values-place : goal.append_parts-bounds-values-place
append_parts-bounds-values-place t c =
    omega (arith, as_many unnamed (map form_of c.args.shapes.now) c.args.values.now c.requires, length-map c.args.shapes.now form_of)

pub append_parts-append_member-requires : goal.append_parts-append_member-requires
append_parts-append_member-requires t c =
    let lt : c.loop-place.place < length (map form_of c.args.shapes.now) = rw (length-map c.args.shapes.now form_of) c.loop-place-test.true in (
      search (rules, shape_lemmas, get_or_read),
      part_of unnamed (map form_of c.args.shapes.now) c.args.values.now c.requires _ _ _
          (mapped_at form_of c.args.shapes.now _ _ c.loop-place-test.true c.index-shapes-place.is)
          (value_at unnamed (map form_of c.args.shapes.now) c.args.values.now c.requires _ _ lt c.index-values-place.is),
    )

pub append_parts-loop-place-preserved : goal.append_parts-loop-place-preserved
append_parts-loop-place-preserved t c =
    let fs = map unnamed (map form_of c.args.shapes.now) in
    let values = c.args.values.now in
    let i = c.loop-place.place in
    let text = value_text (form_of c.index-shapes-place.result) c.index-values-place.result in
    let lt : i < length (map form_of c.args.shapes.now) = rw (length-map c.args.shapes.now form_of) c.loop-place-test.true in
    leads_next _ _ _ _ c.loop-place.invariant (lead (codes ", ") i ++ text)
    (rest_of (codes ", ") (texts_by alone (named_parts fs) values) (i + 1) ++ round_close ∷ []) _
    (rest_next (codes ", ") (texts_by alone (named_parts fs) values) i text (round_close ∷ [])
    (text_at alone fs values i ([], form_of c.index-shapes-place.result) _
    (slice_get-map unnamed (map form_of c.args.shapes.now) i
    ∙ ap (option_map unnamed) (mapped_at form_of c.args.shapes.now i _ c.loop-place-test.true c.index-shapes-place.is))
    (value_at unnamed (map form_of c.args.shapes.now) values c.requires i _ lt c.index-values-place.is)))
    c.in_ok-append_member.ensures

pub append_parts-returns : goal.append_parts-returns
append_parts-returns t c =
    let fs = map unnamed (map form_of c.args.shapes.now) in
    let values = c.args.values.now in
    let few : length fs ≡ length c.args.shapes.now = rw (length-map (map form_of c.args.shapes.now) unnamed) (length-map c.args.shapes.now form_of) in
    leads_last _ _ _ _ c.loop-place.invariant (round_close ∷ []) _ _
    (rest_done (codes ", ") (texts_by alone (named_parts fs) values) c.loop-place.place (round_close ∷ []) (omega (arith, c.loop-place-test.false, texts_few alone fs values)))
    c.append_byte-2.ensures

pub append_fields-loop-place-init : goal.append_fields-loop-place-init
append_fields-loop-place-init t c =
    leads_start (curly_open ∷ []) _ _ _ _ (ap (λ s. curly_open ∷ s) (field_bytes c.requires.0 _ _ c.requires.1)) c.in_ok-append_byte.ensures

pub append_fields-bounds-values-place : goal.append_fields-bounds-values-place
append_fields-bounds-values-place t c = omega (arith, as_many field_form c.args.fields.now c.args.values.now c.requires)

pub append_fields-append_field-requires : goal.append_fields-append_field-requires
append_fields-append_field-requires t c = (
  search (rules, shape_lemmas, get_or_read),
  part_of field_form c.args.fields.now c.args.values.now c.requires _ _ _
      (read_at c.args.fields.now _ _ c.loop-place-test.true c.index-fields-place.is)
      (value_at field_form c.args.fields.now c.args.values.now c.requires _ _ c.loop-place-test.true c.index-values-place.is),
)

pub append_fields-loop-place-preserved : goal.append_fields-loop-place-preserved
append_fields-loop-place-preserved t c =
    let fs = map field_form c.args.fields.now in
    let values = c.args.values.now in
    let i = c.loop-place.place in
    let field = c.index-fields-place.result in
    let text = named field.name (value_text (form_of field.shape) c.index-values-place.result) in
    leads_next _ _ _ _ c.loop-place.invariant (lead (codes "; ") i ++ text)
    (rest_of (codes "; ") (texts_by named (named_parts fs) values) (i + 1) ++ curly_close ∷ []) _
    (rest_next (codes "; ") (texts_by named (named_parts fs) values) i text (curly_close ∷ [])
    (text_at named fs values i (field_form field) _ (mapped_at field_form c.args.fields.now i _ c.loop-place-test.true c.index-fields-place.is)
    (value_at field_form c.args.fields.now values c.requires i _ c.loop-place-test.true c.index-values-place.is)))
    c.in_ok-append_field.ensures

pub append_fields-returns : goal.append_fields-returns
append_fields-returns t c =
    let fs = map field_form c.args.fields.now in
    let values = c.args.values.now in
    let few : length fs ≡ length c.args.fields.now = length-map c.args.fields.now field_form in
    leads_last _ _ _ _ c.loop-place.invariant (curly_close ∷ []) _ _
    (rest_done (codes "; ") (texts_by named (named_parts fs) values) c.loop-place.place (curly_close ∷ []) (omega (arith, c.loop-place-test.false, texts_few named fs values)))
    c.append_byte-2.ensures

-- ---- cases

pub append_sum-case_in-place-requires : goal.append_sum-case_in-place-requires
append_sum-case_in-place-requires t c = is_sum _ _ c.requires

pub append_sum-bounds-sum-place : goal.append_sum-bounds-sum-place
append_sum-bounds-sum-place t c = omega (arith, (sum_case _ _ _ _ c.case_in-place.ensures c.requires).within, length-map c.args.sum.now case_form)

pub append_sum-append_arguments-requires : goal.append_sum-append_arguments-requires
append_sum-append_arguments-requires t c =
    let has = sum_case _ _ _ _ c.case_in-place.ensures c.requires in
    let lt : c.case_in-place.result.0 < length c.args.sum.now = omega (arith, has.within, length-map c.args.sum.now case_form) in
    (search (rules, shape_lemmas, get_or_read), rw c.as_slice-2.ensures (has.are _ (mapped_at case_form c.args.sum.now _ _ lt c.index-sum-place.is)))

pub append_sum-returns : goal.append_sum-returns
append_sum-returns t c =
    let has = sum_case _ _ _ _ c.case_in-place.ensures c.requires in
    let lt : c.case_in-place.result.0 < length c.args.sum.now = omega (arith, has.within, length-map c.args.sum.now case_form) in
    rw (text_sum _ _ _ _ c.case_in-place.ensures _ (mapped_at case_form c.args.sum.now _ _ lt c.index-sum-place.is))
    (appends_then c.index-sum-place.result.name _ _ _ _ _ (rw c.as_slice.ensures at c.in_ok-append_bytes.ensures) (rw c.as_slice-2.ensures at c.append_arguments.ensures))

pub append_arguments-returns-then-is_empty : goal.append_arguments-returns-then-is_empty
append_arguments-returns-then-is_empty t c =
    rw (no_arguments c.requires.0 _ _ c.requires.1 (sym c.is_empty.ensures ∙ c.if-is_empty.true), append-nil c.args.out.now.items) refl

pub append_arguments-returns : goal.append_arguments-returns
append_arguments-returns t c =
    rw (some_arguments c.requires.0 _ _ c.requires.1 (sym c.is_empty.ensures ∙ c.if-is_empty.false)) c.append_parts.ensures

pub append_poly-case_in-place-requires : goal.append_poly-case_in-place-requires
append_poly-case_in-place-requires t c = is_poly _ _ c.requires

pub append_poly-bounds-poly-place : goal.append_poly-bounds-poly-place
append_poly-bounds-poly-place t c = omega (arith, (poly_case _ _ _ _ c.case_in-place.ensures c.requires).within, length-map c.args.poly.now poly_form)

pub append_poly-bounds-args-0 : goal.append_poly-bounds-args-0
append_poly-bounds-args-0 t c =
    let has = poly_case _ _ _ _ c.case_in-place.ensures c.requires in
    let lt : c.case_in-place.result.0 < length c.args.poly.now = omega (arith, has.within, length-map c.args.poly.now poly_form) in
    one_argument c.index-poly-place.result.arg _ c.in-Some.is _ (has.are _ (mapped_at poly_form c.args.poly.now _ _ lt c.index-poly-place.is))

pub append_poly-append_argument-requires : goal.append_poly-append_argument-requires
append_poly-append_argument-requires t c =
    let has = poly_case _ _ _ _ c.case_in-place.ensures c.requires in
    let lt : c.case_in-place.result.0 < length c.args.poly.now = omega (arith, has.within, length-map c.args.poly.now poly_form) in
    let are = has.are _ (mapped_at poly_form c.args.poly.now _ _ lt c.index-poly-place.is) in
    let some : 0 < length c.case_in-place.result.1.now = one_argument c.index-poly-place.result.arg _ c.in-Some.is _ are in (
      search (rules, shape_lemmas, get_or_read),
      rw c.get.ensures (argument_of c.index-poly-place.result.arg _ c.in-Some.is _ are _ (read_at c.case_in-place.result.1.now _ _ some c.index-args-0.is)),
    )

pub append_poly-returns-in-None : goal.append_poly-returns-in-None
append_poly-returns-in-None t c =
    let has = poly_case _ _ _ _ c.case_in-place.ensures c.requires in
    let lt : c.case_in-place.result.0 < length c.args.poly.now = omega (arith, has.within, length-map c.args.poly.now poly_form) in
    let case = c.index-poly-place.result in
    rw (text_poly _ _ _ _ c.case_in-place.ensures _ (mapped_at poly_form c.args.poly.now _ _ lt c.index-poly-place.is))
    (rw (argument_none case.arg c.case_in-place.result.1.now c.in-None.is, append-nil case.name)
    (appends_then (backtick ∷ []) case.name _ _ _ (Ok tt) c.in_ok-append_byte.ensures (rw c.as_slice.ensures at c.in_ok-append_bytes.ensures)))

pub append_poly-returns-in-Some : goal.append_poly-returns-in-Some
append_poly-returns-in-Some t c =
    let has = poly_case _ _ _ _ c.case_in-place.ensures c.requires in
    let lt : c.case_in-place.result.0 < length c.args.poly.now = omega (arith, has.within, length-map c.args.poly.now poly_form) in
    let case = c.index-poly-place.result in
    let at = mapped_at poly_form c.args.poly.now _ _ lt c.index-poly-place.is in
    let some : 0 < length c.case_in-place.result.1.now = one_argument case.arg _ c.in-Some.is _ (has.are _ at) in
    let text = round_open ∷ (value_text (form_of c.in-Some.shape) c.index-args-0.result ++ round_close ∷ []) in
    rw (text_poly _ _ _ _ c.case_in-place.ensures _ at)
    (rw (argument_some case.arg c.in-Some.shape c.case_in-place.result.1.now c.index-args-0.result c.in-Some.is (read_at c.case_in-place.result.1.now _ _ some c.index-args-0.is))
    (appends_then (backtick ∷ []) (case.name ++ text) _ _ _ _ c.in_ok-append_byte.ensures
    (appends_then case.name text _ _ _ _ (rw c.as_slice.ensures at c.in_ok-append_bytes.ensures) (rw c.get.ensures at c.append_argument.ensures))))
