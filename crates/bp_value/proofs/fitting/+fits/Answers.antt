-- By the variant of the shape, and of the value.
use Rattle.std.proofs.Common.{map, refl, sym, ap, ◌∙◌, add-one}
use Rattle.std.specs.List.{All}
use Rattle.std.specs.Option.{option_map}
use Rattle.std.proofs.lemmas.List.{length-map}
use Rattle.std.proofs.lemmas.Option.{slice_get-map, slice_get_read, slice_get_past}
use Rattle.bp_value.specs.declared.value.Value.TheVariants as val
use Rattle.bp_value.specs.Form.{form_of, field_form, case_form, poly_form, unnamed, cases}
use Rattle.bp_value.specs.Fits.{Fits, FitParts, FitCase}
use Rattle.bp_value.proofs.Forms.{form_of-Unit, form_of-Bool, form_of-Char, form_of-Int, form_of-Int32, form_of-Int64, form_of-Text, form_of-Opt, form_of-List, form_of-Tuple, form_of-Fields, form_of-Sum, form_of-Poly, form_of-Sexp}
use Rattle.bp_value.proofs.Layers.{items_is, parts_is}
use Rattle.bp_value.proofs.FitSteps.{made_so, not_made, within, above, absent_fits, present_fits, no_option, case_fits, no_case, case_here, case_nowhere, all_more, all_done, lengths_differ, no_more, goes_on, stops, no_argument, one_argument, no_one}
use Rattle.bp_value.proofs.fitting.+fits.Goals as goal

pub fields_fit-returns-then-fields-values : goal.fields_fit-returns-then-fields-values
unfolding Fits FitParts FitCase
fields_fit-returns-then-fields-values t c =
    lengths_differ c.args.max_len field_form c.args.fields.now c.args.values.now
    c.if-fields-values.true

pub list_fits-returns-then-len-max_len : goal.list_fits-returns-then-len-max_len
unfolding Fits FitParts FitCase
list_fits-returns-then-len-max_len t c =
    made_so val.Items items_is _ _ _ _ c.in-Items.is
    (within (All (Fits c.args.max_len (form_of c.args.item.now))) _ _ _ _ c.len.ensures
    c.if-len-max_len.true (rw c.as_slice.ensures at c.items_fit.ensures))

pub list_fits-returns-else-len-max_len : goal.list_fits-returns-else-len-max_len
unfolding Fits FitParts FitCase
list_fits-returns-else-len-max_len t c =
    made_so val.Items items_is _ _ _ _ c.in-Items.is
    (above (All (Fits c.args.max_len (form_of c.args.item.now))) _ _ _ c.len.ensures
    c.if-len-max_len.false)

pub list_fits-returns-in_default : goal.list_fits-returns-in_default
unfolding Fits FitParts FitCase
list_fits-returns-in_default t c = not_made val.Items _ _ c.in_default.not-Items

pub option_fits-returns-in-Absent : goal.option_fits-returns-in-Absent
unfolding Fits FitParts FitCase
option_fits-returns-in-Absent t c =
    absent_fits (Fits c.args.max_len (form_of c.args.item.now)) _ c.in-Absent.is

pub option_fits-returns-in-Present : goal.option_fits-returns-in-Present
unfolding Fits FitParts FitCase
option_fits-returns-in-Present t c =
    present_fits (Fits c.args.max_len (form_of c.args.item.now)) _ _ _ c.in-Present.is
    (let k = c.get.ensures in rw k at c.shape_fits.ensures)

pub option_fits-returns-in_default : goal.option_fits-returns-in_default
unfolding Fits FitParts FitCase
option_fits-returns-in_default t c =
    no_option (Fits c.args.max_len (form_of c.args.item.now)) _ c.in_default.not-Absent
    c.in_default.not-Present

pub parts_fit-returns-then-shapes-values : goal.parts_fit-returns-then-shapes-values
unfolding Fits FitParts FitCase
parts_fit-returns-then-shapes-values t c =
    lengths_differ c.args.max_len unnamed (map form_of c.args.shapes.now) c.args.values.now
    (λ e. c.if-shapes-values.true (sym (length-map c.args.shapes.now form_of) ∙ e))

pub poly_fits-returns-in-Some : goal.poly_fits-returns-in-Some
unfolding Fits FitParts FitCase
poly_fits-returns-in-Some t c =
    case_fits (FitCase c.args.max_len (cases (map poly_form c.args.poly.now))) _ _ _ _ c.in-Case.is
    (let h = c.in-Some.ensures.lookup in
    let k = slice_get_read c.args.poly.now _ c.in-Case.place c.in-Some.case.now refl h.3.0
    h.1 in
    case_here c.args.max_len c.in-Case.place (map poly_form c.args.poly.now)
    (poly_form c.in-Some.case.now) c.in-Case.args _
    (slice_get-map poly_form c.args.poly.now c.in-Case.place ∙ ap (option_map poly_form) k)
    (rw c.as_slice.ensures at c.argument_fits.ensures))

pub poly_fits-returns-in-None : goal.poly_fits-returns-in-None
unfolding Fits FitParts FitCase
poly_fits-returns-in-None t c =
    case_fits (FitCase c.args.max_len (cases (map poly_form c.args.poly.now))) _ _ _ _ c.in-Case.is
    (let h = c.in-None.ensures.lookup in
    case_nowhere c.args.max_len c.in-Case.place (map poly_form c.args.poly.now) c.in-Case.args
    (slice_get-map poly_form c.args.poly.now c.in-Case.place
    ∙ ap (option_map poly_form) (slice_get_past c.args.poly.now c.in-Case.place h.3)))

pub poly_fits-returns-in_default : goal.poly_fits-returns-in_default
unfolding Fits FitParts FitCase
poly_fits-returns-in_default t c =
    no_case (FitCase c.args.max_len (cases (map poly_form c.args.poly.now))) _ c.in_default.not-Case

pub record_fits-returns-in-Parts : goal.record_fits-returns-in-Parts
unfolding Fits FitParts FitCase
record_fits-returns-in-Parts t c =
    made_so val.Parts parts_is _ _ _ _ c.in-Parts.is (rw c.as_slice.ensures at c.fields_fit.ensures)

pub record_fits-returns-in_default : goal.record_fits-returns-in_default
unfolding Fits FitParts FitCase
record_fits-returns-in_default t c = not_made val.Parts _ _ c.in_default.not-Parts

pub shape_fits-returns-in-Unit : goal.shape_fits-returns-in-Unit
unfolding Fits FitParts FitCase
shape_fits-returns-in-Unit t c = rw (c.in-Unit.is, form_of-Unit) c.is_unit.ensures

pub shape_fits-returns-in-Bool : goal.shape_fits-returns-in-Bool
unfolding Fits FitParts FitCase
shape_fits-returns-in-Bool t c = rw (c.in-Bool.is, form_of-Bool) c.is_bool.ensures

pub shape_fits-returns-in-Char : goal.shape_fits-returns-in-Char
unfolding Fits FitParts FitCase
shape_fits-returns-in-Char t c = rw (c.in-Char.is, form_of-Char) c.is_char.ensures

pub shape_fits-returns-in-Int : goal.shape_fits-returns-in-Int
unfolding Fits FitParts FitCase
shape_fits-returns-in-Int t c = rw (c.in-Int.is, form_of-Int) c.is_number.ensures

pub shape_fits-returns-in-Int32 : goal.shape_fits-returns-in-Int32
unfolding Fits FitParts FitCase
shape_fits-returns-in-Int32 t c =
    rw (c.in-Int32.is, form_of-Int32)
    (rw (c.from.ensures, c.from-in-Int32.ensures) at c.is_number-in-Int32.ensures)

pub shape_fits-returns-in-Int64 : goal.shape_fits-returns-in-Int64
unfolding Fits FitParts FitCase
shape_fits-returns-in-Int64 t c = rw (c.in-Int64.is, form_of-Int64) c.is_number-in-Int64.ensures

pub shape_fits-returns-in-Text : goal.shape_fits-returns-in-Text
unfolding Fits FitParts FitCase
shape_fits-returns-in-Text t c = rw (c.in-Text.is, form_of-Text) c.is_text.ensures

pub shape_fits-returns-in-Opt : goal.shape_fits-returns-in-Opt
unfolding Fits FitParts FitCase
shape_fits-returns-in-Opt t c =
    rw (c.in-Opt.is, form_of-Opt) (rw c.get.ensures at c.option_fits.ensures)

pub shape_fits-returns-in-List : goal.shape_fits-returns-in-List
unfolding Fits FitParts FitCase
shape_fits-returns-in-List t c =
    rw (c.in-List.is, form_of-List) (rw c.get-in-List.ensures at c.list_fits.ensures)

pub shape_fits-returns-in-Tuple : goal.shape_fits-returns-in-Tuple
unfolding Fits FitParts FitCase
shape_fits-returns-in-Tuple t c =
    rw (c.in-Tuple.is, form_of-Tuple) (rw c.as_slice.ensures at c.tuple_fits.ensures)

pub shape_fits-returns-in-Fields : goal.shape_fits-returns-in-Fields
unfolding Fits FitParts FitCase
shape_fits-returns-in-Fields t c =
    rw (c.in-Fields.is, form_of-Fields) (rw c.as_slice-in-Fields.ensures at c.record_fits.ensures)

pub shape_fits-returns-in-Sum : goal.shape_fits-returns-in-Sum
unfolding Fits FitParts FitCase
shape_fits-returns-in-Sum t c =
    rw (c.in-Sum.is, form_of-Sum) (rw c.as_slice-in-Sum.ensures at c.sum_fits.ensures)

pub shape_fits-returns-in-Poly : goal.shape_fits-returns-in-Poly
unfolding Fits FitParts FitCase
shape_fits-returns-in-Poly t c =
    rw (c.in-Poly.is, form_of-Poly) (rw c.as_slice-in-Poly.ensures at c.poly_fits.ensures)

pub shape_fits-returns-in-Sexp : goal.shape_fits-returns-in-Sexp
unfolding Fits FitParts FitCase
shape_fits-returns-in-Sexp t c = rw (c.in-Sexp.is, form_of-Sexp) c.is_sexp.ensures

pub sum_fits-returns-in-Some : goal.sum_fits-returns-in-Some
unfolding Fits FitParts FitCase
sum_fits-returns-in-Some t c =
    case_fits (FitCase c.args.max_len (cases (map case_form c.args.sum.now))) _ _ _ _ c.in-Case.is
    (let h = c.in-Some.ensures.lookup in
    let k = slice_get_read c.args.sum.now _ c.in-Case.place c.in-Some.case.now refl h.3.0 h.1 in
    case_here c.args.max_len c.in-Case.place (map case_form c.args.sum.now)
    (case_form c.in-Some.case.now) c.in-Case.args _
    (slice_get-map case_form c.args.sum.now c.in-Case.place ∙ ap (option_map case_form) k)
    (rw (c.as_slice.ensures, c.as_slice-in-Some.ensures) at c.parts_fit.ensures))

pub sum_fits-returns-in-None : goal.sum_fits-returns-in-None
unfolding Fits FitParts FitCase
sum_fits-returns-in-None t c =
    case_fits (FitCase c.args.max_len (cases (map case_form c.args.sum.now))) _ _ _ _ c.in-Case.is
    (let h = c.in-None.ensures.lookup in
    case_nowhere c.args.max_len c.in-Case.place (map case_form c.args.sum.now) c.in-Case.args
    (slice_get-map case_form c.args.sum.now c.in-Case.place
    ∙ ap (option_map case_form) (slice_get_past c.args.sum.now c.in-Case.place h.3)))

pub sum_fits-returns-in_default : goal.sum_fits-returns-in_default
unfolding Fits FitParts FitCase
sum_fits-returns-in_default t c =
    no_case (FitCase c.args.max_len (cases (map case_form c.args.sum.now))) _ c.in_default.not-Case

pub tuple_fits-returns-in-Parts : goal.tuple_fits-returns-in-Parts
unfolding Fits FitParts FitCase
tuple_fits-returns-in-Parts t c =
    made_so val.Parts parts_is _ _ _ _ c.in-Parts.is (rw c.as_slice.ensures at c.parts_fit.ensures)

pub tuple_fits-returns-in_default : goal.tuple_fits-returns-in_default
unfolding Fits FitParts FitCase
tuple_fits-returns-in_default t c = not_made val.Parts _ _ c.in_default.not-Parts

pub fields_fit-returns : goal.fields_fit-returns
fields_fit-returns t c =
    no_more c.args.max_len field_form c.args.fields.now c.args.values.now _ c.loop-place.invariant
    c.if-fields-values.false c.loop-place-test.false

pub parts_fit-returns : goal.parts_fit-returns
parts_fit-returns t c =
    no_more c.args.max_len unnamed (map form_of c.args.shapes.now) c.args.values.now _
    c.loop-place.invariant ((length-map c.args.shapes.now form_of) ∙ c.if-shapes-values.false)
    (rw (length-map c.args.shapes.now form_of) c.loop-place-test.false)

pub items_fit-loop-value-preserved : goal.items_fit-loop-value-preserved
items_fit-loop-value-preserved t c =
    all_more (Fits c.args.max_len (form_of c.args.item.now)) _ _ _ _ c.loop-value-test.true
    c.value-item.is c.loop-value.invariant c.shape_fits.ensures c.if-not-shape_fits.false

pub items_fit-returns : goal.items_fit-returns
items_fit-returns t c = (
  λ b. all_done (Fits c.args.max_len (form_of c.args.item.now)) _ _ c.loop-value-test.false
      c.loop-value.invariant,
  λ all. refl,
)

pub argument_fits-returns-in-None : goal.argument_fits-returns-in-None
argument_fits-returns-in-None t c =
    no_argument c.args.max_len c.args.shape.now c.args.values.now _ c.in-None.is c.is_empty.ensures

pub argument_fits-returns-then-values-eq1 : goal.argument_fits-returns-then-values-eq1
argument_fits-returns-then-values-eq1 t c =
    one_argument c.args.max_len c.args.shape.now _ c.in-Some.is c.args.values.now _ _
    c.if-values-eq1.true c.index-values-0.is (rw c.get.ensures at c.shape_fits.ensures)

pub argument_fits-returns-else-values-eq1 : goal.argument_fits-returns-else-values-eq1
argument_fits-returns-else-values-eq1 t c =
    no_one c.args.max_len c.args.shape.now _ c.in-Some.is c.args.values.now _ refl
    c.if-values-eq1.false

pub fields_fit-loop-place-preserved : goal.fields_fit-loop-place-preserved
fields_fit-loop-place-preserved t c =
    rw add-one (goes_on c.args.max_len field_form c.args.fields.now c.args.values.now _
    c.loop-place.invariant _ _ _
    (slice_get_read c.args.fields.now _ c.loop-place.place c.index-fields-place.result refl
    c.loop-place-test.true c.index-fields-place.is)
    (slice_get_read c.args.values.now _ c.loop-place.place c.index-values-place.result refl
    (rw (← c.if-fields-values.false) c.loop-place-test.true) c.index-values-place.is)
    c.shape_fits.ensures c.if-not-shape_fits.false)

pub fields_fit-returns-then-not-shape_fits : goal.fields_fit-returns-then-not-shape_fits
fields_fit-returns-then-not-shape_fits t c =
    stops c.args.max_len field_form c.args.fields.now c.args.values.now _ c.loop-place.invariant _ _
    _ (slice_get_read c.args.fields.now _ c.loop-place.place c.index-fields-place.result refl
    c.loop-place-test.true c.index-fields-place.is)
    (slice_get_read c.args.values.now _ c.loop-place.place c.index-values-place.result refl
    (rw (← c.if-fields-values.false) c.loop-place-test.true) c.index-values-place.is)
    c.shape_fits.ensures c.if-not-shape_fits.true

pub parts_fit-loop-place-preserved : goal.parts_fit-loop-place-preserved
parts_fit-loop-place-preserved t c =
    rw add-one (goes_on c.args.max_len unnamed (map form_of c.args.shapes.now) c.args.values.now _
    c.loop-place.invariant _ _ _ (slice_get-map form_of c.args.shapes.now c.loop-place.place
    ∙ ap (option_map form_of)
    (slice_get_read c.args.shapes.now _ c.loop-place.place c.index-shapes-place.result refl
    c.loop-place-test.true c.index-shapes-place.is))
    (slice_get_read c.args.values.now _ c.loop-place.place c.index-values-place.result refl
    (rw (← c.if-shapes-values.false) c.loop-place-test.true) c.index-values-place.is)
    c.shape_fits.ensures c.if-not-shape_fits.false)

pub parts_fit-returns-then-not-shape_fits : goal.parts_fit-returns-then-not-shape_fits
parts_fit-returns-then-not-shape_fits t c =
    stops c.args.max_len unnamed (map form_of c.args.shapes.now) c.args.values.now _
    c.loop-place.invariant _ _ _ (slice_get-map form_of c.args.shapes.now c.loop-place.place
    ∙ ap (option_map form_of)
    (slice_get_read c.args.shapes.now _ c.loop-place.place c.index-shapes-place.result refl
    c.loop-place-test.true c.index-shapes-place.is))
    (slice_get_read c.args.values.now _ c.loop-place.place c.index-values-place.result refl
    (rw (← c.if-shapes-values.false) c.loop-place-test.true) c.index-values-place.is)
    c.shape_fits.ensures c.if-not-shape_fits.true
