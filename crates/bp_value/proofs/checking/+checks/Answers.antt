-- By the kind of the shape; a loop's fault is that of its first faulty item.
use Rattle.std.proofs.Common.{map, refl, ap, ◌∙◌, inl, append-nil}
use Rattle.std.specs.Option.{option_map}
use Rattle.std.proofs.lemmas.List.{length-map}
use Rattle.std.proofs.lemmas.List.Elements.{All-nil}
use Rattle.std.proofs.lemmas.Option.{slice_get-map, slice_get_read}
use Rattle.std.proofs.lemmas.Result.{err_from_is_err_and}
use Rattle.bp_value.specs.Form.{form_of, field_form, case_form, poly_form, unnamed, unit, bool, char, int, int32, int64, text, opt, listed, sexp}
use Rattle.bp_value.specs.Faults.{nodes, part_nodes, case_nodes, IsFaultless}
use Rattle.bp_value.proofs.Forms.{form_of-Unit, form_of-Bool, form_of-Char, form_of-Int, form_of-Int32, form_of-Int64, form_of-Text, form_of-Opt, form_of-List, form_of-Tuple, form_of-Fields, form_of-Sum, form_of-Poly, form_of-Sexp}
use Rattle.bp_value.proofs.FaultSteps.{bare_node}
use Rattle.bp_value.proofs.FirstSteps.{parts_over, parts_on, parts_out, cases_over, cases_on, cases_out, bare_good, node_tells, deep_first}
use Rattle.bp_value.proofs.checking.+checks.Goals as goal

pub argument_check-returns-in-None : goal.argument_check-returns-in-None
unfolding nodes part_nodes case_nodes
argument_check-returns-in-None t c = rw c.in-None.is (All-nil IsFaultless)

pub argument_check-returns-in-Some : goal.argument_check-returns-in-Some
unfolding nodes part_nodes case_nodes
argument_check-returns-in-Some t c =
    rw (c.in-Some.is, append-nil) (rw c.get.ensures at c.shape_check.ensures)

pub arguments_check-returns-in_err-argument_check
    : goal.arguments_check-returns-in_err-argument_check
unfolding nodes part_nodes case_nodes
arguments_check-returns-in_err-argument_check t c =
    let p = err_from_is_err_and c.from_residual.result c.from_residual.ensures.1 in
    rw (p.1, p.2) (cases_out c.args.depth poly_form c.args.poly.now _ c.loop-case.invariant _
    (slice_get_read c.args.poly.now _ c.loop-case.case-index c.case-item.result refl
    c.loop-case-test.true c.case-item.is) _ c.in_err-argument_check.ensures)

pub arguments_check-loop-case-preserved : goal.arguments_check-loop-case-preserved
unfolding nodes part_nodes case_nodes
arguments_check-loop-case-preserved t c =
    cases_on c.args.depth poly_form c.args.poly.now _ c.loop-case.invariant _
    (slice_get_read c.args.poly.now _ c.loop-case.case-index c.case-item.result refl
    c.loop-case-test.true c.case-item.is) c.in_ok-argument_check.ensures

pub arguments_check-returns : goal.arguments_check-returns
unfolding nodes part_nodes case_nodes
arguments_check-returns t c =
    cases_over c.args.depth poly_form c.args.poly.now _ c.loop-case.invariant c.loop-case-test.false

pub cases_check-returns-in_err-parts_check : goal.cases_check-returns-in_err-parts_check
unfolding nodes part_nodes case_nodes
cases_check-returns-in_err-parts_check t c =
    let p = err_from_is_err_and c.from_residual.result c.from_residual.ensures.1 in
    rw (p.1, p.2) (cases_out c.args.depth case_form c.args.sum.now _ c.loop-case.invariant _
    (slice_get_read c.args.sum.now _ c.loop-case.case-index c.case-item.result refl
    c.loop-case-test.true c.case-item.is) _ (let k = c.as_slice.ensures in
    rw k at c.in_err-parts_check.ensures))

pub cases_check-loop-case-preserved : goal.cases_check-loop-case-preserved
unfolding nodes part_nodes case_nodes
cases_check-loop-case-preserved t c =
    cases_on c.args.depth case_form c.args.sum.now _ c.loop-case.invariant _
    (slice_get_read c.args.sum.now _ c.loop-case.case-index c.case-item.result refl
    c.loop-case-test.true c.case-item.is) (let k = c.as_slice.ensures in
    rw k at c.in_ok-parts_check.ensures)

pub cases_check-returns : goal.cases_check-returns
unfolding nodes part_nodes case_nodes
cases_check-returns t c =
    cases_over c.args.depth case_form c.args.sum.now _ c.loop-case.invariant c.loop-case-test.false

pub fields_check-returns-in_err-shape_check : goal.fields_check-returns-in_err-shape_check
unfolding nodes part_nodes case_nodes
fields_check-returns-in_err-shape_check t c =
    let p = err_from_is_err_and c.from_residual.result c.from_residual.ensures.1 in
    rw (p.1, p.2) (parts_out c.args.depth field_form c.args.fields.now _ c.loop-field.invariant
    _ (slice_get_read c.args.fields.now _ c.loop-field.field-index c.field-item.result refl
    c.loop-field-test.true c.field-item.is) _ c.in_err-shape_check.ensures)

pub fields_check-loop-field-preserved : goal.fields_check-loop-field-preserved
unfolding nodes part_nodes case_nodes
fields_check-loop-field-preserved t c =
    parts_on c.args.depth field_form c.args.fields.now _ c.loop-field.invariant _
    (slice_get_read c.args.fields.now _ c.loop-field.field-index c.field-item.result refl
    c.loop-field-test.true c.field-item.is) c.in_ok-shape_check.ensures

pub fields_check-returns : goal.fields_check-returns
unfolding nodes part_nodes case_nodes
fields_check-returns t c =
    parts_over c.args.depth field_form c.args.fields.now _ c.loop-field.invariant
    c.loop-field-test.false

pub parts_check-returns-in_err-shape_check : goal.parts_check-returns-in_err-shape_check
unfolding nodes part_nodes case_nodes
parts_check-returns-in_err-shape_check t c =
    let p = err_from_is_err_and c.from_residual.result c.from_residual.ensures.1 in
    rw (p.1, p.2) (parts_out c.args.depth unnamed
    (map form_of c.args.shapes.now) _ c.loop-shape.invariant _
    (slice_get-map form_of c.args.shapes.now c.loop-shape.shape-index
    ∙ ap (option_map form_of)
    (slice_get_read c.args.shapes.now _ c.loop-shape.shape-index c.shape-item.result refl
    c.loop-shape-test.true c.shape-item.is)) _ c.in_err-shape_check.ensures)

pub parts_check-loop-shape-preserved : goal.parts_check-loop-shape-preserved
unfolding nodes part_nodes case_nodes
parts_check-loop-shape-preserved t c =
    parts_on c.args.depth unnamed (map form_of c.args.shapes.now) _ c.loop-shape.invariant _
    (slice_get-map form_of c.args.shapes.now c.loop-shape.shape-index
    ∙ ap (option_map form_of)
    (slice_get_read c.args.shapes.now _ c.loop-shape.shape-index c.shape-item.result refl
    c.loop-shape-test.true c.shape-item.is)) c.in_ok-shape_check.ensures

pub parts_check-returns : goal.parts_check-returns
unfolding nodes part_nodes case_nodes
parts_check-returns t c =
    parts_over c.args.depth unnamed (map form_of c.args.shapes.now) _ c.loop-shape.invariant
    (rw (length-map c.args.shapes.now form_of) c.loop-shape-test.false)

pub shape_check-returns-then-depth-gt-MAX_DEPTH : goal.shape_check-returns-then-depth-gt-MAX_DEPTH
unfolding nodes part_nodes case_nodes
shape_check-returns-then-depth-gt-MAX_DEPTH t c =
    deep_first c.args.depth (form_of c.args.shape.now) c.if-depth-gt-MAX_DEPTH.true

pub shape_check-returns-in_err-tuple_check-in-Tuple
    : goal.shape_check-returns-in_err-tuple_check-in-Tuple
unfolding nodes part_nodes case_nodes
shape_check-returns-in_err-tuple_check-in-Tuple t c =
    let p = err_from_is_err_and c.from_residual.result c.from_residual.ensures.1 in
    let fault = c.in_err-tuple_check-in-Tuple.ensures c.args.depth c.if-depth-gt-MAX_DEPTH.false in
    rw (c.in-Tuple.is, form_of-Tuple, p.1, p.2) (inl (rw c.as_slice.ensures at fault))

pub shape_check-returns-in_err-record_check-in-Fields
    : goal.shape_check-returns-in_err-record_check-in-Fields
unfolding nodes part_nodes case_nodes
shape_check-returns-in_err-record_check-in-Fields t c =
    let p = err_from_is_err_and c.from_residual-in_err-record_check-in-Fields.result
    c.from_residual-in_err-record_check-in-Fields.ensures.1 in
    let fault = c.in_err-record_check-in-Fields.ensures c.args.depth
    c.if-depth-gt-MAX_DEPTH.false in
    rw (c.in-Fields.is, form_of-Fields, p.1, p.2) (inl (rw c.as_slice-in-Fields.ensures at fault))

pub shape_check-returns-in_err-sum_check-in-Sum : goal.shape_check-returns-in_err-sum_check-in-Sum
unfolding nodes part_nodes case_nodes
shape_check-returns-in_err-sum_check-in-Sum t c =
    let p = err_from_is_err_and c.from_residual-in_err-sum_check-in-Sum.result
    c.from_residual-in_err-sum_check-in-Sum.ensures.1 in
    let fault = c.in_err-sum_check-in-Sum.ensures c.args.depth c.if-depth-gt-MAX_DEPTH.false in
    rw (c.in-Sum.is, form_of-Sum, p.1, p.2) (inl (rw c.as_slice-in-Sum.ensures at fault))

pub shape_check-returns-in_err-poly_check-in-Poly
    : goal.shape_check-returns-in_err-poly_check-in-Poly
unfolding nodes part_nodes case_nodes
shape_check-returns-in_err-poly_check-in-Poly t c =
    let p = err_from_is_err_and c.from_residual-in_err-poly_check-in-Poly.result
    c.from_residual-in_err-poly_check-in-Poly.ensures.1 in
    let fault = c.in_err-poly_check-in-Poly.ensures c.args.depth c.if-depth-gt-MAX_DEPTH.false in
    rw (c.in-Poly.is, form_of-Poly, p.1, p.2) (inl (rw c.as_slice-in-Poly.ensures at fault))

pub shape_check-returns-in-Unit : goal.shape_check-returns-in-Unit
unfolding nodes part_nodes case_nodes
shape_check-returns-in-Unit t c =
    rw (c.in-Unit.is, form_of-Unit) (bare_good c.args.depth unit
    (bare_node c.args.depth unit c.if-depth-gt-MAX_DEPTH.false refl (λ v. v) (λ v. v)
    (λ v. v) refl refl))

pub shape_check-returns-in-Bool : goal.shape_check-returns-in-Bool
unfolding nodes part_nodes case_nodes
shape_check-returns-in-Bool t c =
    rw (c.in-Bool.is, form_of-Bool) (bare_good c.args.depth bool
    (bare_node c.args.depth bool c.if-depth-gt-MAX_DEPTH.false refl (λ v. v) (λ v. v)
    (λ v. v) refl refl))

pub shape_check-returns-in-Char : goal.shape_check-returns-in-Char
unfolding nodes part_nodes case_nodes
shape_check-returns-in-Char t c =
    rw (c.in-Char.is, form_of-Char) (bare_good c.args.depth char
    (bare_node c.args.depth char c.if-depth-gt-MAX_DEPTH.false refl (λ v. v) (λ v. v)
    (λ v. v) refl refl))

pub shape_check-returns-in-Int : goal.shape_check-returns-in-Int
unfolding nodes part_nodes case_nodes
shape_check-returns-in-Int t c =
    rw (c.in-Int.is, form_of-Int)
    (bare_good c.args.depth int (bare_node c.args.depth int c.if-depth-gt-MAX_DEPTH.false refl
    (λ v. v) (λ v. v) (λ v. v) refl refl))

pub shape_check-returns-in-Int32 : goal.shape_check-returns-in-Int32
unfolding nodes part_nodes case_nodes
shape_check-returns-in-Int32 t c =
    rw (c.in-Int32.is, form_of-Int32)
    (bare_good c.args.depth int32 (bare_node c.args.depth int32 c.if-depth-gt-MAX_DEPTH.false refl
    (λ v. v) (λ v. v) (λ v. v) refl refl))

pub shape_check-returns-in-Int64 : goal.shape_check-returns-in-Int64
unfolding nodes part_nodes case_nodes
shape_check-returns-in-Int64 t c =
    rw (c.in-Int64.is, form_of-Int64)
    (bare_good c.args.depth int64 (bare_node c.args.depth int64 c.if-depth-gt-MAX_DEPTH.false refl
    (λ v. v) (λ v. v) (λ v. v) refl refl))

pub shape_check-returns-in-Text : goal.shape_check-returns-in-Text
unfolding nodes part_nodes case_nodes
shape_check-returns-in-Text t c =
    rw (c.in-Text.is, form_of-Text) (bare_good c.args.depth text
    (bare_node c.args.depth text c.if-depth-gt-MAX_DEPTH.false refl (λ v. v) (λ v. v)
    (λ v. v) refl refl))

pub shape_check-returns-in-Opt : goal.shape_check-returns-in-Opt
unfolding nodes part_nodes case_nodes
shape_check-returns-in-Opt t c = rw (c.in-Opt.is, form_of-Opt)
    (node_tells _ _ _
    (bare_node c.args.depth (opt (form_of c.in-Opt.item)) c.if-depth-gt-MAX_DEPTH.false refl
    (λ v. v) (λ v. v) (λ v. v) refl refl) (rw c.get.ensures at c.shape_check.ensures))

pub shape_check-returns-in-List : goal.shape_check-returns-in-List
unfolding nodes part_nodes case_nodes
shape_check-returns-in-List t c = rw (c.in-List.is, form_of-List)
    (node_tells _ _ _
    (bare_node c.args.depth (listed (form_of c.in-List.item)) c.if-depth-gt-MAX_DEPTH.false refl
    (λ v. v) (λ v. v) (λ v. v) refl refl)
    (rw c.get-in-List.ensures at c.shape_check-in-List.ensures))

pub shape_check-returns-in_ok-tuple_check-in-Tuple
    : goal.shape_check-returns-in_ok-tuple_check-in-Tuple
unfolding nodes part_nodes case_nodes
shape_check-returns-in_ok-tuple_check-in-Tuple t c =
    let less = c.in_ok-tuple_check-in-Tuple.ensures c.args.depth c.if-depth-gt-MAX_DEPTH.false in
    rw (c.in-Tuple.is, form_of-Tuple)
    (node_tells _ _ _ (rw c.as_slice.ensures at less)
    (rw c.as_slice-in-Tuple.ensures at c.parts_check.ensures))

pub shape_check-returns-in_ok-record_check-in-Fields
    : goal.shape_check-returns-in_ok-record_check-in-Fields
unfolding nodes part_nodes case_nodes
shape_check-returns-in_ok-record_check-in-Fields t c =
    let less = c.in_ok-record_check-in-Fields.ensures c.args.depth c.if-depth-gt-MAX_DEPTH.false in
    rw (c.in-Fields.is, form_of-Fields)
    (node_tells _ _ _ (rw c.as_slice-in-Fields.ensures at less)
    (rw c.as_slice-in-Fields-2.ensures at c.fields_check.ensures))

pub shape_check-returns-in_ok-sum_check-in-Sum : goal.shape_check-returns-in_ok-sum_check-in-Sum
unfolding nodes part_nodes case_nodes
shape_check-returns-in_ok-sum_check-in-Sum t c =
    let less = c.in_ok-sum_check-in-Sum.ensures c.args.depth c.if-depth-gt-MAX_DEPTH.false in
    rw (c.in-Sum.is, form_of-Sum) (node_tells _ _ _ (rw c.as_slice-in-Sum.ensures at less)
    (rw c.as_slice-in-Sum-2.ensures at c.cases_check.ensures))

pub shape_check-returns-in_ok-poly_check-in-Poly : goal.shape_check-returns-in_ok-poly_check-in-Poly
unfolding nodes part_nodes case_nodes
shape_check-returns-in_ok-poly_check-in-Poly t c =
    let less = c.in_ok-poly_check-in-Poly.ensures c.args.depth c.if-depth-gt-MAX_DEPTH.false in
    rw (c.in-Poly.is, form_of-Poly) (node_tells _ _ _ (rw c.as_slice-in-Poly.ensures at less)
    (rw c.as_slice-in-Poly-2.ensures at c.arguments_check.ensures))

pub shape_check-returns-in-Sexp : goal.shape_check-returns-in-Sexp
unfolding nodes part_nodes case_nodes
shape_check-returns-in-Sexp t c =
    rw (c.in-Sexp.is, form_of-Sexp) (bare_good c.args.depth sexp
    (bare_node c.args.depth sexp c.if-depth-gt-MAX_DEPTH.false refl (λ v. v) (λ v. v)
    (λ v. v) refl refl))
