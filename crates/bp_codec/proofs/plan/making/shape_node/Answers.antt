-- By the kind of the shape.
use Rattle.std.proofs.Common.{map, refl, ◌∙◌}
use Rattle.bp_value.specs.Form.{form_of, field_form, case_form, parts, named_parts, cases, unit, bool, char, int, int32, int64, text, opt, listed, tuple, fields, sum, sexp}
use Rattle.bp_value.proofs.Forms.{form_of-Unit, form_of-Bool, form_of-Char, form_of-Int, form_of-Int32, form_of-Int64, form_of-Text, form_of-Opt, form_of-List, form_of-Tuple, form_of-Fields, form_of-Sum, form_of-Poly, form_of-Sexp}
use Rattle.bp_codec.specs.declared.plan.Node.TheVariants as node
use Rattle.bp_codec.specs.Sources.{value, children, own_tags, node_at}
use Rattle.bp_codec.proofs.Placed.{expands, expands_leaf, shape_count, field_count, sum_count}
use Rattle.bp_codec.proofs.plan.making.shape_node.Goals as goal

pub returns-in-Unit : goal.returns-in-Unit
unfolding children own_tags node_at
returns-in-Unit c = rw (c.in-Unit.is, form_of-Unit) (expands_leaf (value unit) _ _ _ refl refl (λ at. refl))

pub returns-in-Bool : goal.returns-in-Bool
unfolding children own_tags node_at
returns-in-Bool c = rw (c.in-Bool.is, form_of-Bool) (expands_leaf (value bool) _ _ _ refl refl (λ at. refl))

pub returns-in-Char : goal.returns-in-Char
unfolding children own_tags node_at
returns-in-Char c = rw (c.in-Char.is, form_of-Char) (expands_leaf (value char) _ _ _ refl refl (λ at. refl))

pub returns-in-Int : goal.returns-in-Int
unfolding children own_tags node_at
returns-in-Int c = rw (c.in-Int.is, form_of-Int) (expands_leaf (value int) _ _ _ refl refl (λ at. refl))

pub returns-in-Int32 : goal.returns-in-Int32
unfolding children own_tags node_at
returns-in-Int32 c = rw (c.in-Int32.is, form_of-Int32) (expands_leaf (value int32) _ _ _ refl refl (λ at. refl))

pub returns-in-Int64 : goal.returns-in-Int64
unfolding children own_tags node_at
returns-in-Int64 c = rw (c.in-Int64.is, form_of-Int64) (expands_leaf (value int64) _ _ _ refl refl (λ at. refl))

pub returns-in-Text : goal.returns-in-Text
unfolding children own_tags node_at
returns-in-Text c = rw (c.in-Text.is, form_of-Text) (expands_leaf (value text) _ _ _ refl refl (λ at. refl))

pub returns-in-Sexp : goal.returns-in-Sexp
unfolding children own_tags node_at
returns-in-Sexp c = rw (c.in-Sexp.is, form_of-Sexp) (expands_leaf (value sexp) _ _ _ refl refl (λ at. refl))

pub returns-in_ok-place_shape-in-Opt : goal.returns-in_ok-place_shape-in-Opt
unfolding children own_tags node_at
returns-in_ok-place_shape-in-Opt c = rw (c.in-Opt.is, form_of-Opt)
    (expands (value (opt (form_of c.in-Opt.item))) _ _ _ refl _ _ (rw c.get.ensures at c.in_ok-place_shape-in-Opt.ensures) (λ at. refl))

pub returns-in_ok-place_shape-in-List : goal.returns-in_ok-place_shape-in-List
unfolding children own_tags node_at
returns-in_ok-place_shape-in-List c = rw (c.in-List.is, form_of-List)
    (expands (value (listed (form_of c.in-List.item))) _ _ _ refl _ _ (rw c.get-in-List.ensures at c.in_ok-place_shape-in-List.ensures) (λ at. refl))

pub returns-in_ok-place_shapes-in-Tuple : goal.returns-in_ok-place_shapes-in-Tuple
unfolding children own_tags node_at
returns-in_ok-place_shapes-in-Tuple c =
    let count = c.len.ensures ∙ shape_count c.in-Tuple.parts in
    rw (c.in-Tuple.is, form_of-Tuple)
    (expands (value (tuple (parts (map form_of c.in-Tuple.parts)))) _ _ _ refl _ _ (rw c.as_slice.ensures at c.in_ok-place_shapes-in-Tuple.ensures)
    (λ at i. node.Parts c.in_ok-place_shapes-in-Tuple.field-0 (count i)))

pub returns-in_ok-place_fields-in-Fields : goal.returns-in_ok-place_fields-in-Fields
unfolding children own_tags node_at
returns-in_ok-place_fields-in-Fields c =
    let count = c.len-in-Fields.ensures ∙ field_count c.in-Fields.fields in
    rw (c.in-Fields.is, form_of-Fields)
    (expands (value (fields (named_parts (map field_form c.in-Fields.fields)))) _ _ _ refl _ _ (rw c.as_slice-in-Fields.ensures at c.in_ok-place_fields-in-Fields.ensures)
    (λ at i. node.Parts c.in_ok-place_fields-in-Fields.field-0 (count i)))

pub returns-in_ok-place_cases-in-Sum : goal.returns-in_ok-place_cases-in-Sum
unfolding children own_tags node_at
returns-in_ok-place_cases-in-Sum c =
    let count = c.len-in-Sum.ensures ∙ sum_count c.in-Sum.cases in
    rw (c.in-Sum.is, form_of-Sum)
    (expands (value (sum (cases (map case_form c.in-Sum.cases)))) _ _ _ refl _ _ (rw c.as_slice-in-Sum.ensures at c.in_ok-place_cases-in-Sum.ensures)
    (λ at i. node.Sum c.in_ok-place_cases-in-Sum.field-0 (count i)))

pub returns-in-Poly : goal.returns-in-Poly
returns-in-Poly c = rw (c.in-Poly.is, form_of-Poly) (rw c.as_slice-in-Poly.ensures at c.poly_node.ensures)
