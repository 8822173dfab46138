-- What comes of the values or parts that are left comes of all.
use Rattle.std.proofs.Common.{map, drop}
use Rattle.std.specs.List.{flat_map}
use Rattle.bp_value.specs.Form.{form_of, field_form, unnamed}
use Rattle.bp_grammar.specs.Written.{written}
use Rattle.bp_codec.proofs.WrittenLayers.{rest_of_parts}
use Rattle.bp_codec.proofs.Putting.{Leads}
use Rattle.bp_codec.proofs.encoding.+puts.Given as goal

abbrev pub invariant-put_each-loop-value : goal.invariant-put_each-loop-value
invariant-put_each-loop-value l =
    Leads l.bound (flat_map (written (form_of l.item)) l.values) l.fn.out.items (flat_map (written (form_of l.item)) (drop l.value-index l.values)) l.out.items

abbrev pub invariant-put_parts-loop-place : goal.invariant-put_parts-loop-place
invariant-put_parts-loop-place l =
    let rest = rest_of_parts unnamed (map form_of l.shapes) l.values in
    Leads l.bound (rest 0) l.fn.out.items (rest l.place) l.out.items

abbrev pub invariant-put_record-loop-place : goal.invariant-put_record-loop-place
invariant-put_record-loop-place l =
    let rest = rest_of_parts field_form l.fields l.values in
    Leads l.bound (rest 0) l.fn.out.items (rest l.place) l.out.items
