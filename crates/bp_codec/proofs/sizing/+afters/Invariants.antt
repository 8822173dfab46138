-- What is left after the values or parts so far leads to what is left after all.
use Rattle.std.proofs.Common.{map, drop}
use Rattle.std.specs.List.{flat_map}
use Rattle.bp_value.specs.Form.{form_of, field_form, unnamed}
use Rattle.bp_grammar.specs.Written.{written}
use Rattle.bp_codec.proofs.WrittenLayers.{rest_of_parts}
use Rattle.bp_codec.proofs.Leaving.{Uses}
use Rattle.bp_codec.proofs.sizing.+afters.Given as goal

abbrev pub invariant-after_items-loop-value : goal.invariant-after_items-loop-value
invariant-after_items-loop-value l =
    Uses l.fn.room (flat_map (written (form_of l.item)) l.values) l.left (flat_map (written (form_of l.item)) (drop l.value-index l.values))

abbrev pub invariant-after_parts-loop-place : goal.invariant-after_parts-loop-place
invariant-after_parts-loop-place l =
    let rest = rest_of_parts unnamed (map form_of l.shapes) l.values in
    Uses l.fn.room (rest 0) l.left (rest l.place)

abbrev pub invariant-after_fields-loop-place : goal.invariant-after_fields-loop-place
invariant-after_fields-loop-place l =
    let rest = rest_of_parts field_form l.fields l.values in
    Uses l.fn.room (rest 0) l.left (rest l.place)
