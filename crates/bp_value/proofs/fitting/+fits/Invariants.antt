-- What is left fits exactly where the whole does; of a list, what was seen so far fits.
use Rattle.std.proofs.Common.{◌↔◌, map, take, drop}
use Rattle.std.specs.List.{All}
use Rattle.bp_value.specs.Form.{form_of, field_form, unnamed, named_parts}
use Rattle.bp_value.specs.Fits.{Fits, FitParts}
use Rattle.bp_value.proofs.fitting.+fits.Given as goal

abbrev pub invariant-fields_fit-loop-place : goal.invariant-fields_fit-loop-place
invariant-fields_fit-loop-place l =
    FitParts l.max_len (named_parts (drop l.place (map field_form l.fields)))
    (drop l.place l.values) ↔ FitParts l.max_len
    (named_parts (map field_form l.fields)) l.values

abbrev pub invariant-items_fit-loop-value : goal.invariant-items_fit-loop-value
invariant-items_fit-loop-value l =
    All (Fits l.max_len (form_of l.item)) (take l.value-index l.values)

abbrev pub invariant-parts_fit-loop-place : goal.invariant-parts_fit-loop-place
invariant-parts_fit-loop-place l =
    FitParts l.max_len (named_parts (drop l.place (map unnamed (map form_of l.shapes))))
    (drop l.place l.values)
    ↔ FitParts l.max_len (named_parts (map unnamed (map form_of l.shapes))) l.values
