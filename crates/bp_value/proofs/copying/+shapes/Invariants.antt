-- What was copied so far is the front of what is to be copied.
use Rattle.std.proofs.Common.{◌≡◌, take}
use Rattle.bp_value.proofs.copying.+shapes.Given as goal

abbrev pub invariant-cases_copy-loop-case : goal.invariant-cases_copy-loop-case
invariant-cases_copy-loop-case l = l.copies.items ≡ take l.case-index l.case-items

abbrev pub invariant-fields_copy-loop-field : goal.invariant-fields_copy-loop-field
invariant-fields_copy-loop-field l = l.copies.items ≡ take l.field-index l.field-items

abbrev pub invariant-poly_copy-loop-case : goal.invariant-poly_copy-loop-case
invariant-poly_copy-loop-case l = l.copies.items ≡ take l.case-index l.case-items

abbrev pub invariant-shapes_copy-loop-shape : goal.invariant-shapes_copy-loop-shape
invariant-shapes_copy-loop-shape l = l.copies.items ≡ take l.shape-index l.shape-items
