-- What is left tells what the whole tells: the nodes so far have no fault.
use Rattle.std.proofs.Common.{map, drop}
use Rattle.bp_value.specs.Form.{form_of, field_form, case_form, poly_form, unnamed, named_parts, cases}
use Rattle.bp_value.specs.Faults.{part_nodes, case_nodes}
use Rattle.bp_value.proofs.FirstSteps.{Leads}
use Rattle.bp_value.proofs.checking.+checks.Given as goal

abbrev pub invariant-parts_check-loop-shape : goal.invariant-parts_check-loop-shape
invariant-parts_check-loop-shape l =
    Leads (part_nodes l.depth
    (named_parts (drop l.shape-index (map unnamed (map form_of l.shapes)))))
    (part_nodes l.depth (named_parts (map unnamed (map form_of l.shapes))))

abbrev pub invariant-fields_check-loop-field : goal.invariant-fields_check-loop-field
invariant-fields_check-loop-field l =
    Leads (part_nodes l.depth (named_parts (drop l.field-index (map field_form l.fields))))
    (part_nodes l.depth (named_parts (map field_form l.fields)))

abbrev pub invariant-cases_check-loop-case : goal.invariant-cases_check-loop-case
invariant-cases_check-loop-case l =
    Leads (case_nodes l.depth (cases (drop l.case-index (map case_form l.sum))))
    (case_nodes l.depth (cases (map case_form l.sum)))

abbrev pub invariant-arguments_check-loop-case : goal.invariant-arguments_check-loop-case
invariant-arguments_check-loop-case l =
    Leads (case_nodes l.depth (cases (drop l.case-index (map poly_form l.poly))))
    (case_nodes l.depth (cases (map poly_form l.poly)))
