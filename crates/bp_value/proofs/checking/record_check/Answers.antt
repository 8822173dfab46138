-- One node's faults, in their order.
use Rattle.std.proofs.Common.{◌≤◌, map, length, sym, subst}
use Rattle.std.proofs.lemmas.Result.{err_from_is_err_and}
use Rattle.bp_value.specs.Limits.{most_members}
use Rattle.bp_value.specs.Form.{field_form, named_parts, fields}
use Rattle.bp_value.specs.Faults.{TellsNames}
use Rattle.bp_value.proofs.Distinct.{none_distinct}
use Rattle.bp_value.proofs.FaultSteps.{count_fault, named_tells, there}
use Rattle.bp_value.proofs.Members.{part_count, record_names}
use Rattle.bp_value.proofs.checking.record_check.Goals as goal

pub returns-in_err-count_check : goal.returns-in_err-count_check
returns-in_err-count_check c = λ d deep.
    let p = err_from_is_err_and c.from_residual.result c.from_residual.ensures.1 in
    rw (p.1, p.2) (count_fault d (fields (named_parts (map field_form c.args.fields.now))) deep
    (there _ _ _ c.is_empty.ensures c.if-is_empty.false
    (part_count field_form c.args.fields.now)) (λ t. t) _ _
    (sym (part_count field_form c.args.fields.now)) c.in_err-count_check.ensures)

pub returns : goal.returns
returns c = λ d deep.
    named_tells d (fields (named_parts (map field_form c.args.fields.now))) deep
    (there _ _ _ c.is_empty.ensures c.if-is_empty.false
    (part_count field_form c.args.fields.now)) (λ t. t)
    (let few : length c.args.fields.now ≤ most_members = c.in_ok-count_check.ensures in
    rw (part_count field_form c.args.fields.now) few) _ none_distinct
    (subst (λ ns. TellsNames ns c.names_check.result)
    (record_names c.args.fields.now) c.names_check.ensures)
