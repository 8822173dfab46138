-- One node's faults, in their order.
use Rattle.std.proofs.Common.{◌≤◌, Ok, map, length, sym, subst}
use Rattle.std.specs.List.{All}
use Rattle.std.proofs.lemmas.Result.{err_from_is_err_and}
use Rattle.bp_value.specs.Limits.{most_members}
use Rattle.bp_value.specs.Names.{IsShapeName, IsDistinct, IsFirstRepeat}
use Rattle.bp_value.specs.Form.{poly_form, cases, poly}
use Rattle.bp_value.specs.Faults.{IsFaultOfNames}
use Rattle.bp_value.proofs.FaultSteps.{count_fault, names_fault, named_tells, tags_fault, there}
use Rattle.bp_value.proofs.Members.{case_count, poly_names, poly_tags}
use Rattle.bp_value.proofs.checking.poly_check.Goals as goal

pub returns-in_err-count_check : goal.returns-in_err-count_check
returns-in_err-count_check c = λ d deep.
    let p = err_from_is_err_and c.from_residual.result c.from_residual.ensures.1 in
    rw (p.1, p.2) (count_fault d (poly (cases (map poly_form c.args.poly.now))) deep
    (there _ _ _ c.is_empty.ensures c.if-is_empty.false (case_count poly_form c.args.poly.now))
    (λ t. t) _ _ (sym (case_count poly_form c.args.poly.now)) c.in_err-count_check.ensures)

pub returns-in_err-names_check : goal.returns-in_err-names_check
returns-in_err-names_check c = λ d deep.
    let p = err_from_is_err_and c.from_residual-in_err-names_check.result
    c.from_residual-in_err-names_check.ensures.1 in
    rw (p.1, p.2) (names_fault d (poly (cases (map poly_form c.args.poly.now))) deep
    (there _ _ _ c.is_empty.ensures c.if-is_empty.false (case_count poly_form c.args.poly.now))
    (λ t. t)
    (let few : length c.args.poly.now ≤ most_members = c.in_ok-count_check.ensures in
    rw (case_count poly_form c.args.poly.now) few) _
    (subst (λ ns. IsFaultOfNames ns c.in_err-names_check.field-0.0)
    (poly_names c.args.poly.now) c.in_err-names_check.ensures))

pub returns-in-Some : goal.returns-in-Some
returns-in-Some c = λ d deep.
    tags_fault d (poly (cases (map poly_form c.args.poly.now))) deep
    (there _ _ _ c.is_empty.ensures c.if-is_empty.false (case_count poly_form c.args.poly.now))
    (λ t. t)
    (let few : length c.args.poly.now ≤ most_members = c.in_ok-count_check.ensures in
    rw (case_count poly_form c.args.poly.now) few) _ _
    (subst (λ ns. All IsShapeName ns × IsDistinct ns)
    (poly_names c.args.poly.now) c.in_ok-names_check.ensures)
    (subst (λ ts. IsFirstRepeat ts c.in-Some.first c.in-Some.second)
    (poly_tags c.args.poly.now) c.in-Some.ensures)

pub returns-in-None : goal.returns-in-None
returns-in-None c = λ d deep.
    named_tells d (poly (cases (map poly_form c.args.poly.now))) deep
    (there _ _ _ c.is_empty.ensures c.if-is_empty.false (case_count poly_form c.args.poly.now))
    (λ t. t)
    (let few : length c.args.poly.now ≤ most_members = c.in_ok-count_check.ensures in
    rw (case_count poly_form c.args.poly.now) few) (Ok tt)
    (subst IsDistinct (poly_tags c.args.poly.now) c.in-None.ensures)
    (subst (λ ns. All IsShapeName ns × IsDistinct ns)
    (poly_names c.args.poly.now) c.in_ok-names_check.ensures)
