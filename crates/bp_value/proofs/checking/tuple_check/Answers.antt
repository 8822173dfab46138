-- One node's faults, in their order.
use Rattle.std.proofs.Common.{map, sym, ◌∙◌}
use Rattle.std.proofs.lemmas.List.{length-map}
use Rattle.bp_value.specs.Form.{form_of, unnamed, parts, tuple}
use Rattle.bp_value.proofs.FaultSteps.{tuple_tells, short_tuple}
use Rattle.bp_value.proofs.Members.{part_count}
use Rattle.bp_value.proofs.checking.tuple_check.Goals as goal

pub returns-then-shapes-lt2 : goal.returns-then-shapes-lt2
returns-then-shapes-lt2 c =
    λ d deep. short_tuple d _ (tuple (parts (map form_of c.args.shapes.now))) deep tt (λ v. v)
    (sym (part_count unnamed (map form_of c.args.shapes.now)
    ∙ length-map c.args.shapes.now form_of)) c.if-shapes-lt2.true

pub returns : goal.returns
returns c = λ d deep. tuple_tells d _ (parts (map form_of c.args.shapes.now)) _ deep
    (sym (part_count unnamed (map form_of c.args.shapes.now)
    ∙ length-map c.args.shapes.now form_of)) c.if-shapes-lt2.false c.count_check.ensures
