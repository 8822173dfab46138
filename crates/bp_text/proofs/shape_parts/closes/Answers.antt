use Rattle.std.proofs.Common.{sym, ◌∙◌}
use Rattle.bp_text.proofs.PartSteps.{close_taken}
use Rattle.bp_text.proofs.shape_parts.closes.Goals as goal

pub returns-then-is_mark : goal.returns-then-is_mark
returns-then-is_mark c =
    close_taken c.args.separator c.args.close c.args.tokens.now c.take.new.self c.in_ok-take.field-0 (sym c.is_mark.ensures ∙ c.if-is_mark.true)
    c.in_ok-take.ensures
