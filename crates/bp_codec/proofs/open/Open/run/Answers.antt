use Rattle.std.proofs.Common.{length, subst, None}
use Rattle.bp_codec.specs.Opened.{IsSettled}
use Rattle.bp_codec.proofs.open.Open.run.Goals as goal

-- src/run.rt:37:24
pub descend-requires-clause-reach : goal.descend-requires-clause-reach
descend-requires-clause-reach c =
    let settled : IsSettled c.values.self c.settle.new.self None = subst (IsSettled c.values.self c.settle.new.self) c.in-Ok-None.field-0-is c.in-Ok-None.ensures.ok in
    settled.2 (length c.args.plan.now.nodes.items) c.values.invariant.reaches
