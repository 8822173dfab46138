use Rattle.std.proofs.Common.{refl, ap, ◌∙◌}
use Rattle.bp_value.specs.declared.value.Value.TheVariants as val
use Rattle.bp_codec.proofs.Descending.{node_at}
use Rattle.bp_codec.proofs.NodeSteps.{on_ok, enters_none, enters_args}
use Rattle.bp_codec.proofs.open.Open.take_case.Goals as goal

-- each case is a node of arguments
pub unreachable-requires : goal.unreachable-requires
unreachable-requires c =
    c.in_default.not-Args _ _ (c.requires.is_case c.index.result.now (node_at c.args.plan.now.nodes.items c.args.args c.index.result.now c.index.result.now c.requires.within c.index.ensures refl))

pub returns-then-count-eq0-clause-ok : goal.returns-then-count-eq0-clause-ok
returns-then-count-eq0-clause-ok c =
    let ns = c.args.plan.now.nodes.items in
    let at = node_at ns c.args.args c.index.result.now _ c.requires.within c.index.ensures c.in-Args.is in
    on_ok c.put.result (λ one. enters_none ns c.args.plan.now.tags.items c.args.args c.args.place c.in-Args.first c.in-Args.count c.args.self.now at c.if-count-eq0.true _
    (ap (val.Case c.args.place) (c.from_vec-args.ensures ∙ c.new.ensures.items)) c.put.new.self one) c.put.ensures.ok

pub returns-clause-ok : goal.returns-clause-ok
returns-clause-ok c =
    let ns = c.args.plan.now.nodes.items in
    let at = node_at ns c.args.args c.index.result.now _ c.requires.within c.index.ensures c.in-Args.is in
    on_ok c.begin.result (λ begins. enters_args ns c.args.plan.now.tags.items c.args.args c.args.place c.in-Args.first c.in-Args.count c.args.self.now at c.begin.new.self
    (c.args.plan.now.args c.args.args c.in-Args.first c.in-Args.count at) begins) c.begin.ensures.ok
