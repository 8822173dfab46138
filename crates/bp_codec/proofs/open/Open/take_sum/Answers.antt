use Rattle.std.proofs.Common.{ℕ}
use Rattle.readers.specs.Reader.{one}
use Rattle.readers.proofs.Growing.{grows_one}
use Rattle.bp_num.specs.declared.number.Why.TheVariants.{Case}
use Rattle.bp_grammar.specs.Spells.{place_of}
use Rattle.bp_codec.specs.declared.plan.Node.TheVariants as node
use Rattle.bp_codec.specs.Plan.{Reading, case_at}
use Rattle.bp_codec.proofs.Moving.{node_stops, node_enters}
use Rattle.bp_codec.proofs.NodeSteps.{on_ok, sum_is}
use Rattle.bp_codec.proofs.open.Open.take_sum.Goals as goal

pub returns-in-Ok : goal.returns-in-Ok
returns-in-Ok c = λ max comes reach.
    let ns = c.args.plan.now.nodes.items in
    let tags = c.args.plan.now.tags.items in
    node_enters (one (place_of c.args.count) Case) (grows_one (place_of c.args.count) Case) (λ (reading : ℕ → Reading). case_at ns reading c.args.first) ns tags max
    (node.Sum c.args.first c.args.count) c.args.self.now c.args.rest.now.now c.place_at.new.rest.now (sum_is max ns tags c.args.first c.args.count) comes reach
    c.in-Ok.place c.take_case.new.self c.take_case.result c.in-Ok.ensures (on_ok c.take_case.result (λ f. f max) c.take_case.ensures.ok) c.take_case.ensures.only

pub returns-in-Err : goal.returns-in-Err
returns-in-Err c = λ max comes reach.
    let ns = c.args.plan.now.nodes.items in
    let tags = c.args.plan.now.tags.items in
    node_stops (one (place_of c.args.count) Case) (grows_one (place_of c.args.count) Case) (λ (reading : ℕ → Reading). case_at ns reading c.args.first) ns tags max
    (node.Sum c.args.first c.args.count) c.args.self.now c.args.rest.now.now c.place_at.new.rest.now (sum_is max ns tags c.args.first c.args.count) comes reach
    c.in-Err.stop c.in-Err.ensures
