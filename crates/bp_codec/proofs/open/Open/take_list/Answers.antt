use Rattle.bp_num.specs.NumberAt.{nat_at}
use Rattle.bp_num.proofs.Growth.{grows_nat}
use Rattle.std.proofs.Common.{arith}
use Rattle.bp_codec.specs.declared.levels.Left.TheVariants as left
use Rattle.bp_codec.specs.declared.levels.Makes.TheVariants as makes
use Rattle.bp_codec.specs.declared.plan.Node.TheVariants as node
use Rattle.bp_codec.proofs.Moving.{node_stops, node_begins}
use Rattle.bp_codec.proofs.NodeSteps.{list_onward, list_is, items_made}
use Rattle.bp_codec.proofs.open.Open.take_list.Goals as goal

pub returns-in-Ok-clause-moves : goal.returns-in-Ok-clause-moves
returns-in-Ok-clause-moves c = λ ns tags placed comes reach.
    let item = c.args.item in
    let max = c.args.max in
    let fits = placed.lists comes.place item comes.at in
    node_begins (nat_at max) (grows_nat max) (list_onward item) ns tags max (node.List item) c.args.self.now c.args.rest.now.now c.length_at.new.rest.now (list_is max ns tags item) comes reach
    c.in-Ok.count (left.Items item c.in-Ok.count) makes.Items c.begin.new.self c.begin.result c.in-Ok.ensures (omega arith) (λ reading t are. items_made max item c.in-Ok.count reading t) c.begin.ensures.ok c.begin.ensures.only

pub returns-in-Err-clause-moves : goal.returns-in-Err-clause-moves
returns-in-Err-clause-moves c = λ ns tags placed comes reach.
    node_stops (nat_at c.args.max) (grows_nat c.args.max) (list_onward c.args.item) ns tags c.args.max (node.List c.args.item) c.args.self.now c.args.rest.now.now c.length_at.new.rest.now
    (list_is c.args.max ns tags c.args.item) comes reach c.in-Err.stop c.in-Err.ensures
