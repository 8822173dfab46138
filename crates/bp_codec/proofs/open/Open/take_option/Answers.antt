use Rattle.std.proofs.Common.{refl, true, false, arith}
use Rattle.readers.specs.Reader.{one}
use Rattle.readers.proofs.Growing.{grows_one}
use Rattle.bp_num.specs.declared.number.Why.TheVariants.{Byte}
use Rattle.bp_value.specs.declared.value.Value.TheVariants as val
use Rattle.bp_grammar.specs.Spells.{flag_of}
use Rattle.bp_codec.specs.declared.levels.Left.TheVariants as left
use Rattle.bp_codec.specs.declared.levels.Makes.TheVariants as makes
use Rattle.bp_codec.specs.declared.plan.Node.TheVariants as node
use Rattle.bp_codec.proofs.Moving.{node_stops, node_puts, node_begins}
use Rattle.bp_codec.proofs.NodeSteps.{option_onward, option_is, single}
use Rattle.bp_codec.proofs.open.Open.take_option.Goals as goal

pub returns-in-Ok-true : goal.returns-in-Ok-true
returns-in-Ok-true c = λ max ns tags placed comes reach.
    let s = c.args.rest.now.now in
    let u = c.flag_at.new.rest.now in
    let item = c.args.item in
    let fits = placed.opts comes.place item comes.at in
    node_begins (one flag_of Byte) (grows_one flag_of Byte) (option_onward item) ns tags max (node.Opt item) c.args.self.now s u (option_is max ns tags item) comes reach
    true (left.Items item 1) makes.Present c.begin.new.self c.begin.result (rw c.in-Ok-true.field-0-test at c.in-Ok-true.ensures) (omega arith) (λ reading t are. single max item reading t) c.begin.ensures.ok c.begin.ensures.only

pub returns-in-Ok-false : goal.returns-in-Ok-false
returns-in-Ok-false c = λ max ns tags placed comes reach.
    node_puts (one flag_of Byte) (grows_one flag_of Byte) (option_onward c.args.item) ns tags max (node.Opt c.args.item) c.args.self.now c.args.rest.now.now c.flag_at.new.rest.now
    (option_is max ns tags c.args.item) comes reach false val.Absent c.put.new.self c.put.result (rw c.in-Ok-false.field-0-test at c.in-Ok-false.ensures) (λ reading t. refl) c.put.ensures.ok c.put.ensures.only

pub returns-in-Err : goal.returns-in-Err
returns-in-Err c = λ max ns tags placed comes reach.
    node_stops (one flag_of Byte) (grows_one flag_of Byte) (option_onward c.args.item) ns tags max (node.Opt c.args.item) c.args.self.now c.args.rest.now.now c.flag_at.new.rest.now
    (option_is max ns tags c.args.item) comes reach c.in-Err.stop c.in-Err.ensures
