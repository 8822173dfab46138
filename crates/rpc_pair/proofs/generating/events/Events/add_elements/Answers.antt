-- One item more.
use Rattle.rpc_pair.proofs.AddedEvents.{given_more}
use Rattle.rpc_pair.proofs.generating.events.Events.add_elements.Goals as goal

pub loop-element-preserved : goal.loop-element-preserved
loop-element-preserved c =
    given_more c.args.round c.loop-element.element c.in_ok-text.text _ c.args.self.now c.loop-element.self c.add_item.new.self
    c.in_ok-add_item.ensures c.in_ok-text.ensures c.loop-element.invariant
