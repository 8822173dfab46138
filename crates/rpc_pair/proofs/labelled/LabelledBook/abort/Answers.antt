use Rattle.rpc_pair.proofs.LabelPlaces.{aborted_labels, same_labels}
use Rattle.rpc_pair.proofs.labelled.LabelledBook.abort.Goals as goal

pub invariant_of-self : goal.invariant_of-self
invariant_of-self c =
    same_labels c.self.inside.labels c.self.inside.book c.abort.new.self (aborted_labels c.self.inside.book c.abort.new.self c.args.ticket.now.id c.abort.result c.abort.ensures) c.self.invariant
