use Rattle.std.proofs.Common.{subst}
use Rattle.rpc_book.specs.Calls.{IsReceived}
use Rattle.rpc_book.proofs.Takes.{shown_book}
use Rattle.rpc_book.proofs.book.Book.received.Goals as goal

pub returns : goal.returns
returns c =
    let id = c.args.ticket.now.id in
    subst (λ b. IsReceived b id c.received.result) c.self.view_is
    (shown_book c.self.inside.client c.self.inside.made.items c.self.inside.got.items c.self.invariant id c.received.result c.received.ensures.held)
