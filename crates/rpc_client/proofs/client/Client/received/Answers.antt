use Rattle.std.proofs.Common.{rules}
use Rattle.rpc_end.specs.Ends.{is_closed}
use Rattle.rpc_talk.specs.Parts.{unless_closed}
use Rattle.rpc_client.specs.Tables.{ShownOf, find_row}
use Rattle.rpc_client.proofs.GotCalls.{received_holds}
use Rattle.rpc_client.proofs.client.Client.received.Goals as goal

pub returns-clause-held : goal.returns-clause-held
returns-clause-held c =
    let shows : ShownOf (unless_closed (is_closed c.self.inside.link)) (find_row c.args.ticket.now.id c.self.inside.calls) c.received.result = search rules in
    received_holds c.args.self.now c.self.inside.limits c.self.inside.calls c.self.inside.link (search rules) c.args.ticket.now.id c.received.result shows
