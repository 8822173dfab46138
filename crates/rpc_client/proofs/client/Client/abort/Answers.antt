use Rattle.std.proofs.Common.{rules, w64}
use mir.Val.{SFits}
use Rattle.bp_codec.proofs.Ranges.{number_back}
use Rattle.rpc_client.specs.Clients.{IsAborted}
use Rattle.rpc_client.proofs.Gots.{abort_got}
use Rattle.rpc_client.proofs.client.Client.abort.Goals as goal

pub returns-clause-got : goal.returns-clause-got
returns-clause-got c =
    let id = c.args.ticket.now.id in
    let fits : SFits w64 id = search rules in
    let did : IsAborted c.args.self.now id c.cut.result c.cut.new.self = rw (number_back id fits) at c.cut.ensures in
    abort_got c.args.self.now id c.cut.result c.cut.new.self did
