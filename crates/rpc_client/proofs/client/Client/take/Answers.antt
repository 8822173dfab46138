use Rattle.std.proofs.Common.{rules}
use Rattle.rpc_end.specs.Ends.{is_closed}
use Rattle.rpc_client.specs.Tables.{TakesRow}
use Rattle.rpc_client.proofs.GotCalls.{take_holds, take_keeps}
use Rattle.rpc_client.proofs.client.Client.take.Goals as goal

pub returns-clause-got : goal.returns-clause-got
returns-clause-got c =
    let takes : TakesRow (is_closed c.self.inside.link) c.self.inside.calls c.args.ticket.now.id c.take.result c.take.new.self = search rules in
    take_keeps c.args.self.now c.self.inside.limits c.self.inside.calls c.self.inside.link (search rules) c.args.ticket.now.id c.take.result c.take.new.self takes

pub returns-clause-held : goal.returns-clause-held
returns-clause-held c =
    let takes : TakesRow (is_closed c.self.inside.link) c.self.inside.calls c.args.ticket.now.id c.take.result c.take.new.self = search rules in
    take_holds c.args.self.now c.self.inside.limits c.self.inside.calls c.self.inside.link (search rules) c.args.ticket.now.id c.take.result c.take.new.self takes
