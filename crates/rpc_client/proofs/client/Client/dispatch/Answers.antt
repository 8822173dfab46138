use Rattle.rpc_client.proofs.GotCalls.{dispatch_keeps}
use Rattle.rpc_client.proofs.client.Client.dispatch.Goals as goal

pub returns-clause-got : goal.returns-clause-got
returns-clause-got c = dispatch_keeps c.args.self.now c.call.new.self c.args.desc.now c.args.query.now c.call.result c.requires c.call.ensures
