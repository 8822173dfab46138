use Rattle.std.proofs.Common.{rules}
use Rattle.rpc_client.proofs.GotCalls.{tick_keeps}
use Rattle.rpc_client.proofs.client.Client.tick.Goals as goal

pub returns-clause-got : goal.returns-clause-got
returns-clause-got c = tick_keeps c.args.self.now c.self.inside.limits c.self.inside.calls c.self.inside.link (search rules) c.tick.result c.tick.new.self c.args.now c.tick.ensures.ok c.tick.ensures.err
