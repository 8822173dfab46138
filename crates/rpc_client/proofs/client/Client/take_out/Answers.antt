use Rattle.std.proofs.Common.{rules}
use Rattle.rpc_client.proofs.GotCalls.{take_out_keeps}
use Rattle.rpc_client.proofs.client.Client.take_out.Goals as goal

pub returns-clause-got : goal.returns-clause-got
returns-clause-got c = take_out_keeps c.args.self.now c.self.inside.limits c.self.inside.calls c.self.inside.link (search rules) c.take_out.new.self c.take_out.result c.take_out.ensures.left
