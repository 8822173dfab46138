use Rattle.std.proofs.Common.{rules}
use Rattle.rpc_msg.specs.declared.shared.CloseCause.TheVariants as cause
use Rattle.rpc_client.proofs.GotCalls.{shut_keeps}
use Rattle.rpc_client.proofs.client.Client.close.Goals as goal

pub returns-clause-got : goal.returns-clause-got
returns-clause-got c = shut_keeps c.args.self.now c.self.inside.limits c.self.inside.calls c.self.inside.link (search rules) c.shut.new.self cause.ClosedHere c.shut.ensures
