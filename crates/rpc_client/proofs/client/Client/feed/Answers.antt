use Rattle.bp_num.proofs.Payloads.{bytes_are}
use Rattle.rpc_client.proofs.GotCalls.{feed_keeps}
use Rattle.rpc_client.proofs.client.Client.feed.Goals as goal

pub returns-clause-got : goal.returns-clause-got
returns-clause-got c = feed_keeps c.args.self.now c.step.new.self c.args.piece.now c.args.now c.step.result (bytes_are c.args.piece.now c.type_inv.piece) c.step.ensures.did
