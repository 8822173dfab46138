use Rattle.bp_codec.proofs.Ranges.{number_back}
use Rattle.rpc_server.proofs.doing.follow.Goals as goal

pub returns-in-Asked : goal.returns-in-Asked
returns-in-Asked c = rw c.in-Asked.is (rw (number_back c.args.id c.ranges.id) at (c.ask.ensures c.args.link.now))
