use Rattle.rpc_pair.proofs.Overs.{on_ok}
use Rattle.rpc_pair.proofs.Turning.{starts}
use Rattle.rpc_pair.proofs.pair.Pair.start.Goals as goal

pub returns-clause-stands : goal.returns-clause-stands
returns-clause-stands g c = λ r begins.
    on_ok c.put_all.result
    (λ puts. starts g.W.Wire.sent g.W.Wire.given r c.args.self.now c.put_all.new.self c.args.up.now c.put_all.new.up c.args.down.now c.put_all.new.down begins puts)
    c.put_all.ensures.puts
