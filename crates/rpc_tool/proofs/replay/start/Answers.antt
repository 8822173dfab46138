-- A new pair whose headers were put is behind none of the events.
use Rattle.std.proofs.Common.{rules, subst}
use Rattle.rpc_pair.specs.Pairs.{IsNewPair}
use Rattle.rpc_tool.proofs.Scenes.{played_first, stepped_first}
use Rattle.rpc_tool.proofs.Told.{usual_within}
use Rattle.rpc_tool.proofs.replay.start.Goals as goal

pub returns-in_err-start-clause-wires : goal.returns-in_err-start-clause-wires
returns-in_err-start-clause-wires g c = search (rules, c.in_err-start.ensures.wires, c.from_residual-in_err-start.ensures)

pub returns-clause-played : goal.returns-clause-played
returns-clause-played g c = λ fresh.
    played_first g.W.Wire.honest g.W.Wire.sent g.W.Wire.given c.args.schema c.in_ok-pair.pair c.start.new.self c.args.up.now c.start.new.up c.args.down.now c.start.new.down
    fresh (subst (λ l. IsNewPair c.args.schema l c.in_ok-pair.pair) c.usual.ensures c.in_ok-pair.ensures) c.in_ok-start.ensures.puts

pub returns-clause-stepped : goal.returns-clause-stepped
returns-clause-stepped g c = λ honest.
    stepped_first g.W.Wire.honest g.W.Wire.sent g.W.Wire.given c.args.schema c.in_ok-pair.pair c.start.new.self c.args.up.now c.start.new.up c.args.down.now c.start.new.down
    honest (subst (λ l. IsNewPair c.args.schema l c.in_ok-pair.pair) c.usual.ensures c.in_ok-pair.ensures) c.requires usual_within c.in_ok-start.ensures.stands
