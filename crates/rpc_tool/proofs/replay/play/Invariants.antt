use Rattle.std.proofs.Common.{[], List, take}
use Rattle.bp_base.specs.Faults.{BothGoOn}
use Rattle.rpc_schema.specs.declared.desc.Entry.{Entry}
use Rattle.rpc_tool.specs.Playing.{PlayedOver, SteppedOver}
use Rattle.rpc_tool.proofs.replay.play.Given as goal

abbrev pub invariant-events : goal.invariant-events
invariant-events g l = record {
  wires : BothGoOn g.W.Wire.faults g.W.Wire.honest l.fn.up l.up l.fn.down l.down ⊥;
  played : (entries : List Entry) → PlayedOver g.W.Wire.sent g.W.Wire.given entries [] l.fn.report.items l.fn.pair l.fn.up l.fn.down
      → PlayedOver g.W.Wire.sent g.W.Wire.given entries (take l.lined-index l.events) l.report.items l.pair l.up l.down;
  stepped : (entries : List Entry) → g.W.Wire.honest l.fn.up → g.W.Wire.honest l.fn.down
      → SteppedOver g.W.Wire.sent g.W.Wire.given entries [] l.fn.report.items l.fn.pair l.fn.up l.fn.down
      → SteppedOver g.W.Wire.sent g.W.Wire.given entries (take l.lined-index l.events) l.report.items l.pair l.up l.down;
}
