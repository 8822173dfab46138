use Rattle.std.proofs.Common.{◌≡◌, ◌≤◌, ◌↔◌, length, take}
use Rattle.bp_base.specs.Told.{Gains}
use Rattle.rpc_pair.proofs.put.put_out.Given as goal

abbrev pub invariant-pieces : goal.invariant-pieces
invariant-pieces g l = record {
  within : l.total ≤ length (g.E.Party.output l.fn.end);
  room : length l.buffer ≡ length l.fn.buffer;
  given : g.W.Wire.given l.wire ≡ g.W.Wire.given l.fn.wire;
  honest : g.W.Wire.honest l.fn.wire ↔ g.W.Wire.honest l.wire;
  steady : g.W.Wire.faults l.wire ≡ g.W.Wire.faults l.fn.wire;
  keeps : g.E.Party.keeps l.fn.end l.end;
  out : l.end ≡ g.E.Party.without l.fn.end l.total;
  sent : Gains g.W.Wire.sent l.fn.wire l.wire (take l.total (g.E.Party.output l.fn.end));
}

abbrev pub decreases-pieces : goal.decreases-pieces
decreases-pieces g l = length (g.E.Party.output l.end)
