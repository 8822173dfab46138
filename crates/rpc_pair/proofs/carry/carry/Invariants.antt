use Rattle.std.proofs.Common.{◌≡◌, ◌≤◌, ◌+◌, ◌↔◌, ℕ, List, length}
use Rattle.std.specs.List.{concat}
use Rattle.bp_base.specs.Told.{Gains}
use Rattle.rpc_pair.specs.Moving.{IsMove, TakesPiece}
use Rattle.rpc_pair.specs.Runs.{Leads}
use Rattle.rpc_pair.proofs.carry.carry.Given as goal

abbrev pub invariant-pieces : goal.invariant-pieces
invariant-pieces g l = record {
  within : l.left ≤ l.count;
  room : length l.buffer ≡ length l.fn.buffer;
  sent : g.W.Wire.sent l.wire ≡ g.W.Wire.sent l.fn.wire;
  honest : g.W.Wire.honest l.fn.wire ↔ g.W.Wire.honest l.wire;
  steady : g.W.Wire.faults l.wire ≡ g.W.Wire.faults l.fn.wire;
  keeps : g.E.Party.keeps l.fn.end l.end;
  moved : (pieces : List (List ℕ)) × Leads (IsMove g.E.Party.closed (TakesPiece (g.E.Party.takes l.now) (g.E.Party.closes l.now)) l.by)
      (record { at = l.fn.end; left = l.count }) pieces (record { at = l.end; left = l.left })
      × Gains g.W.Wire.given l.fn.wire l.wire (concat pieces) × (length (concat pieces) + l.left ≡ l.count);
}

abbrev pub decreases-pieces : goal.decreases-pieces
decreases-pieces g l = l.left
