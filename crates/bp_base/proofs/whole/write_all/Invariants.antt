use Rattle.std.proofs.Common.{◌-◌, length}
use Rattle.bp_base.proofs.Runs.{WrittenSoFar}
use Rattle.bp_base.proofs.whole.write_all.Given as goal

abbrev pub invariant-writes : goal.invariant-writes
invariant-writes g l = WrittenSoFar g.K.Sink.put g.K.Sink.faults l.fn.sink l.sink l.piece l.written

abbrev pub decreases-writes : goal.decreases-writes
decreases-writes g l = length l.piece - l.written
