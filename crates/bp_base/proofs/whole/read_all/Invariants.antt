use Rattle.std.proofs.Common.{◌-◌, vec_len}
use Rattle.bp_base.proofs.Runs.{ReadSoFar}
use Rattle.bp_base.proofs.whole.read_all.Given as goal

abbrev pub invariant-reads : goal.invariant-reads
invariant-reads g l =
    ReadSoFar g.S.Source.given g.S.Source.left g.S.Source.ended g.S.Source.faults
    l.fn.src l.src l.max l.all.items

abbrev pub decreases-reads : goal.decreases-reads
decreases-reads g l = l.max - vec_len l.all
