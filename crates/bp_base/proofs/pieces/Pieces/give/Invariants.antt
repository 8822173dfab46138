use Rattle.std.proofs.Common.{◌-◌, vec_len}
use Rattle.bp_base.proofs.Giving.{Passes}
use Rattle.bp_base.proofs.pieces.Pieces.give.Given as goal

abbrev pub invariant-pieces : goal.invariant-pieces
invariant-pieces l =
    Passes l.fn.self.pieces.items l.fn.self.whole l.fn.self.at l.fn.into
    l.self.pieces.items l.self.whole l.self.at l.into

abbrev pub decreases-pieces : goal.decreases-pieces
decreases-pieces l = vec_len l.self.pieces - l.self.whole
