use Rattle.std.proofs.Common.{ℕ, vec_len}
use Rattle.bp_codec.specs.Opened.{IsSame, Reaches}
use Rattle.bp_codec.proofs.open.Open.settle.Given as goal

-- reading goes on as it was when the call began, among the same nodes
abbrev pub invariant-levels : goal.invariant-levels
invariant-levels l = IsSame l.initial.self l.self × ((n : ℕ) → Reaches n l.initial.self → Reaches n l.self)

abbrev pub decreases-levels : goal.decreases-levels
decreases-levels l = vec_len l.self.stack
