-- The tags so far are kept, and no two of them are one.
use Rattle.std.proofs.Common.{map}
use Rattle.bp_value.specs.Tags.{tag_of}
use Rattle.bp_value.proofs.Members.{AreKept}
use Rattle.bp_value.proofs.checking.tag_clash.Given as goal

abbrev pub invariant-loop-second : goal.invariant-loop-second
invariant-loop-second l = AreKept (map (λ case. tag_of case.name) l.poly) l.tags l.second
