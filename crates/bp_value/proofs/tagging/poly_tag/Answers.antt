-- One more byte is one more digit.
use Rattle.bp_value.proofs.TagSteps.{hash_more}
use Rattle.bp_value.proofs.tagging.poly_tag.Goals as goal

pub loop-byte-preserved : goal.loop-byte-preserved
loop-byte-preserved c =
    rw c.from.ensures
    (hash_more c.args.name.now c.loop-byte.byte-index c.loop-byte.hash c.loop-byte-test.true
    c.loop-byte.invariant)
