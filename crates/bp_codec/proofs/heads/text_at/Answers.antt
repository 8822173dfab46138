use Rattle.std.proofs.Common.{refl, arith}
use Rattle.bp_codec.proofs.HeadSteps.{text_all, text_short}
use Rattle.bp_codec.proofs.heads.text_at.Goals as goal

pub returns-then-after-length : goal.returns-then-after-length
returns-then-after-length c =
    (text_short c.args.max c.in_ok-length.length c.args.rest.now.now c.length_at.new.rest.now c.in_ok-length.ensures (omega arith), refl)

pub returns : goal.returns
returns c =
    text_all c.args.max c.in_ok-length.length c.args.rest.now.now c.length_at.new.rest.now c.in_ok-text.text c.in_ok-length.ensures (omega arith) c.in_ok-text.ensures
