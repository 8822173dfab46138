use Rattle.std.proofs.Common.{refl}
use Rattle.bp_num.proofs.FromAnswers.{nat_more}
use Rattle.bp_codec.proofs.HeadSteps.{length_done, length_bad}
use Rattle.bp_codec.proofs.heads.long_length.Goals as goal

pub returns-in-Done : goal.returns-in-Done
returns-in-Done c = length_done c.args.max c.args.rest.now.now c.in-Done.value c.in-Done.used c.requires c.in-Done.ensures.told

pub returns-in-More : goal.returns-in-More
returns-in-More c = (nat_more c.args.max c.args.rest.now.now c.known.ensures c.in-More.ensures.told, refl)

pub returns-in-Bad : goal.returns-in-Bad
returns-in-Bad c = length_bad c.args.max c.args.rest.now.now c.in-Bad.at c.in-Bad.why c.known.ensures c.in-Bad.ensures.told
