use Rattle.std.proofs.Common.{arith}
use Rattle.bp_codec.proofs.HeadSteps.{length_short}
use Rattle.bp_codec.proofs.heads.length_at.Goals as goal

pub returns : goal.returns
returns c = length_short c.args.max c.from-2.result c.args.rest.now.now c.in-len1-up.len_at_least (omega arith) (omega arith) (omega arith)
