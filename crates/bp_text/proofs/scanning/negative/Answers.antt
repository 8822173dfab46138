use Rattle.std.proofs.Common.{sym}
use Rattle.bp_text.proofs.ScanSteps.{negative_is}
use Rattle.bp_text.proofs.scanning.negative.Goals as goal

pub returns : goal.returns
returns c = λ s cut.
    negative_is c.args.rest.now.now s c.split_at.result.0.now c.split_at.result.1.now c.digits_len.result c.number.result cut c.digits_len.ensures
    c.split_at.ensures.front c.split_at.ensures.back (sym c.if-not-is_negative.ensures) c.number.ensures
