use Rattle.std.proofs.Common.{sym}
use Rattle.bp_text.proofs.ScanSteps.{natural_is}
use Rattle.bp_text.proofs.scanning.natural.Goals as goal

pub returns : goal.returns
returns c =
    natural_is c.args.rest.now.now c.split_at.result.0.now c.split_at.result.1.now c.digits_len.result c.number.result c.digits_len.ensures
    c.split_at.ensures.front c.split_at.ensures.back (sym c.if-not-is_plain.ensures) c.number.ensures
