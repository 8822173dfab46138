use Rattle.bp_text.proofs.FrontSteps.{unread_none}
use Rattle.bp_text.proofs.shape_fronts.shape_of.Goals as goal

pub returns-in_default : goal.returns-in_default
returns-in_default c = unread_none c.args.text.now c.in-Err.error c.in-Err.ensures c.in_default.not-OutOfMemory
