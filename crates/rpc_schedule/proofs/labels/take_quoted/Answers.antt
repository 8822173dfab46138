-- The shape is good, and what reads by it is a text.
use Rattle.rpc_schedule.proofs.EventLaws.{good_text, fitting_text}
use Rattle.rpc_schedule.proofs.labels.take_quoted.Goals as goal

pub read_value-requires : goal.read_value-requires
read_value-requires c = good_text

pub text_of-requires : goal.text_of-requires
text_of-requires c = fitting_text _ c.in-Ok.value c.in-Ok.ensures.fits
