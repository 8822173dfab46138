use Rattle.bp_value.specs.Form.{form_of}
use Rattle.bp_value.proofs.Good.{good_root}
use Rattle.bp_text.proofs.Readings.{told, handed, fails}
use Rattle.bp_text.proofs.Verdicts.{value_ends, value_goes_on}
use Rattle.bp_text.proofs.value_texts.whole_value.Goals as goal

pub value-requires : goal.value-requires
value-requires c = (1, good_root (form_of c.args.shape.now) c.requires)

pub returns-in_err-value : goal.returns-in_err-value
returns-in_err-value c = handed _ _ _ _ _ c.from_residual.ensures.1 (fails _ (told _ _ _ _ c.in_err-value.ensures))

pub returns-in-None : goal.returns-in-None
returns-in-None c =
    value_ends (form_of c.args.shape.now) c.args.cursor.now c.value.new.cursor c.in_ok-value.value c.in_ok-value.ensures c.in-None.ensures

pub returns-in-Some : goal.returns-in-Some
returns-in-Some c =
    value_goes_on (form_of c.args.shape.now) c.args.cursor.now c.value.new.cursor c.in_ok-value.value c.in_ok-value.ensures _ c.in-Some.ensures.0 c.in-Some.ensures.1
