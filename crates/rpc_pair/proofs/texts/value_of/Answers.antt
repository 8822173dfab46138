use Rattle.bp_value.specs.Form.{form_of}
use Rattle.rpc_pair.proofs.Readings.{read_within}
use Rattle.rpc_pair.proofs.texts.value_of.Goals as goal

pub returns-in-Ok : goal.returns-in-Ok
returns-in-Ok c =
    read_within c.args.max_len (form_of c.args.shape.now) c.args.text.now c.in-Ok.value c.within.result c.in-Ok.ensures.good c.in-Ok.ensures.only c.within.ensures

pub returns-in-Err-BadText : goal.returns-in-Err-BadText
returns-in-Err-BadText c = λ v reads fits. rw c.in-Err-BadText.field-0-is at (c.in-Err-BadText.ensures.only v reads)
