use Rattle.bp_value.specs.Form.{form_of}
use Rattle.rpc_msg.proofs.Bodies.{whole_read, more_read, bad_read}
use Rattle.rpc_msg.proofs.values.value_at.Goals as goal

pub returns-in-Whole : goal.returns-in-Whole
returns-in-Whole c =
    whole_read c.args.max_len (form_of c.args.shape.now) c.requires.good c.args.rest.now.now c.in-Whole.value c.in-Whole.used
    (rw c.in-Whole.is at c.in_ok-value.ensures.told)

pub returns-in-More : goal.returns-in-More
returns-in-More c =
    more_read c.args.max_len (form_of c.args.shape.now) c.requires.good c.args.rest.now.now c.known.ensures (rw c.in-More.is at c.in_ok-value.ensures.told)

pub returns-in-Bad : goal.returns-in-Bad
returns-in-Bad c =
    bad_read c.args.max_len (form_of c.args.shape.now) c.requires.good c.args.rest.now.now c.in-Bad.at c.in-Bad.why c.known.ensures
    (rw c.in-Bad.is at c.in_ok-value.ensures.told)
