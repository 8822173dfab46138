use Rattle.bp_value.specs.Form.{form_of}
use Rattle.rpc_server.proofs.acting.data_for.Goals as goal

pub returns-in-Begin : goal.returns-in-Begin
returns-in-Begin c = rw c.in-Begin.is (c.begun_data.ensures (form_of c.args.desc.now.error))

pub returns-in-Decline : goal.returns-in-Decline
returns-in-Decline c = rw c.in-Decline.is (c.declined_data.ensures (form_of c.args.desc.now.first))
