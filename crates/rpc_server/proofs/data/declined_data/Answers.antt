use Rattle.bp_value.specs.Form.{form_of}
use Rattle.rpc_server.proofs.DataBytes.{declined_bytes}
use Rattle.rpc_server.proofs.data.declined_data.Goals as goal

pub returns : goal.returns
returns c = λ begun. rw (declined_bytes begun (form_of c.args.shape.now) c.args.value.now) c.spelled_behind.ensures
