use Rattle.bp_value.specs.Form.{form_of}
use Rattle.rpc_server.proofs.DataBytes.{begun_bytes}
use Rattle.rpc_server.proofs.data.begun_data.Goals as goal

pub returns : goal.returns
returns c = λ error. rw (begun_bytes (form_of c.args.shape.now) error c.args.value.now) c.spelled_behind.ensures
