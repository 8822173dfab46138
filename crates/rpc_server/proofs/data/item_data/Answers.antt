use Rattle.bp_grammar.specs.Written.{written}
use Rattle.bp_value.specs.Form.{form_of}
use Rattle.rpc_server.proofs.DataBytes.{item_long}
use Rattle.rpc_server.proofs.data.item_data.Goals as goal

pub returns-in-Err : goal.returns-in-Err
returns-in-Err c = item_long c.args.max (written (form_of c.args.shape.now) c.args.value.now) c.in-Err.error c.in-Err.ensures
