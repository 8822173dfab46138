use Rattle.bp_num.proofs.Payloads.{bytes_are}
use Rattle.rpc_end.proofs.Readers.{told_message}
use Rattle.rpc_end.proofs.reading.message_in.Goals as goal

pub returns : goal.returns
returns c = told_message c.args.max c.args.body.now (bytes_are c.args.body.now c.type_inv.body) c.read_message.result c.read_message.ensures
