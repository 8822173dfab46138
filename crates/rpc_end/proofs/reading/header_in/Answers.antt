use Rattle.bp_num.proofs.Payloads.{bytes_are}
use Rattle.rpc_end.proofs.Readers.{told_header}
use Rattle.rpc_end.proofs.reading.header_in.Goals as goal

pub returns : goal.returns
returns c = told_header c.args.max c.args.body.now (bytes_are c.args.body.now c.type_inv.body) c.read_header.result c.read_header.ensures
