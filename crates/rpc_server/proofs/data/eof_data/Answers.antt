use Rattle.rpc_server.proofs.DataBytes.{eof_bytes}
use Rattle.rpc_server.proofs.data.eof_data.Goals as goal

pub returns : goal.returns
returns c = rw eof_bytes c.from_slice.ensures
