use Rattle.rpc_client.proofs.Queries.{abort_is, ok_is}
use Rattle.rpc_client.proofs.asking.abort_data.Goals as goal

pub returns : goal.returns
returns c = ok_is _ _ _ abort_is c.from_slice.ensures
