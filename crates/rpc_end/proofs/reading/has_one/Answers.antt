use Rattle.rpc_end.proofs.Readers.{one_there, there_one}
use Rattle.rpc_end.proofs.reading.has_one.Goals as goal

pub returns : goal.returns
returns c = (λ e. one_there c.args.header.now.versions (c.has_one.ensures.0 e), λ e. c.has_one.ensures.1 (there_one c.args.header.now.versions e))
