use Rattle.rpc_end.proofs.Keeping.{kept_new}
use Rattle.rpc_end.proofs.end.End.new.Goals as goal

pub invariant_of-result : goal.invariant_of-result
invariant_of-result c = kept_new c.args.limits.max_message c.new.result c.requires.message.1 c.new.ensures
