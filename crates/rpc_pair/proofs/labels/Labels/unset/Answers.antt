use Rattle.std.specs.Prelude.{None}
use Rattle.rpc_pair.proofs.LabelSets.{sets_label}
use Rattle.rpc_pair.proofs.labels.Labels.unset.Goals as goal

pub returns : goal.returns
returns c = sets_label c.args.self.now.places c.remove.new.self c.args.label.now None c.remove.ensures.updates
