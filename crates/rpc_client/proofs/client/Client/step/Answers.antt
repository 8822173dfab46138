use Rattle.std.proofs.Common.{rules}
use Rattle.rpc_client.proofs.Fed.{fed_part}
use Rattle.rpc_client.proofs.client.Client.step.Goals as goal

pub returns-in-Ok-Part-clause-did : goal.returns-in-Ok-Part-clause-did
returns-in-Ok-Part-clause-did c =
    fed_part c.args.self.now c.self.inside.limits c.self.inside.calls c.self.inside.link c.next.new.self c.args.piece.now c.args.now c.in-Ok-Part.used (search rules)
    (rw c.in-Ok-Part.field-0-is at c.in-Ok-Part.ensures.took)
