-- The word `do`, and what follows it.
use Rattle.rpc_schema.specs.LineParts.{Lacks}
use Rattle.rpc_schema.specs.SchemaLines.{IsDo, IsBehaviour, BehaviourRefused}
use Rattle.rpc_schema.proofs.PartLaws.{second_takes}
use Rattle.rpc_schema.proofs.behaviours.doing.Goals as goal

pub returns-clause-takes : goal.returns-clause-takes
returns-clause-takes c =
    second_takes IsDo (Lacks IsDo) (λ a. IsBehaviour c.args.desc.now) (λ a. BehaviourRefused c.args.desc.now) c.in_ok-take_do.field-0
    c.args.line.now c.take_do.new.line c.behaviour.new.line c.behaviour.result c.in_ok-take_do.ensures c.behaviour.ensures.takes
