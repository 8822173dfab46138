-- The word `const`, and what follows it.
use Rattle.std.proofs.Common.{List, ℕ, Result, Ok, Err}
use Rattle.rpc_schema.specs.declared.desc.RpcDesc.{RpcDesc}
use Rattle.rpc_schema.specs.declared.desc.Behaviour.{Behaviour}
use Rattle.rpc_schema.specs.declared.stop.Stop.{Stop}
use Rattle.rpc_schema.specs.declared.stop.Stop.TheVariants as stop
use Rattle.rpc_schema.specs.LineParts.{Lacks}
use Rattle.rpc_schema.specs.LineAnswers.{TakesOne}
use Rattle.rpc_schema.specs.SchemaLines.{IsConst, IsConstant, IsConstPart, ConstPartRefused}
use Rattle.rpc_schema.proofs.behaviours.constant_part.Goals as goal

after_const : (d : RpcDesc) (old mid new : List ℕ) (result : Result Behaviour Stop) → ((c : Unit {0}) → IsConst d c old mid)
    → TakesOne (IsConstant d) (Lacks (IsConstant d)) mid new result → TakesOne (IsConstPart d) (ConstPartRefused d) old new result
after_const d old mid new (Ok b) first takes = (tt, mid, first tt, takes)
after_const d old mid new (Err stop.Refused) first takes = (tt, mid, first tt, takes)
after_const d old mid new (Err stop.OutOfMemory) first takes = tt

pub returns-clause-takes : goal.returns-clause-takes
returns-clause-takes c =
    after_const c.args.desc.now c.args.line.now c.pass_word.new.self c.constant.new.line c.constant.result
    (λ u. ((c.requires.word, c.requires.plain), c.pass_word.ensures)) c.constant.ensures.takes
