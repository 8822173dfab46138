-- The behaviour, and more after it.
use Rattle.std.proofs.Common.{rules}
use Rattle.rpc_schema.specs.LineParts.{Next, Known, Lacks, End}
use Rattle.rpc_schema.specs.SchemaLines.{IsAct}
use Rattle.rpc_schema.proofs.PartLaws.{second_stops}
use Rattle.rpc_schema.proofs.behaviours.act_part.Goals as goal

pub returns-in_err-end-clause-takes : goal.returns-in_err-end-clause-takes
returns-in_err-end-clause-takes c =
    second_stops (IsAct c.args.desc.now) (Lacks (IsAct c.args.desc.now)) (λ a. Next End (λ e. Known a)) (λ a. Lacks End) End c.in_ok-act.act
    c.args.line.now c.act.new.line c.end.new.self c.in_err-end.field-0.0 c.from_residual-in_err-end.result (search rules) c.in_ok-act.ensures.takes
    c.in_err-end.ensures
