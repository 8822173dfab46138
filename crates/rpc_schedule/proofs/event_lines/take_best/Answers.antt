-- The label, and what follows it.
use Rattle.rpc_schema.specs.LineParts.{Lacks}
use Rattle.rpc_schema.specs.SchemaLines.{IsNamePart}
use Rattle.rpc_schedule.specs.EventParts.{IsLabel, IsBestUnder}
use Rattle.rpc_schema.proofs.PartLaws.{second_takes}
use Rattle.rpc_schedule.proofs.event_lines.take_best.Goals as goal

pub returns : goal.returns
returns c =
    second_takes IsLabel (Lacks IsLabel) IsBestUnder (λ label. Lacks IsNamePart) c.in_ok-label.label c.args.line.now c.take_label.new.line
    c.take_best_under.new.line c.take_best_under.result c.in_ok-label.ensures c.take_best_under.ensures
