-- The state, and what follows it.
use Rattle.std.proofs.Common.{codes}
use Rattle.rpc_schema.specs.SchemaLines.{Marked, MarkedRefused, AreItems, ItemsRefused}
use Rattle.rpc_schema.proofs.PartLaws.{second_takes}
use Rattle.rpc_schema.proofs.shapes.state_rest.Goals as goal

pub returns : goal.returns
returns c =
    second_takes (Marked (codes "->")) (MarkedRefused (codes "->")) (λ first. AreItems (codes ",") c.args.query first) (λ first. ItemsRefused (codes ","))
    c.in_ok-first.first c.args.line.now c.marked.new.line c.items.new.line c.items.result c.in_ok-first.ensures c.items.ensures
