use Rattle.std.proofs.Common.{subst}
use Rattle.bp_value.specs.Form.{form_of}
use Rattle.rpc_tool.specs.Spelled.{IsSpelled}
use Rattle.rpc_tool.proofs.ShownFits.{spelled_value_fits}
use Rattle.rpc_tool.proofs.showing.show.Goals as goal

pub shown-requires : goal.shown-requires
shown-requires c =
    spelled_value_fits (form_of c.args.shape.now) c.args.input.now c.in-Value.value c.in-Value.count
    (subst (IsSpelled (form_of c.args.shape.now) c.args.input.now) c.in-Value.is c.in_ok-value.ensures)
