-- The value is a menu's, and its lines are what is wanted.
use Rattle.std.proofs.Common.{subst}
use Rattle.bp_value.specs.Form.{form_of}
use Rattle.rpc_schema.specs.Choice.{menu_shape}
use Rattle.rpc_tool.specs.Spelled.{IsSpelled}
use Rattle.rpc_tool.proofs.ShownFits.{spelled_value_fits}
use Rattle.rpc_tool.proofs.menus.menu.Goals as goal

pub listed-requires : goal.listed-requires
listed-requires c =
    spelled_value_fits (form_of menu_shape) c.args.input.now c.in-Value.value c.in-Value.count
    (subst (IsSpelled (form_of menu_shape) c.args.input.now) c.in-Value.is c.in_ok-value.ensures)
