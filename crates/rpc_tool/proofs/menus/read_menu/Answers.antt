-- The shape of a menu is good.
use Rattle.std.proofs.Common.{sym, subst}
use Rattle.bp_value.specs.Faults.{IsGood}
use Rattle.bp_value.specs.Form.{form_of}
use Rattle.rpc_schema.proofs.MenuValues.{menu_good}
use Rattle.rpc_tool.proofs.menus.read_menu.Goals as goal

pub read_spelled-requires : goal.read_spelled-requires
read_spelled-requires c = subst (λ s. IsGood (form_of s)) (sym c.in_ok-shape.ensures) menu_good
