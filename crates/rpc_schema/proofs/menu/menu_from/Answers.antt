-- The value is a list of listings.
use Rattle.std.proofs.Common.{sym, subst, ◌∙◌}
use Rattle.std.specs.List.{All}
use Rattle.bp_value.proofs.Layers.{items_is}
use Rattle.rpc_schema.specs.Choice.{IsListing}
use Rattle.rpc_schema.proofs.MenuValues.{menu_items}
use Rattle.rpc_schema.proofs.menu.menu_from.Goals as goal

pub unreachable-requires : goal.unreachable-requires
unreachable-requires c = let (vs, is, all) = menu_items c.args.value.now c.requires in c.in_default.not-Items vs is

pub listings_from-requires : goal.listings_from-requires
listings_from-requires c =
    let (vs, is, all) = menu_items c.args.value.now c.requires in
    subst (All IsListing) (items_is vs c.in-Items.items (sym is ∙ c.in-Items.is) ∙ sym c.as_slice.ensures) all
