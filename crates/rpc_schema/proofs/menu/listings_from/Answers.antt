-- Each item is a listing.
use Rattle.std.proofs.Common.{sym, subst}
use Rattle.rpc_schema.specs.Choice.{IsListing}
use Rattle.rpc_schema.proofs.menu.listings_from.Goals as goal

pub listing_from-requires : goal.listing_from-requires
listing_from-requires c =
    subst IsListing (sym c.item-item.is) (c.requires c.loop-item.item-index c.item-item.result c.loop-item-test.true)
