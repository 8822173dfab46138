-- What was read so far is the front of what is to be read.
use Rattle.std.proofs.Common.{◌≡◌, map, take}
use Rattle.rpc_schema.specs.Choice.{listing_value}
use Rattle.rpc_schema.proofs.menu.listings_from.Given as goal

abbrev pub invariant-loop-item : goal.invariant-loop-item
invariant-loop-item l = map listing_value l.listings.items ≡ take l.item-index l.items
