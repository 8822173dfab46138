use Rattle.std.proofs.Common.{◌≡◌, ◌++◌, length, take}
use Rattle.std.specs.List.{flat_map}
use Rattle.bp_num.specs.Forms.{written_nat}
use Rattle.rpc_server.specs.Rules.{listing_data}
use Rattle.rpc_server.proofs.menus.listings_data.Given as goal

abbrev pub invariant-loop-listing : goal.invariant-loop-listing
invariant-loop-listing l =
    l.out.items ≡ written_nat (length l.listings) ++ flat_map listing_data (take l.listing-index l.listings)
