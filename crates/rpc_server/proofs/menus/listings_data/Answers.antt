use Rattle.std.proofs.Common.{sym, ap, ◌∙◌, ◌++◌, arith}
use Rattle.std.specs.List.{flat_map}
use Rattle.std.proofs.lemmas.List.{take_all}
use Rattle.bp_num.specs.Forms.{written_nat}
use Rattle.rpc_server.specs.Rules.{listing_data}
use Rattle.rpc_server.proofs.MenuBytes.{menu_bytes, all_listings}
use Rattle.rpc_server.proofs.menus.listings_data.Goals as goal

pub returns : goal.returns
returns c =
    c.from_vec.ensures ∙ (c.loop-listing.invariant ∙ all_listings c.args.listings.now c.loop-listing.listing-index (omega arith))
