-- The lines of the entries so far.
use Rattle.std.proofs.Common.{◌≡◌, take}
use Rattle.std.specs.List.{flat_map}
use Rattle.rpc_tool.specs.MenuCommands.{listing_line}
use Rattle.rpc_tool.proofs.menus.listed.Given as goal

abbrev pub invariant-loop-listing : goal.invariant-loop-listing
invariant-loop-listing l = l.text.items ≡ flat_map listing_line (take l.listing-index l.listing-items)
