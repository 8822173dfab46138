-- What the entries so far offer.
use Rattle.std.proofs.Common.{◌≡◌, take}
use Rattle.rpc_schema.specs.Choice.{offered}
use Rattle.rpc_schema.proofs.schema.Schema.offered.Given as goal

abbrev pub invariant-loop-entry : goal.invariant-loop-entry
invariant-loop-entry l = l.listings.items ≡ offered (take l.entry-index l.entry-items)
