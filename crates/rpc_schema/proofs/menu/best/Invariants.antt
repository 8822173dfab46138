-- The choice of the entries so far.
use Rattle.std.proofs.Common.{take}
use Rattle.rpc_schema.specs.Choice.{IsChoice}
use Rattle.rpc_schema.proofs.menu.best.Given as goal

abbrev pub invariant-loop-listing : goal.invariant-loop-listing
invariant-loop-listing l = IsChoice l.own (take l.listing-index l.listing-items) l.name l.best
