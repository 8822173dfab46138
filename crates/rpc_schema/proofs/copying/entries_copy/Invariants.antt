-- What was copied so far is the front of what is to be copied.
use Rattle.std.proofs.Common.{◌≡◌, take}
use Rattle.rpc_schema.proofs.copying.entries_copy.Given as goal

abbrev pub invariant-loop-entry : goal.invariant-loop-entry
invariant-loop-entry l = l.copies.items ≡ take l.entry-index l.entries
