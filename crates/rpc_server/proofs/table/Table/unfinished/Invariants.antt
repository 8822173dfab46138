use Rattle.std.proofs.Common.{◌≡◌, ◌≤◌, take}
use Rattle.rpc_server.specs.Tables.{unfinished}
use Rattle.rpc_server.proofs.table.Table.unfinished.Given as goal

abbrev pub invariant-loop-query : goal.invariant-loop-query
invariant-loop-query l = (l.count ≡ unfinished (take l.query-index l.query-items)) × (l.count ≤ l.query-index)
