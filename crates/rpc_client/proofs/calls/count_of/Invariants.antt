use Rattle.std.proofs.Common.{◌≡◌, ◌≤◌, length, take}
use Rattle.std.specs.List.{count_by}
use Rattle.rpc_client.specs.Tables.{is_waited_for}
use Rattle.rpc_client.proofs.calls.count_of.Given as goal

-- those before were counted
abbrev pub invariant-loop-at : goal.invariant-loop-at
invariant-loop-at l = record {
  within : l.at ≤ length l.entries;
  counted : l.count ≡ count_by is_waited_for (take l.at l.entries);
}
