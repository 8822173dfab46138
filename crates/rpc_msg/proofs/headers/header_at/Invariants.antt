use Rattle.std.proofs.Common.{◌≤◌}
use Rattle.readers.specs.Reader.{count}
use Rattle.bp_num.specs.NumberAt.{int_at}
use Rattle.bp_num.specs.declared.number.IntKind.TheVariants.{Int63}
use Rattle.rpc_msg.proofs.HeaderSteps.{IsOnward}
use Rattle.rpc_msg.proofs.headers.header_at.Given as goal

-- so many versions were read, and the others follow
abbrev pub invariant-versions : goal.invariant-versions
invariant-versions l = record {
  within : l.counter ≤ l.count;
  onward : IsOnward l.versions.items l.count l.counter l.rest.now (count (int_at Int63) l.count l.initial.rest.now);
}
