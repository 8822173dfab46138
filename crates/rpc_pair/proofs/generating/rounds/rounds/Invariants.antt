-- The rounds so far, and the number that was drawn for the last one.
use Rattle.std.proofs.Common.{◌≡◌, map}
use Rattle.std.specs.List.{range_with_len}
use Rattle.rpc_pair.specs.Generated.{drawn, round}
use Rattle.rpc_pair.proofs.generating.rounds.rounds.Given as goal

abbrev pub invariant-loop-before : goal.invariant-loop-before
invariant-loop-before l = record {
  rounds : l.rounds.items ≡ map (round l.n) (range_with_len 1 l.before);
  last : l.drawn ≡ drawn l.n l.before;
}
