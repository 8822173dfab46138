use Rattle.std.proofs.Common.{◌≡◌, ℕ, List, length}
use Rattle.rpc_pair.specs.Moving.{IsFeed}
use Rattle.rpc_pair.specs.Runs.{Leads}
use Rattle.rpc_pair.proofs.carry.take_piece.Given as goal

abbrev pub invariant-feeds : goal.invariant-feeds
invariant-feeds g l = record {
  feeds : (counts : List ℕ)
      × Leads (IsFeed (g.E.Party.takes l.now)) (record { at = l.fn.end; piece = l.fn.piece }) counts (record { at = l.end; piece = l.left });
  now : l.now ≡ l.fn.now;
  keeps : g.E.Party.keeps l.fn.end l.end;
}

abbrev pub decreases-feeds : goal.decreases-feeds
decreases-feeds g l = length l.left
