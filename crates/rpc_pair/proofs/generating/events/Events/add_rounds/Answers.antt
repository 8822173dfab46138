-- One round more, and the end of its block.
use Rattle.std.proofs.Common.{◌≡◌, ◌∙◌, ◌+◌, ◌%◌, ◌≤◌, true, length, nat_eq, arith, rules}
use Rattle.rpc_pair.specs.Generated.{rounds}
use Rattle.rpc_pair.proofs.BlockedRounds.{all_rounds, block_at, ends_block, goes_on_block, round_at, rounds_length}
use Rattle.rpc_pair.proofs.generating.events.Events.add_rounds.Goals as goal
use Rattle.rpc_pair.proofs.generating.events.Events.add_rounds.Goals.{then-is_multiple_of+in_ok-add_block, else-is_multiple_of}

pub loop-index-preserved : goal.loop-index-preserved
loop-index-preserved c =
    let all : c.deref-round-items.result.now ≡ rounds c.args.n = c.deref-round-items.ensures.value ∙ c.in_ok-rounds.ensures in
    elim c.if-is_multiple_of.branch [
      | then-is_multiple_of+in_ok-add_block w ↦
          let again : w.deref.result.now ≡ rounds c.args.n = w.deref.ensures.value ∙ c.in_ok-rounds.ensures in
          let long = rounds_length c.args.n w.deref.result.now again in
          let length_here = rounds_length c.args.n c.deref-round-items.result.now all in
          let last : nat_eq ((c.loop-index.index + 1) % 10) 0 ≡ true = search rules in
          let whole : (c.loop-index.index + 1) % 10 ≡ 0 = search rules in
          let some : 10 ≤ c.loop-index.index + 1 = omega arith in
          let within : c.loop-index.index + 1 ≤ length w.deref.result.now = omega arith in
          ends_block c.args.n c.loop-index.index w.piece.result c.args.self.now c.loop-index.self c.add_round.new.self c.if-is_multiple_of.self _ _
          (round_at c.args.n c.deref-round-items.result.now all c.loop-index.index _ c.loop-index-test.true)
          w.piece.ensures (block_at c.args.n w.deref.result.now again (c.loop-index.index + 1) some within) last
          c.in_ok-add_round.ensures (w.self-is ∙ w.in_ok-add_block.ensures) c.loop-index.invariant
      | else-is_multiple_of w ↦
          goes_on_block c.args.n c.loop-index.index c.args.self.now c.loop-index.self c.if-is_multiple_of.self _
          (round_at c.args.n c.deref-round-items.result.now all c.loop-index.index _ c.loop-index-test.true)
          (search rules) (w.self-is ∙ c.in_ok-add_round.ensures) c.loop-index.invariant
    ]

pub returns : goal.returns
returns c =
    let all : c.deref-round-items.result.now ≡ rounds c.args.n = c.deref-round-items.ensures.value ∙ c.in_ok-rounds.ensures in
    let long = rounds_length c.args.n c.deref-round-items.result.now all in
    all_rounds c.args.n c.loop-index.index c.args.self.now c.loop-index.self (omega arith) (omega arith) c.loop-index.invariant
