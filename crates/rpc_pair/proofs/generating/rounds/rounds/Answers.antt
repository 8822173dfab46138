-- One round more.
use Rattle.std.proofs.Common.{◌≡◌, sym, ap, ◌∙◌, ◌+◌, arith, rules}
use Rattle.rpc_pair.specs.Generated.{drawn, next_drawn}
use Rattle.rpc_pair.proofs.DrawnRounds.{drawn_first, drawn_next, round_pushed, rounds_all}
use Rattle.rpc_pair.proofs.generating.rounds.rounds.Goals as goal

pub loop-before-init : goal.loop-before-init
loop-before-init c = record { rounds = search rules; last = sym (drawn_first c.args.n) }

pub loop-before-preserved : goal.loop-before-preserved
loop-before-preserved c =
    let last : c.next_drawn-drawn.result ≡ drawn c.args.n (c.loop-before.before + 1)
    = c.next_drawn-drawn.ensures ∙ (ap next_drawn c.loop-before.invariant.last ∙ sym (drawn_next c.args.n c.loop-before.before)) in
    record {
      rounds = round_pushed c.args.n c.loop-before.before c.next_drawn-drawn.result c.loop-before.rounds.items c.push.new.self.items
          c.in_ok-push.ensures.items last c.loop-before.invariant.rounds;
      last = last;
    }

pub returns : goal.returns
returns c = c.loop-before.invariant.rounds ∙ rounds_all c.args.n c.loop-before.before (omega arith) (omega arith)
