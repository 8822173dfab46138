use Rattle.std.proofs.Common.{rules, ◌≡◌, ap, ◌∙◌, subst}
use Rattle.rpc_meeting.specs.Steps.{moved_bytes}
use Rattle.rpc_pair.specs.Kept.{keeps_same, most_piece}
use Rattle.rpc_pair.specs.Pairs.{PairState, up_flight}
use Rattle.rpc_pair.specs.Wires.{MovesUpOver}
use Rattle.rpc_pair.proofs.Overs.{up_over}
use Rattle.rpc_pair.proofs.Pairing.{still_pair, still_room}
use Rattle.rpc_pair.proofs.pair.Pair.move_up.Goals as goal

pub invariant_of-self : goal.invariant_of-self
invariant_of-self g c =
    let here = c.self.inside.buffer in
    still_pair c.self.inside.book c.self.inside.book c.self.inside.server c.carry.new.end c.self.inside.limits here.items _ c.self.invariant (keeps_same c.self.inside.book) c.carry.ensures.keeps
    (still_room here.len most_piece c.carry.new.buffer here.items here.ok.0 c.self.invariant.room (search rules))

pub invariant_of-self-in_err-self-inside : goal.invariant_of-self-in_err-self-inside
invariant_of-self-in_err-self-inside g c =
    let here = c.self.inside.buffer in
    still_pair c.self.inside.book c.self.inside.book c.self.inside.server c.carry.new.end c.self.inside.limits here.items _ c.self.invariant (keeps_same c.self.inside.book) c.carry.ensures.keeps
    (still_room here.len most_piece c.carry.new.buffer here.items here.ok.0 c.self.invariant.room (search rules))

pub invariant_of-self-2 : goal.invariant_of-self-2
invariant_of-self-2 g c =
    let here = c.self.inside.buffer in
    still_pair c.self.inside.book c.self.inside.book c.self.inside.server c.carry.new.end c.self.inside.limits here.items _ c.self.invariant (keeps_same c.self.inside.book) c.carry.ensures.keeps
    (still_room here.len most_piece c.carry.new.buffer here.items here.ok.0 c.self.invariant.room (search rules))

pub returns-clause-moves : goal.returns-clause-moves
returns-clause-moves g c =
    let p : PairState = record { book = c.self.inside.book; server = c.self.inside.server; now = c.self.inside.moment; moved = c.self.inside.moved } in
    let count : c.moved_bytes-count.result ≡ moved_bytes c.args.count (up_flight p) = c.moved_bytes-count.ensures ∙ ap (moved_bytes c.args.count) c.saturating_sub-flight.ensures in
    subst (λ (q : PairState). MovesUpOver g.W.Wire.honest g.W.Wire.sent g.W.Wire.given q c.args.count c.args.by c.args.up.now c.carry.new.wire
    (record { book = p.book; server = c.carry.new.end; now = p.now; moved = record { up = c.in_ok-self-inside.field-0; up_put = p.moved.up_put; down = p.moved.down; down_put = p.moved.down_put } })) c.self.view_is
    (up_over g.W.Wire.honest g.W.Wire.sent g.W.Wire.given p c.args.count c.args.by c.in_ok-came.came c.moved_bytes-count.result c.in_ok-self-inside.field-0 c.args.up.now c.carry.new.wire
    c.in_ok-came.ensures.sent c.carry.new.end c.in_ok-came.ensures.moved count c.in_ok-self-inside.ensures)
