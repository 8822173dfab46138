use Rattle.std.proofs.Common.{Some, arith, rules, ◌-◌, ◌++◌, ap, ◌∙◌, ◌≡◌, length, take, slice_set, length-take}
use Rattle.bp_base.specs.Moves.{got_bytes}
use Rattle.bp_base.proofs.Bending.{given_bent}
use Rattle.bp_base.proofs.wires.BentWireWire.get.Goals as goal

pub returns-clause-given : goal.returns-clause-given
returns-clause-given c =
    let w = c.args.self.now in
    let before = take w.queue.taken w.queue.bytes.items in
    let count = c.get-got.new.self.taken - w.queue.taken in
    let front : length before ≡ w.queue.taken =
    omega (
      arith,
      length-take w.queue.taken w.queue.bytes.items,
      w.queue.within,
      w.queue.bytes.ok.0,
    ) in
    let taken : take c.get-got.new.self.taken c.get-got.new.self.bytes.items
    ≡ before ++ got_bytes c.get-got.result c.get-got.new.into = cc c.get-got.ensures.taken in
    ap Some (
    ap (λ l. slice_set l w.at w.byte) taken
    ∙ given_bent c.get-got.result before c.get-got.new.into c.bend.new.into count w.at w.byte
    (search rules)
    (omega (arith, c.get-got.ensures.count))
    (search rules)
    (c.bend.ensures before front)
    )
