use Rattle.std.proofs.Common.{Some, arith, ◌++◌, take, ap, ◌∙◌, take-add}
use Rattle.std.proofs.lemmas.List.{take_all}
use Rattle.bp_base.proofs.Copying.{front_copied}
use Rattle.bp_base.proofs.queue.Queue.get.Goals as goal

pub returns-else-count-into-clause-taken : goal.returns-else-count-into-clause-taken
returns-else-count-into-clause-taken c =
    let q = c.args.self.now in
    let count = c.copy_front-count.result in
    let into = c.copy_front-count.new.into in
    let next = front_copied count q.taken c.deref.result.now q.bytes.items into
    c.deref.ensures.value c.copy_front-count.ensures.copied in
    ap Some (
    take-add q.taken count q.bytes.items
    ∙ ap (λ l. take q.taken q.bytes.items ++ l)
    (next ∙ take_all count into (omega (arith, c.if-count-into.false)))
    )
