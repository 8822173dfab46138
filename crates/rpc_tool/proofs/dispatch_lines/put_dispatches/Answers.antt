-- The dispatch at a place of the book is the next to be written.
use Rattle.rpc_tool.proofs.Rows.{row_in, rows_more}
use Rattle.rpc_tool.proofs.dispatch_lines.put_dispatches.Goals as goal

pub put_dispatch-requires : goal.put_dispatch-requires
put_dispatch-requires c =
    let (d, is, more) = row_in c.args.book.now c.made-made-items.ensures.sound c.requires c.made-made-items.result.now c.made-made-items.ensures.made
    c.loop-made.made-index c.made-item.result _ c.loop-made-test.true c.made-item.is in
    (d, is)

pub loop-made-preserved : goal.loop-made-preserved
loop-made-preserved c =
    let (d, is, more) = row_in c.args.book.now c.made-made-items.ensures.sound c.requires c.made-made-items.result.now c.made-made-items.ensures.made
    c.loop-made.made-index c.made-item.result _ c.loop-made-test.true c.made-item.is in
    rows_more c.args.book.now d c.loop-made.made-index c.args.out.now.items c.loop-made.out.items c.put_dispatch.new.out.items more c.loop-made.invariant
    (c.in_ok-put_dispatch.ensures d is)
