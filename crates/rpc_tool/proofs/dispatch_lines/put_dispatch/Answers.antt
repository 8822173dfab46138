-- What is shown of a dispatch of the book can be printed, and is what it holds.
use Rattle.std.proofs.Common.{rules, ◌≡◌, ap, ◌∙◌, ◌++◌}
use Rattle.rpc_report.specs.Dispatches.{head_text}
use Rattle.rpc_tool.proofs.Rows.{ending_of_row, on_ok, parts_of_row, row_written}
use Rattle.rpc_tool.proofs.dispatch_lines.put_dispatch.Goals as goal

pub put_parts-requires : goal.put_parts-requires
put_parts-requires c = let (d, row) = c.requires in parts_of_row c.args.book.now c.args.made.now d row c.in-Some.field-0 (search (rules, c.in-Some.ensures))

pub put_last-requires : goal.put_last-requires
put_last-requires c = let (d, row) = c.requires in ending_of_row c.args.book.now c.args.made.now d row c.in-Some.field-0 (search (rules, c.in-Some.ensures))

pub returns : goal.returns
returns c = λ d row.
    let head : c.put_head.new.out.items
    ≡ c.args.out.now.items ++ head_text c.as_slice.result.now c.args.made.now.id c.as_slice-2.result.now c.args.made.now.desc.version
    = search (rules, c.in_ok-put_head.ensures.ok) in
    on_ok c.put_last.result
    (λ last. row_written c.args.book.now c.args.made.now d row c.in-Some.field-0 (search (rules, c.in-Some.ensures)) c.args.out.now.items c.put_head.new.out.items
    c.put_parts.new.out.items c.put_last.new.out.items
    (head
    ∙ (ap (λ l. c.args.out.now.items ++ head_text l c.args.made.now.id c.as_slice-2.result.now c.args.made.now.desc.version) c.as_slice.ensures
    ∙ ap (λ n. c.args.out.now.items ++ head_text c.args.made.now.label c.args.made.now.id n c.args.made.now.desc.version) c.as_slice-2.ensures))
    c.in_ok-put_parts.ensures last)
    c.put_last.ensures
