use Rattle.std.proofs.Common.{◌-◌, length, sym, arith}
use Rattle.rpc_tool.proofs.LineEnds.{last_gone, all_kept}
use Rattle.rpc_tool.proofs.writing.without_line_end.Goals as goal

pub returns-then-last-eq10 : goal.returns-then-last-eq10
returns-then-last-eq10 c =
    let s = c.args.input.now in
    sym (last_gone (length s - 1) s (omega (arith, c.in-len1-up.len_at_least)) c.if-last-eq10.true)

pub returns-else-last-eq10 : goal.returns-else-last-eq10
returns-else-last-eq10 c =
    let s = c.args.input.now in
    sym (all_kept (length s - 1) s (omega (arith, c.in-len1-up.len_at_least)) c.if-last-eq10.false)
