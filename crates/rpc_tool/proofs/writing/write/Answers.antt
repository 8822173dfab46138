use Rattle.std.proofs.Common.{length, ap, arith}
use Rattle.rpc_tool.proofs.LineEnds.{no_longer}
use Rattle.rpc_tool.proofs.writing.write.Goals as goal

pub spelling-requires-clause-fits : goal.spelling-requires-clause-fits
spelling-requires-clause-fits c =
    let short = no_longer c.args.input.now in
    let same = ap length c.without_line_end.ensures in
    (length c.without_line_end.result.now, omega (arith, short, same, c.requires.short), c.in-Ok.ensures.fits)
