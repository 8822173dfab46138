-- No other number is spelled as 0 is.
use Rattle.std.proofs.Common.{arith}
use Rattle.rpc_schedule.proofs.EventLaws.{one_number}
use Rattle.rpc_schedule.proofs.movements.piece_named.Goals as goal

pub returns-then-len-eq0 : goal.returns-then-len-eq0
returns-then-len-eq0 c = λ n spelled.
    let same =
    one_number n c.in_ok-len.len c.args.word.now (omega (arith, spelled.1)) (omega (arith, c.if-len-eq0.true)) spelled.2 c.in_ok-len.ensures.1 in
    omega (arith, same, spelled.0, c.if-len-eq0.true)
