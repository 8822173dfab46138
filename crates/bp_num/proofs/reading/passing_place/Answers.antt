use Rattle.std.proofs.Common.{◌^◌, ◌+◌, ◌≤◌, arith, lit<}
use Rattle.std.proofs.Math.Nat.{pow-le-pow_right}
use Rattle.bp_num.proofs.reading.passing_place.Goals as goal

-- seven bytes and no more are cut off
pub pow-requires : goal.pow-requires
pow-requires c =
    let within : c.loop-place.place + 1 ≤ 7 = omega arith in
    let power : 256 ^ (c.loop-place.place + 1) ≤ 256 ^ 7 = pow-le-pow_right (lit< tt) within in
    omega (arith, power)
