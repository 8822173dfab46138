-- One more name that is one; and all of them.
use Rattle.std.proofs.Common.{◌≤◌, length, arith}
use Rattle.bp_value.specs.Names.{IsShapeName}
use Rattle.bp_value.specs.Named.{names_of}
use Rattle.bp_value.proofs.FitSteps.{all_more_at, all_done}
use Rattle.bp_value.proofs.naming.Names.first_bad.Goals as goal

pub loop-place-preserved : goal.loop-place-preserved
loop-place-preserved c =
    all_more_at IsShapeName (names_of c.args.self.now) _ _ _ c.name.ensures c.loop-place.invariant
    c.is_name.ensures c.if-not-is_name.false

pub returns : goal.returns
returns c =
    let past : length (names_of c.args.self.now) ≤ c.loop-place.place =
    omega (arith, c.len-place-end.ensures, c.loop-place-test.false) in
    all_done IsShapeName (names_of c.args.self.now) _ past c.loop-place.invariant
