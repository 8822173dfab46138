use Rattle.std.proofs.Common.{arith, ◌++◌, ◌<◌, ◌≤◌, length, take, refl, length-append, length-take}
use Rattle.std.proofs.lemmas.Result.{err_from_is_err_and}
use Rattle.bp_base.proofs.Runs.{Came_more}
use Rattle.bp_base.proofs.whole.read_all.Goals as goal

pub returns-then-count-max-clause-came : goal.returns-then-count-max-clause-came
returns-then-count-max-clause-came g c =
    let more = take c.in-Bytes.count c.read.new.into in
    let all = c.reads.all.items in
    let came = Came_more g.S.Source.given g.S.Source.left c.args.src.now c.reads.src c.read.new.self
    all more c.reads.invariant.came c.in-Bytes.ensures.given c.in-Bytes.ensures.left in
    let many : c.args.max < length (all ++ more) =
    omega (
      arith,
      c.if-count-max.true,
      c.len.ensures,
      c.reads.all.ok.0,
      c.in-Bytes.ensures.fits,
      c.read.auto.into,
      length-append all more,
      length-take c.in-Bytes.count c.read.new.into,
    ) in
    (all ++ more, came, (refl, many))

pub returns-in_err-extend_from_slice-in-Bytes-clause-came :
    goal.returns-in_err-extend_from_slice-in-Bytes-clause-came
returns-in_err-extend_from_slice-in-Bytes-clause-came g c =
    let more = take c.in-Bytes.count c.read.new.into in
    let all = c.reads.all.items in
    let came = Came_more g.S.Source.given g.S.Source.left c.args.src.now c.reads.src c.read.new.self
    all more c.reads.invariant.came c.in-Bytes.ensures.given c.in-Bytes.ensures.left in
    let p = err_from_is_err_and c.from_residual.result c.from_residual.ensures.1 in
    let few : length (all ++ more) ≤ c.args.max =
    omega (
      arith,
      c.if-count-max.false,
      c.len.ensures,
      c.reads.all.ok.0,
      c.reads.invariant.fits,
      length-append all more,
      length-take c.in-Bytes.count c.read.new.into,
    ) in
    (all ++ more, came, rw (p.1, p.2) few)
