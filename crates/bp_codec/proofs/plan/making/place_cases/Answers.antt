-- The cases' arguments stand after what stood there.
use Rattle.std.proofs.Common.{map, arith}
use Rattle.std.proofs.lemmas.List.{length-map}
use Rattle.bp_value.specs.Form.{form_of, parts}
use Rattle.bp_codec.specs.Sources.{origin, args}
use Rattle.bp_codec.proofs.Placed.{placed_all, sum_origins}
use Rattle.bp_codec.proofs.plan.making.place_cases.Goals as goal

pub returns : goal.returns
returns c = (
  omega (arith, length-map c.args.sources.now.items origin),
  placed_all (λ k. args (parts (map form_of k.args))) c.args.sum.now c.loop-case.case-index _ _ _ c.loop-case-test.false c.loop-case.invariant (sum_origins c.args.sum.now),
)
