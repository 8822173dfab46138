-- The shapes stand after what stood there.
use Rattle.std.proofs.Common.{arith}
use Rattle.std.proofs.lemmas.List.{length-map}
use Rattle.bp_value.specs.Form.{form_of}
use Rattle.bp_codec.specs.Sources.{origin, value}
use Rattle.bp_codec.proofs.Placed.{placed_all, shape_origins}
use Rattle.bp_codec.proofs.plan.making.place_shapes.Goals as goal

pub returns : goal.returns
returns c = (
  omega (arith, length-map c.args.sources.now.items origin),
  placed_all (λ s. value (form_of s)) c.args.shapes.now c.loop-shape.shape-index _ _ _ c.loop-shape-test.false c.loop-shape.invariant (shape_origins c.args.shapes.now),
)
