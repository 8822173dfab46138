-- The fields' shapes stand after what stood there.
use Rattle.std.proofs.Common.{arith}
use Rattle.std.proofs.lemmas.List.{length-map}
use Rattle.bp_value.specs.Form.{form_of}
use Rattle.bp_codec.specs.Sources.{origin, value}
use Rattle.bp_codec.proofs.Placed.{placed_all, field_origins}
use Rattle.bp_codec.proofs.plan.making.place_fields.Goals as goal

pub returns : goal.returns
returns c = (
  omega (arith, length-map c.args.sources.now.items origin),
  placed_all (λ f. value (form_of f.shape)) c.args.fields.now c.loop-field.field-index _ _ _ c.loop-field-test.false c.loop-field.invariant (field_origins c.args.fields.now),
)
