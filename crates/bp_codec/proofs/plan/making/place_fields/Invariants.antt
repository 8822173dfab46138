-- What was placed so far is made of the front.
use Rattle.std.proofs.Common.{◌≡◌, ◌++◌, map, take}
use Rattle.bp_value.specs.Form.{form_of}
use Rattle.bp_codec.specs.Sources.{origins, value}
use Rattle.bp_codec.proofs.plan.making.place_fields.Given as goal

abbrev pub invariant-loop-field : goal.invariant-loop-field
invariant-loop-field l = origins l.sources.items ≡ origins l.fn.sources.items ++ map (λ s. value (form_of s.shape)) (take l.field-index l.fields)
