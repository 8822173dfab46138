-- What was placed so far is made of the front.
use Rattle.std.proofs.Common.{◌≡◌, ◌++◌, map, take}
use Rattle.bp_value.specs.Form.{form_of}
use Rattle.bp_codec.specs.Sources.{origins, value}
use Rattle.bp_codec.proofs.plan.making.place_shapes.Given as goal

abbrev pub invariant-loop-shape : goal.invariant-loop-shape
invariant-loop-shape l = origins l.sources.items ≡ origins l.fn.sources.items ++ map (λ s. value (form_of s)) (take l.shape-index l.shapes)
