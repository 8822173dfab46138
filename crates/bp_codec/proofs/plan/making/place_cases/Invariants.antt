-- What was placed so far is made of the front.
use Rattle.std.proofs.Common.{◌≡◌, ◌++◌, map, take}
use Rattle.bp_value.specs.Form.{form_of, parts}
use Rattle.bp_codec.specs.Sources.{origins, args}
use Rattle.bp_codec.proofs.plan.making.place_cases.Given as goal

abbrev pub invariant-loop-case : goal.invariant-loop-case
invariant-loop-case l = origins l.sources.items ≡ origins l.fn.sources.items ++ map (λ s. args (parts (map form_of s.args))) (take l.case-index l.sum)
