-- What was placed so far is made of the front.
use Rattle.std.proofs.Common.{◌≡◌, ◌++◌, map, take}
use Rattle.std.specs.Int.{w32, cast_unsigned}
use Rattle.std.specs.Option.{option_map}
use Rattle.bp_value.specs.Form.{form_of, argument}
use Rattle.bp_value.specs.Tags.{tag_of}
use Rattle.bp_codec.specs.Sources.{origins, args}
use Rattle.bp_codec.proofs.plan.making.poly_node.Given as goal

abbrev pub invariant-loop-case : goal.invariant-loop-case
invariant-loop-case l = record {
  sources_so_far : origins l.sources.items ≡ origins l.fn.sources.items ++ map (λ s. args (argument (option_map form_of s.arg))) (take l.case-index l.poly);
  tags_so_far : l.tags.items ≡ l.fn.tags.items ++ map (λ s. cast_unsigned w32 (tag_of s.name)) (take l.case-index l.poly);
}
