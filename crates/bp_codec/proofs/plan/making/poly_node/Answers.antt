-- The cases' arguments stand after what stood there, and their tags after all tags.
use Rattle.std.proofs.Common.{arith}
use Rattle.std.proofs.lemmas.List.{length-map}
use Rattle.bp_codec.specs.Sources.{origin, origins}
use Rattle.bp_codec.proofs.Placed.{expands_poly}
use Rattle.bp_codec.proofs.plan.making.poly_node.Goals as goal

pub returns : goal.returns
returns c =
    expands_poly c.args.poly.now (origins c.args.sources.now.items) _ c.args.tags.now.items _ c.loop-case.case-index _ _ _ c.loop-case-test.false
    c.loop-case.invariant.sources_so_far c.loop-case.invariant.tags_so_far
    (omega (arith, length-map c.args.sources.now.items origin)) (omega arith) (omega arith)
