-- At first nothing is made, and each node takes one place more; at the end all are made.
use Rattle.std.proofs.Common.{◌≡◌, length, slice_get, Some, arith}
use Rattle.bp_value.specs.Form.{form_of}
use Rattle.bp_codec.specs.Sources.{origin, origins}
use Rattle.bp_codec.proofs.Built.{none_built, built_next, source_at, all_made}
use Rattle.bp_codec.proofs.Sizes.{smaller_next}
use Rattle.bp_codec.proofs.Fit.{some_node, placed}
use Rattle.bp_codec.proofs.ReadsAs.{read_as}
use Rattle.bp_codec.proofs.plan.Plan.new.Goals as goal

pub loop-source-init : goal.loop-source-init
loop-source-init c =
    rw (c.in_ok-sources.ensures.items, c.new-nodes.ensures.items, c.new-tags.ensures.items) (none_built (form_of c.args.shape.now) c.requires)

pub loop-source-smaller : goal.loop-source-smaller
loop-source-smaller c =
    let look = c.in-Some.ensures.lookup in
    let at : slice_get (origins c.loop-source.sources.items) (length c.loop-source.nodes.items) ≡ Some (origin c.in-Some.field-0.now) =
    source_at c.deref.result.now _ c.len.result _ _ c.deref.ensures.value (omega arith) look.3.0 look.1 in
    smaller_next _ _ _ _ _ _ (origin c.in-Some.field-0.now) _ at c.in_ok-source_node.ensures c.in_ok-push.ensures.items

pub loop-source-preserved : goal.loop-source-preserved
loop-source-preserved c =
    let look = c.in-Some.ensures.lookup in
    let at : slice_get (origins c.loop-source.sources.items) (length c.loop-source.nodes.items) ≡ Some (origin c.in-Some.field-0.now) =
    source_at c.deref.result.now _ c.len.result _ _ c.deref.ensures.value (omega arith) look.3.0 look.1 in
    rw c.in_ok-push.ensures.items (built_next _ _ _ _ _ _ (origin c.in-Some.field-0.now) _ c.loop-source.invariant at c.in_ok-source_node.ensures)

pub invariant_of-result : goal.invariant_of-result
invariant_of-result c =
    let f = form_of c.args.shape.now in
    let os = origins c.loop-source.sources.items in
    let ns = c.loop-source.nodes.items in
    let tags = c.loop-source.tags.items in
    let built = c.loop-source.invariant in
    let all : length ns ≡ length os =
    all_made f c.deref.result.now _ _ tags c.len.result built c.deref.ensures.value (omega arith) c.in_default.ensures.lookup.3 in
    let p = placed f os ns tags built all in
    record {
      some = some_node f os ns tags built all;
      opts = p.opts;
      lists = p.lists;
      parts = p.parts;
      sums = p.sums;
      polys = p.polys;
      args = p.args;
    }

pub returns : goal.returns
returns c =
    let f = form_of c.args.shape.now in
    let os = origins c.loop-source.sources.items in
    let ns = c.loop-source.nodes.items in
    let tags = c.loop-source.tags.items in
    let built = c.loop-source.invariant in
    let all : length ns ≡ length os =
    all_made f c.deref.result.now _ _ tags c.len.result built c.deref.ensures.value (omega arith) c.in_default.ensures.lookup.3 in
    λ m. read_as m f os ns tags built all
