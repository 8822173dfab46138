use Rattle.std.proofs.Common.{◌≡◌, ◌<◌, ◌≤◌, ap, ◌∙◌, length, slice_get, Some, arith}
use Rattle.bp_codec.specs.Levels.{next_of, reach_of}
use Rattle.bp_codec.specs.declared.levels.Left.TheVariants as left
use Rattle.bp_codec.specs.declared.levels.Next.TheVariants as next
use Rattle.bp_codec.specs.declared.plan.Node.TheVariants as node
use Rattle.bp_codec.proofs.Opening.{begun_reaches}
use Rattle.bp_codec.proofs.Descending.{descends, first_part, node_at, next_within}
use Rattle.bp_codec.proofs.open.Open.descend.Goals as goal

pub parts-preserved : goal.parts-preserved
parts-preserved c =
    let ns = c.args.plan.now.nodes.items in
    let old = c.parts.self in
    let begins = c.in_ok-begin.ensures.ok in
    let first = c.in-Parts.first in
    let stands : next_of old.top.left ≡ next.Node c.in-Node.place = c.parts.invariant.stands ∙ c.in-Node.is in
    let reach : reach_of old.top.left ≤ length ns = c.parts.invariant.reaches.top in
    let within : c.in-Node.place < length ns = omega (arith, next_within old.top.left c.in-Node.place stands) in
    let at : slice_get ns c.in-Node.place ≡ Some (node.Parts first c.in-Parts.count) = node_at ns c.in-Node.place c.index.result.now _ within c.index.ensures c.in-Parts.is in
    let fits = c.args.plan.now.parts c.in-Node.place first c.in-Parts.count at in
    record {
      stands = ap (λ l. next_of l) begins.left ∙ first_part first c.in-Parts.count fits.0;
      some = λ e. cc;
      reaches = begun_reaches old (left.Parts first c.in-Parts.count) _ c.begin.new.self begins (length ns) fits.2 c.parts.invariant.reaches;
      same = λ m reading reads s. c.parts.invariant.same m reading reads s
          ∙ descends ns c.args.plan.now.tags.items c.in-Node.place first c.in-Parts.count old c.begin.new.self at stands begins m reading reads s;
    }
