use Rattle.std.proofs.Common.{◌≡◌, true, false, arith}
use Rattle.bp_num.specs.declared.number.Why.TheVariants.{Tag}
use Rattle.bp_codec.proofs.TagSteps.{tag_cut, tag_fault}
use Rattle.bp_codec.proofs.heads.no_tag.Goals as goal

pub returns-then-not-begins_tag : goal.returns-then-not-begins_tag
returns-then-not-begins_tag c =
    tag_fault Tag c.args.tags.now c.args.rest.now.now c.requires c.loop-shared.shared c.loop-shared-test.true c.loop-shared.invariant.begins
    (λ front. let told : false ≡ true = c.if-not-begins_tag.ensures.1 front in absurd cc)

pub returns : goal.returns
returns c =
    (tag_cut Tag c.args.tags.now c.args.rest.now.now c.requires c.loop-shared.shared (omega arith) c.loop-shared.invariant.begins, c.loop-shared.invariant.stays)
