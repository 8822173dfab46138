use Rattle.std.proofs.Common.{◌≡◌, ◌==◌, rules, tests, arith}
use Rattle.std.proofs.lemmas.Iterator.{YieldsList-from_slice}
use Rattle.std.proofs.lemmas.Iterator.Search.{position_from_yields_List}
use Rattle.std.specs.List.{position}
use Rattle.bp_num.specs.declared.number.Why.TheVariants.{Tag}
use Rattle.bp_codec.proofs.TagSteps.{short_tag, tag_found}
use Rattle.bp_codec.proofs.heads.whole_tag.Goals as goal

pub returns-in_default : goal.returns-in_default
returns-in_default c = short_tag c.args.tags.now c.args.bytes.now (omega arith)

pub returns : goal.returns
returns c =
    let is : c.position.result ≡ position (λ tag. tag == c.from_le_bytes-word.result) c.args.tags.now =
    position_from_yields_List (λ tag. tag == c.from_le_bytes-word.result) _ _ c.position.result c.position.ensures.ran
    (YieldsList-from_slice _ c.iter.ensures.rest) (λ x b q k. search (rules, tests)) in
    tag_found Tag c.args.tags.now c.args.bytes.now c.from_le_bytes-word.result c.type_inv.tags c.type_inv.bytes
    c.in-len4-up.len_at_least c.from_le_bytes-word.type_inv c.from_le_bytes-word.ensures c.position.result is
