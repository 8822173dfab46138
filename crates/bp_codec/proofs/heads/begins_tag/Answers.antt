use Rattle.std.proofs.Common.{◌≡◌, ◌∙◌, sym, nat_eq, w32, rules, tests}
use Rattle.std.proofs.lemmas.Iterator.{YieldsList-from_slice}
use Rattle.std.proofs.lemmas.Iterator.Search.{any_from_yields_List}
use Rattle.std.specs.Int.{to_le_bytes}
use Rattle.std.specs.List.{list_any, starts_with}
use Rattle.bp_codec.proofs.TagSteps.{begun_front, front_begun}
use Rattle.bp_codec.proofs.heads.begins_tag.Goals as goal

pub returns : goal.returns
returns c =
    let is : c.any.result ≡ list_any (λ tag. starts_with nat_eq (to_le_bytes w32 tag) c.args.front.now) c.args.tags.now =
    any_from_yields_List (λ tag. starts_with nat_eq (to_le_bytes w32 tag) c.args.front.now) _ _ c.any.result c.any.ensures.ran
    (YieldsList-from_slice _ c.iter.ensures.rest) (λ x b q k. search (rules, tests)) in
    (λ passes. begun_front c.args.front.now 0 c.args.tags.now (sym is ∙ passes), λ front. is ∙ front_begun c.args.front.now 0 c.args.tags.now front)
