-- One more tag is kept.
use Rattle.std.proofs.Common.{◌≡◌, ◌<◌, ◌≤◌, length, refl, ◌∙◌, rules, arith, w32, to_z, of_z}
use mir.Val.{SFits}
use Rattle.std.proofs.lemmas.Int.{to_z-of_z}
use Rattle.std.proofs.lemmas.Option.{slice_get_read}
use Rattle.bp_value.specs.Limits.{most_members}
use Rattle.bp_value.specs.Tags.{tag_of}
use Rattle.bp_value.proofs.Members.{keep_one, tag_at, tags_of}
use Rattle.bp_value.proofs.checking.tag_clash.Goals as goal

pub loop-second-preserved : goal.loop-second-preserved
loop-second-preserved c =
    let fits : SFits w32 c.poly_tag-tag.result = search rules in
    let is : to_z w32 (of_z w32 c.poly_tag-tag.result) ≡ tag_of c.index-poly-second.result.name =
    to_z-of_z w32 c.poly_tag-tag.result fits ∙ (rw c.as_slice.ensures at c.poly_tag-tag.ensures) in
    let at_case =
    slice_get_read c.args.poly.now _ c.loop-second.second c.index-poly-second.result refl
    c.loop-second-test.true c.index-poly-second.is in
    let few : length c.args.poly.now ≤ most_members = c.requires in
    let room : c.loop-second.second < length c.loop-second.tags = omega arith in
    keep_one (tags_of c.args.poly.now) c.loop-second.tags c.loop-second.second
    c.loop-second.invariant _
    (tag_at c.args.poly.now c.loop-second.second c.index-poly-second.result _ at_case is) room
    c.in_default.ensures
