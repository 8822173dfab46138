use Rattle.std.proofs.Common.{rules, ◌≡◌, refl, ap, ◌∙◌, w64, arith}
use Rattle.std.specs.Prelude.{Some, None}
use Rattle.std.specs.List.{position}
use mir.Val.{SFits}
use Rattle.bp_codec.proofs.Ranges.{number_back}
use Rattle.rpc_book.specs.Inside.{has_made_id}
use Rattle.rpc_book.proofs.Counting.{changed_place, found_place, no_place}
use Rattle.rpc_book.specs.Inside.{cut_behind}
use Rattle.rpc_book.proofs.made.cut.Goals as goal

pub overflow_add-one : goal.overflow_add-one
overflow_add-one c =
    let id = c.args.id in
    let fits : SFits w64 id = search rules in
    let at : Some c.in-Some.at ≡ position (has_made_id id) c.as_slice.result.now = rw (number_back id fits) at c.in-Some.ensures in
    let one = c.index_mut-one.result.now in
    let found = found_place id (cut_behind c.args.waiting) c.args.made.now.items c.in-Some.at one (at ∙ ap (position (has_made_id id)) c.as_slice.ensures.value) c.index_mut-one.ensures.value in
    let few = c.requires one found in
    omega (arith, few)

pub returns-in-Some : goal.returns-in-Some
returns-in-Some c =
    let id = c.args.id in
    let fits : SFits w64 id = search rules in
    let at : Some c.in-Some.at ≡ position (has_made_id id) c.as_slice.result.now = rw (number_back id fits) at c.in-Some.ensures in
    let one = c.index_mut-one.result.now in
    changed_place id (cut_behind c.args.waiting) c.args.made.now.items c.in-Some.at one (cut_behind c.args.waiting one) (at ∙ ap (position (has_made_id id)) c.as_slice.ensures.value)
    c.index_mut-one.ensures.value refl

pub returns-in_default : goal.returns-in_default
returns-in_default c =
    let id = c.args.id in
    let fits : SFits w64 id = search rules in
    let at : None ≡ position (has_made_id id) c.as_slice.result.now = rw (number_back id fits) at c.in_default.ensures in
    no_place id (cut_behind c.args.waiting) c.args.made.now.items (at ∙ ap (position (has_made_id id)) c.as_slice.ensures.value)
