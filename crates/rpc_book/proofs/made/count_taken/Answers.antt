use Rattle.std.proofs.Common.{rules, ◌≡◌, sym, ap, ◌∙◌, ◌+◌, w64, arith}
use Rattle.std.specs.Prelude.{Some, None}
use Rattle.std.specs.List.{position}
use mir.Val.{SFits}
use Rattle.bp_codec.proofs.Ranges.{number_back}
use Rattle.rpc_book.specs.Inside.{has_made_id}
use Rattle.rpc_book.proofs.Counting.{changed_place, found_place, no_place, not_counted}
use Rattle.rpc_book.specs.Calls.{with_count}
use Rattle.rpc_book.proofs.made.count_taken.Goals as goal

pub returns-in_default : goal.returns-in_default
returns-in_default c = not_counted c.args.took.now c.in_default.not-Part c.args.id c.args.made.now.items

pub overflow_add-index_mut : goal.overflow_add-index_mut
overflow_add-index_mut c =
    let id = c.args.id in
    let fits : SFits w64 id = search rules in
    let at : Some c.in-Some.at ≡ position (has_made_id id) c.as_slice.result.now = rw (number_back id fits) at c.in-Some.ensures in
    let one = c.index_mut.result.now in
    let found = found_place id (with_count c.args.took.now) c.args.made.now.items c.in-Some.at one (at ∙ ap (position (has_made_id id)) c.as_slice.ensures.value) c.index_mut.ensures.value in
    let few = c.requires one found in
    omega (arith, few)

pub returns-in-Some : goal.returns-in-Some
returns-in-Some c =
    let id = c.args.id in
    let fits : SFits w64 id = search rules in
    let at : Some c.in-Some.at ≡ position (has_made_id id) c.as_slice.result.now = rw (number_back id fits) at c.in-Some.ensures in
    let one = c.index_mut.result.now in
    changed_place id (with_count c.args.took.now) c.args.made.now.items c.in-Some.at one (record one { taken = one.taken + 1 }) (at ∙ ap (position (has_made_id id)) c.as_slice.ensures.value)
    c.index_mut.ensures.value (ap (λ t. with_count t one) (sym c.in-Part.is))

pub returns-in_default-place_of : goal.returns-in_default-place_of
returns-in_default-place_of c =
    let id = c.args.id in
    let fits : SFits w64 id = search rules in
    let at : None ≡ position (has_made_id id) c.as_slice.result.now = rw (number_back id fits) at c.in_default-place_of.ensures in
    no_place id (with_count c.args.took.now) c.args.made.now.items (at ∙ ap (position (has_made_id id)) c.as_slice.ensures.value)
