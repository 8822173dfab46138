use Rattle.std.proofs.Common.{rules, ◌≡◌, ap, ◌∙◌, w64}
use Rattle.std.specs.Prelude.{Some, None}
use Rattle.std.specs.List.{position}
use mir.Val.{SFits}
use Rattle.bp_codec.proofs.Ranges.{number_back}
use Rattle.rpc_client.specs.Tables.{find_row, has_row_id}
use Rattle.rpc_client.proofs.Places.{take_done, take_counted, no_place, strange_take, IsAtPlace}
use Rattle.rpc_client.proofs.calls.Calls.take.Goals as goal

pub returns-in_default : goal.returns-in_default
returns-in_default c =
    let id = c.args.id in
    let fits : SFits w64 id = search rules in
    let at : None ≡ position (has_row_id id) c.as_slice.result.now = rw (number_back id fits) at c.in_default.ensures in
    let none : find_row id c.args.self.now ≡ None = no_place c.args.self.now c.self.inside.entries.items id (search rules) (at ∙ ap (position (has_row_id id)) c.as_slice.ensures.value) in
    strange_take c.args.closed c.args.self.now id none

pub invariant_of-self : goal.invariant_of-self
invariant_of-self c =
    let id = c.args.id in
    let fits : SFits w64 id = search rules in
    let at : Some c.in-Some.at ≡ position (has_row_id id) c.as_slice.result.now = rw (number_back id fits) at c.in-Some.ensures in
    let place : IsAtPlace c.args.self.now c.self.inside.entries.items id c.in-Some.at c.index_mut.result.now =
    (search rules, at ∙ ap (position (has_row_id id)) c.as_slice.ensures.value, c.index_mut.ensures.value) in
    take_counted c.args.closed c.args.self.now c.self.inside.entries.items c.in-Some.at id c.index_mut.result.now c.take.new.self _ _ place c.take.ensures.row c.self.invariant

pub returns : goal.returns
returns c =
    let id = c.args.id in
    let fits : SFits w64 id = search rules in
    let at : Some c.in-Some.at ≡ position (has_row_id id) c.as_slice.result.now = rw (number_back id fits) at c.in-Some.ensures in
    let place : IsAtPlace c.args.self.now c.self.inside.entries.items id c.in-Some.at c.index_mut.result.now =
    (search rules, at ∙ ap (position (has_row_id id)) c.as_slice.ensures.value, c.index_mut.ensures.value) in
    take_done c.args.closed c.args.self.now c.self.inside.entries.items c.in-Some.at id c.take.result c.index_mut.result.now c.take.new.self place
    c.take.ensures.took c.take.ensures.row
