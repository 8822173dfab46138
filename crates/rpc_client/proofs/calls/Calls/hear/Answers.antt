use Rattle.std.proofs.Common.{rules, ◌≡◌, ap, ◌∙◌, w64}
use Rattle.std.specs.Prelude.{Some, None}
use Rattle.std.specs.List.{position}
use mir.Val.{SFits}
use Rattle.bp_codec.proofs.Ranges.{number_back}
use Rattle.rpc_client.specs.Tables.{find_row, has_row_id}
use Rattle.rpc_client.proofs.Places.{hear_done, hear_counted, no_place, strange_answer, IsAtPlace}
use Rattle.rpc_client.proofs.calls.Calls.hear.Goals as goal

pub returns-in_default-clause-ok : goal.returns-in_default-clause-ok
returns-in_default-clause-ok c =
    let id = c.args.response.id in
    let fits : SFits w64 id = search rules in
    let at : None ≡ position (has_row_id id) c.as_slice.result.now = rw (number_back id fits) at c.in_default.ensures in
    let none : find_row id c.args.self.now ≡ None = no_place c.args.self.now c.self.inside.entries.items id (search rules) (at ∙ ap (position (has_row_id id)) c.as_slice.ensures.value) in
    rw (number_back id fits) (strange_answer c.args.max c.args.self.now id c.args.response.result none)

pub invariant_of-self : goal.invariant_of-self
invariant_of-self c =
    let id = c.args.response.id in
    let fits : SFits w64 id = search rules in
    let at : Some c.in-Some.at ≡ position (has_row_id id) c.as_slice.result.now = rw (number_back id fits) at c.in-Some.ensures in
    let place : IsAtPlace c.args.self.now c.self.inside.entries.items id c.in-Some.at c.index_mut.result.now =
    (search rules, at ∙ ap (position (has_row_id id)) c.as_slice.ensures.value, c.index_mut.ensures.value) in
    hear_counted c.hear.result c.args.max c.args.self.now c.self.inside.entries.items c.in-Some.at id c.args.response.result c.index_mut.result.now c.hear.new.self _ _ place
    c.hear.ensures.ok c.hear.ensures.err c.self.invariant

pub returns-clause-ok : goal.returns-clause-ok
returns-clause-ok c =
    let id = c.args.response.id in
    let fits : SFits w64 id = search rules in
    let at : Some c.in-Some.at ≡ position (has_row_id id) c.as_slice.result.now = rw (number_back id fits) at c.in-Some.ensures in
    let place : IsAtPlace c.args.self.now c.self.inside.entries.items id c.in-Some.at c.index_mut.result.now =
    (search rules, at ∙ ap (position (has_row_id id)) c.as_slice.ensures.value, c.index_mut.ensures.value) in
    hear_done c.hear.result c.args.max c.args.self.now c.self.inside.entries.items c.in-Some.at id c.args.response.result c.index_mut.result.now c.hear.new.self place
    c.hear.ensures.ok
