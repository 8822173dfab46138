use Rattle.std.proofs.Common.{rules, ◌≡◌, refl, ap, ◌∙◌, w64}
use Rattle.std.specs.Prelude.{Some, None}
use Rattle.std.specs.List.{position}
use mir.Val.{SFits}
use Rattle.bp_codec.proofs.Ranges.{number_back}
use Rattle.rpc_client.specs.Tables.{find_row, has_row_id, refusal_at}
use Rattle.rpc_client.proofs.Places.{abort_done, refused_done, no_place, IsAtPlace}
use Rattle.rpc_client.proofs.calls.Calls.abort.Goals as goal

pub returns-in_default : goal.returns-in_default
returns-in_default c =
    let id = c.args.id in
    let fits : SFits w64 id = search rules in
    let at : None ≡ position (has_row_id id) c.as_slice.result.now = rw (number_back id fits) at c.in_default.ensures in
    let none : find_row id c.args.self.now ≡ None = no_place c.args.self.now c.self.inside.entries.items id (search rules) (at ∙ ap (position (has_row_id id)) c.as_slice.ensures.value) in
    (ap refusal_at none, refl, refl)

pub returns-in-Some-abort_refusal : goal.returns-in-Some-abort_refusal
returns-in-Some-abort_refusal c =
    let id = c.args.id in
    let fits : SFits w64 id = search rules in
    let at : Some c.in-Some.at ≡ position (has_row_id id) c.as_slice.result.now = rw (number_back id fits) at c.in-Some.ensures in
    let place : IsAtPlace c.args.self.now c.self.inside.entries.items id c.in-Some.at c.index_mut-entry.result.now =
    (search rules, at ∙ ap (position (has_row_id id)) c.as_slice.ensures.value, c.index_mut-entry.ensures.value) in
    refused_done c.args.self.now c.self.inside.entries.items c.args.link.now c.in-Some.at id c.index_mut-entry.result.now c.in-Some-abort_refusal.error place
    c.in-Some-abort_refusal.ensures

pub returns : goal.returns
returns c =
    let id = c.args.id in
    let fits : SFits w64 id = search rules in
    let at : Some c.in-Some.at ≡ position (has_row_id id) c.as_slice.result.now = rw (number_back id fits) at c.in-Some.ensures in
    let place : IsAtPlace c.args.self.now c.self.inside.entries.items id c.in-Some.at c.index_mut-entry.result.now =
    (search rules, at ∙ ap (position (has_row_id id)) c.as_slice.ensures.value, c.index_mut-entry.ensures.value) in
    abort_done c.args.self.now c.self.inside.entries.items c.args.link.now c.say.new.self c.in-Some.at id c.index_mut-entry.result.now c.abort.new.self c.in_ok-query.query place
    c.in_default-abort_refusal.ensures c.abort.ensures (search rules) (search rules)
