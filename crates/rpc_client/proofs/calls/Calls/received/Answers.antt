use Rattle.std.proofs.Common.{rules, ◌≡◌, refl, sym, ap, ◌∙◌, subst, w64}
use Rattle.std.specs.Prelude.{Some, None}
use Rattle.std.specs.List.{position}
use mir.Val.{SFits}
use Rattle.bp_codec.proofs.Ranges.{number_back}
use Rattle.rpc_talk.specs.Parts.{unless_closed}
use Rattle.rpc_client.specs.Tables.{find_row, has_row_id, ShownOf}
use Rattle.rpc_client.proofs.Places.{found_place, no_place, IsAtPlace}
use Rattle.rpc_client.proofs.calls.Calls.received.Goals as goal

pub returns-in-Some : goal.returns-in-Some
returns-in-Some c =
    let id = c.args.id in
    let fits : SFits w64 id = search rules in
    let at : Some c.in-Some.at ≡ position (has_row_id id) c.as_slice.result.now = rw (number_back id fits) at c.in-Some.ensures in
    let place : IsAtPlace c.args.self.now c.self.inside.entries.items id c.in-Some.at c.index.result.now =
    (search rules, at ∙ ap (position (has_row_id id)) c.as_slice.ensures.value, c.index.ensures) in
    let found : find_row id c.args.self.now ≡ Some c.index.result.now = found_place c.args.self.now c.self.inside.entries.items c.in-Some.at id c.index.result.now place in
    subst (λ o. ShownOf (unless_closed c.args.closed) o c.received.result) (sym found) c.received.ensures

pub returns-in-None : goal.returns-in-None
returns-in-None c =
    let id = c.args.id in
    let fits : SFits w64 id = search rules in
    let at : None ≡ position (has_row_id id) c.as_slice.result.now = rw (number_back id fits) at c.in-None.ensures in
    let none : find_row id c.args.self.now ≡ None = no_place c.args.self.now c.self.inside.entries.items id (search rules) (at ∙ ap (position (has_row_id id)) c.as_slice.ensures.value) in
    subst (λ o. ShownOf (unless_closed c.args.closed) o None) (sym none) refl
