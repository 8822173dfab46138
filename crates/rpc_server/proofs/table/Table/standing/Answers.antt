use Rattle.std.proofs.Common.{◌≡◌, ap, sym, ◌∙◌}
use Rattle.rpc_server.specs.Tables.{standing_of}
use Rattle.bp_codec.proofs.Ranges.{number_back}
use Rattle.rpc_server.proofs.Places.{place_some, place_none, place_standing}
use Rattle.rpc_server.proofs.table.Table.standing.Goals as goal

pub returns-in-Some : goal.returns-in-Some
returns-in-Some c =
    let at = place_some c.args.id _ c.in-Some.place (sym (rw (c.deref.ensures.value, number_back c.args.id c.ranges.id) at c.in-Some.ensures)) in
    rw (← c.self.view_is) (sym (place_standing c.args.id _ c.in-Some.place c.index.result.now at ∙ ap (λ t. t.standing) (sym c.index.ensures)))

pub returns-in-None : goal.returns-in-None
returns-in-None c =
    rw (← c.self.view_is) (sym (ap standing_of (place_none c.args.id _ (sym (rw (c.deref.ensures.value, number_back c.args.id c.ranges.id) at c.in-None.ensures)))))
