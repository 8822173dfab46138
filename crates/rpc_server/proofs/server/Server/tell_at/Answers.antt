use Rattle.std.proofs.Common.{◌≡◌, sym, subst, ◌∙◌}
use Rattle.std.specs.Prelude.{Some, Err, slice_get}
use Rattle.bp_codec.proofs.Ranges.{number_back}
use Rattle.rpc_msg.specs.declared.message.Answer.TheVariants as answer
use Rattle.rpc_schema.specs.declared.desc.Entry.{Entry}
use Rattle.rpc_server.specs.Doing.{IsPlaceOf}
use Rattle.rpc_server.specs.Servers.{ServerState}
use Rattle.rpc_server.specs.Steps.{told_act, MakesData}
use Rattle.rpc_server.proofs.ActLaws.{told_refused, server_sent, after_told}
use Rattle.rpc_server.proofs.server.Server.tell_at.Goals as goal

pub returns-in-Err : goal.returns-in-Err
returns-in-Err c =
    let makes = subst (λ (s : ServerState). (e : Entry) → slice_get s.rules.entries c.args.place ≡ Some e
    → MakesData s.rules.limits.max_message c.args.telling e.desc c.args.value.now (Err c.in-Err.error)) c.self.view_is c.in-Err.ensures in
    told_refused c.args.self.now c.args.place c.args.id c.args.telling c.args.value.now c.in-Err.error makes

pub invariant_of-self : goal.invariant_of-self
invariant_of-self c =
    let old : ServerState = record { rules = c.self.inside.rules; table = c.self.inside.table; link = c.self.inside.link } in
    let what = told_act c.args.telling c.args.value.now in
    server_sent old c.args.id c.args.place what (answer.Ok c.in-Ok.bytes) c.after-after.result c.send.result c.send.new.table c.send.new.link c.self.invariant
    (subst (λ s. IsPlaceOf s c.args.id c.args.place what) (sym c.self.view_is) c.requires)
    (c.after-after.ensures ∙ after_told c.args.telling c.args.value.now c.args.place)
    (rw (c.max_message-max.ensures.most, number_back c.args.id c.ranges.id) at c.send.ensures)
