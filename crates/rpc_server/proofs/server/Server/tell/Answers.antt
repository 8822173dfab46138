use Rattle.bp_codec.proofs.Ranges.{number_back}
use Rattle.rpc_server.specs.Steps.{told_act}
use Rattle.rpc_server.proofs.ActLaws.{acted, refused_is, step_told}
use Rattle.rpc_server.proofs.server.Server.tell.Goals as goal

pub tell_at-requires : goal.tell_at-requires
tell_at-requires c = c.in-Ok.ensures (told_act c.args.telling c.args.value.now) (step_told c.args.telling c.args.value.now)

pub returns-in-Ok : goal.returns-in-Ok
returns-in-Ok c =
    let what = told_act c.args.telling c.args.value.now in
    acted c.args.self.now c.tell_at.new.self c.args.id c.in-Ok.place what c.tell_at.result
    (rw (number_back c.args.id c.ranges.id) at (c.in-Ok.ensures what (step_told c.args.telling c.args.value.now)))
    (rw (number_back c.args.id c.ranges.id) at c.tell_at.ensures)

pub returns-in-Err : goal.returns-in-Err
returns-in-Err c =
    let what = told_act c.args.telling c.args.value.now in
    refused_is c.args.self.now c.refuse.new.self c.args.id what c.in-Err.error c.refuse.result
    (rw (number_back c.args.id c.ranges.id) at (c.in-Err.ensures what (step_told c.args.telling c.args.value.now)))
    c.refuse.ensures.error (rw (number_back c.args.id c.ranges.id) at c.refuse.ensures.state)
