use Rattle.std.proofs.Common.{refl}
use Rattle.bp_codec.proofs.Ranges.{number_back}
use Rattle.rpc_talk.specs.Acts.{Fail}
use Rattle.rpc_server.proofs.ActLaws.{acted}
use Rattle.rpc_server.proofs.server.Server.fail.Goals as goal

pub returns-in-Ok : goal.returns-in-Ok
returns-in-Ok c =
    let what = Fail c.args.text.now in
    acted c.args.self.now c.fail_at.new.self c.args.id c.in-Ok.place what c.fail_at.result
    (rw (number_back c.args.id c.ranges.id) at (c.in-Ok.ensures what refl)) (rw (number_back c.args.id c.ranges.id) at c.fail_at.ensures)
