use Rattle.std.proofs.Common.{w64, rules}
use mir.Val.{SFits}
use Rattle.bp_codec.proofs.Ranges.{number_back}
use Rattle.rpc_server.specs.Servers.{ServerState}
use Rattle.rpc_server.proofs.HearLaws.{server_followed}
use Rattle.rpc_server.proofs.server.Server.hear_query.Goals as goal

pub invariant_of-self : goal.invariant_of-self
invariant_of-self c =
    let q = c.args.query.now in
    let fits : SFits w64 q.id = search rules in
    let old : ServerState = record { rules = c.self.inside.rules; table = c.self.inside.table; link = c.self.inside.link } in
    server_followed old q c.in-Ok.heard c.follow.result c.follow.new.table c.follow.new.link c.self.invariant
    (rw (c.standing-standing.ensures, c.unfinished-count.ensures, number_back q.id fits) at c.in-Ok.ensures)
    (rw (number_back q.id fits) at c.follow.ensures)
