-- What is beside the data has at most twenty bytes.
use Rattle.std.proofs.Common.{◌≤◌, ◌+◌, length, arith}
use borrow.Author.Tests.{leb-true}
use Rattle.rpc_server.proofs.Short.{short_data}
use Rattle.rpc_server.proofs.own.leaves_room.Goals as goal

pub returns-in-Ok : goal.returns-in-Ok
returns-in-Ok c = λ id room.
    let few : c.saturating_add.result ≤ c.args.max = leb-true c.saturating_add.result c.args.max room in
    let fits : length c.in-Ok.data + 20 ≤ c.args.max = omega (arith, few, c.len.ensures, c.saturating_add.ensures, c.requires) in
    rw c.in-Ok.is (short_data c.args.max id c.in-Ok.data fits)
