use Rattle.std.proofs.Common.{◌≡◌, sym}
use Rattle.bp_codec.proofs.Ranges.{number_back}
use Rattle.rpc_server.proofs.Places.{put_removed, put_nothing, apart_removed}
use Rattle.rpc_server.proofs.table.Table.forget.Goals as goal

pub invariant_of-self : goal.invariant_of-self
invariant_of-self c = rw c.remove.ensures.items (apart_removed _ c.in-Some.place c.self.invariant)

pub returns-in-Some : goal.returns-in-Some
returns-in-Some c =
    rw (c.remove.ensures.items, ← c.self.view_is)
    (put_removed _ c.args.id c.in-Some.place (sym (rw (c.deref.ensures.value, number_back c.args.id c.ranges.id) at c.in-Some.ensures)) c.self.invariant)

pub returns-in-None : goal.returns-in-None
returns-in-None c = rw (← c.self.view_is) (put_nothing _ c.args.id (sym (rw (c.deref.ensures.value, number_back c.args.id c.ranges.id) at c.in-None.ensures)))
