use Rattle.std.proofs.Common.{◌≡◌, ap, sym}
use Rattle.rpc_server.specs.Tables.{standing_of}
use Rattle.bp_codec.proofs.Ranges.{number_back}
use Rattle.rpc_server.proofs.Places.{put_set, apart_set, place_none}
use Rattle.rpc_server.proofs.table.Table.set.Goals as goal

pub invariant_of-self : goal.invariant_of-self
invariant_of-self c = apart_set _ c.args.id c.in-Some.place _ (sym (rw (c.deref.ensures.value, number_back c.args.id c.ranges.id) at c.in-Some.ensures)) (number_back c.args.id c.ranges.id) c.self.invariant

pub returns : goal.returns
returns c = rw (← c.self.view_is) (put_set _ c.args.id c.in-Some.place _ (sym (rw (c.deref.ensures.value, number_back c.args.id c.ranges.id) at c.in-Some.ensures)) (number_back c.args.id c.ranges.id))

-- a query that is kept is found
pub unreachable-requires : goal.unreachable-requires
unreachable-requires c =
    c.requires (rw (← c.self.view_is) (ap standing_of (place_none c.args.id _ (sym (rw (c.deref.ensures.value, number_back c.args.id c.ranges.id) at c.in-None.ensures)))))
