use Rattle.std.proofs.Common.{◌≡◌, sym}
use Rattle.bp_codec.proofs.Ranges.{number_back}
use Rattle.rpc_server.proofs.Places.{put_set, put_pushed, apart_set, apart_pushed}
use Rattle.rpc_server.proofs.table.Table.put.Goals as goal

pub invariant_of-self : goal.invariant_of-self
invariant_of-self c = apart_set _ c.args.id c.in-Some.place _ (sym (rw (c.deref.ensures.value, number_back c.args.id c.ranges.id) at c.in-Some.ensures)) (number_back c.args.id c.ranges.id) c.self.invariant

pub invariant_of-self-in-Continue-1 : goal.invariant_of-self-in-Continue-1
invariant_of-self-in-Continue-1 c =
    rw c.in_ok-push-in-None.ensures.items (apart_pushed _ c.args.id _ (sym (rw (c.deref.ensures.value, number_back c.args.id c.ranges.id) at c.in-None.ensures)) (number_back c.args.id c.ranges.id) c.self.invariant)

pub returns-in-Some-clause-ok : goal.returns-in-Some-clause-ok
returns-in-Some-clause-ok c = rw (← c.self.view_is) (put_set _ c.args.id c.in-Some.place _ (sym (rw (c.deref.ensures.value, number_back c.args.id c.ranges.id) at c.in-Some.ensures)) (number_back c.args.id c.ranges.id))

pub returns-in_ok-push-in-None-clause-ok : goal.returns-in_ok-push-in-None-clause-ok
returns-in_ok-push-in-None-clause-ok c =
    rw (c.in_ok-push-in-None.ensures.items, ← c.self.view_is) (put_pushed _ c.args.id _ (sym (rw (c.deref.ensures.value, number_back c.args.id c.ranges.id) at c.in-None.ensures)) (number_back c.args.id c.ranges.id))
