use Rattle.std.proofs.Common.{◌≡◌, sym, subst}
use Rattle.std.specs.Prelude.{None}
use Rattle.rpc_frame.specs.Feeding.{WouldTake as ReaderWould}
use Rattle.rpc_end.specs.Ends.{EndState, WouldTakeOf}
use Rattle.rpc_end.proofs.Keeping.{none_of, would_take_by}
use Rattle.rpc_end.proofs.end.End.would_take.Goals as goal

pub returns : goal.returns
returns c =
    let e = c.self.inside in
    let view : EndState = record { max = e.reader.max; held = e.reader.held; place = e.reader.place; start = e.start; greeted = e.greeted; beat = e.beat; cause = e.cause; output = e.output } in
    let going : e.cause ≡ None = none_of e.cause c.if-is_some.ensures in
    let would = subst (λ o. ReaderWould e.reader c.args.piece.now o c.would_take.result) (c.self.invariant.1.going going) c.would_take.ensures in
    subst (λ (x : EndState). WouldTakeOf x c.args.piece.now x.cause c.would_take.result) c.self.view_is
    (subst (λ o. WouldTakeOf view c.args.piece.now o c.would_take.result) (sym going) (would_take_by view e.reader c.args.piece.now c.would_take.result would))
