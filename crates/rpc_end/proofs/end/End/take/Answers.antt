use Rattle.std.proofs.Common.{subst}
use Rattle.std.specs.Prelude.{Err}
use Rattle.rpc_frame.specs.Feeding.{IsFrameFed}
use Rattle.rpc_msg.specs.declared.shared.CloseCause.TheVariants as cause
use Rattle.rpc_end.specs.Ends.{EndState, closed_by}
use Rattle.rpc_end.specs.Taking.{IsFedBy, IsTooLong}
use Rattle.rpc_end.proofs.Keeping.{fed_by, kept_fed, kept_stop, long_by, with_reader}
use Rattle.rpc_end.proofs.end.End.take.Goals as goal

pub invariant_of-self : goal.invariant_of-self
invariant_of-self c =
    let e = c.self.inside in
    kept_fed e.max e.reader c.feed.new.self c.args.piece.now c.in-Ok.fed.frame c.in-Ok.fed.used e.start e.greeted e.cause c.self.invariant c.in-Ok.ensures.1

pub invariant_of-self-in-Err-TooLong : goal.invariant_of-self-in-Err-TooLong
invariant_of-self-in-Err-TooLong c =
    let e = c.self.inside in
    let fed = subst (λ x. IsFrameFed e.reader c.args.piece.now (Err x) c.feed.new.self) c.in-Err-TooLong.field-0-is c.in-Err-TooLong.ensures in
    kept_stop e.max e.reader c.feed.new.self c.args.piece.now c.in-Err-TooLong.at e.start e.greeted e.cause (cause.BadFrame c.in-Err-TooLong.at) c.self.invariant fed

pub returns-in-Ok : goal.returns-in-Ok
returns-in-Ok c =
    let e = c.self.inside in
    let view : EndState = record { max = e.reader.max; held = e.reader.held; place = e.reader.place; start = e.start; greeted = e.greeted; beat = e.beat; cause = e.cause; output = e.output } in
    subst (λ old. IsFedBy old c.args.piece.now c.in-Ok.fed.frame c.in-Ok.fed.used (with_reader view c.feed.new.self)) c.self.view_is
    (fed_by view e.reader c.feed.new.self c.args.piece.now c.in-Ok.fed.frame c.in-Ok.fed.used c.in-Ok.ensures.1)

pub returns-in-Err-TooLong : goal.returns-in-Err-TooLong
returns-in-Err-TooLong c =
    let e = c.self.inside in
    let view : EndState = record { max = e.reader.max; held = e.reader.held; place = e.reader.place; start = e.start; greeted = e.greeted; beat = e.beat; cause = e.cause; output = e.output } in
    let why = cause.BadFrame c.in-Err-TooLong.at in
    let fed = subst (λ x. IsFrameFed e.reader c.args.piece.now (Err x) c.feed.new.self) c.in-Err-TooLong.field-0-is c.in-Err-TooLong.ensures in
    subst (λ old. IsTooLong old c.args.piece.now why (closed_by (with_reader view c.feed.new.self) why)) c.self.view_is
    (long_by view e.reader c.feed.new.self c.args.piece.now c.in-Err-TooLong.at fed)
