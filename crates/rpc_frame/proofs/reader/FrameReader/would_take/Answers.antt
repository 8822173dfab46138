use Rattle.std.proofs.Common.{◌+◌, ◌∙◌, refl, subst}
use Rattle.bp_num.proofs.Payloads.{bytes_are}
use Rattle.rpc_frame.specs.Feeding.{WouldTake}
use Rattle.rpc_frame.specs.Heads.{IsHeadRead}
use Rattle.rpc_frame.specs.States.{FrameState}
use Rattle.rpc_frame.proofs.HeldSteps.{none_of}
use Rattle.rpc_frame.proofs.FeedSteps.{stops_taking, would_take_so}
use Rattle.rpc_frame.proofs.reader.FrameReader.would_take.Goals as goal

pub returns-in-Taken : goal.returns-in-Taken
returns-in-Taken c =
    subst (λ (s : FrameState). WouldTake s c.args.piece.now s.failed (c.in-Taken.used + c.min.result)) c.self.view_is (would_take_so c.self.inside.max c.self.inside.head c.self.inside.body.items c.args.piece.now c.self.inside.place c.self.inside.failed c.self.invariant (bytes_are c.args.piece.now c.type_inv.piece) (none_of c.self.inside.failed c.is_some.result c.is_some.ensures c.if-is_some.false) c.in-Taken.head c.in-Taken.used (subst (IsHeadRead c.self.inside.max c.self.inside.head c.args.piece.now) c.in-Taken.is c.read_on.ensures) c.len.result c.missing.result c.min.result (c.len.ensures ∙ c.self.inside.body.ok.0) c.missing.ensures c.min.ensures _ refl)

pub returns-in-TooLong : goal.returns-in-TooLong
returns-in-TooLong c =
    subst (λ (s : FrameState). WouldTake s c.args.piece.now s.failed (c.in-TooLong.used + 1)) c.self.view_is (stops_taking c.self.inside.max c.self.inside.head c.self.inside.body.items c.args.piece.now c.self.inside.place c.self.inside.failed c.self.invariant (bytes_are c.args.piece.now c.type_inv.piece) (none_of c.self.inside.failed c.is_some.result c.is_some.ensures c.if-is_some.false) c.in-TooLong.used (subst (IsHeadRead c.self.inside.max c.self.inside.head c.args.piece.now) c.in-TooLong.is c.read_on.ensures) _ refl)
