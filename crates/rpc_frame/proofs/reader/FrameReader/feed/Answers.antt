use Rattle.std.proofs.Common.{◌≡◌, ◌+◌, sym, ap, ◌∙◌, subst, Ok, Err}
use Rattle.bp_num.proofs.Payloads.{bytes_are}
use Rattle.rpc_frame.specs.Feeding.{IsFrameFed}
use Rattle.rpc_frame.specs.Heads.{IsHeadRead}
use Rattle.rpc_frame.specs.States.{FrameState, stream_place, failed_after}
use Rattle.rpc_frame.specs.declared.error.FrameError.TheVariants.{TooLong}
use Rattle.rpc_frame.proofs.FeedSteps.{stops, gives_none, gives_frame}
use Rattle.rpc_frame.proofs.reader.FrameReader.feed.Goals as goal

pub returns-in-TooLong : goal.returns-in-TooLong
returns-in-TooLong c =
    subst (λ s. IsFrameFed s c.args.piece.now (Err c.fail.result) c.fail.new.self) c.self.view_is (stops c.self.inside.max c.self.inside.head c.self.inside.body.items c.args.piece.now c.self.inside.place c.self.inside.failed c.self.invariant (bytes_are c.args.piece.now c.type_inv.piece) c.in_default.is c.in-TooLong.used (subst (IsHeadRead c.self.inside.max c.self.inside.head c.args.piece.now) c.in-TooLong.is c.read_on.ensures) c.fail.result c.fail.new.self (subst (λ (s : FrameState). c.fail.result ≡ TooLong (stream_place (s.place + c.in-TooLong.used))) (sym c.self.view_is) c.fail.ensures.error) (subst (λ (s : FrameState). c.fail.new.self ≡ failed_after s c.in-TooLong.used) (sym c.self.view_is) c.fail.ensures.state))

pub returns-then-not-is_whole : goal.returns-then-not-is_whole
returns-then-not-is_whole c =
    rw (← c.self.view_is) (gives_none c.self.inside.max c.self.inside.head c.self.inside.body.items c.args.piece.now c.self.inside.place c.self.inside.failed c.self.invariant (bytes_are c.args.piece.now c.type_inv.piece) c.in_default.is c.in-Taken.head c.in-Taken.used (subst (IsHeadRead c.self.inside.max c.self.inside.head c.args.piece.now) c.in-Taken.is c.read_on.ensures) c.len.result c.missing.result c.min-count.result (c.len.ensures ∙ c.self.inside.body.ok.0) c.missing.ensures c.min-count.ensures c.extend_from_slice.new.self.items c.in_ok-extend_from_slice.ensures.items c.len-2.result (c.len-2.ensures ∙ c.extend_from_slice.new.self.ok.0) c.is_whole.result c.is_whole.ensures c.if-not-is_whole.true c.saturating_add-self-inside.result c.saturating_add-self-inside.ensures).0

pub returns : goal.returns
returns c =
    rw (← c.self.view_is) (gives_frame c.self.inside.max c.self.inside.head c.self.inside.body.items c.args.piece.now c.self.inside.place c.self.inside.failed c.self.invariant (bytes_are c.args.piece.now c.type_inv.piece) c.in_default.is c.in-Taken.head c.in-Taken.used (subst (IsHeadRead c.self.inside.max c.self.inside.head c.args.piece.now) c.in-Taken.is c.read_on.ensures) c.len.result c.missing.result c.min-count.result (c.len.ensures ∙ c.self.inside.body.ok.0) c.missing.ensures c.min-count.ensures c.extend_from_slice.new.self.items c.in_ok-extend_from_slice.ensures.items c.len-2.result (c.len-2.ensures ∙ c.extend_from_slice.new.self.ok.0) c.is_whole.result c.is_whole.ensures c.if-not-is_whole.false c.from_vec.result c.replace-body.new.dest.items c.saturating_add-self-inside.result (c.from_vec.ensures ∙ ap (λ v. v.items) c.replace-body.ensures.value) (ap (λ v. v.items) c.replace-body.ensures.after ∙ c.new.ensures.items) c.saturating_add-self-inside.ensures)
