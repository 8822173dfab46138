use Rattle.std.proofs.Common.{◌≡◌, subst, sym, ◌∙◌}
use Rattle.rpc_frame.specs.States.{FrameState, wanted}
use Rattle.rpc_frame.proofs.HeldSteps.{wants_head, none_of}
use Rattle.rpc_frame.proofs.reader.FrameReader.wants.Goals as goal

pub returns-then-self-lt-HEAD : goal.returns-then-self-lt-HEAD
returns-then-self-lt-HEAD c =
    subst (λ (s : FrameState). c.from.result ≡ wanted s s.failed) c.self.view_is
    (wants_head c.self.inside.max c.self.inside.head c.self.inside.body.items c.self.inside.place c.self.inside.failed c.from.result c.self.invariant
    (none_of c.self.inside.failed c.is_some.result c.is_some.ensures c.if-is_some.false) c.if-self-lt-HEAD.true c.from.ensures)
