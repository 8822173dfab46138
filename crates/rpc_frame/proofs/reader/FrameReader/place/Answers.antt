use Rattle.std.proofs.Common.{◌+◌, ◌<◌, length, subst}
use Rattle.rpc_frame.specs.States.{FrameState}
use Rattle.rpc_frame.proofs.HeldSteps.{held_few}
use Rattle.rpc_frame.proofs.reader.FrameReader.place.Goals as goal

pub returns-clause-few : goal.returns-clause-few
returns-clause-few c = subst (λ (s : FrameState). length s.held < s.max + 8) c.self.view_is (held_few c.self.inside.max c.self.inside.head c.self.inside.body.items c.self.invariant)
