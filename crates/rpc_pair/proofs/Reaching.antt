-- One step more of a schedule.
use Rattle.std.proofs.Common.{refl, subst, List, [], ◌∷◌, ◌++◌}
use Rattle.rpc_schedule.specs.declared.event.Event.{Event}
use Rattle.rpc_meeting.specs.declared.answer.StepAnswer.{StepAnswer}
use Rattle.rpc_meeting.specs.Steps.{AreSteps, IsReached, IsStep, Stepped}
use Rattle.rpc_meeting.specs.Talks.{Common}
use Rattle.rpc_meeting.specs.Worlds.{World, first_world}

steps_more : (r : Common) (from w : World) (events : List Event) (answers : List StepAnswer) (e : Event) (to : Stepped) → AreSteps r from events answers w → IsStep r w e to
    → AreSteps r from (events ++ e ∷ []) (answers ++ to.outcome ∷ []) to.world
steps_more r from w [] [] e to is step = (to, subst (λ x. IsStep r x e to) is step, refl, refl)
steps_more r from w [] (a ∷ answers) e to is step = absurd is
steps_more r from w (x ∷ events) [] e to is step = absurd is
steps_more r from w (x ∷ events) (a ∷ answers) e to (next, first, answer, later) step = (next, first, answer, steps_more r next.world w events answers e to later step)

pub reached_step : (r : Common) (w : World) (e : Event) (to : Stepped) → IsReached r w → IsStep r w e to → IsReached r to.world
reached_step r w e to (events, answers, steps) step = (events ++ e ∷ [], answers ++ to.outcome ∷ [], steps_more r first_world w events answers e to steps step)
