-- One event more was played.
use Rattle.std.proofs.Common.{arith, ◌≡◌, ◌+◌, ◌++◌, ◌∷◌, [], sym, ap, ◌∙◌, subst, length, take}
use Rattle.std.proofs.lemmas.List.{take_all, take_more}
use Rattle.bp_base.proofs.Counting.{both_after, both_steady}
use Rattle.rpc_pair.specs.Sights.{pair_sight}
use Rattle.rpc_tool.specs.Playing.{PlayedOver, SteppedOver}
use Rattle.rpc_tool.specs.Reports.{answer_text}
use Rattle.rpc_tool.proofs.Scenes.{played_more, stepped_more}
use Rattle.rpc_tool.proofs.replay.play.Goals as goal

pub events-preserved : goal.events-preserved
events-preserved g c =
    let W = g.W.Wire in
    let was = c.events.invariant in
    let step = c.in_ok-answer in
    let lined = c.lined-item.result in
    let done = take c.events.lined-index c.args.events.now in
    let more : take (c.events.lined-index + 1) c.args.events.now ≡ done ++ lined ∷ [] =
    take_more c.args.events.now c.events.lined-index _ c.events-test.true ∙ ap (λ l. done ++ l ∷ []) (sym c.lined-item.is) in
    let text = c.events.report.items ++ answer_text lined step.answer (pair_sight c.step.new.self) in
    record {
      wires = both_steady _ _ _ _ _ _ _ (λ is. cc) (both_after _ _ _ _ _ _ _ _ _ was.wires step.ensures.wires);
      played = λ entries start.
          subst (λ t. PlayedOver W.sent W.given entries (take (c.events.lined-index + 1) c.args.events.now) t c.step.new.self c.step.new.up c.step.new.down)
          (sym c.in_ok-put_answer.ensures)
          (subst (λ ls. PlayedOver W.sent W.given entries ls text c.step.new.self c.step.new.up c.step.new.down) (sym more)
          (played_more W.honest W.sent W.given entries done c.events.report.items c.events.pair c.step.new.self c.events.up c.step.new.up c.events.down c.step.new.down
          lined step.answer (was.played entries start) step.ensures.turns));
      stepped = λ entries up_honest down_honest start.
          let so = was.stepped entries up_honest down_honest start in
          subst (λ t. SteppedOver W.sent W.given entries (take (c.events.lined-index + 1) c.args.events.now) t c.step.new.self c.step.new.up c.step.new.down)
          (sym c.in_ok-put_answer.ensures)
          (subst (λ ls. SteppedOver W.sent W.given entries ls text c.step.new.self c.step.new.up c.step.new.down) (sym more)
          (stepped_more W.honest W.sent W.given entries done c.events.report.items c.events.pair c.step.new.self c.events.up c.step.new.up c.events.down c.step.new.down
          lined step.answer so
          (step.ensures.stands so.rules so.world (record {
            schema = so.schema;
            up_honest = was.wires.up_honest.0 up_honest;
            down_honest = was.wires.down_honest.0 down_honest;
            stands = so.stands;
          }))));
    }

pub returns-clause-stepped : goal.returns-clause-stepped
returns-clause-stepped g c = λ entries up_honest down_honest start.
    subst (λ ls. SteppedOver g.W.Wire.sent g.W.Wire.given entries ls c.events.report.items c.events.pair c.events.up c.events.down)
    (take_all c.events.lined-index c.args.events.now (omega (arith, c.events-test.false)))
    (c.events.invariant.stepped entries up_honest down_honest start)
