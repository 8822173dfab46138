-- The report is that of all events.
use Rattle.std.proofs.Common.{rules, ap, ◌∙◌, subst, sym, []}
use Rattle.bp_base.proofs.Counting.{both_after, both_steady}
use Rattle.rpc_tool.specs.Playing.{PlayedOver, SteppedOver}
use Rattle.rpc_tool.proofs.Told.{replayed, reported}
use Rattle.rpc_tool.proofs.replay.replay.Goals as goal

pub returns-in_err-play-clause-wires : goal.returns-in_err-play-clause-wires
returns-in_err-play-clause-wires g c = search (rules, both_after _ _ _ _ _ _ _ _ _ (both_steady _ _ _ _ _ _ _ (λ is. cc) c.in_ok-pair.ensures.wires) c.in_err-play.ensures.wires, c.from_residual-in_err-play.ensures)

pub returns-clause-reported : goal.returns-clause-reported
returns-clause-reported g c = λ fresh.
    let W = g.W.Wire in
    let schedule = c.args.schedule in
    let before = subst (λ t. PlayedOver W.sent W.given schedule.schema [] t c.in_ok-pair.pair c.start.new.up c.start.new.down) (sym c.new-report.ensures.items)
    (c.in_ok-pair.ensures.played fresh) in
    let behind = c.in_ok-play.ensures.played schedule.schema before in
    reported schedule c.play.new.report.items c.put_closing.new.out.items c.play.new.pair (W.sent c.play.new.up) (W.given c.play.new.up) (W.sent c.play.new.down) (W.given c.play.new.down)
    (subst (λ es. PlayedOver W.sent W.given schedule.schema es c.play.new.report.items c.play.new.pair c.play.new.up c.play.new.down) c.as_slice.ensures behind)
    c.in_ok-put_closing.ensures

pub returns-clause-replayed : goal.returns-clause-replayed
returns-clause-replayed g c = λ honest.
    let W = g.W.Wire in
    let schedule = c.args.schedule in
    let before = subst (λ t. SteppedOver W.sent W.given schedule.schema [] t c.in_ok-pair.pair c.start.new.up c.start.new.down) (sym c.new-report.ensures.items)
    (c.in_ok-pair.ensures.stepped honest) in
    let wires = c.in_ok-pair.ensures.wires in
    let behind = c.in_ok-play.ensures.stepped schedule.schema (wires.up_honest.0 honest.up_honest) (wires.down_honest.0 honest.down_honest) before in
    replayed W.sent W.given schedule c.play.new.report.items c.put_closing.new.out.items c.play.new.pair c.play.new.up c.play.new.down
    (subst (λ es. SteppedOver W.sent W.given schedule.schema es c.play.new.report.items c.play.new.pair c.play.new.up c.play.new.down) c.as_slice.ensures behind)
    c.in_ok-put_closing.ensures
