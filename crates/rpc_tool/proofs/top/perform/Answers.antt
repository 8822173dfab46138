use Rattle.bp_base.specs.Told.{Gains}
use Rattle.rpc_tool.specs.Means.{ReportsOver}
use Rattle.rpc_tool.specs.declared.command.Command.TheVariants.{Show, Write, Frames, Menu}
use Rattle.rpc_tool.proofs.Answering.{given_said}
use Rattle.rpc_tool.proofs.top.perform.Goals as goal

pub returns-in-Show-clause-said : goal.returns-in-Show-clause-said
returns-in-Show-clause-said g c =
    let Reports = ReportsOver g.W.Wire.honest g.W.Wire.sent g.W.Wire.given c.args.up.now c.args.up.now c.args.down.now c.args.down.now in
    let Writes = Gains g.O.Sink.put c.args.out.now c.give.new.out in
    rw c.in-Show.is (given_said Reports (Show c.in-Show.shape) c.args.text.now Writes c.show.result c.give.result c.show.ensures c.give.ensures.given)

pub returns-in-Write-clause-said : goal.returns-in-Write-clause-said
returns-in-Write-clause-said g c =
    let Reports = ReportsOver g.W.Wire.honest g.W.Wire.sent g.W.Wire.given c.args.up.now c.args.up.now c.args.down.now c.args.down.now in
    let Writes = Gains g.O.Sink.put c.args.out.now c.give-in-Write.new.out in
    rw c.in-Write.is
    (given_said Reports (Write c.in-Write.shape) c.args.text.now Writes c.write.result c.give-in-Write.result c.write.ensures c.give-in-Write.ensures.given)

pub returns-in-Frames-clause-said : goal.returns-in-Frames-clause-said
returns-in-Frames-clause-said g c =
    let Reports = ReportsOver g.W.Wire.honest g.W.Wire.sent g.W.Wire.given c.args.up.now c.args.up.now c.args.down.now c.args.down.now in
    let Writes = Gains g.O.Sink.put c.args.out.now c.give-in-Frames.new.out in
    rw c.in-Frames.is
    (given_said Reports Frames c.args.text.now Writes c.frames.result c.give-in-Frames.result c.frames.ensures c.give-in-Frames.ensures.given)

pub returns-in-Menu-clause-said : goal.returns-in-Menu-clause-said
returns-in-Menu-clause-said g c =
    let Reports = ReportsOver g.W.Wire.honest g.W.Wire.sent g.W.Wire.given c.args.up.now c.args.up.now c.args.down.now c.args.down.now in
    let Writes = Gains g.O.Sink.put c.args.out.now c.give-in-Menu.new.out in
    rw c.in-Menu.is
    (given_said Reports (Menu c.in-Menu.wanted) c.args.text.now Writes c.menu.result c.give-in-Menu.result c.menu.ensures c.give-in-Menu.ensures.given)
