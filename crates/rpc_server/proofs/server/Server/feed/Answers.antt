-- What each exit of a feed leaves.
use Rattle.rpc_server.proofs.HearLaws.{fed_part, fed_err, fed_ok, fed_closed, fed_none, ready_ok, ready_err}
use Rattle.rpc_server.proofs.server.Server.feed.Goals as goal

pub returns-in-Ok-Part-clause-fed : goal.returns-in-Ok-Part-clause-fed
returns-in-Ok-Part-clause-fed c =
    rw (← c.self.view_is)
    (fed_part c.self.inside.rules c.self.inside.table c.self.inside.link c.next.new.self c.args.piece.now c.args.now c.next.result c.in-Ok-Part.field-0
    c.in-Ok-Part.used c.in-Ok-Part.is c.in-Ok-Part.field-0-is c.next.ensures.took)

pub returns-in-Err-clause-fed : goal.returns-in-Err-clause-fed
returns-in-Err-clause-fed c =
    rw (← c.self.view_is)
    (fed_err c.self.inside.rules c.self.inside.table c.self.inside.link c.next.new.self c.args.piece.now c.args.now c.next.result c.in-Err.error c.in-Err.is
    c.next.ensures.took)

pub heard-requires : goal.heard-requires
heard-requires c =
    ready_ok c.self.inside.rules c.self-2.inside.rules c.self.inside.table c.self-2.inside.table c.self.inside.link c.next.new.self c.self-2.inside.link
    c.args.piece.now c.args.now c.next.result c.in-Ok-Message.field-0 c.in-Ok-Message.got c.hear.result c.hear.new.self c.in-Ok-Message.is c.in-Ok-Message.field-0-is
    c.next.ensures.took c.hear.ensures c.self-2.view_is
    c.in-Ok.arrival c.in-Ok.is

pub returns-in-Ok-clause-fed : goal.returns-in-Ok-clause-fed
returns-in-Ok-clause-fed c =
    rw (← c.self.view_is)
    (fed_ok c.self.inside.rules c.self-2.inside.rules c.self.inside.table c.self-2.inside.table c.self.inside.link c.next.new.self c.self-2.inside.link
    c.args.piece.now c.args.now c.next.result c.in-Ok-Message.field-0 c.in-Ok-Message.got c.hear.result c.hear.new.self c.in-Ok-Message.is c.in-Ok-Message.field-0-is
    c.next.ensures.took c.hear.ensures c.self-2.view_is
    c.in-Ok.arrival c.used_by-used.result c.heard.new.self c.in-Ok.is c.used_by-used.ensures c.heard.ensures)

pub returns-in-Err-Closed-clause-fed : goal.returns-in-Err-Closed-clause-fed
returns-in-Err-Closed-clause-fed c =
    rw (← c.self.view_is)
    (fed_closed c.self.inside.rules c.self-2.inside.rules c.self.inside.table c.self-2.inside.table c.self.inside.link c.next.new.self c.self-2.inside.link
    c.args.piece.now c.args.now c.next.result c.in-Ok-Message.field-0 c.in-Ok-Message.got c.hear.result c.hear.new.self c.in-Ok-Message.is c.in-Ok-Message.field-0-is
    c.next.ensures.took c.hear.ensures c.self-2.view_is
    c.in-Err-Closed.field-0 c.in-Err-Closed.cause c.heard-in-Err-Closed.new.self c.shut.new.self c.in-Err-Closed.is c.in-Err-Closed.field-0-is
    c.heard-in-Err-Closed.ensures c.shut.ensures)

pub returns-in-Err-OutOfMemory-clause-fed : goal.returns-in-Err-OutOfMemory-clause-fed
returns-in-Err-OutOfMemory-clause-fed c =
    rw (← c.self.view_is)
    (fed_none c.self.inside.rules c.self-2.inside.rules c.self.inside.table c.self-2.inside.table c.self.inside.link c.next.new.self c.self-2.inside.link
    c.args.piece.now c.args.now c.next.result c.in-Ok-Message.field-0 c.in-Ok-Message.got c.hear.result c.hear.new.self c.in-Ok-Message.is c.in-Ok-Message.field-0-is
    c.next.ensures.took c.hear.ensures c.self-2.view_is
    c.in-Err-OutOfMemory.field-0 c.undo.new.self c.in-Err-OutOfMemory.is c.in-Err-OutOfMemory.field-0-is c.undo.ensures)
