use Rattle.std.proofs.Common.{◌≢◌, [], Err, subst, rules}
use Rattle.rpc_frame.specs.States.{FrameState}
use Rattle.rpc_tool.specs.StreamReads.{IsHeader, IsNextFrame, NoHeader, GivesNext}
use Rattle.rpc_tool.proofs.StreamSteps.{headless, reading_next, reading_start, reading_stopped}
use Rattle.rpc_tool.proofs.framing.put_lines.Goals as goal

pub returns-in_err-header : goal.returns-in_err-header
returns-in_err-header c =
    let s = c.args.stream.now in
    let none =
    subst (λ (r : FrameState). GivesNext IsHeader NoHeader r s (Err c.in_err-header.field-0.0) c.next_header.new.reader c.next_header.new.rest.now) c.new-reader.ensures
    c.in_err-header.ensures in
    headless s c.args.out.now.items c.next_header.new.reader c.next_header.new.rest.now c.in_err-header.field-0.0 c.from_residual.result none c.from_residual.ensures.1

pub messages-init : goal.messages-init
messages-init c =
    let s = c.args.stream.now in
    let header = c.in_ok-header.header in
    let taken =
    subst (λ (r : FrameState). IsNextFrame IsHeader header r s c.next_header.new.reader c.next_header.new.rest.now) c.new-reader.ensures c.in_ok-header.ensures in
    reading_start s c.args.out.now.items header c.next_header.new.reader c.next_header.new.rest.now c.put_header_line.new.out.items taken
    (c.has_one.ensures.0 c.if-not-has_one.false) c.in_ok-put_header_line.ensures

pub messages-preserved : goal.messages-preserved
messages-preserved c =
    reading_next c.args.stream.now c.args.out.now.items c.in_ok-header.header c.messages.reader c.messages.rest.now c.messages.out.items c.messages.invariant
    c.next_message.new.reader c.next_message.new.rest.now c.put_message_line.new.out.items c.in-Ok.message c.in-Ok.ensures c.in_ok-put_message_line-in-Ok.ensures

pub returns-in-Err : goal.returns-in-Err
returns-in-Err c =
    let some : c.messages.rest.now ≢ [] = search rules in
    reading_stopped c.args.stream.now c.args.out.now.items c.in_ok-header.header c.messages.reader c.messages.rest.now c.messages.out.items c.messages.invariant
    c.next_message.new.reader c.next_message.new.rest.now c.in-Err.error some c.in-Err.ensures
