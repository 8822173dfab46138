-- The header is read, and so many messages, and their lines were appended.
use Rattle.std.proofs.Common.{length}
use Rattle.rpc_tool.proofs.StreamSteps.{IsReading}
use Rattle.rpc_tool.proofs.framing.put_lines.Given as goal

abbrev pub invariant-messages : goal.invariant-messages
invariant-messages l = IsReading l.stream l.fn.out.items l.header l.reader l.rest l.out.items

abbrev pub decreases-messages : goal.decreases-messages
decreases-messages l = length l.rest
