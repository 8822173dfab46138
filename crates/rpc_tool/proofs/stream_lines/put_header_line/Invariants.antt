-- What was appended, and what is left of the line, are the whole line.
use Rattle.std.proofs.Common.{◌≡◌, ◌++◌}
use Rattle.rpc_tool.specs.StreamLines.{header_line}
use Rattle.rpc_tool.proofs.VersionTexts.{rest_from}
use Rattle.rpc_tool.proofs.stream_lines.put_header_line.Given as goal

abbrev pub invariant-loop-place : goal.invariant-loop-place
invariant-loop-place l = l.out.items ++ rest_from l.header.versions l.place ≡ l.fn.out.items ++ header_line l.header
