use Rattle.std.proofs.Common.{◌≡◌, ◌++◌, map, take}
use Rattle.std.specs.List.{flat_map}
use Rattle.rpc_pair.specs.Sights.{seen_in}
use Rattle.rpc_tool.specs.Reports.{seen_text}
use Rattle.rpc_tool.proofs.dispatch_lines.put_dispatches.Given as goal

abbrev pub invariant-loop-made : goal.invariant-loop-made
invariant-loop-made l = l.out.items ≡ l.fn.out.items ++ flat_map seen_text (map (seen_in l.book) (take l.made-index l.book.made))
