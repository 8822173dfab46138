use Rattle.std.proofs.Common.{◌≡◌, ◌++◌, take, drop}
use Rattle.std.specs.List.{flat_map}
use Rattle.readers.specs.Reader.{Each}
use Rattle.rpc_report.specs.Dispatches.{part_text, IsPartOf}
use Rattle.rpc_tool.proofs.dispatch_lines.put_parts.Given as goal

abbrev pub invariant-loop-part : goal.invariant-loop-part
invariant-loop-part l = record {
  written : l.out.items ≡ l.fn.out.items ++ flat_map (part_text l.desc) (take l.part-index l.parts);
  left : Each (IsPartOf l.desc) (drop l.part-index l.parts);
}
