-- The elements so far, with marks between them.
use Rattle.std.proofs.Common.{◌≡◌, ◌++◌, codes}
use Rattle.std.specs.List.{range_with_len}
use Rattle.rpc_pair.specs.Generated.{with_marks}
use Rattle.rpc_pair.proofs.generating.texts.each_text.Given as goal

abbrev pub invariant-loop-element : goal.invariant-loop-element
invariant-loop-element l = l.text.items ≡ codes "[" ++ with_marks (range_with_len 0 l.element)
