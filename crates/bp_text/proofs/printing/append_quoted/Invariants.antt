-- What comes of the bytes that are left, and of the last quote, comes of all.
use Rattle.std.proofs.Common.{[], ◌∷◌, ◌++◌, drop}
use Rattle.std.specs.List.{flat_map}
use Rattle.bp_text_grammar.specs.Lexing.{quote}
use Rattle.bp_text_grammar.specs.Printed.{escaped, quoted_text}
use Rattle.bp_text.proofs.Appending.{Leads}
use Rattle.bp_text.proofs.printing.append_quoted.Given as goal

abbrev pub invariant-loop-byte : goal.invariant-loop-byte
invariant-loop-byte l =
    Leads (quoted_text l.bytes) l.fn.out.items (flat_map escaped (drop l.byte-index l.bytes) ++ quote ∷ []) l.out.items
