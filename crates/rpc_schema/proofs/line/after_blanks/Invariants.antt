-- The blanks so far are taken off.
use Rattle.std.proofs.Common.{◌≡◌, length}
use Rattle.bp_text_grammar.specs.Scanning as scanning
use Rattle.rpc_schema.proofs.line.after_blanks.Given as goal

abbrev pub invariant-blanks : goal.invariant-blanks
invariant-blanks l = scanning.after_blanks l.rest ≡ scanning.after_blanks l.bytes

abbrev pub decreases-blanks : goal.decreases-blanks
decreases-blanks l = length l.rest
