-- What was read so far, and what is read of the rest, is what is read of all.
use Rattle.std.proofs.Common.{◌+◌, length}
use Rattle.bp_text_grammar.specs.ValueTexts.{inside_at, sexp_at}
use Rattle.bp_text.specs.Unread.{ahead}
use Rattle.bp_text.proofs.Turns.{Turning, inner}
use Rattle.bp_text.proofs.sexps.+sexps.Given as goal

abbrev pub decreases-inside : goal.decreases-inside
decreases-inside l = l.depth + l.depth + 1

abbrev pub decreases-sexp : goal.decreases-sexp
decreases-sexp l = l.depth + l.depth

abbrev pub invariant-inside-items : goal.invariant-inside-items
invariant-inside-items l = Turning (inner l.depth) (inside_at l.depth (sexp_at l.depth) (ahead l.fn.cursor)) l.fn.cursor l.cursor l.items.items

abbrev pub decreases-inside-items : goal.decreases-inside-items
decreases-inside-items l = length (ahead l.cursor)
