-- The place among the cases that are left is the place among all.
use Rattle.std.proofs.Common.{◌≡◌, map}
use Rattle.bp_value.specs.Form.{cases, poly_form}
use Rattle.bp_text_grammar.specs.ValueTexts.{case_of}
use Rattle.bp_text.specs.Unread.{ahead}
use Rattle.bp_text.specs.Leaves.{of_first}
use Rattle.bp_text.proofs.CaseNames.{found_from}
use Rattle.bp_text.proofs.values.poly_place.Given as goal

abbrev pub invariant-cases : goal.invariant-cases
invariant-cases l = found_from poly_form l.poly l.place (ahead l.cursor) ≡ of_first (case_of (cases (map poly_form l.poly))) (ahead l.cursor)
