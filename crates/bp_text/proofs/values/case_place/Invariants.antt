-- The place among the cases that are left is the place among all.
use Rattle.std.proofs.Common.{◌≡◌, map}
use Rattle.bp_value.specs.Form.{cases, case_form}
use Rattle.bp_text_grammar.specs.ValueTexts.{case_of}
use Rattle.bp_text.specs.Unread.{ahead}
use Rattle.bp_text.specs.Leaves.{of_first}
use Rattle.bp_text.proofs.CaseNames.{found_from}
use Rattle.bp_text.proofs.values.case_place.Given as goal

abbrev pub invariant-cases : goal.invariant-cases
invariant-cases l = found_from case_form l.sum l.place (ahead l.cursor) ≡ of_first (case_of (cases (map case_form l.sum))) (ahead l.cursor)
