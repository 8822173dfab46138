-- The recursion takes room for brackets, or goes to a smaller part of a shape; the items so far, and what is read of the rest, are
-- what is read of all.
use Rattle.std.proofs.Common.{◌+◌, ◌*◌, length}
use Rattle.bp_text_grammar.specs.Texts.{bar, curly_close, semicolon, square_close}
use Rattle.bp_text_grammar.specs.ShapeTexts.{base_at, part_at, more_factors_at, factors_at, field_at, sum_case_at, poly_case_at, some_at}
use Rattle.bp_text.specs.Unread.{ahead}
use Rattle.bp_text.proofs.ItemSteps.{Looping, items_at}
use Rattle.bp_text.proofs.shapes.+shapes.Given as goal

abbrev pub decreases-product : goal.decreases-product
decreases-product l = 8 * l.room + 3

abbrev pub decreases-factors : goal.decreases-factors
decreases-factors l = 8 * l.room + 2

abbrev pub decreases-part : goal.decreases-part
decreases-part l = 8 * l.room + 1

abbrev pub decreases-base : goal.decreases-base
decreases-base l = 8 * l.room

abbrev pub decreases-round : goal.decreases-round
decreases-round l = 8 * l.room + 4

abbrev pub decreases-record : goal.decreases-record
decreases-record l = 8 * l.room + 6

abbrev pub decreases-fields : goal.decreases-fields
decreases-fields l = 8 * l.room + 5

abbrev pub decreases-field : goal.decreases-field
decreases-field l = 8 * l.room + 4

abbrev pub decreases-variant : goal.decreases-variant
decreases-variant l = 8 * l.room + 6

abbrev pub decreases-cases : goal.decreases-cases
decreases-cases l = 8 * l.room + 5

abbrev pub decreases-case : goal.decreases-case
decreases-case l = 8 * l.room + 4

abbrev pub decreases-poly_cases : goal.decreases-poly_cases
decreases-poly_cases l = 8 * l.room + 5

abbrev pub decreases-poly_case : goal.decreases-poly_case
decreases-poly_case l = 8 * l.room + 4

abbrev pub invariant-factors-factors : goal.invariant-factors-factors
invariant-factors-factors l =
    Looping (part_at (base_at l.room)) (more_factors_at (base_at l.room)) (factors_at (base_at l.room))
    l.initial.tokens l.tokens l.factors.items

abbrev pub decreases-factors-factors : goal.decreases-factors-factors
decreases-factors-factors l = length (ahead l.tokens)

abbrev pub invariant-fields-fields : goal.invariant-fields-fields
invariant-fields-fields l =
    Looping (field_at (base_at l.room)) (items_at semicolon curly_close (field_at (base_at l.room)))
    (some_at semicolon curly_close (field_at (base_at l.room)))
    l.initial.tokens l.tokens l.fields.items

abbrev pub decreases-fields-fields : goal.decreases-fields-fields
decreases-fields-fields l = length (ahead l.tokens)

abbrev pub invariant-cases-cases : goal.invariant-cases-cases
invariant-cases-cases l =
    Looping (sum_case_at (base_at l.room)) (items_at bar square_close (sum_case_at (base_at l.room)))
    (some_at bar square_close (sum_case_at (base_at l.room)))
    l.initial.tokens l.tokens l.cases.items

abbrev pub decreases-cases-cases : goal.decreases-cases-cases
decreases-cases-cases l = length (ahead l.tokens)

abbrev pub invariant-poly_cases-cases : goal.invariant-poly_cases-cases
invariant-poly_cases-cases l =
    Looping (poly_case_at (base_at l.room)) (items_at bar square_close (poly_case_at (base_at l.room)))
    (some_at bar square_close (poly_case_at (base_at l.room)))
    l.initial.tokens l.tokens l.cases.items

abbrev pub decreases-poly_cases-cases : goal.decreases-poly_cases-cases
decreases-poly_cases-cases l = length (ahead l.tokens)
