-- What was read so far, and what is read of the rest, is what is read of all.
use Rattle.std.proofs.Common.{length, map, drop}
use Rattle.readers.specs.Reader.{whole}
use Rattle.bp_value.specs.declared.value.Value.TheVariants as val
use Rattle.bp_value.specs.Form.{form_of, field_form, fields, parts, named_parts}
use Rattle.bp_text_grammar.specs.ValueTexts.{value_at, items_at, parts_at}
use Rattle.bp_text.specs.Unread.{ahead}
use Rattle.bp_text.proofs.Parts.{PartsLeft, part_words, field_words}
use Rattle.bp_text.proofs.Turns.{Turning, more_items}
use Rattle.bp_text.proofs.values.+values.Given as goal

abbrev pub invariant-items-items : goal.invariant-items-items
invariant-items-items l =
    Turning (more_items (value_at (form_of l.item))) (items_at (value_at (form_of l.item)) (ahead l.fn.cursor)) l.fn.cursor l.cursor l.items.items

abbrev pub decreases-items-items : goal.decreases-items-items
decreases-items-items l = length (ahead l.cursor)

abbrev pub invariant-all_parts-parts : goal.invariant-all_parts-parts
invariant-all_parts-parts l =
    PartsLeft part_words (λ vs us. whole vs us) (parts_at (parts (map form_of l.shapes)) (ahead l.fn.cursor)) l.fn.cursor l.cursor l.values.items
    (parts (map form_of (drop l.shape-index l.shapes)))

abbrev pub invariant-record-fields : goal.invariant-record-fields
invariant-record-fields l =
    PartsLeft field_words (λ vs us. whole (val.Parts vs) us) (value_at (fields (named_parts (map field_form l.fields))) (ahead l.fn.cursor)) l.fn.cursor l.cursor
    l.values.items (named_parts (map field_form (drop l.field-index l.fields)))
