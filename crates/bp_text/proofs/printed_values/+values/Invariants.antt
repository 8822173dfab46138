-- What comes of the values that are left, and of the bracket, comes of all.
use Rattle.std.proofs.Common.{[], ◌∷◌, ◌++◌, map, codes}
use Rattle.bp_value.specs.Form.{form_of, field_form, parts, named_parts}
use Rattle.bp_value.specs.Form as form
use Rattle.bp_text_grammar.specs.Texts.{curly_close, curly_open, round_close, round_open, square_close}
use Rattle.bp_text_grammar.specs.PrintedTexts.{value_text}
use Rattle.bp_text_grammar.specs.PrintedValues.{field_pieces, part_pieces}
use Rattle.bp_text.specs.Printing.{piece_bytes}
use Rattle.bp_text.proofs.Appending.{Leads, rest_of}
use Rattle.bp_text.proofs.ValueBytes.{alone, named, texts_by}
use Rattle.bp_text.proofs.printed_values.+values.Given as goal

abbrev pub invariant-append_list-loop-place : goal.invariant-append_list-loop-place
invariant-append_list-loop-place l =
    Leads (value_text (form.listed (form_of l.item)) l.fn.value) l.fn.out.items
    (rest_of (codes "; ") (map (value_text (form_of l.item)) l.values) l.place ++ square_close ∷ []) l.out.items

abbrev pub invariant-append_parts-loop-place : goal.invariant-append_parts-loop-place
invariant-append_parts-loop-place l =
    let fs = parts (map form_of l.shapes) in
    Leads (round_open ∷ piece_bytes (part_pieces fs l.values)) l.fn.out.items
    (rest_of (codes ", ") (texts_by alone fs l.values) l.place ++ round_close ∷ []) l.out.items

abbrev pub invariant-append_fields-loop-place : goal.invariant-append_fields-loop-place
invariant-append_fields-loop-place l =
    let fs = named_parts (map field_form l.fields) in
    Leads (curly_open ∷ piece_bytes (field_pieces fs l.values)) l.fn.out.items
    (rest_of (codes "; ") (texts_by named fs l.values) l.place ++ curly_close ∷ []) l.out.items
