-- By the variant of the shape; within a list, a tuple or a record, value by value.
use Rattle.std.proofs.Common.{◌≡◌, refl, sym, ap, ◌∙◌, ◌++◌, [], ◌∷◌, map, arith, rules}
use Rattle.std.proofs.lemmas.List.{get_or_read}
use Rattle.bp_value.specs.declared.shape.Shape.{the_lemmas as shape_lemmas}
use Rattle.bp_value.specs.declared.shape.Case.{Case}
use Rattle.bp_value.specs.Form.{fields, form_of, field_form, case_form, poly_form, parts, named_parts}
use Rattle.bp_value.proofs.Forms.{form_of-Unit, form_of-Bool, form_of-Char, form_of-Int, form_of-Int32, form_of-Int64, form_of-Text, form_of-Opt, form_of-List, form_of-Tuple, form_of-Fields, form_of-Sum, form_of-Poly, form_of-Sexp}
use Rattle.bp_text_grammar.specs.ValueTexts.{value_at, parts_at, label_at, arguments_at}
use Rattle.bp_text.specs.Unread.{ahead}
use Rattle.bp_text.proofs.Ahead.{goes_none}
use Rattle.bp_text.proofs.CaseNames.{case_reads}
use Rattle.bp_text.proofs.GoodInside.{item_good, argument_good}
use Rattle.bp_text.proofs.OneToken.{text_reads}
use Rattle.bp_text.proofs.Parts.{left_as, part_words, field_words, are_part_words, are_field_words, part_goes, part_fails, parts_end, parts_stay}
use Rattle.bp_text.proofs.Readings.{told, shown, handed, halted, same, next, fails, made, unmade}
use Rattle.bp_text.proofs.Turns.{no_more_ahead, mark_fewer, items_turn, turn_end, turn_fails, turn_goes}
use Rattle.bp_text.proofs.ValueSteps.{value_none, none_there, some_there, items_open, items_start, next_item_open, none_yet_is, parts_start, record_start, shapes_next, shapes_end, fields_next, fields_end, no_arguments, some_arguments, one_argument, none_argument}
use Rattle.bp_text.proofs.Within.{within_opt, within_listed, within_tuple, within_fields, within_field, within_case, within_poly, few_cases, few_poly}
use Rattle.bp_text.proofs.values.+values.Goals as goal

-- ---- the dispatch

pub value-returns-in-Unit : goal.value-returns-in-Unit
value-returns-in-Unit t c = rw (c.in-Unit.is, form_of-Unit) c.unit.ensures

pub value-returns-in-Bool : goal.value-returns-in-Bool
value-returns-in-Bool t c = rw (c.in-Bool.is, form_of-Bool) c.boolean.ensures

pub value-returns-in-Char : goal.value-returns-in-Char
value-returns-in-Char t c = rw (c.in-Char.is, form_of-Char) c.char.ensures

pub value-returns-in-Int : goal.value-returns-in-Int
unfolding value_at
value-returns-in-Int t c = rw (c.in-Int.is, form_of-Int) c.number.ensures

pub value-returns-in-Int32 : goal.value-returns-in-Int32
unfolding value_at
value-returns-in-Int32 t c = rw (c.in-Int32.is, form_of-Int32) c.number-in-Int32.ensures

pub value-returns-in-Int64 : goal.value-returns-in-Int64
unfolding value_at
value-returns-in-Int64 t c = rw (c.in-Int64.is, form_of-Int64) c.number-in-Int64.ensures

pub value-returns-in_err-text-in-Text : goal.value-returns-in_err-text-in-Text
unfolding value_at
value-returns-in_err-text-in-Text t c =
    rw (c.in-Text.is, form_of-Text)
    (handed _ _ _ _ _ c.from_residual.ensures.1 (same (text_reads (ahead c.args.cursor.now)) (unmade _ (told _ _ _ _ c.in_err-text-in-Text.ensures))))

pub value-returns-in_ok-text-in-Text : goal.value-returns-in_ok-text-in-Text
unfolding value_at
value-returns-in_ok-text-in-Text t c =
    rw (c.in-Text.is, form_of-Text) (shown _ _ _ _ (same (text_reads (ahead c.args.cursor.now)) (made _ (told _ _ _ _ c.in_ok-text-in-Text.ensures))))

pub value-returns-in_err-sexp-in-Sexp : goal.value-returns-in_err-sexp-in-Sexp
unfolding value_at
value-returns-in_err-sexp-in-Sexp t c =
    rw (c.in-Sexp.is, form_of-Sexp)
    (handed _ _ _ _ _ c.from_residual-in_err-sexp-in-Sexp.ensures.1 (unmade _ (told _ _ _ _ c.in_err-sexp-in-Sexp.ensures.reads)))

pub value-returns-in_ok-sexp-in-Sexp : goal.value-returns-in_ok-sexp-in-Sexp
unfolding value_at
value-returns-in_ok-sexp-in-Sexp t c =
    rw (c.in-Sexp.is, form_of-Sexp) (shown _ _ _ _ (made _ (told _ _ _ _ c.in_ok-sexp-in-Sexp.ensures.reads)))

pub value-option-requires : goal.value-option-requires
value-option-requires t c = (search (rules, shape_lemmas), rw c.get.ensures (within_opt _ (rw (c.in-Opt.is, form_of-Opt) at c.requires)))

pub value-returns-in-Opt : goal.value-returns-in-Opt
value-returns-in-Opt t c = rw (c.in-Opt.is, form_of-Opt) (rw c.get.ensures at c.option.ensures)

pub value-list-requires : goal.value-list-requires
value-list-requires t c = (search (rules, shape_lemmas), rw c.get-in-List.ensures (within_listed _ (rw (c.in-List.is, form_of-List) at c.requires)))

pub value-returns-in-List : goal.value-returns-in-List
value-returns-in-List t c = rw (c.in-List.is, form_of-List) (rw c.get-in-List.ensures at c.list.ensures)

pub value-tuple-requires : goal.value-tuple-requires
value-tuple-requires t c = (search (rules, shape_lemmas), rw c.as_slice.ensures (within_tuple _ (rw (c.in-Tuple.is, form_of-Tuple) at c.requires)))

pub value-returns-in-Tuple : goal.value-returns-in-Tuple
value-returns-in-Tuple t c = rw (c.in-Tuple.is, form_of-Tuple) (rw c.as_slice.ensures at c.tuple.ensures)

pub value-record-requires : goal.value-record-requires
value-record-requires t c = (search (rules, shape_lemmas), rw c.as_slice-in-Fields.ensures (within_fields _ (rw (c.in-Fields.is, form_of-Fields) at c.requires)))

pub value-returns-in-Fields : goal.value-returns-in-Fields
value-returns-in-Fields t c = rw (c.in-Fields.is, form_of-Fields) (rw c.as_slice-in-Fields.ensures at c.record.ensures)

pub value-sum-requires : goal.value-sum-requires
value-sum-requires t c = (search (rules, shape_lemmas), rw c.as_slice-in-Sum.ensures (rw (c.in-Sum.is, form_of-Sum) at c.requires))

pub value-returns-in-Sum : goal.value-returns-in-Sum
value-returns-in-Sum t c = rw (c.in-Sum.is, form_of-Sum) (rw c.as_slice-in-Sum.ensures at c.sum.ensures)

pub value-poly-requires : goal.value-poly-requires
value-poly-requires t c = (search (rules, shape_lemmas), rw c.as_slice-in-Poly.ensures (rw (c.in-Poly.is, form_of-Poly) at c.requires))

pub value-returns-in-Poly : goal.value-returns-in-Poly
value-returns-in-Poly t c = rw (c.in-Poly.is, form_of-Poly) (rw c.as_slice-in-Poly.ensures at c.poly.ensures)

-- ---- options

pub option-returns-then-is_word : goal.option-returns-then-is_word
option-returns-then-is_word t c =
    shown _ _ _ _ (same (none_there _ (ahead c.args.cursor.now) c.if-is_word.ensures) (made _ (told _ _ _ _ c.in_ok-pass.ensures)))

pub option-returns-in_err-pass_word : goal.option-returns-in_err-pass_word
option-returns-in_err-pass_word t c =
    handed _ _ _ _ _ c.from_residual-in_err-pass_word.ensures.1
    (same (some_there _ (ahead c.args.cursor.now) c.if-is_word.ensures) (fails _ (told _ _ _ _ c.in_err-pass_word.ensures)))

pub option-returns-in_err-inner : goal.option-returns-in_err-inner
option-returns-in_err-inner t c =
    handed _ _ _ _ _ c.from_residual-in_err-inner.ensures.1
    (same (some_there _ (ahead c.args.cursor.now) c.if-is_word.ensures)
    (next _ (told _ _ _ _ c.in_ok-pass_word.ensures) (unmade _ (told _ _ _ _ c.in_err-inner.ensures))))

pub option-returns : goal.option-returns
option-returns t c =
    rw c.in_ok-new.ensures
    (shown _ _ _ _
    (same (some_there _ (ahead c.args.cursor.now) c.if-is_word.ensures)
    (next _ (told _ _ _ _ c.in_ok-pass_word.ensures) (made _ (told _ _ _ _ c.in_ok-inner.ensures)))))

-- ---- lists

pub list-returns-in_err-pass_mark : goal.list-returns-in_err-pass_mark
unfolding value_at
list-returns-in_err-pass_mark t c = handed _ _ _ _ _ c.from_residual.ensures.1 (fails _ (told _ _ _ _ c.in_err-pass_mark.ensures))

pub list-returns-in_err-items : goal.list-returns-in_err-items
unfolding value_at
list-returns-in_err-items t c =
    handed _ _ _ _ _ c.from_residual-in_err-items.ensures.1
    (next _ (told _ _ _ _ c.in_ok-pass_mark.ensures) (unmade _ (told _ _ _ _ c.in_err-items.ensures)))

pub list-returns : goal.list-returns
unfolding value_at
list-returns t c = shown _ _ _ _ (next _ (told _ _ _ _ c.in_ok-pass_mark.ensures) (made _ (told _ _ _ _ c.in_ok-items.ensures)))

pub items-returns-in_err-value : goal.items-returns-in_err-value
items-returns-in_err-value t c =
    handed _ _ _ _ _ c.from_residual-in_err-value.ensures.1
    (same (items_open (value_at (form_of c.args.item.now)) (value_none (form_of c.args.item.now)) (ahead c.args.cursor.now) c.if-is_mark.ensures) (fails _ (told _ _ _ _ c.in_err-value.ensures)))

pub items-items-init : goal.items-items-init
items-items-init t c =
    items_start _ (value_none (form_of c.args.item.now)) _ _ _ _ c.if-is_mark.ensures c.in_ok-value.ensures
    (c.in_ok-push.ensures.items ∙ ap (λ vs. vs ++ c.in_ok-value.field-0 ∷ []) c.new-items.ensures.items)

pub items-items-preserved : goal.items-items-preserved
items-items-preserved t c =
    rw c.in_ok-push-in-Ok-Some.ensures.items
    (turn_goes _ _ (items_turn (value_at (form_of c.args.item.now))) _ _ _ _ c.items.invariant _ _ (rw c.in-Ok-Some.field-0-is at c.in-Ok-Some.ensures.reads)
    (rw c.in-Ok-Some.field-0-is at c.in-Ok-Some.ensures.fewer))

pub items-returns-in-Ok-None : goal.items-returns-in-Ok-None
items-returns-in-Ok-None t c =
    rw c.from_vec-in-Ok-None.ensures
    (turn_end _ _ (items_turn (value_at (form_of c.args.item.now))) _ _ _ _ c.items.invariant _ (rw c.in-Ok-None.field-0-is at c.in-Ok-None.ensures.reads))

pub items-returns-in-Err : goal.items-returns-in-Err
items-returns-in-Err t c = turn_fails _ _ (items_turn (value_at (form_of c.args.item.now))) _ _ _ _ c.items.invariant _ _ c.in-Err.ensures.reads

pub next_item-returns-in_err-value-clause-reads : goal.next_item-returns-in_err-value-clause-reads
next_item-returns-in_err-value-clause-reads t c =
    handed _ _ _ _ _ c.from_residual-in_err-value.ensures.1
    (same (next_item_open _ (ahead c.args.cursor.now) c.if-is_mark.ensures) (next _ (told _ _ _ _ c.in_ok-pass_mark.ensures) (unmade _ (told _ _ _ _ c.in_err-value.ensures))))

pub next_item-returns-clause-reads : goal.next_item-returns-clause-reads
next_item-returns-clause-reads t c =
    shown _ _ _ _
    (same (next_item_open _ (ahead c.args.cursor.now) c.if-is_mark.ensures) (next _ (told _ _ _ _ c.in_ok-pass_mark.ensures) (made _ (told _ _ _ _ c.in_ok-value.ensures))))

pub next_item-returns-clause-fewer : goal.next_item-returns-clause-fewer
next_item-returns-clause-fewer t c =
    omega (
      arith,
      mark_fewer _ (ahead c.args.cursor.now) (ahead c.pass_mark.new.self) c.in_ok-pass_mark.ensures.1,
      no_more_ahead c.pass_mark.new.self c.value.new.cursor c.in_ok-value.ensures.0,
    )

-- ---- tuples

pub tuple-returns-in_err-pass_mark : goal.tuple-returns-in_err-pass_mark
unfolding value_at
tuple-returns-in_err-pass_mark t c = handed _ _ _ _ _ c.from_residual.ensures.1 (fails _ (told _ _ _ _ c.in_err-pass_mark.ensures))

pub tuple-returns-in_err-all_parts : goal.tuple-returns-in_err-all_parts
unfolding value_at
tuple-returns-in_err-all_parts t c =
    handed _ _ _ _ _ c.from_residual-in_err-all_parts.ensures.1
    (next _ (told _ _ _ _ c.in_ok-pass_mark.ensures) (unmade _ (told _ _ _ _ c.in_err-all_parts.ensures)))

pub tuple-returns : goal.tuple-returns
unfolding value_at
tuple-returns t c = shown _ _ _ _ (next _ (told _ _ _ _ c.in_ok-pass_mark.ensures) (made _ (told _ _ _ _ c.in_ok-all_parts.ensures)))

pub all_parts-parts-init : goal.all_parts-parts-init
all_parts-parts-init t c = parts_start _ _ _ c.new-values.ensures.items

pub all_parts-next_part-requires : goal.all_parts-next_part-requires
all_parts-next_part-requires t c =
    (search (rules, shape_lemmas, get_or_read), item_good c.args.shapes.now _ _ c.parts-test.true c.shape-item.is c.requires)

pub all_parts-parts-preserved : goal.all_parts-parts-preserved
all_parts-parts-preserved t c =
    rw c.in_ok-push-in-Ok.ensures.items
    (part_goes part_words are_part_words _ _ _ _ _ _ _ _ _ (c.is_empty.ensures ∙ none_yet_is _ _ c.parts.values.ok.0)
    (left_as (shapes_next _ _ _ c.parts-test.true c.shape-item.is) c.parts.invariant) _ _ c.in-Ok.ensures)

pub all_parts-returns-in-Err : goal.all_parts-returns-in-Err
all_parts-returns-in-Err t c =
    part_fails part_words are_part_words _ _ _ _ _ _ _ _ _ (c.is_empty.ensures ∙ none_yet_is _ _ c.parts.values.ok.0)
    (left_as (shapes_next _ _ _ c.parts-test.true c.shape-item.is) c.parts.invariant) _ _ c.in-Err.ensures

pub all_parts-returns-in_err-pass_mark : goal.all_parts-returns-in_err-pass_mark
all_parts-returns-in_err-pass_mark t c =
    halted (parts_at (parts (map form_of c.args.shapes.now)) (ahead c.args.cursor.now)) c.args.cursor.now _ _ _ c.from_residual-in_err-pass_mark.ensures.1
    (parts_stay part_words are_part_words _ _ _ _ _ (left_as (shapes_end c.args.shapes.now _ c.parts-test.false) c.parts.invariant) _ _ c.in_err-pass_mark.ensures)

pub all_parts-returns : goal.all_parts-returns
all_parts-returns t c =
    rw c.from_vec.ensures (parts_end part_words are_part_words _ _ _ _ _ (left_as (shapes_end c.args.shapes.now _ c.parts-test.false) c.parts.invariant) _ c.in_ok-pass_mark.ensures)

pub next_part-returns-in_err-separator : goal.next_part-returns-in_err-separator
next_part-returns-in_err-separator t c = handed _ _ _ _ _ c.from_residual.ensures.1 (fails _ (told _ _ _ _ c.in_err-separator.ensures))

pub next_part-returns : goal.next_part-returns
next_part-returns t c = shown _ _ _ _ (next _ (told _ _ _ _ c.in_ok-separator.ensures) (told _ _ _ _ c.value.ensures))

-- ---- records

pub record-returns-in_err-pass_mark : goal.record-returns-in_err-pass_mark
unfolding value_at
record-returns-in_err-pass_mark t c = handed _ _ _ _ _ c.from_residual.ensures.1 (fails _ (told _ _ _ _ c.in_err-pass_mark.ensures))

pub record-fields-init : goal.record-fields-init
record-fields-init t c = record_start _ _ _ _ c.in_ok-pass_mark.ensures c.new-values.ensures.items

pub record-next_field-requires : goal.record-next_field-requires
record-next_field-requires t c =
    (search (rules, shape_lemmas, get_or_read), within_field c.args.fields.now _ _ c.fields-test.true c.field-item.is c.requires)

pub record-fields-preserved : goal.record-fields-preserved
record-fields-preserved t c =
    rw c.in_ok-push-in-Ok.ensures.items
    (part_goes field_words are_field_words _ _ _ _ _ _ _ _ _ (c.is_empty.ensures ∙ none_yet_is _ _ c.fields.values.ok.0)
    (left_as (fields_next _ _ _ c.fields-test.true c.field-item.is) c.fields.invariant) _ _ c.in-Ok.ensures)

pub record-returns-in-Err : goal.record-returns-in-Err
record-returns-in-Err t c =
    part_fails field_words are_field_words _ _ _ _ _ _ _ _ _ (c.is_empty.ensures ∙ none_yet_is _ _ c.fields.values.ok.0)
    (left_as (fields_next _ _ _ c.fields-test.true c.field-item.is) c.fields.invariant) _ _ c.in-Err.ensures

pub record-returns-in_err-pass_mark-2 : goal.record-returns-in_err-pass_mark-2
record-returns-in_err-pass_mark-2 t c =
    halted (value_at (fields (named_parts (map field_form c.args.fields.now))) (ahead c.args.cursor.now)) c.args.cursor.now _ _ _
    c.from_residual-in_err-pass_mark-2.ensures.1
    (parts_stay field_words are_field_words _ _ _ _ _ (left_as (fields_end c.args.fields.now _ c.fields-test.false) c.fields.invariant) _ _ c.in_err-pass_mark-2.ensures)

pub record-returns : goal.record-returns
record-returns t c =
    rw c.from_vec.ensures (parts_end field_words are_field_words _ _ _ _ _ (left_as (fields_end c.args.fields.now _ c.fields-test.false) c.fields.invariant) _ c.in_ok-pass_mark-2.ensures)

pub next_field-returns-in_err-separator : goal.next_field-returns-in_err-separator
next_field-returns-in_err-separator t c = handed _ _ _ _ _ c.from_residual.ensures.1 (fails _ (told _ _ _ _ c.in_err-separator.ensures))

pub next_field-returns-in_err-label : goal.next_field-returns-in_err-label
next_field-returns-in_err-label t c =
    handed _ _ _ _ _ c.from_residual-in_err-label.ensures.1
    (next _ (told _ _ _ _ c.in_ok-separator.ensures) (fails _ (same (ap (λ w. label_at w (ahead c.separator.new.cursor)) (sym c.as_slice.ensures)) (told _ _ _ _ c.in_err-label.ensures))))

pub next_field-returns : goal.next_field-returns
next_field-returns t c =
    shown _ _ _ _
    (next _ (told _ _ _ _ c.in_ok-separator.ensures)
    (next _ (same (ap (λ w. label_at w (ahead c.separator.new.cursor)) (sym c.as_slice.ensures)) (told _ _ _ _ c.in_ok-label.ensures))
    (told _ _ _ _ c.value.ensures)))

-- ---- variants

pub sum-returns-in_err-place : goal.sum-returns-in_err-place
unfolding value_at
sum-returns-in_err-place t c = handed _ _ _ _ _ c.from_residual.ensures.1 (fails _ (told _ _ _ _ c.in_err-place.ensures.reads))

pub sum-bounds-sum-place : goal.sum-bounds-sum-place
sum-bounds-sum-place t c = c.in_ok-place.ensures.within

pub sum-arguments-requires : goal.sum-arguments-requires
sum-arguments-requires t c = (
  search (rules, shape_lemmas, get_or_read),
  rw (c.as_slice.ensures, ← c.index-sum-place.is) (within_case c.args.sum.now _ _ c.in_ok-place.ensures.within c.index-sum-place.is c.requires),
)

pub sum-returns-in_err-args : goal.sum-returns-in_err-args
unfolding value_at
sum-returns-in_err-args t c =
    let args : c.as_slice.result.now ≡ c.index-sum-place.result.args = c.as_slice.ensures ∙ ap (λ (x : Case). x.args) (sym c.index-sum-place.is) in
    handed _ _ _ _ _ c.from_residual-in_err-args.ensures.1
    (next _ (told _ _ _ _ c.in_ok-place.ensures.reads)
    (unmade _ (same (case_reads case_form c.args.sum.now _ _ (ahead c.case_name.new.cursor) c.in_ok-place.ensures.within c.index-sum-place.is)
    (same (ap (λ xs. arguments_at (parts (map form_of xs)) (ahead c.case_name.new.cursor)) (sym args)) (told _ _ _ _ c.in_err-args.ensures)))))

pub sum-overflow_cast-result : goal.sum-overflow_cast-result
sum-overflow_cast-result t c = omega (arith, few_cases c.args.sum.now c.requires, c.in_ok-place.ensures.within)

pub sum-returns : goal.sum-returns
unfolding value_at
sum-returns t c =
    let args : c.as_slice.result.now ≡ c.index-sum-place.result.args = c.as_slice.ensures ∙ ap (λ (x : Case). x.args) (sym c.index-sum-place.is) in
    shown _ _ _ _
    (next _ (told _ _ _ _ c.in_ok-place.ensures.reads)
    (made _ (same (case_reads case_form c.args.sum.now _ _ (ahead c.case_name.new.cursor) c.in_ok-place.ensures.within c.index-sum-place.is)
    (same (ap (λ xs. arguments_at (parts (map form_of xs)) (ahead c.case_name.new.cursor)) (sym args)) (told _ _ _ _ c.in_ok-args.ensures)))))

pub arguments-returns-then-is_empty : goal.arguments-returns-then-is_empty
arguments-returns-then-is_empty t c =
    rw (c.from_vec.ensures, c.new.ensures.items) (goes_none _, no_arguments c.args.shapes.now _ c.if-is_empty.ensures)

pub arguments-returns-in_err-pass_mark : goal.arguments-returns-in_err-pass_mark
arguments-returns-in_err-pass_mark t c =
    handed _ _ _ _ _ c.from_residual.ensures.1
    (same (some_arguments c.args.shapes.now (ahead c.args.cursor.now) c.if-is_empty.ensures) (fails _ (told _ _ _ _ c.in_err-pass_mark.ensures)))

pub arguments-returns : goal.arguments-returns
arguments-returns t c =
    shown _ _ _ _
    (same (some_arguments c.args.shapes.now (ahead c.args.cursor.now) c.if-is_empty.ensures) (next _ (told _ _ _ _ c.in_ok-pass_mark.ensures) (told _ _ _ _ c.all_parts.ensures)))

pub poly-returns-in_err-pass_mark : goal.poly-returns-in_err-pass_mark
unfolding value_at
poly-returns-in_err-pass_mark t c = handed _ _ _ _ _ c.from_residual.ensures.1 (fails _ (told _ _ _ _ c.in_err-pass_mark.ensures))

pub poly-returns-in_err-place : goal.poly-returns-in_err-place
unfolding value_at
poly-returns-in_err-place t c =
    handed _ _ _ _ _ c.from_residual-in_err-place.ensures.1
    (next _ (told _ _ _ _ c.in_ok-pass_mark.ensures) (fails _ (told _ _ _ _ c.in_err-place.ensures.reads)))

pub poly-bounds-poly-place : goal.poly-bounds-poly-place
poly-bounds-poly-place t c = c.in_ok-place.ensures.within

pub poly-argument-requires : goal.poly-argument-requires
poly-argument-requires t c =
    (search (rules, shape_lemmas, get_or_read), within_poly c.args.poly.now _ _ c.in_ok-place.ensures.within c.index-poly-place.is c.requires)

pub poly-returns-in_err-args : goal.poly-returns-in_err-args
unfolding value_at
poly-returns-in_err-args t c =
    handed _ _ _ _ _ c.from_residual-in_err-args.ensures.1
    (next _ (told _ _ _ _ c.in_ok-pass_mark.ensures) (next _ (told _ _ _ _ c.in_ok-place.ensures.reads) (unmade _ (same (case_reads poly_form c.args.poly.now _ _ (ahead c.poly_name.new.cursor) c.in_ok-place.ensures.within c.index-poly-place.is) (told _ _ _ _ c.in_err-args.ensures)))))

pub poly-overflow_cast-result : goal.poly-overflow_cast-result
poly-overflow_cast-result t c = omega (arith, few_poly c.args.poly.now c.requires, c.in_ok-place.ensures.within)

pub poly-returns : goal.poly-returns
unfolding value_at
poly-returns t c =
    shown _ _ _ _
    (next _ (told _ _ _ _ c.in_ok-pass_mark.ensures) (next _ (told _ _ _ _ c.in_ok-place.ensures.reads) (made _ (same (case_reads poly_form c.args.poly.now _ _ (ahead c.poly_name.new.cursor) c.in_ok-place.ensures.within c.index-poly-place.is) (told _ _ _ _ c.in_ok-args.ensures)))))

pub argument-returns-in_err-pass_mark-in-Some : goal.argument-returns-in_err-pass_mark-in-Some
argument-returns-in_err-pass_mark-in-Some t c =
    handed _ _ _ _ _ c.from_residual.ensures.1
    (same (one_argument c.args.case.now.arg _ _ (ahead c.args.cursor.now) c.in-Some.is refl) (fails _ (told _ _ _ _ c.in_err-pass_mark-in-Some.ensures)))

pub argument-value-requires : goal.argument-value-requires
argument-value-requires t c = (search (rules, shape_lemmas), rw c.get.ensures (argument_good c.args.case.now.arg _ c.in-Some.is c.requires))

pub argument-returns-in_err-value-in-Some : goal.argument-returns-in_err-value-in-Some
argument-returns-in_err-value-in-Some t c =
    handed _ _ _ _ _ c.from_residual-in_err-value-in-Some.ensures.1
    (same (one_argument c.args.case.now.arg _ c.get.result.now (ahead c.args.cursor.now) c.in-Some.is c.get.ensures)
    (next _ (told _ _ _ _ c.in_ok-pass_mark-in-Some.ensures) (fails _ (told _ _ _ _ c.in_err-value-in-Some.ensures))))

pub argument-returns-in_err-pass_mark-in-Some-2 : goal.argument-returns-in_err-pass_mark-in-Some-2
argument-returns-in_err-pass_mark-in-Some-2 t c =
    handed _ _ _ _ _ c.from_residual-in_err-pass_mark-in-Some-2.ensures.1
    (same (one_argument c.args.case.now.arg _ c.get.result.now (ahead c.args.cursor.now) c.in-Some.is c.get.ensures)
    (next _ (told _ _ _ _ c.in_ok-pass_mark-in-Some.ensures)
    (next _ (told _ _ _ _ c.in_ok-value-in-Some.ensures) (unmade _ (unmade _ (told _ _ _ _ c.in_err-pass_mark-in-Some-2.ensures))))))

pub argument-returns-in_ok-pass_mark-in-Some-2 : goal.argument-returns-in_ok-pass_mark-in-Some-2
argument-returns-in_ok-pass_mark-in-Some-2 t c =
    rw (c.from_vec-in-Some.ensures, c.in_ok-push-in-Some.ensures.items, c.new-args.ensures.items)
    (shown _ _ _ _
    (same (one_argument c.args.case.now.arg _ c.get.result.now (ahead c.args.cursor.now) c.in-Some.is c.get.ensures)
    (next _ (told _ _ _ _ c.in_ok-pass_mark-in-Some.ensures)
    (next _ (told _ _ _ _ c.in_ok-value-in-Some.ensures) (made _ (made _ (told _ _ _ _ c.in_ok-pass_mark-in-Some-2.ensures)))))))

pub argument-returns-in-None : goal.argument-returns-in-None
argument-returns-in-None t c = rw (c.from_vec.ensures, c.new-args.ensures.items) (goes_none _, none_argument c.args.case.now.arg _ c.in-None.is)
