-- By what stands in front; in a loop, item by item.
use Rattle.std.proofs.Common.{refl, sym, ap, ◌∙◌, length, None, Some, arith}
use Rattle.std.proofs.lemmas.Result.{err_from_is_err_and}
use Rattle.readers.specs.Reader.{one, maybe}
use Rattle.bp_value.specs.declared.shape.Shape.TheVariants as shp
use Rattle.bp_text_grammar.specs.Texts.{BadText, bar, curly_close, semicolon, square_close, backtick, is_mark, mark_at}
use Rattle.bp_text_grammar.specs.ShapeTexts.{name_of, is_of, ends_case, part_at, more_factors_at, factors_at, product_at, field_at, sum_case_at, poly_case_at, base_at}
use Rattle.bp_text.specs.Items.{posted_at}
use Rattle.bp_text.specs.Unread.{ahead}
use Rattle.bp_text.proofs.Ahead.{goes_none, goes_join}
use Rattle.bp_text.proofs.Readings.{branch_is, branch_not, fails, gives_as, handed, made, next, same, shown, told, unmade}
use Rattle.bp_text.proofs.ItemSteps.{items_at, loop_starts, item_read, item_failed, item_up, loop_ended, loop_closed, loop_on, loop_less}
use Rattle.bp_text.proofs.RoomSteps.{base_none, base_round, base_curly, base_square, base_plain, right_field, right_sum_case, right_poly_case, case_apart, factors_end, factors_go}
use Rattle.bp_text.proofs.CaseSteps.{maybe_none, maybe_failed, maybe_some, mapped_up, then_up}
use Rattle.bp_text.proofs.Turns.{no_more_ahead}
use Rattle.bp_text.proofs.MemberSteps.{colon_next, field_shape, with_shape, with_args, case_args, with_arg, poly_arg, poly_name, round_end, in_round, in_curly, in_polys, in_sums, in_square}
use Rattle.bp_text.proofs.shapes.+shapes.Goals as goal

-- ---- a base

pub base-returns-then-room-eq0 : goal.base-returns-then-room-eq0
base-returns-then-room-eq0 t c =
    gives_as _ _ _ _ _
    (base_none c.args.room (ahead c.args.tokens.now) c.if-room-eq0.true) c.base_word.ensures

pub base-returns-then-is_mark : goal.base-returns-then-is_mark
base-returns-then-is_mark t c =
    gives_as _ _ _ _ _
    (base_round (ahead c.args.tokens.now) c.args.room (λ e. omega arith) (sym c.is_mark.ensures ∙ c.if-is_mark.true)) c.round.ensures

pub base-returns-then-is_mark-2 : goal.base-returns-then-is_mark-2
base-returns-then-is_mark-2 t c =
    gives_as _ _ _ _ _
    (base_curly (ahead c.args.tokens.now) c.args.room (λ e. omega arith) (sym c.is_mark.ensures ∙ c.if-is_mark.false)
    (sym c.is_mark-2.ensures ∙ c.if-is_mark-2.true)) c.record.ensures

pub base-returns-then-is_mark-3 : goal.base-returns-then-is_mark-3
base-returns-then-is_mark-3 t c =
    gives_as _ _ _ _ _
    (base_square (ahead c.args.tokens.now) c.args.room (λ e. omega arith) (sym c.is_mark.ensures ∙ c.if-is_mark.false)
    (sym c.is_mark-2.ensures ∙ c.if-is_mark-2.false) (sym c.is_mark-3.ensures ∙ c.if-is_mark-3.true)) c.variant.ensures

pub base-returns : goal.base-returns
base-returns t c =
    gives_as _ _ _ _ _
    (base_plain (ahead c.args.tokens.now) c.args.room (λ e. omega arith) (sym c.is_mark.ensures ∙ c.if-is_mark.false)
    (sym c.is_mark-2.ensures ∙ c.if-is_mark-2.false) (sym c.is_mark-3.ensures ∙ c.if-is_mark-3.false)) c.base_word-2.ensures

-- ---- factors

pub factors-factors-init : goal.factors-factors-init
factors-factors-init t c = loop_starts (part_at (base_at c.args.room)) (more_factors_at (base_at c.args.room)) c.args.tokens.now
    c.new-factors.result.items c.new-factors.ensures.items

pub factors-returns-in-Err : goal.factors-returns-in-Err
factors-returns-in-Err t c = item_failed c.factors.invariant c.part.new.tokens c.in-Err.halt c.in-Err.ensures

pub factors-returns-then-not-is_mark : goal.factors-returns-then-not-is_mark
factors-returns-then-not-is_mark t c =
    factors_end c.args.room c.factors.tokens c.in-Ok.part c.from_vec.result c.in-Ok.ensures (sym c.if-not-is_mark.ensures)
    (item_read c.factors.invariant c.part.new.tokens c.in-Ok.part c.push.new.self.items c.in-Ok.ensures c.in_ok-push-in-Ok.ensures.items)
    c.from_vec.ensures

pub factors-factors-smaller : goal.factors-factors-smaller
factors-factors-smaller t c =
    let less = no_more_ahead c.factors.tokens c.part.new.tokens c.in-Ok.ensures.0 in
    let one_token = ap length c.in_ok-take.ensures.1 in
    omega arith

pub factors-factors-preserved : goal.factors-factors-preserved
factors-factors-preserved t c =
    factors_go c.args.room c.take.new.self c.in_ok-take.field-0 (sym c.if-not-is_mark.ensures) c.in_ok-take.ensures
    (item_read c.factors.invariant c.part.new.tokens c.in-Ok.part c.push.new.self.items c.in-Ok.ensures c.in_ok-push-in-Ok.ensures.items)

-- ---- fields

pub fields-fields-init : goal.fields-fields-init
fields-fields-init t c =
    loop_starts (field_at (base_at c.args.room)) (items_at semicolon curly_close (field_at (base_at c.args.room))) c.args.tokens.now
    c.new-fields.result.items c.new-fields.ensures.items

pub fields-returns-in-Err : goal.fields-returns-in-Err
fields-returns-in-Err t c = item_failed c.fields.invariant c.field.new.tokens c.in-Err.halt c.in-Err.ensures

pub fields-returns-in-Ok-true : goal.fields-returns-in-Ok-true
fields-returns-in-Ok-true t c =
    loop_closed semicolon curly_close (right_field c.args.room) c.closes.new.tokens
    (item_read c.fields.invariant c.field.new.tokens c.in-Ok.field c.push.new.self.items c.in-Ok.ensures c.in_ok-push-in-Ok.ensures.items)
    c.in-Ok-true.field-0 c.in-Ok-true.ensures c.from_vec.result c.in-Ok-true.field-0-test c.from_vec.ensures

pub fields-fields-smaller : goal.fields-fields-smaller
fields-fields-smaller t c =
    loop_less semicolon curly_close c.fields.tokens c.field.new.tokens c.closes.new.tokens c.in-Ok-false.field-0 c.in-Ok.ensures.0
    c.in-Ok-false.ensures

pub fields-fields-preserved : goal.fields-fields-preserved
fields-fields-preserved t c =
    loop_on semicolon curly_close (right_field c.args.room) c.closes.new.tokens (item_read c.fields.invariant c.field.new.tokens c.in-Ok.field
    c.push.new.self.items c.in-Ok.ensures c.in_ok-push-in-Ok.ensures.items)
    c.in-Ok-false.field-0 c.in-Ok-false.ensures c.in-Ok-false.field-0-test

pub fields-returns-in-Err-closes : goal.fields-returns-in-Err-closes
fields-returns-in-Err-closes t c =
    loop_ended semicolon curly_close (right_field c.args.room) c.closes.new.tokens (item_read c.fields.invariant c.field.new.tokens c.in-Ok.field
    c.push.new.self.items c.in-Ok.ensures c.in_ok-push-in-Ok.ensures.items)
    c.in-Err-closes.halt c.in-Err-closes.ensures

-- ---- cases

pub cases-cases-init : goal.cases-cases-init
cases-cases-init t c =
    loop_starts (sum_case_at (base_at c.args.room)) (items_at bar square_close (sum_case_at (base_at c.args.room))) c.args.tokens.now
    c.new-cases.result.items c.new-cases.ensures.items

pub cases-returns-in-Err : goal.cases-returns-in-Err
cases-returns-in-Err t c = item_failed c.cases.invariant c.case.new.tokens c.in-Err.halt c.in-Err.ensures

pub cases-returns-in-Ok-true : goal.cases-returns-in-Ok-true
cases-returns-in-Ok-true t c =
    loop_closed bar square_close (right_sum_case c.args.room) c.closes.new.tokens (item_up bar square_close (right_sum_case c.args.room)
    c.case.new.tokens ends_case case_apart c.cases.invariant c.in-Ok.case c.push.new.self.items c.in-Ok.ensures c.in_ok-push-in-Ok.ensures.items)
    c.in-Ok-true.field-0 c.in-Ok-true.ensures c.from_vec.result c.in-Ok-true.field-0-test c.from_vec.ensures

pub cases-cases-smaller : goal.cases-cases-smaller
cases-cases-smaller t c =
    loop_less bar square_close c.cases.tokens c.case.new.tokens c.closes.new.tokens c.in-Ok-false.field-0 c.in-Ok.ensures.0 c.in-Ok-false.ensures

pub cases-cases-preserved : goal.cases-cases-preserved
cases-cases-preserved t c =
    loop_on bar square_close (right_sum_case c.args.room) c.closes.new.tokens (item_up bar square_close (right_sum_case c.args.room)
    c.case.new.tokens ends_case case_apart c.cases.invariant c.in-Ok.case c.push.new.self.items c.in-Ok.ensures c.in_ok-push-in-Ok.ensures.items)
    c.in-Ok-false.field-0 c.in-Ok-false.ensures c.in-Ok-false.field-0-test

pub cases-returns-in-Err-closes : goal.cases-returns-in-Err-closes
cases-returns-in-Err-closes t c =
    loop_ended bar square_close (right_sum_case c.args.room) c.closes.new.tokens (item_up bar square_close (right_sum_case c.args.room)
    c.case.new.tokens ends_case case_apart c.cases.invariant c.in-Ok.case c.push.new.self.items c.in-Ok.ensures c.in_ok-push-in-Ok.ensures.items)
    c.in-Err-closes.halt c.in-Err-closes.ensures

-- ---- cases with a backtick

pub poly_cases-cases-init : goal.poly_cases-cases-init
poly_cases-cases-init t c =
    loop_starts (poly_case_at (base_at c.args.room)) (items_at bar square_close (poly_case_at (base_at c.args.room))) c.args.tokens.now
    c.new-cases.result.items c.new-cases.ensures.items

pub poly_cases-returns-in-Err : goal.poly_cases-returns-in-Err
poly_cases-returns-in-Err t c = item_failed c.cases.invariant c.poly_case.new.tokens c.in-Err.halt c.in-Err.ensures

pub poly_cases-returns-in-Ok-true : goal.poly_cases-returns-in-Ok-true
poly_cases-returns-in-Ok-true t c =
    loop_closed bar square_close (right_poly_case c.args.room) c.closes.new.tokens (item_up bar square_close (right_poly_case c.args.room)
    c.poly_case.new.tokens ends_case case_apart c.cases.invariant c.in-Ok.case c.push.new.self.items c.in-Ok.ensures c.in_ok-push-in-Ok.ensures.items)
    c.in-Ok-true.field-0 c.in-Ok-true.ensures c.from_vec.result c.in-Ok-true.field-0-test c.from_vec.ensures

pub poly_cases-cases-smaller : goal.poly_cases-cases-smaller
poly_cases-cases-smaller t c =
    loop_less bar square_close c.cases.tokens c.poly_case.new.tokens c.closes.new.tokens c.in-Ok-false.field-0 c.in-Ok.ensures.0 c.in-Ok-false.ensures

pub poly_cases-cases-preserved : goal.poly_cases-cases-preserved
poly_cases-cases-preserved t c =
    loop_on bar square_close (right_poly_case c.args.room) c.closes.new.tokens (item_up bar square_close (right_poly_case c.args.room)
    c.poly_case.new.tokens ends_case case_apart c.cases.invariant c.in-Ok.case c.push.new.self.items c.in-Ok.ensures c.in_ok-push-in-Ok.ensures.items)
    c.in-Ok-false.field-0 c.in-Ok-false.ensures c.in-Ok-false.field-0-test

pub poly_cases-returns-in-Err-closes : goal.poly_cases-returns-in-Err-closes
poly_cases-returns-in-Err-closes t c =
    loop_ended bar square_close (right_poly_case c.args.room) c.closes.new.tokens (item_up bar square_close (right_poly_case c.args.room)
    c.poly_case.new.tokens ends_case case_apart c.cases.invariant c.in-Ok.case c.push.new.self.items c.in-Ok.ensures c.in_ok-push-in-Ok.ensures.items)
    c.in-Err-closes.halt c.in-Err-closes.ensures

-- ---- one member

pub field-returns-in_err-pass_mark : goal.field-returns-in_err-pass_mark
field-returns-in_err-pass_mark t c =
    handed _ _ _ _ _ c.from_residual-in_err-pass_mark.ensures.1
    (next (colon_next (base_at c.args.room)) (told _ _ _ _ c.in_ok-name.ensures)
    (fails (λ u. field_shape (base_at c.args.room) c.in_ok-name.name) (told _ _ _ _ c.in_err-pass_mark.ensures)))

pub field-returns-in_err-shape : goal.field-returns-in_err-shape
field-returns-in_err-shape t c =
    handed _ _ _ _ _ c.from_residual-in_err-shape.ensures.1
    (next (colon_next (base_at c.args.room)) (told _ _ _ _ c.in_ok-name.ensures)
    (next (λ u. field_shape (base_at c.args.room) c.in_ok-name.name) (told _ _ _ _ c.in_ok-pass_mark.ensures)
    (unmade (with_shape (base_at c.args.room) c.in_ok-name.name) (told _ _ _ _ c.in_err-shape.ensures))))

pub field-returns : goal.field-returns
field-returns t c =
    shown _ _ _ _
    (next (colon_next (base_at c.args.room)) (told _ _ _ _ c.in_ok-name.ensures)
    (next (λ u. field_shape (base_at c.args.room) c.in_ok-name.name) (told _ _ _ _ c.in_ok-pass_mark.ensures)
    (made (with_shape (base_at c.args.room) c.in_ok-name.name) (told _ _ _ _ c.in_ok-shape.ensures))))

pub case-returns-in_err-args : goal.case-returns-in_err-args
case-returns-in_err-args t c =
    let p = err_from_is_err_and c.from_residual-in_err-args.result c.from_residual-in_err-args.ensures.1 in
    let missing = maybe_failed is_of ends_case (factors_at (base_at c.args.room)) c.name.new.tokens c.take.new.self c.factors.new.tokens
    c.in_ok-take.field-0
    (sym c.if-not-is_word.ensures) c.in_ok-take.ensures c.in_err-args.field-0.0 c.in_err-args.ensures in
    rw (p.1, p.2)
    (shown _ _ _ _
    (next (case_args (base_at c.args.room)) (told _ _ _ _ c.in_ok-name.ensures) (unmade (with_args (base_at c.args.room) c.in_ok-name.name)
    (told _ _ _ _ missing))))

pub case-returns : goal.case-returns
case-returns t c =
    then_up ends_case (one name_of BadText) (case_args (base_at c.args.room)) c.args.tokens.now c.name.new.tokens c.factors.new.tokens
    c.in_ok-name.name
    (with_args (base_at c.args.room) c.in_ok-name.name (Some c.in_ok-args.args)) c.in_ok-name.ensures
    (mapped_up ends_case (maybe is_of ends_case BadText (factors_at (base_at c.args.room))) (with_args (base_at c.args.room) c.in_ok-name.name)
    c.name.new.tokens c.factors.new.tokens
    (Some c.in_ok-args.args) (
      goes_join c.name.new.tokens c.take.new.self c.factors.new.tokens c.in_ok-take.ensures.0 c.in_ok-args.ensures.0,
      maybe_some is_of ends_case (factors_at (base_at c.args.room)) c.name.new.tokens c.take.new.self c.factors.new.tokens c.in_ok-take.field-0
          (sym c.if-not-is_word.ensures)
          c.in_ok-take.ensures c.in_ok-args.args c.in_ok-args.ensures.1,
    ))

pub poly_case-returns-in_err-name : goal.poly_case-returns-in_err-name
poly_case-returns-in_err-name t c =
    let p = err_from_is_err_and c.from_residual-in_err-name.result c.from_residual-in_err-name.ensures.1 in
    rw (p.1, p.2)
    (shown _ _ _ _
    (next (poly_name (base_at c.args.room)) (told _ _ _ _ c.in_ok-pass_mark.ensures) (fails (poly_arg (base_at c.args.room)) (told _ _ _ _
    c.in_err-name.ensures))))

pub poly_case-returns-then-not-is_word : goal.poly_case-returns-then-not-is_word
poly_case-returns-then-not-is_word t c =
    then_up ends_case (mark_at backtick) (poly_name (base_at c.args.room)) c.args.tokens.now c.pass_mark.new.self c.name.new.tokens tt
    (with_arg (base_at c.args.room) c.in_ok-name.name None) c.in_ok-pass_mark.ensures
    (then_up ends_case (one name_of BadText) (poly_arg (base_at c.args.room)) c.pass_mark.new.self c.name.new.tokens c.name.new.tokens
    c.in_ok-name.name
    (with_arg (base_at c.args.room) c.in_ok-name.name None) c.in_ok-name.ensures
    (mapped_up ends_case (maybe is_of ends_case BadText (product_at (base_at c.args.room))) (with_arg (base_at c.args.room) c.in_ok-name.name)
    c.name.new.tokens c.name.new.tokens None (
      goes_none c.name.new.tokens,
      maybe_none is_of ends_case (product_at (base_at c.args.room)) (ahead c.name.new.tokens)
          (sym c.if-not-is_word.ensures),
    )))

pub poly_case-returns-in_err-shape : goal.poly_case-returns-in_err-shape
poly_case-returns-in_err-shape t c =
    let p = err_from_is_err_and c.from_residual-in_err-shape.result c.from_residual-in_err-shape.ensures.1 in
    let missing = maybe_failed is_of ends_case (product_at (base_at c.args.room)) c.name.new.tokens c.take.new.self c.product.new.tokens
    c.in_ok-take.field-0
    (sym c.if-not-is_word.ensures) c.in_ok-take.ensures c.in_err-shape.field-0.0 c.in_err-shape.ensures in
    rw (p.1, p.2)
    (shown _ _ _ _
    (next (poly_name (base_at c.args.room)) (told _ _ _ _ c.in_ok-pass_mark.ensures) (next (poly_arg (base_at c.args.room)) (told _ _ _ _
    c.in_ok-name.ensures)
    (unmade (with_arg (base_at c.args.room) c.in_ok-name.name) (told _ _ _ _ missing)))))

pub poly_case-returns : goal.poly_case-returns
poly_case-returns t c =
    let arg = Some c.in_ok-shape.shape in
    let made = with_arg (base_at c.args.room) c.in_ok-name.name arg in
    rw (c.name-2.view_is, c.in_ok-new.ensures)
    (then_up ends_case (mark_at backtick) (poly_name (base_at c.args.room)) c.args.tokens.now c.pass_mark.new.self c.product.new.tokens tt made
    c.in_ok-pass_mark.ensures
    (then_up ends_case (one name_of BadText) (poly_arg (base_at c.args.room)) c.pass_mark.new.self c.name.new.tokens c.product.new.tokens
    c.in_ok-name.name made c.in_ok-name.ensures
    (mapped_up ends_case (maybe is_of ends_case BadText (product_at (base_at c.args.room))) (with_arg (base_at c.args.room) c.in_ok-name.name)
    c.name.new.tokens c.product.new.tokens arg (
      goes_join c.name.new.tokens c.take.new.self c.product.new.tokens c.in_ok-take.ensures.0 c.in_ok-shape.ensures.0,
      maybe_some is_of ends_case (product_at (base_at c.args.room)) c.name.new.tokens c.take.new.self c.product.new.tokens c.in_ok-take.field-0
          (sym c.if-not-is_word.ensures)
          c.in_ok-take.ensures c.in_ok-shape.shape c.in_ok-shape.ensures.1,
    ))))

-- ---- in brackets

pub part-returns : goal.part-returns
part-returns t c =
    shown _ _ _ _ (next posted_at (told _ _ _ _ c.in_ok-base.ensures) (told _ _ _ _ c.posted.ensures))

pub record-returns-in_err-fields : goal.record-returns-in_err-fields
record-returns-in_err-fields t c =
    handed _ _ _ _ _ c.from_residual-in_err-fields.ensures.1
    (next (in_curly (base_at c.args.room)) (told _ _ _ _ c.in_ok-pass_mark.ensures) (unmade shp.Fields (told _ _ _ _ c.in_err-fields.ensures)))

pub record-returns : goal.record-returns
record-returns t c =
    shown _ _ _ _ (next (in_curly (base_at c.args.room)) (told _ _ _ _ c.in_ok-pass_mark.ensures)
    (made shp.Fields (told _ _ _ _ c.in_ok-fields.ensures)))

pub round-returns-in_err-shape : goal.round-returns-in_err-shape
round-returns-in_err-shape t c =
    handed _ _ _ _ _ c.from_residual-in_err-shape.ensures.1
    (next (in_round (base_at c.args.room)) (told _ _ _ _ c.in_ok-pass_mark.ensures)
    (fails (round_end (base_at c.args.room)) (told _ _ _ _ c.in_err-shape.ensures)))

pub round-returns-in_err-pass_mark-2 : goal.round-returns-in_err-pass_mark-2
round-returns-in_err-pass_mark-2 t c =
    handed _ _ _ _ _ c.from_residual-in_err-pass_mark-2.ensures.1
    (next (in_round (base_at c.args.room)) (told _ _ _ _ c.in_ok-pass_mark.ensures) (next (round_end (base_at c.args.room)) (told _ _ _ _
    c.in_ok-shape.ensures)
    (unmade (λ u. c.in_ok-shape.shape) (told _ _ _ _ c.in_err-pass_mark-2.ensures))))

pub round-returns : goal.round-returns
round-returns t c =
    shown _ _ _ _
    (next (in_round (base_at c.args.room)) (told _ _ _ _ c.in_ok-pass_mark.ensures) (next (round_end (base_at c.args.room)) (told _ _ _ _
    c.in_ok-shape.ensures)
    (made (λ u. c.in_ok-shape.shape) (told _ _ _ _ c.in_ok-pass_mark-2.ensures))))

pub variant-returns-in_err-cases : goal.variant-returns-in_err-cases
variant-returns-in_err-cases t c =
    handed _ _ _ _ _ c.from_residual-in_err-cases.ensures.1
    (next (in_square (base_at c.args.room)) (told _ _ _ _ c.in_ok-pass_mark.ensures)
    (same (branch_is (is_mark backtick) (in_polys (base_at c.args.room)) (in_sums (base_at c.args.room))
    (ahead c.pass_mark.new.self) (sym c.is_mark.ensures ∙ c.if-is_mark.true))
    (unmade shp.Poly (told _ _ _ _ c.in_err-cases.ensures))))

pub variant-returns-then-is_mark : goal.variant-returns-then-is_mark
variant-returns-then-is_mark t c =
    shown _ _ _ _
    (next (in_square (base_at c.args.room)) (told _ _ _ _ c.in_ok-pass_mark.ensures)
    (same (branch_is (is_mark backtick) (in_polys (base_at c.args.room)) (in_sums (base_at c.args.room))
    (ahead c.pass_mark.new.self) (sym c.is_mark.ensures ∙ c.if-is_mark.true))
    (made shp.Poly (told _ _ _ _ c.in_ok-cases.ensures))))

pub variant-returns-in_err-cases-2 : goal.variant-returns-in_err-cases-2
variant-returns-in_err-cases-2 t c =
    handed _ _ _ _ _ c.from_residual-in_err-cases-2.ensures.1
    (next (in_square (base_at c.args.room)) (told _ _ _ _ c.in_ok-pass_mark.ensures)
    (same (branch_not (is_mark backtick) (in_polys (base_at c.args.room)) (in_sums (base_at c.args.room))
    (ahead c.pass_mark.new.self) refl (sym c.is_mark.ensures ∙ c.if-is_mark.false))
    (unmade shp.Sum (told _ _ _ _ c.in_err-cases-2.ensures))))

pub variant-returns : goal.variant-returns
variant-returns t c =
    shown _ _ _ _
    (next (in_square (base_at c.args.room)) (told _ _ _ _ c.in_ok-pass_mark.ensures)
    (same (branch_not (is_mark backtick) (in_polys (base_at c.args.room)) (in_sums (base_at c.args.room))
    (ahead c.pass_mark.new.self) refl (sym c.is_mark.ensures ∙ c.if-is_mark.false))
    (made shp.Sum (told _ _ _ _ c.in_ok-cases-2.ensures))))
