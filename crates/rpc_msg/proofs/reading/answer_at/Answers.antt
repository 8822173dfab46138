use Rattle.std.proofs.Common.{arith}
use Rattle.bp_num.specs.declared.number.Why.TheVariants.{Case}
use Rattle.readers.specs.Reader.{one}
use Rattle.bp_grammar.specs.Spells.{place_of}
use Rattle.bp_grammar.specs.Reading.{sized_at, read}
use Rattle.rpc_msg.specs.Forms.{answer_form}
use Rattle.rpc_msg.specs.Values.{answer_value}
use Rattle.rpc_msg.proofs.Directs.{answer_reads, answer_case}
use Rattle.rpc_msg.proofs.Halting.{gives, at_case, place_below, head_stops, last_head_stops, last_part_stops}
use Rattle.rpc_msg.proofs.reading.answer_at.Goals as goal

pub returns-in_err-place_at : goal.returns-in_err-place_at
returns-in_err-place_at c =
    let m = c.args.max_len in
    let s = c.args.rest.now.now in
    head_stops answer_value (read m answer_form) s (one (place_of 2) Case) s c.place_at.new.rest.now c.from_residual.result c.in_err-place_at.field-0.0
    _ (answer_reads m s) c.from_residual.ensures.1 c.in_err-place_at.ensures

pub returns-in_err-text_at-in-0 : goal.returns-in_err-text_at-in-0
returns-in_err-text_at-in-0 c =
    let m = c.args.max_len in
    let s = c.args.rest.now.now in
    let ok = at_case (answer_case m) _ 0 (answer_reads m s) c.in_ok-place_at.ensures.0 c.in-0.is in
    last_head_stops answer_value (read m answer_form) s (sized_at m) c.place_at.new.rest.now c.text_at.new.rest.now c.from_residual-in_err-text_at-in-0.result
    c.in_err-text_at-in-0.field-0.0 _ ok c.from_residual-in_err-text_at-in-0.ensures.1 c.in_err-text_at-in-0.ensures

pub returns-in_err-error_at-in_default : goal.returns-in_err-error_at-in_default
returns-in_err-error_at-in_default c =
    let m = c.args.max_len in
    let s = c.args.rest.now.now in
    let below = place_below 2 Case s _ c.in_ok-place_at.field-0 c.in_ok-place_at.ensures.0 in
    let error = at_case (answer_case m) _ 1 (answer_reads m s) c.in_ok-place_at.ensures.0 (omega (arith, below)) in
    last_part_stops answer_value (read m answer_form) s _ c.error_at.new.rest.now c.from_residual-in_err-error_at-in_default.result
    c.in_err-error_at-in_default.field-0.0 _ error c.from_residual-in_err-error_at-in_default.ensures.1 c.in_err-error_at-in_default.ensures

pub returns-in_ok-text_at-in-0 : goal.returns-in_ok-text_at-in-0
returns-in_ok-text_at-in-0 c =
    let m = c.args.max_len in
    gives _ _ (at_case (answer_case m) _ 0 (answer_reads m c.args.rest.now.now) c.in_ok-place_at.ensures.0 c.in-0.is) c.in_ok-text_at-in-0.ensures.0

pub returns-in_ok-error_at-in_default : goal.returns-in_ok-error_at-in_default
returns-in_ok-error_at-in_default c =
    let m = c.args.max_len in
    let s = c.args.rest.now.now in
    let below = place_below 2 Case s _ c.in_ok-place_at.field-0 c.in_ok-place_at.ensures.0 in
    gives _ _ (at_case (answer_case m) _ 1 (answer_reads m s) c.in_ok-place_at.ensures.0 (omega (arith, below))) c.in_ok-error_at-in_default.ensures
