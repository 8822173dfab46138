use Rattle.std.proofs.Common.{arith}
use Rattle.bp_num.specs.declared.number.Why.TheVariants.{Case}
use Rattle.readers.specs.Reader.{one}
use Rattle.bp_grammar.specs.Spells.{place_of}
use Rattle.bp_grammar.specs.Reading.{read}
use Rattle.rpc_msg.specs.Forms.{message_form}
use Rattle.rpc_msg.specs.Values.{message_value}
use Rattle.rpc_msg.proofs.Directs.{message_reads, message_case}
use Rattle.rpc_msg.proofs.Halting.{gives, at_case, place_below, head_stops, last_part_stops}
use Rattle.rpc_msg.proofs.reading.message_at.Goals as goal

pub returns-in_err-place_at : goal.returns-in_err-place_at
returns-in_err-place_at c =
    let m = c.args.max_len in
    let s = c.args.rest.now.now in
    head_stops message_value (read m message_form) s (one (place_of 3) Case) s c.place_at.new.rest.now c.from_residual.result c.in_err-place_at.field-0.0
    _ (message_reads m s) c.from_residual.ensures.1 c.in_err-place_at.ensures

pub returns-in_err-query_at-in-1 : goal.returns-in_err-query_at-in-1
returns-in_err-query_at-in-1 c =
    let m = c.args.max_len in
    let s = c.args.rest.now.now in
    let query = at_case (message_case m) _ 1 (message_reads m s) c.in_ok-place_at.ensures.0 c.in-1.is in
    last_part_stops message_value (read m message_form) s _ c.query_at.new.rest.now c.from_residual-in_err-query_at-in-1.result
    c.in_err-query_at-in-1.field-0.0 _ query c.from_residual-in_err-query_at-in-1.ensures.1 c.in_err-query_at-in-1.ensures

pub returns-in_err-response_at-in_default : goal.returns-in_err-response_at-in_default
returns-in_err-response_at-in_default c =
    let m = c.args.max_len in
    let s = c.args.rest.now.now in
    let below = place_below 3 Case s _ c.in_ok-place_at.field-0 c.in_ok-place_at.ensures.0 in
    let response = at_case (message_case m) _ 2 (message_reads m s) c.in_ok-place_at.ensures.0 (omega (arith, below)) in
    last_part_stops message_value (read m message_form) s _ c.response_at.new.rest.now c.from_residual-in_err-response_at-in_default.result
    c.in_err-response_at-in_default.field-0.0 _ response c.from_residual-in_err-response_at-in_default.ensures.1 c.in_err-response_at-in_default.ensures

pub returns-in-0 : goal.returns-in-0
returns-in-0 c = at_case (message_case c.args.max_len) _ 0 (message_reads c.args.max_len c.args.rest.now.now) c.in_ok-place_at.ensures.0 c.in-0.is

pub returns-in_ok-query_at-in-1 : goal.returns-in_ok-query_at-in-1
returns-in_ok-query_at-in-1 c =
    let m = c.args.max_len in
    gives _ _ (at_case (message_case m) _ 1 (message_reads m c.args.rest.now.now) c.in_ok-place_at.ensures.0 c.in-1.is) c.in_ok-query_at-in-1.ensures

pub returns-in_ok-response_at-in_default : goal.returns-in_ok-response_at-in_default
returns-in_ok-response_at-in_default c =
    let m = c.args.max_len in
    let s = c.args.rest.now.now in
    let below = place_below 3 Case s _ c.in_ok-place_at.field-0 c.in_ok-place_at.ensures.0 in
    gives _ _ (at_case (message_case m) _ 2 (message_reads m s) c.in_ok-place_at.ensures.0 (omega (arith, below)))
    c.in_ok-response_at-in_default.ensures
