use Rattle.bp_num.specs.NumberAt.{int_at}
use Rattle.bp_num.specs.declared.number.IntKind.TheVariants.{Int63}
use Rattle.bp_codec.proofs.Ranges.{number_back}
use Rattle.bp_grammar.specs.Reading.{read}
use Rattle.rpc_msg.specs.Forms.{response_form}
use Rattle.rpc_msg.specs.Values.{response_value}
use Rattle.rpc_msg.proofs.Directs.{response_reads}
use Rattle.rpc_msg.proofs.Halting.{goes, gives, head_stops, last_part_stops}
use Rattle.rpc_msg.proofs.reading.response_at.Goals as goal

pub returns-in_err-id : goal.returns-in_err-id
returns-in_err-id c =
    let m = c.args.max_len in
    let s = c.args.rest.now.now in
    head_stops response_value (read m response_form) s (int_at Int63) s c.number_at.new.rest.now c.from_residual.result c.in_err-id.field-0.0
    _ (response_reads m s) c.from_residual.ensures.1 c.in_err-id.ensures.gives

pub returns-in_err-result : goal.returns-in_err-result
returns-in_err-result c =
    let m = c.args.max_len in
    let s = c.args.rest.now.now in
    let id = goes _ _ (response_reads m s) c.in_ok-id.ensures.gives.0 in
    last_part_stops response_value (read m response_form) s _ c.answer_at.new.rest.now c.from_residual-in_err-result.result c.in_err-result.field-0.0
    _ id c.from_residual-in_err-result.ensures.1 c.in_err-result.ensures

pub returns : goal.returns
returns c =
    let m = c.args.max_len in
    let s = c.args.rest.now.now in
    let id = goes _ _ (response_reads m s) c.in_ok-id.ensures.gives.0 in
    rw (number_back c.in_ok-id.id c.in_ok-id.ensures.fits) (gives _ _ id c.in_ok-result.ensures)
