use Rattle.bp_num.specs.NumberAt.{int_at}
use Rattle.bp_num.specs.declared.number.IntKind.TheVariants.{Int63}
use Rattle.bp_codec.proofs.Ranges.{number_back}
use Rattle.bp_grammar.specs.Reading.{sized_at, read}
use Rattle.rpc_msg.specs.Forms.{query_form}
use Rattle.rpc_msg.specs.Values.{query_value}
use Rattle.rpc_msg.proofs.Directs.{query_reads}
use Rattle.rpc_msg.proofs.Halting.{goes, gives, head_stops, last_head_stops}
use Rattle.rpc_msg.proofs.reading.query_at.Goals as goal

pub returns-in_err-tag : goal.returns-in_err-tag
returns-in_err-tag c =
    let m = c.args.max_len in
    let s = c.args.rest.now.now in
    head_stops query_value (read m query_form) s (sized_at m) s c.text_at.new.rest.now c.from_residual.result c.in_err-tag.field-0.0
    _ (query_reads m s) c.from_residual.ensures.1 c.in_err-tag.ensures

pub returns-in_err-version : goal.returns-in_err-version
returns-in_err-version c =
    let m = c.args.max_len in
    let s = c.args.rest.now.now in
    let tag = goes _ _ (query_reads m s) c.in_ok-tag.ensures.0 in
    head_stops query_value (read m query_form) s (int_at Int63) c.text_at.new.rest.now c.number_at.new.rest.now c.from_residual-in_err-version.result c.in_err-version.field-0.0
    _ tag c.from_residual-in_err-version.ensures.1 c.in_err-version.ensures.gives

pub returns-in_err-id : goal.returns-in_err-id
returns-in_err-id c =
    let m = c.args.max_len in
    let s = c.args.rest.now.now in
    let version = goes _ _ (goes _ _ (query_reads m s) c.in_ok-tag.ensures.0) c.in_ok-version.ensures.gives.0 in
    head_stops query_value (read m query_form) s (int_at Int63) c.number_at.new.rest.now c.number_at-2.new.rest.now c.from_residual-in_err-id.result c.in_err-id.field-0.0
    _ version c.from_residual-in_err-id.ensures.1 c.in_err-id.ensures.gives

pub returns-in_err-body : goal.returns-in_err-body
returns-in_err-body c =
    let m = c.args.max_len in
    let s = c.args.rest.now.now in
    let version = goes _ _ (goes _ _ (query_reads m s) c.in_ok-tag.ensures.0) c.in_ok-version.ensures.gives.0 in
    let id = goes _ _ version c.in_ok-id.ensures.gives.0 in
    last_head_stops query_value (read m query_form) s (sized_at m) c.number_at-2.new.rest.now c.text_at-2.new.rest.now c.from_residual-in_err-body.result c.in_err-body.field-0.0
    _ id c.from_residual-in_err-body.ensures.1 c.in_err-body.ensures

pub returns : goal.returns
returns c =
    let m = c.args.max_len in
    let s = c.args.rest.now.now in
    let version = goes _ _ (goes _ _ (query_reads m s) c.in_ok-tag.ensures.0) c.in_ok-version.ensures.gives.0 in
    let id = goes _ _ version c.in_ok-id.ensures.gives.0 in
    rw (number_back c.in_ok-version.version c.in_ok-version.ensures.fits, number_back c.in_ok-id.id c.in_ok-id.ensures.fits)
    (gives _ _ id c.in_ok-body.ensures.0)
