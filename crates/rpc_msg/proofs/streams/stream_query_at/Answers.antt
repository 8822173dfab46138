use Rattle.std.proofs.Common.{[], ◌∷◌, arith}
use Rattle.bp_num.specs.declared.number.Why.TheVariants.{Tag}
use Rattle.readers.specs.Keys.{key_at}
use Rattle.bp_codec.specs.Plan.{keys_in}
use Rattle.bp_grammar.specs.Reading.{sized_at, read}
use Rattle.rpc_msg.specs.Forms.{stream_query_form}
use Rattle.rpc_msg.specs.Values.{stream_query_value}
use Rattle.rpc_msg.proofs.Directs.{stream_query_reads, stream_query_case}
use Rattle.rpc_msg.proofs.Halting.{gives, at_case, key_below, head_stops, last_head_stops}
use Rattle.rpc_msg.proofs.streams.stream_query_at.Goals as goal

pub returns-in_err-tag_at : goal.returns-in_err-tag_at
returns-in_err-tag_at c =
    let m = c.args.max_len in
    let s = c.args.rest.now.now in
    head_stops stream_query_value (read m stream_query_form) s (key_at Tag 4 (keys_in 0 (0xE22FF5D1 ∷ 0x5C4E7721 ∷ []))) s c.tag_at.new.rest.now c.from_residual.result
    c.in_err-tag_at.field-0.0 _ (stream_query_reads m s) c.from_residual.ensures.1 c.in_err-tag_at.ensures

pub returns-in_err-text_at-in-0 : goal.returns-in_err-text_at-in-0
returns-in_err-text_at-in-0 c =
    let m = c.args.max_len in
    let s = c.args.rest.now.now in
    let query = at_case (stream_query_case m) _ 0 (stream_query_reads m s) c.in_ok-tag_at.ensures.0 c.in-0.is in
    last_head_stops stream_query_value (read m stream_query_form) s (sized_at m) c.tag_at.new.rest.now c.text_at.new.rest.now
    c.from_residual-in_err-text_at-in-0.result c.in_err-text_at-in-0.field-0.0 _ query c.from_residual-in_err-text_at-in-0.ensures.1 c.in_err-text_at-in-0.ensures

pub returns-in_ok-text_at-in-0 : goal.returns-in_ok-text_at-in-0
returns-in_ok-text_at-in-0 c =
    let m = c.args.max_len in
    gives _ _ (at_case (stream_query_case m) _ 0 (stream_query_reads m c.args.rest.now.now) c.in_ok-tag_at.ensures.0 c.in-0.is) c.in_ok-text_at-in-0.ensures.0

pub returns-in_default : goal.returns-in_default
returns-in_default c =
    let m = c.args.max_len in
    let s = c.args.rest.now.now in
    let below = key_below 2 4 Tag (keys_in 0 (0xE22FF5D1 ∷ 0x5C4E7721 ∷ [])) s _ c.in_ok-tag_at.field-0 (omega arith, (omega arith, tt)) c.in_ok-tag_at.ensures.0 in
    at_case (stream_query_case m) _ 1 (stream_query_reads m s) c.in_ok-tag_at.ensures.0 (omega (arith, below))
