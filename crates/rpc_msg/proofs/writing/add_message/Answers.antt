-- The case, and what it tells.
use Rattle.std.proofs.Common.{[], ◌∷◌}
use Rattle.bp_grammar.specs.Written.{written}
use Rattle.rpc_msg.specs.Forms.{query_form, response_form}
use Rattle.rpc_msg.specs.Values.{query_value, response_value}
use Rattle.rpc_msg.proofs.Adding.{adds_then}
use Rattle.rpc_msg.proofs.Bytes.{bytes_heartbeat, bytes_query, bytes_response}
use Rattle.rpc_msg.proofs.writing.add_message.Goals as goal

pub returns-in-Heartbeat : goal.returns-in-Heartbeat
returns-in-Heartbeat c = rw (c.in-Heartbeat.is, bytes_heartbeat) c.add_byte.ensures

pub returns-in_ok-add_byte-in-Query : goal.returns-in_ok-add_byte-in-Query
returns-in_ok-add_byte-in-Query c =
    let query = c.in-Query.query in
    rw (c.in-Query.is, bytes_query query)
    (adds_then (1 ∷ []) (written query_form (query_value query)) _ _ _ _ c.in_ok-add_byte-in-Query.ensures c.add_query.ensures)

pub returns-in_ok-add_byte-in-Response : goal.returns-in_ok-add_byte-in-Response
returns-in_ok-add_byte-in-Response c =
    let response = c.in-Response.response in
    rw (c.in-Response.is, bytes_response response)
    (adds_then (2 ∷ []) (written response_form (response_value response)) _ _ _ _ c.in_ok-add_byte-in-Response.ensures c.add_response.ensures)
