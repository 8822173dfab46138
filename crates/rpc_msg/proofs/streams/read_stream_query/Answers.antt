use Rattle.bp_num.proofs.Payloads.{bytes_are}
use Rattle.rpc_msg.specs.Forms.{stream_query_form}
use Rattle.rpc_msg.specs.Values.{stream_query_value}
use Rattle.rpc_msg.proofs.Bodies.{body_told}
use Rattle.rpc_msg.proofs.Readable.{stream_query_read}
use Rattle.rpc_msg.proofs.streams.read_stream_query.Goals as goal

pub returns : goal.returns
returns c =
    rw c.ended.ensures
    (body_told stream_query_value c.args.max_len stream_query_form c.args.body.now c.stream_query_at-read.new.rest.now c.stream_query_at-read.result
    stream_query_read (bytes_are c.args.body.now c.type_inv.body) c.stream_query_at-read.ensures)
