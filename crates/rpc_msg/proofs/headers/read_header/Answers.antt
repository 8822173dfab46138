use Rattle.bp_num.proofs.Payloads.{bytes_are}
use Rattle.rpc_msg.specs.Forms.{header_form}
use Rattle.rpc_msg.specs.Values.{header_value}
use Rattle.rpc_msg.proofs.Bodies.{body_told}
use Rattle.rpc_msg.proofs.Readable.{header_read}
use Rattle.rpc_msg.proofs.headers.read_header.Goals as goal

pub returns : goal.returns
returns c =
    rw c.ended.ensures
    (body_told header_value c.args.max_len header_form c.args.body.now c.header_at-read.new.rest.now c.header_at-read.result
    header_read (bytes_are c.args.body.now c.type_inv.body) c.header_at-read.ensures)
