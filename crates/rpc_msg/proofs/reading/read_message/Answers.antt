use Rattle.rpc_msg.specs.Forms.{message_form}
use Rattle.rpc_msg.specs.Values.{message_value}
use Rattle.rpc_msg.proofs.Bodies.{body_told}
use Rattle.rpc_msg.proofs.Readable.{message_read}
use Rattle.bp_num.proofs.Payloads.{bytes_are}
use Rattle.rpc_msg.proofs.reading.read_message.Goals as goal

pub returns : goal.returns
returns c = rw c.ended.ensures (body_told message_value c.args.max_len message_form c.args.body.now c.message_at-read.new.rest.now c.message_at-read.result message_read (bytes_are c.args.body.now c.type_inv.body) c.message_at-read.ensures)
