-- The data, or none.
use Rattle.std.proofs.Common.{sym}
use Rattle.bp_num.proofs.Payloads.{bytes_are}
use Rattle.rpc_msg.proofs.Readable.{stream_query_read}
use Rattle.rpc_msg.specs.Forms.{stream_query_form}
use Rattle.rpc_msg.specs.Values.{stream_query_value}
use Rattle.rpc_server.proofs.Readings.{spelled_in, fault_none}
use Rattle.rpc_server.proofs.reading.stream_data.Goals as goal

pub returns-in-Ok : goal.returns-in-Ok
returns-in-Ok c =
    sym (spelled_in c.args.max stream_query_form (stream_query_value c.in-Ok.data) c.args.body.now stream_query_read c.in-Ok.ensures)

pub returns-in-Err-Fault : goal.returns-in-Err-Fault
returns-in-Err-Fault c =
    sym (fault_none c.args.max stream_query_form c.args.body.now _ stream_query_read (bytes_are c.args.body.now c.type_inv.body) (rw c.in-Err-Fault.field-0-is at c.in-Err-Fault.ensures))
