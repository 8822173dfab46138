-- The value, or none.
use Rattle.std.proofs.Common.{sym}
use Rattle.bp_num.proofs.Payloads.{bytes_are}
use Rattle.bp_value.specs.Form.{form_of}
use Rattle.bp_grammar.proofs.Good.{good_read}
use Rattle.rpc_server.proofs.Readings.{spelled_in, fault_none}
use Rattle.rpc_server.proofs.reading.value_in.Goals as goal

pub returns-in-Ok : goal.returns-in-Ok
returns-in-Ok c =
    let f = form_of c.args.shape.now in
    sym (spelled_in c.args.max f c.in-Ok.value c.args.body.now (good_read f c.requires.good) c.in-Ok.ensures)

pub returns-in-Err-Fault : goal.returns-in-Err-Fault
returns-in-Err-Fault c =
    let f = form_of c.args.shape.now in
    sym (fault_none c.args.max f c.args.body.now _ (good_read f c.requires.good) (bytes_are c.args.body.now c.type_inv.body) (rw c.in-Err-Fault.field-0-is at c.in-Err-Fault.ensures))
