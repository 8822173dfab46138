use Rattle.std.proofs.Common.{sym}
use Rattle.bp_num.proofs.Payloads.{bytes_are}
use Rattle.rpc_client.proofs.AnswersRead.{plain_reply, plain_fault}
use Rattle.rpc_client.proofs.reading.plain.Goals as goal

pub returns-in-Ok : goal.returns-in-Ok
returns-in-Ok c = sym (plain_reply _ _ _ _ c.requires.good c.in-Ok.ensures)

pub returns-in-Err-Fault : goal.returns-in-Err-Fault
returns-in-Err-Fault c =
    sym (plain_fault _ _ _ _ c.requires.good (bytes_are c.args.body.now c.type_inv.body) (rw c.in-Err-Fault.field-0-is at c.in-Err-Fault.ensures))
