use Rattle.std.proofs.Common.{sym}
use Rattle.bp_num.proofs.Payloads.{bytes_are}
use Rattle.bp_value.specs.Form.{form_of}
use Rattle.rpc_client.proofs.AnswersRead.{item_says, eof_says, part_fault}
use Rattle.rpc_client.proofs.reading.later.Goals as goal

pub returns-in-Ok-Item : goal.returns-in-Ok-Item
returns-in-Ok-Item c =
    let (text, spelled, inner) = rw c.in-Ok-Item.field-0-is at c.in-Ok-Item.ensures in
    sym (item_says c.args.max (form_of c.args.item.now) c.args.body.now text c.in-Ok-Item.value c.requires.good spelled inner)

pub returns-in-Ok-Eof : goal.returns-in-Ok-Eof
returns-in-Ok-Eof c = sym (eof_says c.args.max (form_of c.args.item.now) c.args.body.now (rw c.in-Ok-Eof.field-0-is at c.in-Ok-Eof.ensures))

pub returns-in-Err-Fault : goal.returns-in-Err-Fault
returns-in-Err-Fault c =
    sym (part_fault c.args.max (form_of c.args.item.now) c.args.body.now c.in-Err-Fault.fault c.requires.good (bytes_are c.args.body.now c.type_inv.body)
    (rw c.in-Err-Fault.field-0-is at c.in-Err-Fault.ensures))
