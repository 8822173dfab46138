use Rattle.std.proofs.Common.{sym}
use Rattle.bp_num.proofs.Payloads.{bytes_are}
use Rattle.bp_value.specs.Form.{form_of}
use Rattle.rpc_msg.specs.declared.data.First.TheVariants as first
use Rattle.rpc_client.proofs.AnswersRead.{first_says, first_fault}
use Rattle.rpc_client.proofs.reading.beginning.Goals as goal

pub returns-in-Ok-Begun : goal.returns-in-Ok-Begun
returns-in-Ok-Begun c =
    sym (first_says c.args.max (form_of c.args.first.now) (form_of c.args.error.now) c.args.body.now (first.Begun c.in-Ok-Begun.value) c.requires.good_first c.requires.good_error
    (rw c.in-Ok-Begun.field-0-is at c.in-Ok-Begun.ensures))

pub returns-in-Ok-Declined : goal.returns-in-Ok-Declined
returns-in-Ok-Declined c =
    sym (first_says c.args.max (form_of c.args.first.now) (form_of c.args.error.now) c.args.body.now (first.Declined c.in-Ok-Declined.value) c.requires.good_first c.requires.good_error
    (rw c.in-Ok-Declined.field-0-is at c.in-Ok-Declined.ensures))

pub returns-in-Err-Fault : goal.returns-in-Err-Fault
returns-in-Err-Fault c =
    sym (first_fault c.args.max (form_of c.args.first.now) (form_of c.args.error.now) c.args.body.now c.in-Err-Fault.fault c.requires.good_first c.requires.good_error
    (bytes_are c.args.body.now c.type_inv.body) (rw c.in-Err-Fault.field-0-is at c.in-Err-Fault.ensures))
