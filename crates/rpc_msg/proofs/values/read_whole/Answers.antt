use Rattle.bp_num.proofs.Payloads.{bytes_are}
use Rattle.bp_value.specs.Form.{form_of}
use Rattle.bp_grammar.proofs.Good.{good_read}
use Rattle.rpc_msg.proofs.Bodies.{body_told}
use Rattle.rpc_msg.proofs.values.read_whole.Goals as goal

pub returns : goal.returns
returns c =
    let f = form_of c.args.shape.now in
    rw c.ended.ensures
    (body_told (λ v. v) c.args.max_len f c.args.body.now c.value_at-read.new.rest.now c.value_at-read.result
    (good_read f c.requires.good) (bytes_are c.args.body.now c.type_inv.body) c.value_at-read.ensures)
