use Rattle.std.proofs.Common.{sym}
use Rattle.bp_num.proofs.Payloads.{bytes_are}
use Rattle.bp_value.specs.Form.{form_of}
use Rattle.bp_grammar.specs.Spells.{Spells}
use Rattle.bp_grammar.proofs.Good.{good_read}
use Rattle.rpc_msg.specs.Bodies.{IsFirst, IsMsgFault}
use Rattle.rpc_msg.specs.Forms.{first_form}
use Rattle.rpc_msg.specs.Values.{unused_first}
use Rattle.rpc_msg.proofs.Bodies.{body_told}
use Rattle.rpc_msg.proofs.Parts.{body_err}
use Rattle.rpc_msg.proofs.Readable.{first_read}
use Rattle.rpc_msg.proofs.streams.read_first.Goals as goal

pub returns-in_err-first : goal.returns-in_err-first
returns-in_err-first c =
    let m = c.args.max_len in
    let f = form_of c.args.first.now in
    let e = form_of c.args.error.now in
    let told =
    body_told unused_first m (first_form f e) c.args.body.now c.first_at-read.new.rest.now c.first_at-read.result
    (first_read f e (good_read f c.requires.good_first) (good_read e c.requires.good_error)) (bytes_are c.args.body.now c.type_inv.body) c.first_at-read.ensures in
    body_err (λ p. Spells m (first_form f e) (unused_first p)) (IsFirst m f e) (IsMsgFault m (first_form f e)) c.args.body.now c.from_residual.result
    c.in_err-first.field-0.0 c.from_residual.ensures.1 (rw (sym c.in_err-first.ensures) at told)

pub returns : goal.returns
returns c =
    let m = c.args.max_len in
    let f = form_of c.args.first.now in
    let e = form_of c.args.error.now in
    let told =
    body_told unused_first m (first_form f e) c.args.body.now c.first_at-read.new.rest.now c.first_at-read.result
    (first_read f e (good_read f c.requires.good_first) (good_read e c.requires.good_error)) (bytes_are c.args.body.now c.type_inv.body) c.first_at-read.ensures in
    (_, rw (sym c.in_ok-first.ensures) at told)
