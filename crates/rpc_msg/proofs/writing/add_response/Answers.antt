use Rattle.std.proofs.Common.{w64, rules}
use mir.Val.{SFits}
use Rattle.bp_num.specs.Forms.{written_int}
use Rattle.bp_grammar.specs.Written.{written}
use Rattle.bp_codec.proofs.Ranges.{number_back}
use Rattle.rpc_msg.specs.Forms.{answer_form}
use Rattle.rpc_msg.specs.Values.{answer_value}
use Rattle.rpc_msg.proofs.Adding.{adds_then}
use Rattle.rpc_msg.proofs.Bytes.{bytes_of_response}
use Rattle.rpc_msg.proofs.writing.add_response.Goals as goal

pub returns : goal.returns
returns c =
    let response = c.args.response.now in
    let fits : SFits w64 response.id = search rules in
    rw (bytes_of_response response)
    (adds_then (written_int response.id) (written answer_form (answer_value response.result)) _ _ _ _
    (rw (number_back response.id fits) at c.in_ok-add_int.ensures) c.add_answer.ensures)
