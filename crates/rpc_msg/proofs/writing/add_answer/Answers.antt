-- The case, and what it tells.
use Rattle.std.proofs.Common.{[], ◌∷◌}
use Rattle.bp_grammar.specs.Written.{written, written_bytes}
use Rattle.rpc_msg.specs.Forms.{error_form}
use Rattle.rpc_msg.specs.Values.{error_value}
use Rattle.rpc_msg.proofs.Adding.{adds_then}
use Rattle.rpc_msg.proofs.Bytes.{bytes_ok, bytes_error}
use Rattle.rpc_msg.proofs.writing.add_answer.Goals as goal

pub returns-in_ok-add_byte-in-Ok : goal.returns-in_ok-add_byte-in-Ok
returns-in_ok-add_byte-in-Ok c =
    let body = c.in-Ok.body in
    rw (c.in-Ok.is, bytes_ok body)
    (adds_then (0 ∷ []) (written_bytes body) _ _ _ _ c.in_ok-add_byte-in-Ok.ensures (rw c.as_slice.ensures at c.add_bytes.ensures))

pub returns-in_ok-add_byte-in-Error : goal.returns-in_ok-add_byte-in-Error
returns-in_ok-add_byte-in-Error c =
    let error = c.in-Error.error in
    rw (c.in-Error.is, bytes_error error)
    (adds_then (1 ∷ []) (written error_form (error_value error)) _ _ _ _ c.in_ok-add_byte-in-Error.ensures c.add_error.ensures)
