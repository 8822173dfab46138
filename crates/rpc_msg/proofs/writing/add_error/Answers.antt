-- The case, and what it tells.
use Rattle.std.proofs.Common.{[], ◌∷◌, w64, rules}
use mir.Val.{SFits}
use Rattle.bp_num.specs.Forms.{written_int}
use Rattle.bp_grammar.specs.Written.{written_parts}
use Rattle.bp_codec.proofs.Ranges.{number_back}
use Rattle.rpc_msg.specs.Forms.{unimplemented_parts}
use Rattle.rpc_msg.specs.Values.{unimplemented_values}
use Rattle.rpc_msg.proofs.Adding.{adds_then}
use Rattle.rpc_msg.proofs.Bytes.{bytes_bin_io, bytes_closed, bytes_write_error, bytes_uncaught, bytes_unimplemented, bytes_unknown}
use Rattle.rpc_msg.proofs.writing.add_error.Goals as goal

pub returns-in-BinIo : goal.returns-in-BinIo
returns-in-BinIo c = rw (c.in-BinIo.is, bytes_bin_io c.in-BinIo.sexp) c.add_told.ensures

pub returns-in-ConnectionClosed : goal.returns-in-ConnectionClosed
returns-in-ConnectionClosed c = rw (c.in-ConnectionClosed.is, bytes_closed) c.add_byte.ensures

pub returns-in-WriteError : goal.returns-in-WriteError
returns-in-WriteError c = rw (c.in-WriteError.is, bytes_write_error c.in-WriteError.sexp) c.add_told-in-WriteError.ensures

pub returns-in-Uncaught : goal.returns-in-Uncaught
returns-in-Uncaught c = rw (c.in-Uncaught.is, bytes_uncaught c.in-Uncaught.sexp) c.add_told-in-Uncaught.ensures

pub returns-in_ok-add_byte-in-Unimplemented : goal.returns-in_ok-add_byte-in-Unimplemented
returns-in_ok-add_byte-in-Unimplemented c =
    let tag = c.in-Unimplemented.tag in
    let version = c.in-Unimplemented.version in
    let fits : SFits w64 version = search rules in
    rw (c.in-Unimplemented.is, bytes_unimplemented tag version)
    (adds_then (4 ∷ []) (written_parts unimplemented_parts (unimplemented_values (tag, version))) _ _ _ _ c.in_ok-add_byte-in-Unimplemented.ensures
    (rw (c.as_slice.ensures, number_back version fits) at c.add_unimplemented.ensures))

pub returns-in_ok-add_byte-in-UnknownId : goal.returns-in_ok-add_byte-in-UnknownId
returns-in_ok-add_byte-in-UnknownId c =
    let id = c.in-UnknownId.id in
    let fits : SFits w64 id = search rules in
    rw (c.in-UnknownId.is, bytes_unknown id)
    (adds_then (5 ∷ []) (written_int id) _ _ _ _ c.in_ok-add_byte-in-UnknownId.ensures (rw (number_back id fits) at c.add_int.ensures))
