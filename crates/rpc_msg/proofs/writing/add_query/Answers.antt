-- Part by part; the numbers have 64 bits.
use Rattle.std.proofs.Common.{◌++◌, w64, rules}
use mir.Val.{SFits}
use Rattle.bp_num.specs.Forms.{written_int}
use Rattle.bp_grammar.specs.Written.{written_bytes}
use Rattle.bp_codec.proofs.Ranges.{number_back}
use Rattle.rpc_msg.proofs.Adding.{adds_then}
use Rattle.rpc_msg.proofs.Bytes.{bytes_of_query}
use Rattle.rpc_msg.proofs.writing.add_query.Goals as goal

pub returns : goal.returns
returns c =
    let query = c.args.query.now in
    let version_fits : SFits w64 query.version = search rules in
    let id_fits : SFits w64 query.id = search rules in
    let version = written_int query.version in
    let id = written_int query.id in
    let body = written_bytes query.body in
    rw (bytes_of_query query)
    (adds_then (written_bytes query.tag) (version ++ (id ++ body)) _ _ _ _ (rw c.as_slice.ensures at c.in_ok-add_bytes.ensures)
    (adds_then version (id ++ body) _ _ _ _ (rw (number_back query.version version_fits) at c.in_ok-add_int.ensures)
    (adds_then id body _ _ _ _ (rw (number_back query.id id_fits) at c.in_ok-add_int-2.ensures)
    (rw c.as_slice-2.ensures at c.add_bytes-2.ensures))))
