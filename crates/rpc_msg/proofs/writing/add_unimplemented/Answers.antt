use Rattle.std.proofs.Common.{◌++◌}
use Rattle.bp_num.specs.Forms.{little_endian, written_int}
use Rattle.bp_grammar.specs.Written.{written_bytes}
use Rattle.bp_codec.proofs.Ranges.{number_back}
use Rattle.rpc_msg.proofs.Adding.{adds_then}
use Rattle.rpc_msg.proofs.Bytes.{bytes_of_unimplemented}
use Rattle.rpc_msg.proofs.writing.add_unimplemented.Goals as goal

pub returns : goal.returns
returns c =
    let tag = c.args.tag.now in
    let version = written_int c.args.version in
    let word = little_endian 4 0x94861DF1 in
    rw (bytes_of_unimplemented tag c.args.version)
    (adds_then (written_bytes tag) (word ++ version) _ _ _ _ c.in_ok-add_bytes.ensures
    (adds_then word version _ _ _ _ c.in_ok-add_tag.ensures (rw (number_back c.args.version c.ranges.version) at c.add_int.ensures)))
