-- The word, the name, and then the version.
use Rattle.std.proofs.Common.{◌++◌, codes, w64}
use Rattle.std.proofs.lemmas.Int.{to_z-of_z}
use Rattle.bp_text_grammar.specs.Printed.{decimal_text, quoted_text}
use Rattle.bp_text.proofs.Appending.{appends_then}
use Rattle.rpc_report.proofs.errors.append_unimplemented.Goals as goal

pub returns : goal.returns
returns c =
    let tag = quoted_text c.args.tag.now in
    let version = codes " " ++ decimal_text c.args.version in
    appends_then (codes "unimplemented ") (tag ++ version) _ _ _ _ c.in_ok-append_word.ensures
    (appends_then tag version _ _ _ _ c.in_ok-put_quoted.ensures.ok
    (rw (to_z-of_z w64 c.args.version c.ranges.version) at c.append_id.ensures))
