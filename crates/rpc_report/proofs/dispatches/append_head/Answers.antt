-- The label, the id, the name, the version, and the end of the line.
use Rattle.std.proofs.Common.{[], ◌∷◌, ◌++◌, codes, w64}
use Rattle.std.proofs.lemmas.Int.{to_z-of_z}
use Rattle.bp_text_grammar.specs.Printed.{decimal_text}
use Rattle.bp_text.proofs.Appending.{appends_then}
use Rattle.rpc_schema.specs.TextLines.{line_end}
use Rattle.rpc_report.proofs.dispatches.append_head.Goals as goal

pub returns : goal.returns
returns c =
    let name = c.args.name.now in
    let end = line_end ∷ [] in
    let version = codes " " ++ decimal_text c.args.version in
    let id = codes " id " ++ decimal_text c.args.id in
    appends_then c.args.label.now (id ++ (codes " " ++ (name ++ (version ++ end)))) _ _ _ _ c.in_ok-append_word.ensures
    (appends_then id (codes " " ++ (name ++ (version ++ end))) _ _ _ _ (rw (to_z-of_z w64 c.args.id c.ranges.id) at c.in_ok-append_id.ensures)
    (appends_then (codes " ") (name ++ (version ++ end)) _ _ _ _ c.in_ok-append_word-2.ensures
    (appends_then name (version ++ end) _ _ _ _ c.in_ok-append_word-3.ensures
    (appends_then version end _ _ _ _ (rw (to_z-of_z w64 c.args.version c.ranges.version) at c.in_ok-append_id-2.ensures) c.append_word-4.ensures))))
