-- The place, and then the reason.
use Rattle.std.proofs.Common.{◌++◌, codes}
use Rattle.std.specs.Fmt.{decimal}
use Rattle.bp_text.proofs.Appending.{appends_then}
use Rattle.rpc_report.specs.Texts.{why_word}
use Rattle.rpc_report.proofs.faults.append_fault.Goals as goal

pub returns-in_ok-append_word-in-Bad : goal.returns-in_ok-append_word-in-Bad
returns-in_ok-append_word-in-Bad c =
    let word = why_word c.in-Bad.why in
    rw c.in-Bad.is
    (appends_then (codes "refused at " ++ decimal c.in-Bad.at) (codes ": " ++ word) _ _ _ _ c.in_ok-append_count-in-Bad.ensures
    (appends_then (codes ": ") word _ _ _ _ c.in_ok-append_word-in-Bad.ensures (rw c.word_of.ensures at c.append_word-in-Bad.ensures)))
