-- An id is a number of 64 bits.
use Rattle.std.proofs.Common.{w64, rules}
use Rattle.std.proofs.lemmas.Int.{to_z-of_z}
use mir.Val.{SFits}
use Rattle.rpc_report.proofs.causes.append_cause.Goals as goal

pub returns-in-DuplicateQuery : goal.returns-in-DuplicateQuery
returns-in-DuplicateQuery c =
    let id = c.in-DuplicateQuery.id in
    let fits : SFits w64 id = search rules in
    rw c.in-DuplicateQuery.is (rw (to_z-of_z w64 id fits) at c.append_id-in-DuplicateQuery.ensures)
