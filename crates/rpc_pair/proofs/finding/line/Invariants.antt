use Rattle.std.proofs.Common.{◌≡◌, drop}
use Rattle.std.specs.List.{find}
use Rattle.rpc_meeting.specs.Talks.{is_entry}
use Rattle.rpc_pair.proofs.finding.line.Given as goal

abbrev pub invariant-entries : goal.invariant-entries
invariant-entries l = find (is_entry l.name l.version) l.entries ≡ find (is_entry l.name l.version) (drop l.entry-index l.entries)
