use Rattle.std.proofs.Common.{◌≡◌, take}
use Rattle.rpc_meeting.specs.Menus.{called_versions}
use Rattle.rpc_pair.proofs.finding.called_versions.Given as goal

abbrev pub invariant-entries : goal.invariant-entries
invariant-entries l = l.versions.items ≡ called_versions (take l.entry-index l.entries) l.name
