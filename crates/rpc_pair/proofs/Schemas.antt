-- What the rules of a schema give: the limits that reading and writing ask for, and what the talk rests on.
use Rattle.std.proofs.Common.{◌<◌, ◌≤◌, ◌^◌, arith}
use Rattle.rpc_meeting.specs.Talks.{Common}
use Rattle.rpc_meeting.proofs.ActsRead.{ok_rules}
use Rattle.rpc_meeting.proofs.Lines.{most}
use Rattle.rpc_meeting.proofs.MenuReads.{menu_versions}
use Rattle.rpc_meeting.proofs.Owners.{IsOk}
use Rattle.rpc_pair.specs.Rules.{IsOfSchema}

module _ (r : Common) (is : IsOfSchema r) where
  -- lengths fit 64 bits
  pub small : most r < 2 ^ 64
  small = omega (arith, is.limits.message.1)

  -- a message may have 1024 bytes
  pub room : 1024 ≤ most r
  room = is.limits.message.0

  -- the talk can rest on these rules
  pub schema_ok : IsOk r
  schema_ok = ok_rules r is.entries is.limits.message.1 (menu_versions r.entries r.menu is.entries is.menu)
