-- The rules of a schema and its limits, which both ends and the world have in common.
use Rattle.rpc_msg.specs.Limits.{AreLimits}
use Rattle.rpc_schema.specs.Choice.{IsMenuOf}
use Rattle.rpc_schema.specs.Entries.{AreEntries}
use Rattle.rpc_meeting.specs.Talks.{Common}
use Rattle.rpc_server.specs.Rules.{Rules, menu_data}

-- the lines are those of a schema, the limits in their ranges, and the menu is that of the lines
pub record IsOfSchema (r : Common) : Type 0 where
  pub entries : AreEntries r.entries
  pub limits : AreLimits r.limits
  pub menu : IsMenuOf r.entries r.menu

-- what a server has of them
abbrev pub rules_of : Common → Rules
rules_of r = record { limits = r.limits; entries = r.entries; menu = menu_data r.menu }
