-- A new server stands for the first talk.
use Rattle.std.proofs.Common.{ap, ◌∙◌, ℕ, List}
use Rattle.rpc_msg.specs.declared.shared.Limits.{Limits}
use Rattle.rpc_schema.specs.declared.desc.Entry.{Entry}
use Rattle.rpc_meeting.specs.Talks.{Common, first_talk}
use Rattle.rpc_server.specs.Rules.{Rules, menu_data}
use Rattle.rpc_server.specs.Servers.{ServerState, IsNew}
use Rattle.rpc_server.specs.Tables.{standing, unfinished}
use Rattle.rpc_pair.specs.Rules.{IsOfSchema}
use Rattle.rpc_pair.specs.Stands.{ServerStands}
use Rattle.rpc_pair.proofs.MenuSame.{menu_same}

abbrev rules_made : Limits → List Entry → List ℕ → Rules
rules_made limits entries menu = record { limits = limits; entries = entries; menu = menu }

-- A new server of a schema stands for the talk in which nothing was said.
pub new_stands : (r : Common) (now : ℕ) (s : ServerState) → IsOfSchema r → IsNew r.entries r.limits now s → ServerStands r s first_talk
new_stands r now s is new = record {
  rules =
      let (listings, menu, bytes) = new.menu_is in
      ap (λ x. rules_made x s.rules.entries s.rules.menu) new.limits_are
      ∙ (ap (λ x. rules_made r.limits x s.rules.menu) new.entries_are
      ∙ ap (rules_made r.limits r.entries) (bytes ∙ ap menu_data (menu_same r.entries listings r.menu menu is.menu)));
  table = λ id. ap (λ table. standing table id) new.table_is;
  count = ap unfinished new.table_is;
}
