-- What a server has from its start on, and its menu.
use Rattle.std.specs.Prelude.{◌≡◌, ℕ, List, ◌++◌}
use Rattle.bp_num.specs.Forms.{written_int}
use Rattle.bp_value.specs.Form.{form_of}
use Rattle.bp_grammar.specs.Written.{written, written_bytes}
use Rattle.rpc_msg.specs.Limits.{AreLimits}
use Rattle.rpc_msg.specs.declared.shared.Limits.{Limits}
use Rattle.rpc_schema.specs.Choice.{menu_shape, menu_value, IsMenuOf}
use Rattle.rpc_schema.specs.Entries.{AreEntries}
use Rattle.rpc_schema.specs.declared.desc.Entry.{Entry}
use Rattle.rpc_schema.specs.declared.desc.Listing.{Listing}

-- its limits, the entries of its schema, and the data of the answer to who asks for the menu
pub record Rules : Type 0 where
  pub limits : Limits
  pub entries : List Entry
  pub menu : List ℕ

-- the data that tells one listing, and some
abbrev pub listing_data : Listing → List ℕ
listing_data l = written_bytes l.name ++ written_int l.version

abbrev pub menu_data : List Listing → List ℕ
menu_data listings = written (form_of menu_shape) (menu_value listings)

-- the data that tells the menu of some entries
abbrev pub IsMenuData : List Entry → List ℕ → Type 0
IsMenuData entries bytes = (listings : List Listing) × IsMenuOf entries listings × (bytes ≡ menu_data listings)

pub record AreRules (limits : Limits) (entries : List Entry) (menu : List ℕ) : Type 0 where
  pub ranges : AreLimits limits
  pub tells : IsMenuData entries menu
