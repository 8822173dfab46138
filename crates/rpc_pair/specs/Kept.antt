-- What every pair keeps, and the last menu that its client received.
use Rattle.std.specs.Prelude.{◌≡◌, ℕ, true, false, List, length, Option, Some, None}
use Rattle.std.proofs.Common.{refl, ◌∙◌}
use Rattle.readers.specs.Reader.{Each}
use Rattle.rpc_msg.specs.Limits.{AreLimits}
use Rattle.rpc_msg.specs.declared.shared.Limits.{Limits}
use Rattle.rpc_schema.specs.Choice.{menu_description, menu_value}
use Rattle.rpc_schema.specs.declared.desc.Menu.{Menu}
use Rattle.rpc_schema.specs.declared.desc.RpcDesc.{RpcDesc}
use Rattle.rpc_talk.specs.Acts.{is_menu}
use Rattle.rpc_client.specs.Rows.{IsCallable}
use Rattle.rpc_server.specs.Servers.{ServerState}
use Rattle.rpc_book.specs.Books.{BookState, Booked}
use Rattle.rpc_pair.specs.Standing.{booked_menu}

-- the most bytes of a piece
abbrev pub most_piece : ℕ
most_piece = 65536

-- a procedure that can be called, and is that of the menu where it has its name and version
pub record IsOwn (d : RpcDesc) : Type 0 where
  pub callable : IsCallable d
  pub menu : is_menu d.name d.version ≡ true → d ≡ menu_description

-- a dispatch is of such a procedure, and nothing of it was taken
pub record IsKept (d : Booked) : Type 0 where
  pub own : IsOwn d.made.desc
  pub whole : d.made.taken ≡ 0
  pub fresh : d.handed ≡ false

-- the limits stand, and dispatches go on to be kept so
pub record BookKeeps (old new : BookState) : Type 0 where
  pub limits : new.limits ≡ old.limits
  pub kept : Each IsKept old.made → Each IsKept new.made

pub keeps_same : (b : BookState) → BookKeeps b b
keeps_same b = record { limits = refl; kept = λ all. all }

pub keeps_along : (a b c : BookState) → BookKeeps a b → BookKeeps b c → BookKeeps a c
keeps_along a b c one two = record { limits = two.limits ∙ one.limits; kept = λ all. two.kept (one.kept all) }

-- both ends have the same limits, and the buffer holds a piece
pub record IsPair (b : BookState) (s : ServerState) (limits : Limits) (buffer : List ℕ) : Type 0 where
  pub ranges : AreLimits limits
  pub client_limits : b.limits ≡ limits
  pub server_limits : s.rules.limits ≡ limits
  pub room : length buffer ≡ most_piece
  pub kept : Each IsKept b.made

-- the menu that was last received, if one was
abbrev pub IsMenuLast : BookState → Option Menu → Type 0
IsMenuLast b None = booked_menu b ≡ None
IsMenuLast b (Some menu) = booked_menu b ≡ Some (menu_value menu.entries)
