-- What is seen of both ends stands for a world: of the end that calls a client with its history, and of the end that answers a server.
use Rattle.std.specs.Prelude.{◌≡◌, ℕ, false, List, ◌++◌, length, map, fold, Option, Some, None, option_copied, if◌then◌else◌}
use Rattle.bp_value.specs.declared.value.Value.{Value}
use Rattle.readers.specs.Reader.{Each, IsByte}
use Rattle.rpc_msg.specs.declared.shared.Received.{Received}
use Rattle.rpc_talk.specs.Acts.{is_menu}
use Rattle.rpc_talk.specs.Parts.{Held}
use Rattle.rpc_end.specs.Taken.{HasTaken}
use Rattle.rpc_meeting.specs.Menus.{reply_or}
use Rattle.rpc_meeting.specs.Talks.{Common, Dispatch, Talk}
use Rattle.rpc_meeting.specs.Worlds.{World, arrived, come, stream_of}
use Rattle.rpc_book.specs.Books.{BookState, Booked, HaveDistinctIds, held_in}
use Rattle.rpc_server.specs.Servers.{ServerState}
use Rattle.rpc_pair.specs.Links.{LinkStands}
use Rattle.rpc_pair.specs.Stands.{ServerStands}

-- ---- a book and a talk

-- a dispatch of the world, as a book has it of which nothing was taken
abbrev pub booked_of : Dispatch → Booked
booked_of d = record { made = record { label = d.label; id = d.id; desc = d.desc; cut = d.cut; taken = 0 }; handed = false }

-- its limits are those of the world, and its dispatches those that were made, each with an id of its own
pub record BookStands (r : Common) (b : BookState) (t : Talk) : Type 0 where
  pub limits : b.limits ≡ r.limits
  pub made : b.made ≡ map booked_of t.made
  pub ids : HaveDistinctIds b.made

-- ---- both ends and a world

-- each end stands for its part of the world, and took a front of what the other one wrote: the server the bytes `up`, and the book those it keeps
pub record EndsStand (r : Common) (w : World) (b : BookState) (s : ServerState) (up : List ℕ) : Type 0 where
  pub book : BookStands r b w.talk
  pub server : ServerStands r s w.talk
  pub book_link : LinkStands r w.got w.client w.now b.link
  pub server_link : LinkStands r w.up w.server w.now s.link
  pub up_count : length up ≡ w.up
  pub up_bytes : Each IsByte up
  pub up_tail : List ℕ
  pub up_front : up ++ up_tail ≡ stream_of w.talk.ups
  pub up_bodies : List (List ℕ)
  pub up_took : HasTaken s.link up up_bodies (arrived w)
  pub got_count : length b.got ≡ w.got
  pub got_bytes : Each IsByte b.got
  pub got_tail : List ℕ
  pub got_front : b.got ++ got_tail ≡ stream_of w.talk.downs
  pub got_bodies : List (List ℕ)
  pub got_took : HasTaken b.link b.got got_bodies (come w)

-- ---- the menu of a book

-- the reply that a dispatch of the menu holds, if it holds one, or an older one
abbrev pub menu_held_or : BookState → Option Value → Booked → Option Value
menu_held_or b older d = if is_menu d.made.desc.name d.made.desc.version then reply_or older (held_in b d).ending else older

-- that of the latest such dispatch
abbrev pub booked_menu : BookState → Option Value
booked_menu b = fold (menu_held_or b) None b.made

-- ---- what is shown

-- just this is shown, or nothing where there is nothing
abbrev pub ShowsReceived : Option Held → Option Received → Type 0
ShowsReceived None None = Unit {0}
ShowsReceived None (Some shown) = ⊥
ShowsReceived (Some h) None = ⊥
ShowsReceived (Some h) (Some shown) = (shown.parts.now ≡ h.parts) × (option_copied shown.ending ≡ h.ending)
