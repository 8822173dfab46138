-- What a book shows of a dispatch is what that received in the world, and the last menu that it holds is the world's.
use Rattle.std.proofs.Common.{◌≡◌, ap, ◌∙◌, subst, ℕ, ℤ, List}
use Rattle.std.specs.Prelude.{Option, Some, None}
use Rattle.std.specs.List.{find}
use Rattle.std.specs.Option.{option_map}
use Rattle.std.specs.Str.{bytes_eq}
use Rattle.rpc_msg.specs.declared.shared.Received.{Received}
use Rattle.rpc_talk.specs.Parts.{Held}
use Rattle.rpc_meeting.specs.Deeds.{find_label}
use Rattle.rpc_meeting.specs.Menus.{last_menu}
use Rattle.rpc_meeting.specs.Talks.{Common, Dispatch, find_made, received}
use Rattle.rpc_meeting.specs.Worlds.{World, come, is_shut}
use Rattle.rpc_meeting.proofs.Lines.{most}
use Rattle.rpc_book.specs.Books.{BookState, Booked, find_booked, held_in}
use Rattle.rpc_book.specs.Calls.{IsReceived, ShowsBooked}
use Rattle.rpc_server.specs.Servers.{ServerState}
use Rattle.rpc_pair.specs.Pairs.{ShowsLabel, ShowsOf}
use Rattle.rpc_pair.specs.Rules.{IsOfSchema}
use Rattle.rpc_pair.specs.Standing.{ShowsReceived, booked_menu, booked_of}
use Rattle.rpc_pair.proofs.Bookings.{booked_found, labelled_found}
use Rattle.rpc_pair.proofs.BothEnds.{EndsHold, book_heard}
use Rattle.rpc_pair.proofs.Held.{held_same, menu_same}
use Rattle.rpc_pair.proofs.LinkLaws.{closed_same}

module _ (r : Common) (is : IsOfSchema r) (w : World) (b : BookState) (s : ServerState) (up : List ℕ) (ends : EndsHold r w b s up) where
  abbrev received_now : Dispatch → Held
  received_now d = received (most r) (come w) (is_shut w.client) d

  -- What a book holds of a dispatch is what that received.
  pub held_ends : (d : Dispatch) → held_in b (booked_of d) ≡ received_now d
  held_ends d =
      held_same r b w.talk (come w) (book_heard r is w b s up ends) d
      ∙ ap (λ closed. received (most r) (come w) closed d) (closed_same r w.got w.client w.now b.link ends.stands.book_link)

  by_id : (shown : Option Received) (o : Option Dispatch) → ShowsBooked b shown (option_map booked_of o) → ShowsReceived (option_map received_now o) shown
  by_id None None shows = tt
  by_id (Some x) None shows = absurd cc
  by_id None (Some d) shows = absurd cc
  by_id (Some x) (Some d) (fresh, parts, end) = (parts ∙ ap (λ (h : Held). h.parts) (held_ends d), end ∙ ap (λ (h : Held). h.ending) (held_ends d))

  by_label : (shown : Option Received) (o : Option Dispatch) → ShowsOf b shown (option_map booked_of o) → ShowsReceived (option_map received_now o) shown
  by_label None None shows = tt
  by_label (Some x) None shows = absurd shows
  by_label None (Some d) shows = absurd shows
  by_label (Some x) (Some d) (parts, end) = (parts ∙ ap (λ (h : Held). h.parts) (held_ends d), end ∙ ap (λ (h : Held). h.ending) (held_ends d))

  -- What is shown of an id is what its dispatch received, and nothing where none has it.
  pub shown_ends : (id : ℤ) (shown : Option Received) → IsReceived b id shown → ShowsReceived (option_map received_now (find_made id w.talk.made)) shown
  shown_ends id shown shows =
      by_id shown (find_made id w.talk.made)
      (subst (ShowsBooked b shown) (ap (find_booked id) ends.stands.book.made ∙ booked_found id w.talk.made) shows)

  -- So it is where the dispatch of the world is known.
  pub received_ends : (d : Dispatch) (shown : Option Received) → find_made d.id w.talk.made ≡ Some d → IsReceived b d.id shown → ShowsReceived (Some (received_now d)) shown
  received_ends d shown here shows = subst (λ o. ShowsReceived (option_map received_now o) shown) here (shown_ends d.id shown shows)

  -- What is shown of a label is what its dispatch received.
  pub label_ends : (label : List ℕ) (shown : Option Received) → ShowsLabel b label shown → ShowsReceived (option_map received_now (find_label label w.talk.made)) shown
  label_ends label shown shows =
      by_label shown (find_label label w.talk.made)
      (subst (ShowsOf b shown) (ap (find (λ (d : Booked). bytes_eq d.made.label label)) ends.stands.book.made ∙ labelled_found label w.talk.made) shows)

  -- The last menu that the book holds is that of the world.
  pub menu_ends : booked_menu b ≡ last_menu (most r) (come w) w.talk.made
  menu_ends = menu_same r b w.talk (come w) (book_heard r is w b s up ends)
