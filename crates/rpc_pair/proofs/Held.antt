-- What a book holds of its dispatches, in the world's words, where what it got are the messages that came, and all of these are accepted.
use Rattle.std.proofs.Common.{◌≡◌, refl, ap, ◌∙◌, ℕ, Bool, true, false, not, ◌&&◌, if◌then◌else◌, List, [], ◌∷◌, map}
use Rattle.std.specs.Prelude.{Option, Some, None, fold}
use Rattle.std.specs.List.{count_by}
use Rattle.bp_value.specs.declared.value.Value.{Value}
use Rattle.rpc_msg.specs.declared.message.Message.{Message}
use Rattle.rpc_msg.specs.declared.shared.Limits.{Limits}
use Rattle.rpc_log.specs.Logs.{log_of, responses_of}
use Rattle.rpc_talk.specs.Acts.{is_menu}
use Rattle.rpc_talk.specs.Parts.{Fate, Goes_on, Ends, Broken, cut_ending, held_by, is_ended, is_tracked, parts_of}
use Rattle.rpc_talk.specs.Welcome.{accepted}
use Rattle.rpc_end.specs.Ends.{is_closed}
use Rattle.rpc_meeting.specs.Menus.{last_menu, menu_or, reply_or}
use Rattle.rpc_meeting.specs.Talks.{Common, Dispatch, Talk, all_called, parts_in, received, waiting_count, waits_still}
use Rattle.rpc_meeting.proofs.Lines.{most}
use Rattle.rpc_book.specs.Books.{BookState, accepted_in, calls_of, held_in, messages_of, parts_booked}
use Rattle.rpc_book.specs.Calls.{is_unfinished}
use Rattle.rpc_pair.specs.Standing.{BookStands, booked_menu, booked_of, menu_held_or}
use Rattle.rpc_pair.proofs.Bookings.{calls_same, count_same}

-- the reply that a menu gave is the same once the book is closed
pub reply_closed : (m : ℕ) (come : List Message) (d : Dispatch) (older : Option Value) (closed : Bool)
    → reply_or older (received m come closed d).ending ≡ reply_or older (received m come false d).ending
reply_closed m come d older closed = by d.cut (parts_in m come d).mark closed
  where
    by : (cut : Option ℕ) (mark : Fate) (closed : Bool) → reply_or older (cut_ending cut mark closed) ≡ reply_or older (cut_ending cut mark false)
    by (Some n) mark closed = refl
    by None (Ends e) closed = refl
    by None Goes_on true = refl
    by None Goes_on false = refl
    by None Broken true = refl
    by None Broken false = refl

-- what a book got reads as these messages, and it accepts all of them
pub record HasHeard (r : Common) (b : BookState) (t : Talk) (come : List Message) : Type 0 where
  pub stands : BookStands r b t
  pub read : log_of (most r) b.got ≡ come
  pub all : accepted (most r) (all_called t.made) come ≡ come

module _ (r : Common) (b : BookState) (t : Talk) (come : List Message) (heard : HasHeard r b t come) where
  pub limit_same : b.limits.max_message ≡ most r
  limit_same = ap (λ (l : Limits). l.max_message) heard.stands.limits

  pub calls_here : calls_of b.made ≡ all_called t.made
  calls_here = ap calls_of heard.stands.made ∙ calls_same t.made

  pub messages_same : messages_of b ≡ come
  messages_same = ap (λ m. log_of m b.got) limit_same ∙ heard.read

  pub accepted_same : accepted_in b ≡ come
  accepted_same =
      ap (λ m. accepted m (calls_of b.made) (messages_of b)) limit_same
      ∙ (ap (λ calls. accepted (most r) calls (messages_of b)) calls_here ∙ (ap (accepted (most r) (all_called t.made)) messages_same ∙ heard.all))

  -- what the messages make of a dispatch
  pub parts_same : (d : Dispatch) → parts_booked b (booked_of d) ≡ parts_in (most r) come d
  parts_same d =
      ap (λ m. parts_of m d.desc (responses_of d.id (accepted_in b))) limit_same ∙ ap (λ log. parts_of (most r) d.desc (responses_of d.id log)) accepted_same

  -- what a dispatch holds is what it received
  pub held_same : (d : Dispatch) → held_in b (booked_of d) ≡ received (most r) come (is_closed b.link) d
  held_same d = ap (λ p. held_by p d.cut (is_closed b.link)) (parts_same d)

  -- the dispatches that wait for an answer
  pub waiting_same : count_by (is_unfinished b) b.made ≡ waiting_count (most r) come t.made
  waiting_same =
      ap (count_by (is_unfinished b)) heard.stands.made
      ∙ count_same (is_unfinished b) (waits_still (most r) come) (λ d. ap (λ p. is_tracked d.desc.kind && not (is_ended p.mark)) (parts_same d)) t.made

  -- ---- the menu

  menu_one : (older : Option Value) (d : Dispatch) → menu_held_or b older (booked_of d) ≡ menu_or (most r) come older d
  menu_one older d =
      ap (λ o. if is_menu d.desc.name d.desc.version then o else older)
      (ap (λ h. reply_or older h.ending) (held_same d) ∙ reply_closed (most r) come d older (is_closed b.link))

  menu_all : (older : Option Value) (made : List Dispatch) → fold (menu_held_or b) older (map booked_of made) ≡ fold (menu_or (most r) come) older made
  menu_all older [] = refl
  menu_all older (d ∷ made) = ap (λ o. fold (menu_held_or b) o (map booked_of made)) (menu_one older d) ∙ menu_all (menu_or (most r) come older d) made

  -- The last menu that the book holds is the world's.
  pub menu_same : booked_menu b ≡ last_menu (most r) come t.made
  menu_same = ap (fold (menu_held_or b) None) heard.stands.made ∙ menu_all None t.made
