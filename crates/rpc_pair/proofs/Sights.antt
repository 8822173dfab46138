-- What is seen of a pair is what is seen of the world that it stands for.
use Rattle.std.proofs.Common.{◌≡◌, refl, sym, ap, ◌∙◌, subst, ℕ, Bool, true, false, List, [], ◌∷◌, map, length}
use Rattle.std.specs.Prelude.{Option, Some, None}
use Rattle.std.specs.Option.{is_some, option_map}
use Rattle.rpc_msg.specs.declared.shared.CloseCause.{CloseCause}
use Rattle.rpc_msg.specs.declared.shared.Received.{Received}
use Rattle.rpc_end.specs.Ends.{EndState}
use Rattle.rpc_meeting.specs.Talks.{Common, Dispatch, received}
use Rattle.rpc_meeting.specs.Worlds.{Reason, Side, World, come, has_header, is_shut, stream_of}
use Rattle.rpc_meeting.proofs.Lines.{most}
use Rattle.rpc_meeting.proofs.Reached.{good}
use Rattle.rpc_book.specs.Books.{BookState, Booked, held_in}
use Rattle.rpc_pair.specs.declared.moved.Moved.{Moved}
use Rattle.rpc_pair.specs.Links.{LinkStands, cause_as}
use Rattle.rpc_pair.specs.Pairs.{PairState, ShowsLabel}
use Rattle.rpc_pair.specs.Rules.{IsOfSchema}
use Rattle.rpc_pair.specs.Sights.{Condition, Seen, Sight, condition, end_condition, pair_sight, seen_in, seen_of, side_condition, world_sight}
use Rattle.rpc_pair.specs.Standing.{ShowsReceived, booked_of}
use Rattle.rpc_pair.specs.Wires.{ShowsWorld, StandsFor, received_under}
use Rattle.rpc_pair.proofs.BothEnds.{EndsHold}
use Rattle.rpc_pair.proofs.Schemas.{schema_ok}
use Rattle.rpc_pair.proofs.Shown.{held_ends, label_ends}

-- an end that is not closed has its header exactly where its side has
same_condition : (why : Option Reason) (greeted has : Bool) → (is_some why ≡ false → greeted ≡ has) → condition (option_map cause_as why) greeted ≡ condition (option_map cause_as why) has
same_condition None greeted has same = ap (condition None) (same refl)
same_condition (Some why) greeted has same = refl

pub link_condition : (r : Common) (n : ℕ) (side : Side) (now : ℕ) (e : EndState) → LinkStands r n side now e → end_condition e ≡ side_condition side n
link_condition r n side now e stands =
    ap (λ c. condition c e.greeted) stands.cause ∙ same_condition side.cause e.greeted (has_header n) stands.greeted

module _ (r : Common) (is : IsOfSchema r) (w : World) (p : PairState) (up_sent up_given down_sent down_given : Option (List ℕ))
    (stands : StandsFor r w p up_sent up_given down_sent down_given) where
  ends : EndsHold r w p.book p.server stands.taken
  ends = record { good = good r w (schema_ok r is) stands.reached; stands = stands.ends }

  seen_same : (d : Dispatch) → seen_in p.book (booked_of d) ≡ seen_of r w d
  seen_same d = ap (λ h. record { label = d.label; id = d.id; desc = d.desc; held = h }) (held_ends r is w p.book p.server stands.taken ends d)

  all_seen : (ds : List Dispatch) → map (seen_in p.book) (map booked_of ds) ≡ map (seen_of r w) ds
  all_seen [] = refl
  all_seen (d ∷ ds) = ap (λ s. s ∷ map (seen_in p.book) (map booked_of ds)) (seen_same d) ∙ ap (λ ss. seen_of r w d ∷ ss) (all_seen ds)

  abbrev sight_by : List Seen → Condition → Condition → Moved → Sight
  sight_by dispatches client server moved = record { dispatches = dispatches; client = client; server = server; moved = moved }

  abbrev moved_by : ℕ → ℕ → ℕ → ℕ → Moved
  moved_by up up_put down down_put = record { up = up; up_put = up_put; down = down; down_put = down_put }

  moved_same : p.moved ≡ (world_sight r w).moved
  moved_same =
      let m = p.moved in
      ap (λ n. moved_by n m.up_put m.down m.down_put) stands.up.moved_counted
      ∙ (ap (λ n. moved_by w.up n m.down m.down_put) stands.up.put_counted
      ∙ (ap (λ n. moved_by w.up (length (stream_of w.talk.ups)) n m.down_put) stands.down.moved_counted
      ∙ ap (λ n. moved_by w.up (length (stream_of w.talk.ups)) w.down n) stands.down.put_counted))

  pub same_sight : pair_sight p ≡ world_sight r w
  same_sight =
      ap (λ ds. sight_by ds (end_condition p.book.link) (end_condition p.server.link) p.moved) (ap (map (seen_in p.book)) stands.ends.book.made ∙ all_seen w.talk.made)
      ∙ (ap (λ c. sight_by (map (seen_of r w) w.talk.made) c (end_condition p.server.link) p.moved) (link_condition r w.got w.client w.now p.book.link stands.ends.book_link)
      ∙ (ap (λ c. sight_by (map (seen_of r w) w.talk.made) (side_condition w.client w.got) c p.moved) (link_condition r w.up w.server w.now p.server.link stands.ends.server_link)
      ∙ ap (λ m. sight_by (map (seen_of r w) w.talk.made) (side_condition w.client w.got) (side_condition w.server w.up) m) moved_same))

  shown_of_world : (label : List ℕ) (shown : Option Received) → ShowsLabel p.book label shown → ShowsReceived (received_under r w label) shown
  shown_of_world label shown shows = label_ends r is w p.book p.server stands.taken ends label shown shows

-- What is shown of a label is what its dispatch received in any world that the pair stands for.
pub world_shown : (p : PairState) (label : List ℕ) (shown : Option Received) → ShowsLabel p.book label shown → ShowsWorld p label shown
world_shown p label shown shows = λ r w up_sent up_given down_sent down_given is stands.
    shown_of_world r is w p up_sent up_given down_sent down_given stands label shown shows
