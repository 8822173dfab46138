-- A piece that goes down keeps that both ends stand for a world, where the book has room for it and where it has none.
use Rattle.std.proofs.Common.{◌≡◌, refl, sym, ap, ◌∙◌, subst, ℕ, ◌+◌, ◌-◌, ◌≤◌, ◌<◌, max, Bool, false, if◌then◌else◌, List, [], ◌++◌, length, take, drop, arith, inl, inr, ◌⊎◌}
use Rattle.std.specs.Prelude.{Option, Some}
use Rattle.std.proofs.lemmas.List.{length-append, length-drop, length-take, take-append-drop}
use Rattle.readers.specs.Reader.{Each, IsByte}
use Rattle.readers.proofs.Readers.{each-rest}
use Rattle.rpc_msg.specs.declared.shared.CloseCause.{CloseCause}
use Rattle.rpc_end.specs.Ends.{shut}
use Rattle.rpc_end.specs.Taken.{HasTaken}
use Rattle.rpc_meeting.specs.Talks.{Common}
use Rattle.rpc_meeting.specs.Worlds.{JournalFull, Reason, Side, World, arrived, boundary, come, down_piece, flying, frame_count, header_size, heard_since, is_shut, journal, stream_of, whole}
use Rattle.rpc_meeting.proofs.Goods.{good_down}
use Rattle.rpc_meeting.proofs.Whole.{le_false, le_true}
use Rattle.rpc_book.specs.Books.{BookState, with_connection}
use Rattle.rpc_book.specs.Feeds.{IsFull}
use Rattle.rpc_book.proofs.Once.{count_within}
use Rattle.rpc_server.specs.Servers.{ServerState}
use Rattle.rpc_pair.specs.Links.{LinkStands, cause_as}
use Rattle.rpc_pair.specs.Rules.{IsOfSchema}
use Rattle.rpc_pair.specs.Standing.{EndsStand}
use Rattle.rpc_pair.proofs.BookFeeds.{IsAtEnd, IsFullAt}
use Rattle.rpc_pair.proofs.BothEnds.{EndsHold}
use Rattle.rpc_pair.proofs.Edges.{stream_size}
use Rattle.rpc_pair.proofs.Feeds.{FeedsOn}
use Rattle.rpc_pair.proofs.Fulls.{full_edge}
use Rattle.rpc_pair.proofs.Given.{parted}
use Rattle.rpc_pair.proofs.LinkLaws.{shut_stands}
use Rattle.rpc_pair.proofs.Pieces.{book_came}
use Rattle.rpc_pair.proofs.StillTaken.{shut_taken}

module _ (r : Common) (is : IsOfSchema r) (w : World) (b : BookState) (s : ServerState) (up : List ℕ) (ends : EndsHold r w b s up) (opened : is_shut w.client ≡ false)
    (piece tail : List ℕ) (cut : b.got ++ (piece ++ tail) ≡ stream_of w.talk.downs) where
  -- the piece is in flight
  pub flies : length piece ≤ flying w.talk.downs w.down
  flies =
      omega (
        arith,
        ends.good.taken opened,
        ends.stands.got_count,
        ap length cut,
        stream_size w.talk.downs,
        length-append b.got (piece ++ tail),
        length-append piece tail,
      )

  -- the bytes that came are a front of what the server wrote
  came_front : (taken : ℕ) (new : BookState) → new.got ≡ b.got ++ take taken piece → new.got ++ (drop taken piece ++ tail) ≡ stream_of w.talk.downs
  came_front taken new got = ap (λ g. g ++ (drop taken piece ++ tail)) got ∙ (parted b.got piece tail taken ∙ cut)

  came_count : (taken : ℕ) (new : BookState) → FeedsOn r w.now b w.talk piece (arrived w) (come w) taken new → length new.got ≡ w.got + taken
  came_count taken new on =
      omega (arith, ends.stands.got_count, ap length on.gets.got, length-append b.got (take taken piece), length-take taken piece, on.within)

  abbrev heard_by : ℕ → ℕ
  heard_by m = heard_since w.client w.now (frame_count w.talk.downs w.got) (frame_count w.talk.downs m)

  abbrev after : ℕ → ℕ → Option Reason → World
  after n got why = record {
    talk = w.talk;
    up = w.up;
    down = w.down + n;
    got = got;
    client = record { cause = why; heard = heard_by got; sent = w.client.sent };
    server = w.server;
    now = w.now;
  }

  -- a book that took so many bytes stands for the client's side behind them, but for a cause
  came_link : (taken : ℕ) (new : BookState) → FeedsOn r w.now b w.talk piece (arrived w) (come w) taken new
      → LinkStands r (w.got + taken) (record { cause = w.client.cause; heard = heard_by (w.got + taken); sent = w.client.sent }) w.now new.link
  came_link taken new on =
      let count = came_count taken new on in
      subst (λ k. LinkStands r k (record { cause = w.client.cause; heard = heard_by k; sent = w.client.sent }) w.now new.link) count
      (subst (λ k. LinkStands r (length new.got) (record { cause = w.client.cause; heard = heard_from k (length new.got); sent = w.client.sent }) w.now new.link) ends.stands.got_count
      (on.gets.moments w.client (subst (λ k. LinkStands r k w.client w.now b.link) (sym ends.stands.got_count) ends.stands.book_link)))
    where
      heard_from : ℕ → ℕ → ℕ
      heard_from k m = heard_since w.client w.now (frame_count w.talk.downs k) (frame_count w.talk.downs m)

  came_took : (taken : ℕ) (new : BookState) (on : FeedsOn r w.now b w.talk piece (arrived w) (come w) taken new)
      → HasTaken new.link new.got on.gets.at.bodies (whole w.talk.downs (w.got + taken - header_size))
  came_took taken new on =
      subst (HasTaken new.link new.got on.gets.at.bodies)
      (book_came r is new w.talk (drop taken piece ++ tail) (arrived w) _ on.gets.at (came_front taken new on.gets.got)
      ∙ ap (λ k. whole w.talk.downs (k - header_size)) (came_count taken new on)) on.gets.at.took

  -- ---- there is room

  -- the world behind a piece, by whether it fits
  abbrev behind_if : ℕ → Bool → World
  behind_if n fits =
      let took = if fits then w.got + n else max w.got (boundary w.talk.downs journal) in
      after n took (if fits then w.client.cause else Some (JournalFull took))

  piece_fits : (n : ℕ) → w.got + n ≤ journal → down_piece w n ≡ after n (w.got + n) w.client.cause
  piece_fits n room = ap (behind_if n) (le_true (w.got + n) journal room)

  -- a piece that is taken whole fits
  pub whole_fits : (new : BookState) → FeedsOn r w.now b w.talk piece (arrived w) (come w) (length piece) new → w.got + length piece ≤ journal
  whole_fits new on = omega (arith, came_count (length piece) new on, on.gets.at.room)

  -- Feeds of what came down are one piece down.
  pub down_ends : (n : ℕ) (new : BookState) → FeedsOn r w.now b w.talk piece (arrived w) (come w) n new → EndsHold r (down_piece w n) new s up
  down_ends n new on =
      let count = came_count n new on in
      record {
        good = good_down r w ends.good opened n (omega (arith, flies, on.within));
        stands = subst (λ x. EndsStand r x new s up) (sym (piece_fits n (omega (arith, count, on.gets.at.room)))) (record {
          book = on.gets.at.stands;
          server = ends.stands.server;
          book_link = came_link n new on;
          server_link = ends.stands.server_link;
          up_count = ends.stands.up_count;
          up_bytes = ends.stands.up_bytes;
          up_tail = ends.stands.up_tail;
          up_front = ends.stands.up_front;
          up_bodies = ends.stands.up_bodies;
          up_took = ends.stands.up_took;
          got_count = count;
          got_bytes = on.gets.at.bytes;
          got_tail = drop n piece ++ tail;
          got_front = came_front n new on.gets.got;
          got_bodies = on.gets.at.bodies;
          got_took = came_took n new on;
        });
      }

  -- ---- there is none

  piece_over : (n : ℕ) → journal < w.got + n
      → down_piece w n ≡ after n (max w.got (boundary w.talk.downs journal)) (Some (JournalFull (max w.got (boundary w.talk.downs journal))))
  piece_over n over = ap (behind_if n) (le_false (w.got + n) journal over)

  module _ (bytes : Each IsByte piece) (taken : ℕ) (mid : BookState) (on : FeedsOn r w.now b w.talk piece (arrived w) (come w) taken mid)
      (full : IsFull mid (drop taken piece)) where
    -- a piece of which a feed has no room passes the limit
    pub full_over : journal < w.got + length piece
    full_over =
        let (k, would, over) = full in
        omega (arith, over, count_within mid.link (drop taken piece) k would, length-drop taken piece, on.within, came_count taken mid on)

    left_bytes : Each IsByte (drop taken piece)
    left_bytes = each-rest IsByte (take taken piece) (drop taken piece) (subst (Each IsByte) (sym (take-append-drop taken piece)) bytes)

    at_edge : (taken ≡ 0) ⊎ IsAtEnd piece taken mid.link → (taken ≡ 0) ⊎ ((length (drop taken piece) ≡ 0) ⊎ (mid.link.held ≡ []))
    at_edge (inl none) = inl none
    at_edge (inr (inl all)) = inr (inl (omega (arith, length-drop taken piece, all)))
    at_edge (inr (inr empty)) = inr (inr empty)

    -- the book has what the client of the world takes
    full_count : length mid.got ≡ max w.got (boundary w.talk.downs journal)
    full_count =
        full_edge r is mid w.talk (drop taken piece) tail (arrived w) (come w ++ on.gets.fresh) on.gets.at (came_front taken mid on.gets.got) left_bytes full w.got taken
        (came_count taken mid on) (at_edge on.edge)

    abbrev reason : Reason
    reason = JournalFull (length mid.got)

    full_link : LinkStands r (length mid.got) (record { cause = Some reason; heard = heard_by (length mid.got); sent = w.client.sent }) w.now (shut mid.link (cause_as reason))
    full_link =
        subst (λ c. LinkStands r (length mid.got) (if c then side else record { cause = Some reason; heard = side.heard; sent = side.sent }) w.now (shut mid.link (cause_as reason))) opened
        (shut_stands r (length mid.got) side w.now mid.link
        (subst (λ k. LinkStands r k (record { cause = w.client.cause; heard = heard_by k; sent = w.client.sent }) w.now mid.link) (sym (came_count taken mid on))
        (came_link taken mid on)) reason)
      where
        side : Side
        side = record { cause = w.client.cause; heard = heard_by (length mid.got); sent = w.client.sent }

    full_stands : EndsStand r (after (length piece) (length mid.got) (Some reason)) (with_connection mid (shut mid.link (cause_as reason))) s up
    full_stands = record {
      book = record { limits = on.gets.at.stands.limits; made = on.gets.at.stands.made; ids = on.gets.at.stands.ids };
      server = ends.stands.server;
      book_link = full_link;
      server_link = ends.stands.server_link;
      up_count = ends.stands.up_count;
      up_bytes = ends.stands.up_bytes;
      up_tail = ends.stands.up_tail;
      up_front = ends.stands.up_front;
      up_bodies = ends.stands.up_bodies;
      up_took = ends.stands.up_took;
      got_count = refl;
      got_bytes = on.gets.at.bytes;
      got_tail = drop taken piece ++ tail;
      got_front = came_front taken mid on.gets.got;
      got_bodies = on.gets.at.bodies;
      got_took = shut_taken mid.link mid.got on.gets.at.bodies (whole w.talk.downs (length mid.got - header_size))
          (subst (λ k. HasTaken mid.link mid.got on.gets.at.bodies (whole w.talk.downs (k - header_size))) (sym (came_count taken mid on)) (came_took taken mid on))
          (cause_as reason);
    }

    -- A feed for which there is no room closes the book, and is the last of a piece down that passes the limit.
    pub full_ends : (why : CloseCause) (new : BookState) → IsFullAt mid (drop taken piece) why new → EndsHold r (down_piece w (length piece)) new s up
    full_ends why new (again, is_why, new_is) = record {
      good = good_down r w ends.good opened (length piece) flies;
      stands = subst (λ x. EndsStand r x new s up) (sym (piece_over (length piece) full_over))
          (subst (λ k. EndsStand r (after (length piece) k (Some (JournalFull k))) new s up) full_count
          (subst (λ x. EndsStand r (after (length piece) (length mid.got) (Some reason)) x s up)
          (sym (new_is ∙ ap (λ x. with_connection mid (shut mid.link x)) is_why)) full_stands));
    }
