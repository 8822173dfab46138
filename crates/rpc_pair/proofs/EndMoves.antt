-- The start, closes, output that is taken, moments and pieces that go up keep that both ends stand for a world.
use Rattle.std.proofs.Common.{◌≡◌, refl, sym, ap, ◌∙◌, subst, ℕ, ◌+◌, ◌-◌, ◌≤◌, max, List, [], ◌++◌, map, length, append_assoc, arith}
use Rattle.std.specs.Prelude.{fold}
use Rattle.readers.specs.Reader.{Each, IsByte}
use Rattle.rpc_frame.specs.Frames.{frames}
use Rattle.rpc_msg.specs.declared.message.Message.{Message}
use Rattle.rpc_end.specs.Ends.{EndState, after_tick, shut, taken_out}
use Rattle.rpc_end.specs.Taken.{HasTaken}
use Rattle.rpc_end.proofs.Taken.{taken_start}
use Rattle.rpc_talk.specs.Acts.{body_of}
use Rattle.rpc_meeting.specs.Talks.{Common, Talk, heard_up}
use Rattle.rpc_meeting.specs.Worlds.{Reason, Side, World, arrived, close_side, come, first_world, flying, frame_count, header_size, heard_since, set_client, set_now, set_server, set_talk, stream_of, tick_client, tick_server, total, up_piece, up_talk, whole}
use Rattle.rpc_meeting.proofs.Goods.{good_now, good_up, heard_all}
use Rattle.rpc_meeting.proofs.Moves.{good_close_client, good_close_server, good_tick_client, good_tick_server}
use Rattle.rpc_meeting.proofs.Reached.{first_good}
use Rattle.rpc_meeting.proofs.Whole.{whole_log_grows}
use Rattle.rpc_book.specs.Books.{BookState, first_book, with_connection}
use Rattle.rpc_server.specs.Servers.{ServerState, IsNew, with_end}
use Rattle.rpc_pair.specs.Links.{LinkStands, beats, cause_as, ticked_side}
use Rattle.rpc_pair.specs.Rules.{IsOfSchema}
use Rattle.rpc_pair.specs.Standing.{EndsStand, booked_of}
use Rattle.rpc_pair.specs.Stands.{ServerStands}
use Rattle.rpc_pair.proofs.BothEnds.{EndsHold, stream_join}
use Rattle.rpc_pair.proofs.LinkLaws.{client_ticked, first_stands, later_stands, server_ticked, shut_stands, tick_stands, with_downs, with_ups}
use Rattle.rpc_pair.proofs.Pieces.{server_came, up_talk_is}
use Rattle.rpc_pair.proofs.Schemas.{schema_ok}
use Rattle.rpc_pair.proofs.ServerFeeds.{MovesOn, new_at}
use Rattle.rpc_pair.proofs.Starts.{new_stands}
use Rattle.rpc_pair.proofs.StillTaken.{link_stands, out_stands, out_taken, shut_taken, tick_taken}

-- Two new ends stand for the first world.
pub first_ends : (r : Common) (s : ServerState) → IsOfSchema r → IsNew r.entries r.limits 0 s → EndsHold r first_world (first_book r.limits 0) s []
first_ends r s is new = record {
  good = first_good r;
  stands = record {
    book = record { limits = refl; made = refl; ids = tt };
    server = new_stands r 0 s is new;
    book_link = first_stands r;
    server_link = subst (LinkStands r 0 first_world.server 0) (sym new.link_is) (first_stands r);
    up_count = refl;
    up_bytes = tt;
    up_tail = stream_of [];
    up_front = refl;
    up_bodies = (new_at r 0 s is new).bodies;
    up_took = (new_at r 0 s is new).took;
    got_count = refl;
    got_bytes = tt;
    got_tail = stream_of [];
    got_front = refl;
    got_bodies = [];
    got_took = taken_start r.limits 0;
  };
}

-- ---- one thing changes

module _ (r : Common) (w : World) (b : BookState) (s : ServerState) (up : List ℕ) (ends : EndsStand r w b s up) where
  -- the end of the book, with the client's side
  book_linked : (side : Side) (e : EndState) → LinkStands r w.got side w.now e → HasTaken e b.got ends.got_bodies (come w)
      → EndsStand r (set_client w side) (with_connection b e) s up
  book_linked side e link took = record {
    book = record { limits = ends.book.limits; made = ends.book.made; ids = ends.book.ids };
    server = ends.server;
    book_link = link;
    server_link = ends.server_link;
    up_count = ends.up_count;
    up_bytes = ends.up_bytes;
    up_tail = ends.up_tail;
    up_front = ends.up_front;
    up_bodies = ends.up_bodies;
    up_took = ends.up_took;
    got_count = ends.got_count;
    got_bytes = ends.got_bytes;
    got_tail = ends.got_tail;
    got_front = ends.got_front;
    got_bodies = ends.got_bodies;
    got_took = took;
  }

  -- the end of the server, with its side
  server_linked : (side : Side) (e : EndState) → LinkStands r w.up side w.now e → HasTaken e up ends.up_bodies (arrived w) → EndsStand r (set_server w side) b (with_end s e) up
  server_linked side e link took = record {
    book = ends.book;
    server = link_stands r s w.talk e ends.server;
    book_link = ends.book_link;
    server_link = link;
    up_count = ends.up_count;
    up_bytes = ends.up_bytes;
    up_tail = ends.up_tail;
    up_front = ends.up_front;
    up_bodies = ends.up_bodies;
    up_took = took;
    got_count = ends.got_count;
    got_bytes = ends.got_bytes;
    got_tail = ends.got_tail;
    got_front = ends.got_front;
    got_bodies = ends.got_bodies;
    got_took = ends.got_took;
  }

  -- more goes up
  more_up : (more : List Message) → w.up ≤ header_size + total w.talk.ups → EndsStand r (set_talk w (with_ups w.talk more)) b s up
  more_up more few =
      let bytes = frames (map body_of more) in
      record {
        book = record { limits = ends.book.limits; made = ends.book.made; ids = ends.book.ids };
        server = record { rules = ends.server.rules; table = ends.server.table; count = ends.server.count };
        book_link = ends.book_link;
        server_link = ends.server_link;
        up_count = ends.up_count;
        up_bytes = ends.up_bytes;
        up_tail = ends.up_tail ++ bytes;
        up_front = sym (append_assoc up ends.up_tail bytes) ∙ (ap (λ l. l ++ bytes) ends.up_front ∙ sym (stream_join w.talk.ups more));
        up_bodies = ends.up_bodies;
        up_took = subst (HasTaken s.link up ends.up_bodies) (sym (whole_log_grows w.talk.ups more (w.up - header_size) (omega (arith, few)))) ends.up_took;
        got_count = ends.got_count;
        got_bytes = ends.got_bytes;
        got_tail = ends.got_tail;
        got_front = ends.got_front;
        got_bodies = ends.got_bodies;
        got_took = ends.got_took;
      }

  -- more goes down
  more_down : (more : List Message) → w.got ≤ header_size + total w.talk.downs → EndsStand r (set_talk w (with_downs w.talk more)) b s up
  more_down more few =
      let bytes = frames (map body_of more) in
      record {
        book = record { limits = ends.book.limits; made = ends.book.made; ids = ends.book.ids };
        server = record { rules = ends.server.rules; table = ends.server.table; count = ends.server.count };
        book_link = ends.book_link;
        server_link = ends.server_link;
        up_count = ends.up_count;
        up_bytes = ends.up_bytes;
        up_tail = ends.up_tail;
        up_front = ends.up_front;
        up_bodies = ends.up_bodies;
        up_took = ends.up_took;
        got_count = ends.got_count;
        got_bytes = ends.got_bytes;
        got_tail = ends.got_tail ++ bytes;
        got_front = sym (append_assoc b.got ends.got_tail bytes) ∙ (ap (λ l. l ++ bytes) ends.got_front ∙ sym (stream_join w.talk.downs more));
        got_bodies = ends.got_bodies;
        got_took = subst (HasTaken b.link b.got ends.got_bodies) (sym (whole_log_grows w.talk.downs more (w.got - header_size) (omega (arith, few)))) ends.got_took;
      }

  -- it is later
  later : (n : ℕ) → w.now ≤ n → EndsStand r (set_now w n) b s up
  later n le = record {
    book = ends.book;
    server = ends.server;
    book_link = later_stands r w.got w.client w.now b.link ends.book_link n le;
    server_link = later_stands r w.up w.server w.now s.link ends.server_link n le;
    up_count = ends.up_count;
    up_bytes = ends.up_bytes;
    up_tail = ends.up_tail;
    up_front = ends.up_front;
    up_bodies = ends.up_bodies;
    up_took = ends.up_took;
    got_count = ends.got_count;
    got_bytes = ends.got_bytes;
    got_tail = ends.got_tail;
    got_front = ends.got_front;
    got_bodies = ends.got_bodies;
    got_took = ends.got_took;
  }

module _ (r : Common) (w : World) (b : BookState) (s : ServerState) (up : List ℕ) (ends : EndsHold r w b s up) where
  -- ---- closes

  -- the book closes
  pub close_client_ends : (why : Reason) → EndsHold r (set_client w (close_side w.client why)) (with_connection b (shut b.link (cause_as why))) s up
  close_client_ends why = record {
    good = good_close_client r w ends.good why;
    stands = book_linked r w b s up ends.stands (close_side w.client why) (shut b.link (cause_as why))
        (shut_stands r w.got w.client w.now b.link ends.stands.book_link why)
        (shut_taken b.link b.got ends.stands.got_bodies (come w) ends.stands.got_took (cause_as why));
  }

  -- the server closes
  pub close_server_ends : (why : Reason) → EndsHold r (set_server w (close_side w.server why)) b (with_end s (shut s.link (cause_as why))) up
  close_server_ends why = record {
    good = good_close_server r w ends.good why;
    stands = server_linked r w b s up ends.stands (close_side w.server why) (shut s.link (cause_as why))
        (shut_stands r w.up w.server w.now s.link ends.stands.server_link why)
        (shut_taken s.link up ends.stands.up_bodies (arrived w) ends.stands.up_took (cause_as why));
  }

  -- ---- output is taken

  -- that of the book, which goes to the wire up
  pub out_client_ends : (count : ℕ) → EndsHold r w (with_connection b (taken_out b.link count)) s up
  out_client_ends count = record {
    good = ends.good;
    stands = book_linked r w b s up ends.stands w.client (taken_out b.link count)
        (out_stands r w.got w.client w.now b.link count ends.stands.book_link)
        (out_taken b.link b.got ends.stands.got_bodies (come w) ends.stands.got_took count);
  }

  -- and that of the server
  pub out_server_ends : (count : ℕ) → EndsHold r w b (with_end s (taken_out s.link count)) up
  out_server_ends count = record {
    good = ends.good;
    stands = server_linked r w b s up ends.stands w.server (taken_out s.link count)
        (out_stands r w.up w.server w.now s.link count ends.stands.server_link)
        (out_taken s.link up ends.stands.up_bodies (arrived w) ends.stands.up_took count);
  }

  -- ---- moments

  -- it is later
  pub now_ends : (n : ℕ) → EndsHold r (set_now w (max w.now n)) b s up
  now_ends n = record { good = good_now r w ends.good (max w.now n); stands = later r w b s up ends.stands (max w.now n) (omega arith) }

  -- A moment of the book keeps that the ends stand for the world: a heartbeat goes up, or it closes, or nothing happens.
  pub client_tick_ends : EndsHold r (tick_client r w) (with_connection b (after_tick b.link w.now)) s up
  client_tick_ends =
      let (link, output) = tick_stands r w.got w.client w.now b.link ends.stands.book_link in
      let side = ticked_side r w.got w.now w.client in
      record {
        good = good_tick_client r w ends.good;
        stands = subst (λ x. EndsStand r x (with_connection b (after_tick b.link w.now)) s up) (sym (client_ticked r w))
            (more_up r (set_client w side) (with_connection b (after_tick b.link w.now)) s up
            (book_linked r w b s up ends.stands side (after_tick b.link w.now) link (tick_taken b.link b.got ends.stands.got_bodies (come w) ends.stands.got_took w.now))
            (beats r w.got w.now w.client) ends.good.up);
      }

  -- So does one of the server.
  pub server_tick_ends : EndsHold r (tick_server r w) b (with_end s (after_tick s.link w.now)) up
  server_tick_ends =
      let (link, output) = tick_stands r w.up w.server w.now s.link ends.stands.server_link in
      let side = ticked_side r w.up w.now w.server in
      record {
        good = good_tick_server r w ends.good;
        stands = subst (λ x. EndsStand r x b (with_end s (after_tick s.link w.now)) up) (sym (server_ticked r w))
            (more_down r (set_server w side) b (with_end s (after_tick s.link w.now)) up
            (server_linked r w b s up ends.stands side (after_tick s.link w.now) link (tick_taken s.link up ends.stands.up_bodies (arrived w) ends.stands.up_took w.now))
            (beats r w.up w.now w.server) (omega (arith, ends.good.down, ends.good.got)));
      }

  -- ---- a piece goes up

  -- what came with a piece
  up_came : IsOfSchema r → (after tail : List ℕ) (new : ServerState) (n : ℕ) (moves : MovesOn r w.now s w.talk up after (arrived w) (come w) new) → length after ≡ w.up + n
      → after ++ tail ≡ stream_of w.talk.ups → Each IsByte after → arrived w ++ moves.fresh ≡ whole w.talk.ups (w.up + n - header_size)
  up_came is after tail new n moves count front bytes =
      let heard = heard_all r w.talk moves.fresh in
      server_came r is (fold (heard_up r) w.talk moves.fresh) after tail new (arrived w ++ moves.fresh) (come w) moves.at (front ∙ sym (ap stream_of heard.ups)) bytes
      ∙ (ap (λ l. whole l (length after - header_size)) heard.ups ∙ ap (λ k. whole w.talk.ups (k - header_size)) count)

  -- a server that heard it stands for the talk behind the piece
  pub up_heard : IsOfSchema r → (after tail : List ℕ) (new : ServerState) (n : ℕ) (moves : MovesOn r w.now s w.talk up after (arrived w) (come w) new) → length after ≡ w.up + n
      → after ++ tail ≡ stream_of w.talk.ups → Each IsByte after → fold (heard_up r) w.talk moves.fresh ≡ up_talk r w n
  up_heard is after tail new n moves count front bytes = up_talk_is r w n moves.fresh (up_came is after tail new n moves count front bytes)

  -- Feeds of what went up, of any size, are one piece up.
  pub up_ends : IsOfSchema r → (after tail : List ℕ) (new : ServerState) (n : ℕ) → MovesOn r w.now s w.talk up after (arrived w) (come w) new → length after ≡ w.up + n
      → n ≤ flying w.talk.ups w.up → after ++ tail ≡ stream_of w.talk.ups → Each IsByte after → EndsHold r (up_piece r w n) b new after
  up_ends is after tail new n moves count few front bytes =
      let heard = heard_all r w.talk moves.fresh in
      let came = up_came is after tail new n moves count front bytes in
      let talk : fold (heard_up r) w.talk moves.fresh ≡ up_talk r w n = up_heard is after tail new n moves count front bytes in
      let ups : (up_talk r w n).ups ≡ w.talk.ups = ap (λ (t : Talk). t.ups) (sym talk) ∙ heard.ups in
      let made : (up_talk r w n).made ≡ w.talk.made = ap (λ (t : Talk). t.made) (sym talk) ∙ heard.made in
      let downs : (up_talk r w n).downs ≡ w.talk.downs ++ moves.more = ap (λ (t : Talk). t.downs) (sym talk) ∙ moves.downs in
      let more = frames (map body_of moves.more) in
      let got_few : w.got ≤ header_size + total w.talk.downs = omega (arith, ends.good.down, ends.good.got) in
      let got_came : whole (up_talk r w n).downs (w.got - header_size) ≡ come w
      = ap (λ l. whole l (w.got - header_size)) downs ∙ whole_log_grows w.talk.downs moves.more (w.got - header_size) (omega (arith, got_few)) in
      record {
        good = good_up r w ends.good (schema_ok r is) n few;
        stands = record {
          book = record { limits = ends.stands.book.limits; made = ends.stands.book.made ∙ ap (map booked_of) (sym made); ids = ends.stands.book.ids };
          server = subst (ServerStands r new) talk moves.at.stands;
          book_link = ends.stands.book_link;
          server_link =
              subst (λ k. LinkStands r k (record { cause = w.server.cause; heard = heard_by k; sent = w.server.sent }) w.now new.link) count
              (subst (λ k. LinkStands r (length after) (record { cause = w.server.cause; heard = heard_from k (length after); sent = w.server.sent }) w.now new.link) ends.stands.up_count
              (moves.moments w.server (subst (λ k. LinkStands r k w.server w.now s.link) (sym ends.stands.up_count) ends.stands.server_link)));
          up_count = count;
          up_bytes = bytes;
          up_tail = tail;
          up_front = front ∙ sym (ap stream_of ups);
          up_bodies = moves.at.bodies;
          up_took = subst (HasTaken new.link after moves.at.bodies) (came ∙ ap (λ l. whole l (w.up + n - header_size)) (sym ups)) moves.at.took;
          got_count = ends.stands.got_count;
          got_bytes = ends.stands.got_bytes;
          got_tail = ends.stands.got_tail ++ more;
          got_front = sym (append_assoc b.got ends.stands.got_tail more) ∙ (ap (λ l. l ++ more) ends.stands.got_front
              ∙ (sym (stream_join w.talk.downs moves.more) ∙ ap stream_of (sym downs)));
          got_bodies = ends.stands.got_bodies;
          got_took = subst (HasTaken b.link b.got ends.stands.got_bodies) (sym got_came) ends.stands.got_took;
        };
      }
    where
      heard_from : ℕ → ℕ → ℕ
      heard_from k m = heard_since w.server w.now (frame_count w.talk.ups k) (frame_count w.talk.ups m)

      heard_by : ℕ → ℕ
      heard_by m = heard_from w.up m
