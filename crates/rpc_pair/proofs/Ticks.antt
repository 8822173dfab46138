-- A moment of both ends: what they say is what goes up and down by it in the world.
use Rattle.std.proofs.Common.{◌≡◌, ap, ◌∙◌, subst, ℕ, max, List, ◌++◌, map}
use Rattle.rpc_frame.specs.Frames.{frames}
use Rattle.rpc_end.specs.Ends.{after_tick}
use Rattle.rpc_talk.specs.Acts.{body_of}
use Rattle.rpc_meeting.specs.Talks.{Common}
use Rattle.rpc_meeting.specs.Worlds.{World, set_now, stream_of, tick_client, tick_server}
use Rattle.rpc_book.specs.Books.{BookState, with_connection}
use Rattle.rpc_server.specs.Servers.{ServerState, with_end}
use Rattle.rpc_pair.specs.Links.{beats}
use Rattle.rpc_pair.proofs.BothEnds.{EndsHold, stream_join}
use Rattle.rpc_pair.proofs.EndMoves.{client_tick_ends, now_ends, server_tick_ends}
use Rattle.rpc_pair.proofs.Growing.{Grows}
use Rattle.rpc_pair.proofs.LinkLaws.{client_ticked, server_ticked, tick_stands}

-- both ends stand for the world behind a moment, and say what is said in it; no byte moves
pub record BothTick (r : Common) (at : ℕ) (w to : World) (b book : BookState) (s server : ServerState) (up : List ℕ) : Type 0 where
  pub ends : EndsHold r to book server up
  pub ups : Grows (stream_of w.talk.ups) (stream_of to.talk.ups) b.link.output book.link.output
  pub downs : Grows (stream_of w.talk.downs) (stream_of to.talk.downs) s.link.output server.link.output
  pub up_same : to.up ≡ w.up
  pub down_same : to.down ≡ w.down
  pub now : to.now ≡ at

module _ (r : Common) (w : World) (b : BookState) (s : ServerState) (up : List ℕ) (ends : EndsHold r w b s up) (moment : ℕ) where
  abbrev w_now : World
  w_now = set_now w (max w.now moment)

  abbrev w_client : World
  w_client = tick_client r w_now

  abbrev w_server : World
  w_server = tick_server r w_client

  abbrev book : BookState
  book = with_connection b (after_tick b.link (max w.now moment))

  ends_now : EndsHold r w_now b s up
  ends_now = now_ends r w b s up ends moment

  ends_client : EndsHold r w_client book s up
  ends_client = client_tick_ends r w_now b s up ends_now

  same_now : w_client.now ≡ max w.now moment
  same_now = ap (λ (x : World). x.now) (client_ticked r w_now)

  ends_server : EndsHold r w_server book (with_end s (after_tick s.link (max w.now moment))) up
  ends_server = subst (λ k. EndsHold r w_server book (with_end s (after_tick s.link k)) up) same_now (server_tick_ends r w_client book s up ends_client)

  -- A moment of both ends is one of the world.
  pub tick_ends : BothTick r (max w.now moment) w w_server b book s (with_end s (after_tick s.link (max w.now moment))) up
  tick_ends =
      let says = beats r w.got (max w.now moment) w.client in
      let tells = beats r w_client.up w_client.now w_client.server in
      let ups : w_client.talk.ups ≡ w.talk.ups ++ says = ap (λ (x : World). x.talk.ups) (client_ticked r w_now) in
      let ups_still : w_server.talk.ups ≡ w_client.talk.ups = ap (λ (x : World). x.talk.ups) (server_ticked r w_client) in
      let downs_still : w_client.talk.downs ≡ w.talk.downs = ap (λ (x : World). x.talk.downs) (client_ticked r w_now) in
      let downs : w_server.talk.downs ≡ w_client.talk.downs ++ tells = ap (λ (x : World). x.talk.downs) (server_ticked r w_client) in
      let (link, output) = tick_stands r w.got w.client (max w.now moment) b.link ends_now.stands.book_link in
      let (server_link, server_output) = tick_stands r w_client.up w_client.server w_client.now s.link ends_client.stands.server_link in
      record {
        ends = ends_server;
        ups = record { bytes = frames (map body_of says); stream_is = ap stream_of (ups_still ∙ ups) ∙ stream_join w.talk.ups says; output_is = output };
        downs = record {
          bytes = frames (map body_of tells);
          stream_is = ap stream_of (downs ∙ ap (λ l. l ++ tells) downs_still) ∙ stream_join w.talk.downs tells;
          output_is = subst (λ k. (after_tick s.link k).output ≡ s.link.output ++ frames (map body_of tells)) same_now server_output;
        };
        up_same = ap (λ (x : World). x.up) (server_ticked r w_client) ∙ ap (λ (x : World). x.up) (client_ticked r w_now);
        down_same = ap (λ (x : World). x.down) (server_ticked r w_client) ∙ ap (λ (x : World). x.down) (client_ticked r w_now);
        now = ap (λ (x : World). x.now) (server_ticked r w_client) ∙ same_now;
      }
