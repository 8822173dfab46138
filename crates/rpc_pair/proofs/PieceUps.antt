-- A piece that goes up, in whatever feeds the server takes it, is the world's: it is taken whole, and closes nothing.
use Rattle.std.proofs.Common.{◌≡◌, ◌≢◌, refl, sym, ap, ◌∙◌, subst, false, ℕ, ◌+◌, ◌≤◌, List, [], ◌∷◌, ◌++◌, length, map, take, drop, take-append-drop, append_assoc, arith, inl, inr, ◌⊎◌}
use Rattle.std.specs.Prelude.{Result, Ok, Err, fold}
use Rattle.std.proofs.lemmas.List.{append-nil, drop-drop, length-append}
use Rattle.std.proofs.Math.Seq.{take-add}
use Rattle.readers.specs.Reader.{Each, IsByte}
use Rattle.readers.proofs.Readers.{each-join}
use Rattle.rpc_frame.specs.Frames.{frames}
use Rattle.rpc_msg.specs.declared.shared.FeedError.{FeedError}
use Rattle.rpc_msg.specs.declared.shared.FeedError.TheVariants as feed
use Rattle.rpc_talk.specs.Acts.{body_of}
use Rattle.rpc_meeting.specs.Talks.{Common, Talk, heard_up}
use Rattle.rpc_meeting.specs.Worlds.{World, arrived, come, flying, is_shut, stream_of, up_piece}
use Rattle.rpc_meeting.proofs.Goods.{heard_all}
use Rattle.rpc_book.specs.Books.{BookState}
use Rattle.rpc_server.specs.Servers.{ServerState, IsServerFed}
use Rattle.rpc_server.specs.declared.arrival.ServerFed.{ServerFed}
use Rattle.rpc_pair.specs.Feeds.{ServerCloses, ServerTakes}
use Rattle.rpc_pair.specs.Links.{LinkStands}
use Rattle.rpc_pair.specs.Moving.{IsFeed, TakesPiece, Taking}
use Rattle.rpc_pair.specs.Rules.{IsOfSchema}
use Rattle.rpc_pair.specs.Runs.{Leads}
use Rattle.rpc_pair.proofs.BothEnds.{EndsHold, server_at, stream_join}
use Rattle.rpc_pair.proofs.Edges.{stream_size}
use Rattle.rpc_pair.proofs.EndMoves.{up_ends, up_heard}
use Rattle.rpc_pair.proofs.FeedMoments.{side_still}
use Rattle.rpc_pair.proofs.Given.{parted}
use Rattle.rpc_pair.proofs.Growing.{Grows}
use Rattle.rpc_pair.proofs.Pieces.{moves_join}
use Rattle.rpc_pair.proofs.ServerFeeds.{FeedsAlong, IsServerAt, MovesOn, feed_goes}

-- both ends stand for the world behind a piece, and what goes down grows
pub record IsPieceUp (r : Common) (w : World) (b : BookState) (s : ServerState) (up piece : List ℕ) (new : ServerState) : Type 0 where
  pub ends : EndsHold r (up_piece r w (length piece)) b new (up ++ piece)
  pub ups : (up_piece r w (length piece)).talk.ups ≡ w.talk.ups
  pub downs : Grows (stream_of w.talk.downs) (stream_of (up_piece r w (length piece)).talk.downs) s.link.output new.link.output

module _ (r : Common) (is : IsOfSchema r) (w : World) (b : BookState) (s : ServerState) (up : List ℕ) (ends : EndsHold r w b s up) (opened : is_shut w.server ≡ false)
    (piece tail : List ℕ) (cut : up ++ (piece ++ tail) ≡ stream_of w.talk.ups) (bytes : Each IsByte piece) where
  abbrev Fed : ℕ → ServerState → Type 0
  Fed taken new = MovesOn r w.now s w.talk up (up ++ take taken piece) (arrived w) (come w) new

  all_bytes : Each IsByte (up ++ piece)
  all_bytes = each-join IsByte up piece ends.stands.up_bytes bytes

  -- none was taken yet
  none_fed : Fed 0 s
  none_fed = subst (λ g. MovesOn r w.now s w.talk up g (arrived w) (come w) s) (sym (append-nil up)) (record {
    fresh = [];
    at = subst (λ c. IsServerAt r s w.talk up c (come w)) (sym (append-nil (arrived w))) (server_at r is w b s up ends opened);
    more = [];
    downs = sym (append-nil w.talk.downs);
    output = sym (append-nil s.link.output);
    moments = λ side stands. subst (λ x. LinkStands r (length up) x w.now s.link) (sym (side_still w.talk.ups side w.now (length up))) stands;
  })

  module _ (taken : ℕ) (mid : ServerState) (on : Fed taken mid) where
    abbrev given : List ℕ
    given = up ++ take taken piece

    abbrev talk : Talk
    talk = fold (heard_up r) w.talk on.fresh

    -- one more feed
    fed_goes : (result : Result ServerFed FeedError) (new : ServerState) → IsServerFed mid (drop taken piece) w.now result new
        → FeedsAlong r w.now mid talk given (drop taken piece) (arrived w ++ on.fresh) (come w) result new
    fed_goes result new fed =
        feed_goes r is mid talk given (drop taken piece) tail (arrived w ++ on.fresh) (come w) on.at
        (parted up piece tail taken ∙ (cut ∙ sym (ap stream_of (heard_all r w.talk on.fresh).ups)))
        (subst (Each IsByte) (sym (append_assoc up (take taken piece) (drop taken piece) ∙ ap (λ p. up ++ p) (take-append-drop taken piece))) all_bytes) w.now new result fed

    more_fed : (n : ℕ) (new : ServerState) → ServerTakes w.now mid (drop taken piece) n new → Fed (taken + n) new
    more_fed n new (arrival, fed) =
        let after = given ++ take n (drop taken piece) in
        subst (λ g. MovesOn r w.now s w.talk up g (arrived w) (come w) new)
        (append_assoc up (take taken piece) (take n (drop taken piece)) ∙ ap (λ p. up ++ p) (sym (take-add taken n piece)))
        (moves_join r w.now w.talk up given after (omega (arith, length-append up (take taken piece))) (omega (arith, length-append given (take n (drop taken piece))))
        s mid new (arrived w) (come w) on (fed_goes (Ok (record { used = n; arrival = arrival })) new fed))

  -- feeds lead on from feeds
  feeds_lead : (counts : List ℕ) (taken : ℕ) (from behind : Taking ServerState) → from.piece ≡ drop taken piece → Fed taken from.at
      → Leads (IsFeed (ServerTakes w.now)) from counts behind → (all : ℕ) × Fed all behind.at × (behind.piece ≡ drop all piece)
  feeds_lead [] taken from behind left on same = (taken, subst (λ (x : Taking ServerState). Fed taken x.at) same on, sym (ap (λ (x : Taking ServerState). x.piece) same) ∙ left)
  feeds_lead (n ∷ counts) taken from behind left on (next, fed, later) =
      feeds_lead counts (taken + n) next behind (fed.left ∙ (ap (drop n) left ∙ drop-drop n taken piece))
      (more_fed taken from.at on n next.at (subst (λ p. ServerTakes w.now from.at p n next.at) left fed.feeds)) later

  -- all was taken
  whole_up : (new : ServerState) → MovesOn r w.now s w.talk up (up ++ piece) (arrived w) (come w) new → IsPieceUp r w b s up piece new
  whole_up new on =
      let count : length (up ++ piece) ≡ w.up + length piece = omega (arith, length-append up piece, ends.stands.up_count) in
      let front : (up ++ piece) ++ tail ≡ stream_of w.talk.ups = append_assoc up piece tail ∙ cut in
      let few : length piece ≤ flying w.talk.ups w.up
      = omega (arith, ap length front, stream_size w.talk.ups, length-append (up ++ piece) tail, count) in
      let heard : fold (heard_up r) w.talk on.fresh ≡ (up_piece r w (length piece)).talk
      = up_heard r w b s up ends is (up ++ piece) tail new (length piece) on count front all_bytes in
      record {
        ends = up_ends r w b s up ends is (up ++ piece) tail new (length piece) on count few front all_bytes;
        ups = ap (λ (t : Talk). t.ups) (sym heard) ∙ (heard_all r w.talk on.fresh).ups;
        downs = record {
          bytes = frames (map body_of on.more);
          stream_is = ap (λ (t : Talk). stream_of t.downs) (sym heard) ∙ (ap stream_of on.downs ∙ stream_join w.talk.downs on.more);
          output_is = on.output;
        };
      }

  -- A piece that a server takes in feeds is a piece up.
  pub piece_ups : (new : ServerState) → TakesPiece (ServerTakes w.now) (ServerCloses w.now) s piece new → IsPieceUp r w b s up piece new
  piece_ups new takes =
      let (all, on, left) = feeds_lead takes.counts 0 (record { at = s; piece = piece }) takes.behind refl none_fed takes.fed in by all on left takes.ends
    where
      by : (all : ℕ) → Fed all takes.behind.at → takes.behind.piece ≡ drop all piece
          → ((takes.behind.piece ≡ []) × (new ≡ takes.behind.at)) ⊎ ((takes.behind.piece ≢ []) × ServerCloses w.now takes.behind.at takes.behind.piece new)
          → IsPieceUp r w b s up piece new
      by all on left (inl (none, same)) =
          let whole : take all piece ≡ piece
          = sym (append-nil (take all piece)) ∙ (ap (λ p. take all piece ++ p) (sym (sym left ∙ none)) ∙ take-append-drop all piece) in
          whole_up new (subst (λ p. MovesOn r w.now s w.talk up (up ++ p) (arrived w) (come w) new) whole (subst (λ x. Fed all x) (sym same) on))
      by all on left (inr (some, (why, closes))) =
          absurd (fed_goes all takes.behind.at on (Err (feed.Closed why)) new (subst (λ p. IsServerFed takes.behind.at p w.now (Err (feed.Closed why)) new) left closes))
