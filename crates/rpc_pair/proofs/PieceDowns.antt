-- A piece that goes down, in whatever feeds the book takes it, is the world's: taken whole where it fits, and else up to the limit.
use Rattle.std.proofs.Common.{◌≡◌, ◌≢◌, refl, sym, ap, ◌∙◌, subst, ℕ, ◌+◌, ◌≤◌, ◌<◌, true, false, List, [], ◌∷◌, ◌++◌, length, drop, arith, inl, inr, ◌⊎◌}
use Rattle.std.specs.Prelude.{Option, Ok, Err}
use Rattle.std.specs.Option.{is_some}
use Rattle.std.proofs.lemmas.List.{drop-drop, length-drop, take_all}
use Rattle.readers.specs.Reader.{Each, IsByte}
use Rattle.rpc_msg.specs.declared.shared.CloseCause.{CloseCause}
use Rattle.rpc_msg.specs.declared.shared.FeedError.TheVariants as feed
use Rattle.rpc_end.specs.Ends.{is_closed, shut_by}
use Rattle.rpc_meeting.specs.Talks.{Common}
use Rattle.rpc_meeting.specs.Worlds.{World, arrived, come, down_piece, is_shut, journal, stream_of}
use Rattle.rpc_book.specs.Books.{BookState}
use Rattle.rpc_server.specs.Servers.{ServerState}
use Rattle.rpc_pair.specs.Feeds.{BookCloses, BookTakes}
use Rattle.rpc_pair.specs.Moving.{IsFeed, TakesPiece, Taking}
use Rattle.rpc_pair.specs.Rules.{IsOfSchema}
use Rattle.rpc_pair.specs.Runs.{Leads}
use Rattle.rpc_pair.proofs.BookFeeds.{IsFullAt}
use Rattle.rpc_pair.proofs.BothEnds.{EndsHold, book_at}
use Rattle.rpc_pair.proofs.EndDowns.{down_ends, full_ends, full_over, whole_fits}
use Rattle.rpc_pair.proofs.Feeds.{FeedsOn, feeds_next, feeds_start}

-- both ends stand for the world behind a piece; nothing more is to go out, and a book that is not closed got the piece, which fits
pub record IsPieceDown (r : Common) (w : World) (b : BookState) (s : ServerState) (up piece : List ℕ) (new : BookState) : Type 0 where
  pub ends : EndsHold r (down_piece w (length piece)) new s up
  pub output : new.link.output ≡ b.link.output
  pub did : ((is_closed new.link ≡ false) × (new.got ≡ b.got ++ piece) × (w.got + length piece ≤ journal))
      ⊎ ((is_closed new.link ≡ true) × (journal < w.got + length piece))

module _ (r : Common) (is : IsOfSchema r) (w : World) (b : BookState) (s : ServerState) (up : List ℕ) (ends : EndsHold r w b s up) (opened : is_shut w.client ≡ false)
    (piece tail : List ℕ) (cut : b.got ++ (piece ++ tail) ≡ stream_of w.talk.downs) (bytes : Each IsByte piece) where
  abbrev Fed : ℕ → BookState → Type 0
  Fed taken new = FeedsOn r w.now b w.talk piece (arrived w) (come w) taken new

  -- feeds lead on from feeds
  feeds_lead : (counts : List ℕ) (taken : ℕ) (from behind : Taking BookState) → from.piece ≡ drop taken piece → Fed taken from.at
      → Leads (IsFeed (BookTakes w.now)) from counts behind → (all : ℕ) × Fed all behind.at × (behind.piece ≡ drop all piece)
  feeds_lead [] taken from behind left on same = (taken, subst (λ (x : Taking BookState). Fed taken x.at) same on, sym (ap (λ (x : Taking BookState). x.piece) same) ∙ left)
  feeds_lead (n ∷ counts) taken from behind left on (next, fed, later) =
      let one = subst (λ p. BookTakes w.now from.at p n next.at) left fed.feeds in
      let rest : next.piece ≡ drop (taken + n) piece = fed.left ∙ (ap (drop n) left ∙ drop-drop n taken piece) in
      feeds_lead counts (taken + n) next behind rest
      (feeds_next r is w.now b w.talk piece tail (arrived w) (come w) cut bytes taken from.at (Ok n) next.at on one) later

  -- none is left
  whole_taken : (new : BookState) → Fed (length piece) new → IsPieceDown r w b s up piece new
  whole_taken new on = record {
    ends = down_ends r is w b s up ends opened piece tail cut (length piece) new on;
    output = on.gets.output;
    did = inl (
      ap (λ (o : Option CloseCause). is_some o) on.gets.at.going,
      on.gets.got ∙ ap (λ p. b.got ++ p) (take_all (length piece) piece (omega arith)),
      whole_fits r is w b s up ends opened piece tail cut new on,
    );
  }

  -- there is no room for the rest
  rest_over : (taken : ℕ) (mid : BookState) → Fed taken mid → (why : CloseCause) (new : BookState) → IsFullAt mid (drop taken piece) why new → IsPieceDown r w b s up piece new
  rest_over taken mid on why new full = record {
    ends = full_ends r is w b s up ends opened piece tail cut bytes taken mid on full.0 why new full;
    output = ap (λ (x : BookState). x.link.output) full.2 ∙ (ap (λ o. (shut_by mid.link why o).output) on.gets.at.going ∙ on.gets.output);
    did = inr (
      ap (λ (x : BookState). is_closed x.link) full.2 ∙ ap (λ o. is_closed (shut_by mid.link why o)) on.gets.at.going,
      full_over r is w b s up ends opened piece tail cut bytes taken mid on full.0,
    );
  }

  -- A piece that a book takes in feeds is a piece down.
  pub piece_ends : (new : BookState) → TakesPiece (BookTakes w.now) (BookCloses w.now) b piece new → IsPieceDown r w b s up piece new
  piece_ends new takes =
      let (all, on, left) = feeds_lead takes.counts 0 (record { at = b; piece = piece }) takes.behind refl
      (feeds_start r is w.now b w.talk piece tail (arrived w) (come w) (book_at r is w b s up ends opened)) takes.fed in
      by all on left takes.ends
    where
      by : (all : ℕ) → Fed all takes.behind.at → takes.behind.piece ≡ drop all piece
          → ((takes.behind.piece ≡ []) × (new ≡ takes.behind.at)) ⊎ ((takes.behind.piece ≢ []) × BookCloses w.now takes.behind.at takes.behind.piece new)
          → IsPieceDown r w b s up piece new
      by all on left (inl (none, same)) =
          let count : all ≡ length piece = omega (arith, on.within, length-drop all piece, ap length left, ap length none) in
          whole_taken new (subst (λ x. Fed (length piece) x) (sym same) (subst (λ k. Fed k takes.behind.at) count on))
      by all on left (inr (some, (why, closes))) =
          rest_over all takes.behind.at on why new
          (feeds_next r is w.now b w.talk piece tail (arrived w) (come w) cut bytes all takes.behind.at (Err (feed.Closed why)) new on
          (subst (λ p. BookCloses w.now takes.behind.at p new) left (why, closes)).1)
