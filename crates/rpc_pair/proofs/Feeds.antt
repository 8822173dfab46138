-- Feeds of a book one after the other, each of what is left of a piece.
use Rattle.std.proofs.Common.{◌≡◌, refl, sym, ap, ◌∙◌, subst, ℕ, ◌+◌, ◌≤◌, List, [], ◌++◌, length, take, drop, arith, inl, inr, ◌⊎◌}
use Rattle.std.specs.Prelude.{Result, Ok, Err}
use Rattle.std.proofs.lemmas.List.{append-nil, length-drop, take-append-drop}
use Rattle.std.proofs.Math.Seq.{take-add}
use Rattle.readers.specs.Reader.{Each, IsByte}
use Rattle.readers.proofs.Readers.{each-rest}
use Rattle.rpc_msg.specs.declared.message.Message.{Message}
use Rattle.rpc_msg.specs.declared.shared.FeedError.{FeedError}
use Rattle.rpc_msg.specs.declared.shared.FeedError.TheVariants as feed
use Rattle.rpc_meeting.specs.Talks.{Common, Talk}
use Rattle.rpc_meeting.specs.Worlds.{stream_of}
use Rattle.rpc_book.specs.Books.{BookState}
use Rattle.rpc_book.specs.Feeds.{IsBookFed}
use Rattle.rpc_book.proofs.Once.{count_within}
use Rattle.rpc_pair.specs.Links.{LinkStands}
use Rattle.rpc_pair.specs.Rules.{IsOfSchema}
use Rattle.rpc_pair.proofs.BookFeeds.{GetsAlong, GetsOn, IsAtEnd, IsBookAt, IsFullAt, gets_goes}
use Rattle.rpc_pair.proofs.FeedMoments.{side_still}
use Rattle.rpc_pair.proofs.Given.{parted}
use Rattle.rpc_pair.proofs.Pieces.{gets_join}

-- so many bytes of a piece were taken by feeds, each up to the end of a frame or all that was left
pub record FeedsOn (r : Common) (now : ℕ) (b : BookState) (t : Talk) (piece : List ℕ) (up come : List Message) (taken : ℕ) (new : BookState) : Type 0 where
  pub gets : GetsOn r now b t (take taken piece) up come new
  pub within : taken ≤ length piece
  pub edge : (taken ≡ 0) ⊎ IsAtEnd piece taken new.link

-- one more feed: more was taken; it is closed only where there is no room; where memory ran out it is as it was
abbrev pub FeedsAlong : Common → ℕ → BookState → Talk → List ℕ → List Message → List Message → ℕ → BookState → Result ℕ FeedError → BookState → Type 0
FeedsAlong r now b t piece up come taken mid (Ok n) new = FeedsOn r now b t piece up come (taken + n) new
FeedsAlong r now b t piece up come taken mid (Err (feed.Closed why)) new = IsFullAt mid (drop taken piece) why new
FeedsAlong r now b t piece up come taken mid (Err feed.OutOfMemory) new = new ≡ mid

module _ (r : Common) (is : IsOfSchema r) (now : ℕ) (b : BookState) (t : Talk) (piece tail : List ℕ) (up come : List Message) where
  -- none was taken yet
  pub feeds_start : IsBookAt r b t up come → FeedsOn r now b t piece up come 0 b
  feeds_start at = record {
    gets = record {
      fresh = [];
      at = subst (IsBookAt r b t up) (sym (append-nil come)) at;
      got = sym (append-nil b.got);
      output = refl;
      moments = λ side stands. subst (λ x. LinkStands r (length b.got) x now b.link) (sym (side_still t.downs side now (length b.got))) stands;
    };
    within = omega arith;
    edge = inl refl;
  }

  -- Feeds go on by one more.
  pub feeds_next : (cut : b.got ++ (piece ++ tail) ≡ stream_of t.downs) (bytes : Each IsByte piece) (taken : ℕ) (mid : BookState) (answer : Result ℕ FeedError) (new : BookState)
      → FeedsOn r now b t piece up come taken mid → IsBookFed mid (drop taken piece) now answer new → FeedsAlong r now b t piece up come taken mid answer new
  feeds_next cut bytes taken mid answer new on fed = by answer fed (gets_goes r is mid t left tail up (come ++ on.gets.fresh) on.gets.at mid_cut left_bytes now new answer fed)
    where
      left : List ℕ
      left = drop taken piece

      mid_cut : mid.got ++ (left ++ tail) ≡ stream_of t.downs
      mid_cut = ap (λ g. g ++ (left ++ tail)) on.gets.got ∙ (parted b.got piece tail taken ∙ cut)

      left_bytes : Each IsByte left
      left_bytes = each-rest IsByte (take taken piece) left (subst (Each IsByte) (sym (take-append-drop taken piece)) bytes)

      by : (x : Result ℕ FeedError) → IsBookFed mid left now x new → GetsAlong r now mid t left up (come ++ on.gets.fresh) x new → FeedsAlong r now b t piece up come taken mid x new
      by (Ok n) (going, takes) (more, end) = record {
        gets = subst (λ s. GetsOn r now b t s up come new) (sym (take-add taken n piece)) (gets_join r now t b mid new (take taken piece) (take n left) up come on.gets more);
        within = omega (arith, on.within, count_within mid.link left n takes.room.0, length-drop taken piece);
        edge = inr (at_end end);
      }
        where
          at_end : IsAtEnd left n new.link → IsAtEnd piece (taken + n) new.link
          at_end (inl all) = inl (omega (arith, all, length-drop taken piece, on.within))
          at_end (inr empty) = inr empty
      by (Err (feed.Closed why)) closes full = full
      by (Err feed.OutOfMemory) kept same = same
