-- What feeds keep, a movement keeps: whatever holds of an end and all bytes that came to it.
use Rattle.std.proofs.Common.{◌≡◌, ◌≢◌, sym, ap, ◌∙◌, subst, ℕ, Bool, true, false, List, [], ◌∷◌, ◌++◌, take, drop, append_assoc, inl, inr, ◌⊎◌}
use Rattle.std.specs.List.{concat}
use Rattle.std.proofs.lemmas.List.{append-nil, take-append-drop}
use Rattle.readers.specs.Reader.{Each, IsByte}
use Rattle.readers.proofs.Readers.{each-join, each-rest}
use Rattle.rpc_pair.specs.Moving.{IsFeed, IsMove, IsMoved, MoveEnds, Moving, TakesPiece, Taking}
use Rattle.rpc_pair.specs.Runs.{Leads}

-- Of an end and the bytes that came, something holds, and more while it goes on; a feed that takes some keeps that it goes on, and one that
-- closes the end that it holds.
pub record Kept {S : Type 0} (closed : S → Bool) (Feeds : S → List ℕ → ℕ → S → Type 0) (Closes : S → List ℕ → S → Type 0) (Holds Goes : List ℕ → S → Type 0) : Type 0 where
  pub goes : (given : List ℕ) (s : S) → closed s ≡ false → Holds given s → Goes given s
  pub holds : (given : List ℕ) (s : S) → Goes given s → Holds given s
  pub takes : (given : List ℕ) (s : S) (piece : List ℕ) (n : ℕ) (new : S) → Each IsByte piece → Goes given s → Feeds s piece n new → Goes (given ++ take n piece) new
  pub closes : (given : List ℕ) (s : S) (piece : List ℕ) (new : S) → Each IsByte piece → Goes given s → Closes s piece new → Holds (given ++ piece) new

module _ {S : Type 0} (closed : S → Bool) (Feeds : S → List ℕ → ℕ → S → Type 0) (Closes : S → List ℕ → S → Type 0) (Holds Goes : List ℕ → S → Type 0)
    (kept : Kept closed Feeds Closes Holds Goes) where
  -- ---- a piece

  -- feeds took all up to what is left
  record FedTo (given piece : List ℕ) (behind : Taking S) : Type 0 where
    taken : List ℕ
    cut : taken ++ behind.piece ≡ given ++ piece
    going : Goes taken behind.at
    rest : Each IsByte behind.piece

  feeds_lead : (counts : List ℕ) (given : List ℕ) (from behind : Taking S) → Each IsByte from.piece → Goes given from.at → Leads (IsFeed Feeds) from counts behind
      → FedTo given from.piece behind
  feeds_lead [] given from behind bytes going same = record {
    taken = given;
    cut = ap (λ (x : Taking S). given ++ x.piece) (sym same);
    going = subst (λ (x : Taking S). Goes given x.at) same going;
    rest = subst (λ (x : Taking S). Each IsByte x.piece) same bytes;
  }
  feeds_lead (n ∷ counts) given from behind bytes going (next, fed, later) =
      let left = each-rest IsByte (take n from.piece) (drop n from.piece) (subst (Each IsByte) (sym (take-append-drop n from.piece)) bytes) in
      let rest = feeds_lead counts (given ++ take n from.piece) next behind (subst (Each IsByte) (sym fed.left) left)
      (kept.takes given from.at from.piece n next.at bytes going fed.feeds) later in
      record {
        taken = rest.taken;
        cut = rest.cut ∙ (ap (λ p. (given ++ take n from.piece) ++ p) fed.left ∙ (append_assoc given (take n from.piece) (drop n from.piece)
            ∙ ap (λ p. given ++ p) (take-append-drop n from.piece)));
        going = rest.going;
        rest = rest.rest;
      }

  piece_kept : (given : List ℕ) (old : S) (piece : List ℕ) (new : S) → closed old ≡ false → Holds given old → TakesPiece Feeds Closes old piece new → Holds (given ++ piece) new
  piece_kept given old piece new open_ holds takes =
      by (feeds_lead takes.counts given (record { at = old; piece = piece }) takes.behind takes.bytes (kept.goes given old open_ holds) takes.fed) takes.ends
    where
      by : FedTo given piece takes.behind → ((takes.behind.piece ≡ []) × (new ≡ takes.behind.at)) ⊎ ((takes.behind.piece ≢ []) × Closes takes.behind.at takes.behind.piece new)
          → Holds (given ++ piece) new
      by fed (inl (none, same)) =
          subst (λ g. Holds g new) (sym (append-nil fed.taken) ∙ (ap (λ p. fed.taken ++ p) (sym none) ∙ fed.cut))
          (subst (Holds fed.taken) (sym same) (kept.holds fed.taken takes.behind.at fed.going))
      by fed (inr (some, stops)) = subst (λ g. Holds g new) fed.cut (kept.closes fed.taken takes.behind.at takes.behind.piece new fed.rest fed.going stops)

  -- ---- pieces

  -- what holds, and that all are bytes
  abbrev pub HoldsOn : List ℕ → List ℕ → S → Type 0
  HoldsOn given bytes new = Holds (given ++ bytes) new × Each IsByte bytes

  pieces_kept : (by : ℕ) (pieces : List (List ℕ)) (given : List ℕ) (from behind : Moving S) → Holds given from.at
      → Leads (IsMove closed (TakesPiece Feeds Closes) by) from pieces behind → HoldsOn given (concat pieces) behind.at
  pieces_kept by [] given from behind holds same = (subst (λ g. Holds g behind.at) (sym (append-nil given)) (subst (λ (x : Moving S). Holds given x.at) same holds), tt)
  pieces_kept by (piece ∷ pieces) given from behind holds (next, move, later) =
      let (rest, bytes) = pieces_kept by pieces (given ++ piece) next behind (piece_kept given from.at piece next.at move.going holds move.takes) later in
      (subst (λ g. Holds g behind.at) (append_assoc given piece (concat pieces)) rest, each-join IsByte piece (concat pieces) move.takes.bytes bytes)

  ends_kept : (by : ℕ) (given : List ℕ) (short : Bool) (behind : Moving S) (last : List ℕ) (new : S) → Holds given behind.at
      → MoveEnds closed (TakesPiece Feeds Closes) by short behind last new → HoldsOn given last new
  ends_kept by given false behind last new holds (none, same, stops) =
      subst (λ l. HoldsOn given l new) (sym none) (subst (λ g. Holds g new) (sym (append-nil given)) (subst (Holds given) (sym same) holds), tt)
  ends_kept by given true behind last new holds (going, less, takes) = (piece_kept given behind.at last new going holds takes, takes.bytes)

  pub move_kept : (count by : ℕ) (given : List ℕ) (old : S) (bytes : List ℕ) (short : Bool) (new : S) → Holds given old
      → IsMoved closed (TakesPiece Feeds Closes) count by old bytes short new → HoldsOn given bytes new
  move_kept count by given old bytes short new holds moved =
      let (first, front) = pieces_kept by moved.pieces given (record { at = old; left = count }) moved.behind holds moved.moved in
      let (all, last) = ends_kept by (given ++ concat moved.pieces) short moved.behind moved.last new first moved.ends in
      subst (λ b. HoldsOn given b new) (sym moved.all)
      (subst (λ g. Holds g new) (append_assoc given (concat moved.pieces) moved.last) all, each-join IsByte (concat moved.pieces) moved.last front last)
