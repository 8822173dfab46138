-- A movement to the client is the world's: once its journal has no room it is closed, and nothing more moves.
use Rattle.std.proofs.Common.{◌≡◌, refl, sym, ap, ◌∙◌, subst, ℕ, zero, suc, ◌+◌, ◌-◌, ◌≤◌, ◌<◌, min, Bool, true, false, if◌then◌else◌, List, [], ◌∷◌, ◌++◌, length, append_assoc, arith, inl, inr, ◌⊎◌}
use Rattle.std.specs.List.{concat}
use Rattle.std.proofs.lemmas.List.{length-append}
use Rattle.rpc_end.specs.Ends.{is_closed}
use Rattle.rpc_meeting.specs.Talks.{Common}
use Rattle.rpc_meeting.specs.Worlds.{World, down_piece, down_pieces, flying, is_shut, journal, stream_of}
use Rattle.rpc_book.specs.Books.{BookState}
use Rattle.rpc_server.specs.Servers.{ServerState}
use Rattle.rpc_pair.specs.Feeds.{BookCloses, BookTakes}
use Rattle.rpc_pair.specs.Moving.{IsMove, IsMoved, MoveEnds, Moving, TakesPiece}
use Rattle.rpc_pair.specs.Pairs.{is_book_closed}
use Rattle.rpc_pair.specs.Rules.{IsOfSchema}
use Rattle.rpc_pair.specs.Runs.{Leads}
use Rattle.rpc_pair.proofs.BothEnds.{EndsHold}
use Rattle.rpc_pair.proofs.Edges.{stream_size}
use Rattle.rpc_pair.proofs.LinkLaws.{closed_same}
use Rattle.rpc_pair.proofs.NoMoves.{none_moves}
use Rattle.rpc_pair.proofs.PieceDowns.{IsPieceDown, piece_ends}
use Rattle.rpc_pair.proofs.UpMoves.{first_piece, goes_on, stops_at}

-- ---- the world's pieces

down_stops : (fuel : ℕ) (w : World) (n by : ℕ) → (n ≡ 0) ⊎ (is_shut w.client ≡ true) → down_pieces fuel w n by ≡ w
down_stops zero w n by stops = refl
down_stops (suc fuel) w n by stops =
    ap (λ b. if b then w else down_pieces fuel (down_piece w (min n by)) (n - min n by) by) (stops_at (is_shut w.client) n stops)

down_next : (fuel : ℕ) (w : World) (n by : ℕ) → is_shut w.client ≡ false → 0 < n
    → down_pieces (suc fuel) w n by ≡ down_pieces fuel (down_piece w (min n by)) (n - min n by) by
down_next fuel w n by opened some =
    ap (λ b. if b then w else down_pieces fuel (down_piece w (min n by)) (n - min n by) by) (goes_on (is_shut w.client) n opened some)

-- ---- movements

-- both ends stand for the world behind a movement of so many bytes, which touches nothing else
pub record MovesDown (r : Common) (w to : World) (b new : BookState) (s : ServerState) (up : List ℕ) (count : ℕ) : Type 0 where
  pub ends : EndsHold r to new s up
  pub output : new.link.output ≡ b.link.output
  pub talk : to.talk ≡ w.talk
  pub down : to.down ≡ w.down + count
  pub ups : to.up ≡ w.up
  pub now : to.now ≡ w.now

module _ (r : Common) (is : IsOfSchema r) (s : ServerState) (up : List ℕ) where
  abbrev Takes : ℕ → BookState → List ℕ → BookState → Type 0
  Takes now = TakesPiece (BookTakes now) (BookCloses now)

  abbrev Moves : ℕ → ℕ → Moving BookState → List ℕ → Moving BookState → Type 0
  Moves now by = IsMove is_book_closed (Takes now) by

  closed_here : (w : World) (b : BookState) → EndsHold r w b s up → is_closed b.link ≡ is_shut w.client
  closed_here w b ends = closed_same r w.got w.client w.now b.link ends.stands.book_link

  -- nothing more moves
  down_ended : (by fuel : ℕ) (w : World) (b : BookState) (n : ℕ) (last tail : List ℕ) (behind : Moving BookState) (short : Bool) (new : BookState) → EndsHold r w b s up
      → (is_shut w.client ≡ false → b.got ++ (last ++ tail) ≡ stream_of w.talk.downs) → n ≤ flying w.talk.downs w.down → (short ≡ true → tail ≡ [])
      → record { at = b; left = n } ≡ behind → MoveEnds is_book_closed (Takes w.now) by short behind last new
      → MovesDown r w (down_pieces fuel w n by) b new s up (length last)
  down_ended by fuel w b n last tail behind true new ends cut few spent same (going, less, takes) =
      let opened : is_shut w.client ≡ false
      = sym (closed_here w b ends) ∙ (ap (λ (x : Moving BookState). is_book_closed x.at) same ∙ going) in
      absurd (omega (
        arith,
        less,
        ap (λ (x : Moving BookState). x.left) same,
        few,
        ends.stands.got_count,
        ends.good.taken opened,
        ap length (cut opened),
        length-append b.got (last ++ tail),
        length-append last tail,
        ap length (spent refl),
        stream_size w.talk.downs,
      ))
  down_ended by fuel w b n last tail behind false new ends cut few spent same (none, new_is, stops) =
      subst (λ x. MovesDown r w x b new s up (length last)) (sym (down_stops fuel w n by (why stops)))
      (subst (λ x. MovesDown r w w b x s up (length last)) (sym is_same)
      (record { ends = ends; output = refl; talk = refl; down = omega (arith, ap length none); ups = refl; now = refl }))
    where
      is_same : new ≡ b
      is_same = new_is ∙ sym (ap (λ (x : Moving BookState). x.at) same)

      why : (behind.left ≡ 0) ⊎ (is_book_closed new ≡ true) → (n ≡ 0) ⊎ (is_shut w.client ≡ true)
      why (inl all) = inl (ap (λ (x : Moving BookState). x.left) same ∙ all)
      why (inr closed) = inr (sym (closed_here w b ends) ∙ (sym (ap is_book_closed is_same) ∙ closed))

  -- what stands behind a piece, while the book is not closed
  rest_cut : (w : World) (b : BookState) (piece rest : List ℕ) (new : BookState) → b.got ++ (piece ++ rest) ≡ stream_of w.talk.downs → IsPieceDown r w b s up piece new
      → is_shut (down_piece w (length piece)).client ≡ false → new.got ++ rest ≡ stream_of w.talk.downs
  rest_cut w b piece rest new cut one opened = by one.did
    where
      by : ((is_closed new.link ≡ false) × (new.got ≡ b.got ++ piece) × (w.got + length piece ≤ journal)) ⊎ ((is_closed new.link ≡ true) × (journal < w.got + length piece))
          → new.got ++ rest ≡ stream_of w.talk.downs
      by (inl (going, got, fits)) = ap (λ g. g ++ rest) got ∙ (append_assoc b.got piece rest ∙ cut)
      by (inr (closed, over)) = absurd (let line : true ≡ false = sym closed ∙ (closed_here (down_piece w (length piece)) new one.ends ∙ opened) in cc)

  down_goes : (by : ℕ) → 1 ≤ by → (pieces : List (List ℕ)) (fuel : ℕ) (w : World) (b : BookState) (n : ℕ) (last tail : List ℕ) (behind : Moving BookState) (short : Bool)
      (new : BookState) → EndsHold r w b s up → (is_shut w.client ≡ false → b.got ++ ((concat pieces ++ last) ++ tail) ≡ stream_of w.talk.downs) → n ≤ fuel
      → n ≤ flying w.talk.downs w.down → (short ≡ true → tail ≡ []) → Leads (Moves w.now by) (record { at = b; left = n }) pieces behind
      → MoveEnds is_book_closed (Takes w.now) by short behind last new → MovesDown r w (down_pieces fuel w n by) b new s up (length (concat pieces ++ last))
  down_goes by some [] fuel w b n last tail behind short new ends cut enough few spent same ended =
      down_ended by fuel w b n last tail behind short new ends cut few spent same ended
  down_goes by some (piece ∷ pieces) zero w b n last tail behind short new ends cut enough few spent (next, move, later) ended =
      absurd (omega (arith, move.some, enough))
  down_goes by some (piece ∷ pieces) (suc fuel) w b n last tail behind short new ends cut enough few spent (next, move, later) ended =
      let opened : is_shut w.client ≡ false = sym (closed_here w b ends) ∙ move.going in
      let size : length piece ≡ min n by = omega (arith, move.size) in
      let rest = (concat pieces ++ last) ++ tail in
      let first : b.got ++ (piece ++ rest) ≡ stream_of w.talk.downs = ap (λ l. b.got ++ l) (sym (first_piece piece (concat pieces) last tail)) ∙ cut opened in
      let one = piece_ends r is w b s up ends opened piece rest first move.takes.bytes next.at move.takes in
      let w_next = down_piece w (length piece) in
      let more = down_goes by some pieces fuel w_next next.at (n - length piece) last tail behind short new one.ends (rest_cut w b piece rest next.at first one)
      (omega (arith, enough, size, some, move.some)) (omega (arith, few, size)) spent
      (subst (λ k. Leads (Moves w.now by) (record { at = next.at; left = k }) pieces behind) move.left later) ended in
      let world : down_pieces (suc fuel) w n by ≡ down_pieces fuel w_next (n - length piece) by
      = down_next fuel w n by opened move.some ∙ ap (λ k. down_pieces fuel (down_piece w k) (n - k) by) (sym size) in
      subst (λ x. MovesDown r w x b new s up (length ((piece ++ concat pieces) ++ last))) (sym world) (record {
        ends = more.ends;
        output = more.output ∙ one.output;
        talk = more.talk;
        down = omega (arith, more.down, ap length (append_assoc piece (concat pieces) last), length-append piece (concat pieces ++ last));
        ups = more.ups;
        now = more.now;
      })

  -- What an honest wire gives in a movement to the client is what moves down in the world.
  pub down_moves : (by fuel : ℕ) (w : World) (b : BookState) (n : ℕ) (bytes tail : List ℕ) (short : Bool) (new : BookState) → EndsHold r w b s up
      → (is_shut w.client ≡ false → b.got ++ (bytes ++ tail) ≡ stream_of w.talk.downs) → n ≤ fuel → n ≤ flying w.talk.downs w.down → (short ≡ true → tail ≡ [])
      → IsMoved is_book_closed (Takes w.now) n by b bytes short new → MovesDown r w (down_pieces fuel w n by) b new s up (length bytes)
  down_moves zero fuel w b n bytes tail short new ends cut enough few spent moved =
      let (same, none) = none_moves is_book_closed (BookTakes w.now) (BookCloses w.now) moved.pieces (record { at = b; left = n }) moved.behind moved.moved in
      let all : bytes ≡ moved.last = moved.all ∙ ap (λ l. l ++ moved.last) none in
      subst (λ l. MovesDown r w (down_pieces fuel w n 0) b new s up (length l)) (sym all)
      (down_ended 0 fuel w b n moved.last tail moved.behind short new ends (λ opened. ap (λ l. b.got ++ (l ++ tail)) (sym all) ∙ cut opened) few spent (sym same) moved.ends)
  down_moves (suc k) fuel w b n bytes tail short new ends cut enough few spent moved =
      subst (λ l. MovesDown r w (down_pieces fuel w n (suc k)) b new s up (length l)) (sym moved.all)
      (down_goes (suc k) (omega arith) moved.pieces fuel w b n moved.last tail moved.behind short new ends
      (λ opened. ap (λ l. b.got ++ (l ++ tail)) (sym moved.all) ∙ cut opened) enough few spent moved.moved moved.ends)
