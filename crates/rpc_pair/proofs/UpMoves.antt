-- A movement to the server is the world's.
use Rattle.std.proofs.Common.{◌≡◌, refl, sym, ap, ◌∙◌, subst, ℕ, zero, suc, ◌-◌, ◌≤◌, ◌<◌, min, Bool, true, false, ◌||◌, nat_eq, if◌then◌else◌, List, [], ◌∷◌, ◌++◌, length, append_assoc, arith, inl, inr, ◌⊎◌}
use Rattle.std.specs.List.{concat}
use Rattle.std.proofs.lemmas.Bool.{ne_eqb}
use Rattle.std.proofs.lemmas.List.{append-nil, length-append}
use Rattle.rpc_meeting.specs.Talks.{Common}
use Rattle.rpc_meeting.specs.Worlds.{World, flying, is_shut, stream_of, total, up_piece, up_pieces}
use Rattle.rpc_book.specs.Books.{BookState}
use Rattle.rpc_server.specs.Servers.{ServerState}
use Rattle.rpc_pair.specs.Feeds.{ServerCloses, ServerTakes}
use Rattle.rpc_pair.specs.Moving.{IsMove, IsMoved, MoveEnds, Moving, TakesPiece}
use Rattle.rpc_pair.specs.Pairs.{is_server_closed}
use Rattle.rpc_pair.specs.Rules.{IsOfSchema}
use Rattle.rpc_pair.specs.Runs.{Leads}
use Rattle.rpc_pair.proofs.BothEnds.{EndsHold}
use Rattle.rpc_pair.proofs.Edges.{stream_size}
use Rattle.rpc_pair.proofs.Growing.{Grows, grows_none, grows_on}
use Rattle.rpc_pair.proofs.LinkLaws.{closed_same}
use Rattle.rpc_pair.proofs.NoMoves.{none_moves}
use Rattle.rpc_pair.proofs.PieceUps.{piece_ups}

-- ---- the world's pieces

or_true : (a : Bool) → (a || true) ≡ true
or_true true = refl
or_true false = refl

-- it goes on, or all is moved or the end is closed
pub goes_on : (shut : Bool) (n : ℕ) → shut ≡ false → 0 < n → (shut || nat_eq n 0) ≡ false
goes_on shut n opened some = ap (λ b. b || nat_eq n 0) opened ∙ ne_eqb n 0 (λ none. omega (arith, none, some))

pub stops_at : (shut : Bool) (n : ℕ) → (n ≡ 0) ⊎ (shut ≡ true) → (shut || nat_eq n 0) ≡ true
stops_at shut n (inl none) = ap (λ k. shut || nat_eq k 0) none ∙ or_true shut
stops_at shut n (inr closed) = ap (λ b. b || nat_eq n 0) closed

up_stops : (fuel : ℕ) (r : Common) (w : World) (n by : ℕ) → (n ≡ 0) ⊎ (is_shut w.server ≡ true) → up_pieces fuel r w n by ≡ w
up_stops zero r w n by stops = refl
up_stops (suc fuel) r w n by stops =
    ap (λ b. if b then w else up_pieces fuel r (up_piece r w (min n by)) (n - min n by) by) (stops_at (is_shut w.server) n stops)

up_next : (fuel : ℕ) (r : Common) (w : World) (n by : ℕ) → is_shut w.server ≡ false → 0 < n
    → up_pieces (suc fuel) r w n by ≡ up_pieces fuel r (up_piece r w (min n by)) (n - min n by) by
up_next fuel r w n by opened some =
    ap (λ b. if b then w else up_pieces fuel r (up_piece r w (min n by)) (n - min n by) by) (goes_on (is_shut w.server) n opened some)

-- ---- movements

-- a piece in front of others, and what stands behind them
pub first_piece : (piece pieces last tail : List ℕ) → ((piece ++ pieces) ++ last) ++ tail ≡ piece ++ ((pieces ++ last) ++ tail)
first_piece piece pieces last tail = ap (λ l. l ++ tail) (append_assoc piece pieces last) ∙ append_assoc piece (pieces ++ last) tail

-- both ends stand for the world behind a movement; what goes down grows, and nothing else is touched
pub record MovesUp (r : Common) (w to : World) (b : BookState) (s new : ServerState) (after : List ℕ) : Type 0 where
  pub ends : EndsHold r to b new after
  pub ups : to.talk.ups ≡ w.talk.ups
  pub downs : Grows (stream_of w.talk.downs) (stream_of to.talk.downs) s.link.output new.link.output
  pub down : to.down ≡ w.down
  pub now : to.now ≡ w.now

module _ (r : Common) (is : IsOfSchema r) (b : BookState) where
  abbrev Takes : ℕ → ServerState → List ℕ → ServerState → Type 0
  Takes now = TakesPiece (ServerTakes now) (ServerCloses now)

  abbrev Moves : ℕ → ℕ → Moving ServerState → List ℕ → Moving ServerState → Type 0
  Moves now by = IsMove is_server_closed (Takes now) by

  -- nothing more moves
  up_ended : (by fuel : ℕ) (w : World) (s : ServerState) (n : ℕ) (up last tail : List ℕ) (behind : Moving ServerState) (short : Bool) (new : ServerState) → EndsHold r w b s up
      → up ++ (last ++ tail) ≡ stream_of w.talk.ups → n ≤ flying w.talk.ups w.up → (short ≡ true → tail ≡ []) → record { at = s; left = n } ≡ behind
      → MoveEnds is_server_closed (Takes w.now) by short behind last new → MovesUp r w (up_pieces fuel r w n by) b s new (up ++ last)
  up_ended by fuel w s n up last tail behind true new ends cut few spent same (going, less, takes) =
      absurd (omega (
        arith,
        less,
        ap (λ (x : Moving ServerState). x.left) same,
        few,
        ends.stands.up_count,
        ap length cut,
        length-append up (last ++ tail),
        length-append last tail,
        ap length (spent refl),
        stream_size w.talk.ups,
      ))
  up_ended by fuel w s n up last tail behind false new ends cut few spent same (none, new_is, stops) =
      subst (λ x. MovesUp r w x b s new (up ++ last)) (sym (up_stops fuel r w n by (why stops)))
      (subst (λ x. MovesUp r w w b s x (up ++ last)) (sym is_same)
      (subst (λ l. MovesUp r w w b s s l) (sym (ap (λ l. up ++ l) none ∙ append-nil up))
      (record { ends = ends; ups = refl; downs = grows_none _ _ _ _ refl refl; down = refl; now = refl })))
    where
      is_same : new ≡ s
      is_same = new_is ∙ sym (ap (λ (x : Moving ServerState). x.at) same)

      why : (behind.left ≡ 0) ⊎ (is_server_closed new ≡ true) → (n ≡ 0) ⊎ (is_shut w.server ≡ true)
      why (inl all) = inl (ap (λ (x : Moving ServerState). x.left) same ∙ all)
      why (inr closed) = inr (sym (closed_same r w.up w.server w.now s.link ends.stands.server_link) ∙ (sym (ap is_server_closed is_same) ∙ closed))

  up_goes : (by : ℕ) → 1 ≤ by → (pieces : List (List ℕ)) (fuel : ℕ) (w : World) (s : ServerState) (n : ℕ) (up last tail : List ℕ) (behind : Moving ServerState) (short : Bool)
      (new : ServerState) → EndsHold r w b s up → up ++ ((concat pieces ++ last) ++ tail) ≡ stream_of w.talk.ups → n ≤ fuel → n ≤ flying w.talk.ups w.up
      → (short ≡ true → tail ≡ []) → Leads (Moves w.now by) (record { at = s; left = n }) pieces behind
      → MoveEnds is_server_closed (Takes w.now) by short behind last new → MovesUp r w (up_pieces fuel r w n by) b s new (up ++ (concat pieces ++ last))
  up_goes by some [] fuel w s n up last tail behind short new ends cut enough few spent same ended =
      up_ended by fuel w s n up last tail behind short new ends cut few spent same ended
  up_goes by some (piece ∷ pieces) zero w s n up last tail behind short new ends cut enough few spent (next, move, later) ended =
      absurd (omega (arith, move.some, enough))
  up_goes by some (piece ∷ pieces) (suc fuel) w s n up last tail behind short new ends cut enough few spent (next, move, later) ended =
      let opened : is_shut w.server ≡ false = sym (closed_same r w.up w.server w.now s.link ends.stands.server_link) ∙ move.going in
      let size : length piece ≡ min n by = omega (arith, move.size) in
      let rest = (concat pieces ++ last) ++ tail in
      let first : up ++ (piece ++ rest) ≡ stream_of w.talk.ups = ap (λ l. up ++ l) (sym (first_piece piece (concat pieces) last tail)) ∙ cut in
      let one = piece_ups r is w b s up ends opened piece rest first move.takes.bytes next.at move.takes in
      let w_next = up_piece r w (length piece) in
      let left : n - length piece ≤ flying w_next.talk.ups w_next.up = omega (arith, few, ap total one.ups, size) in
      let more = up_goes by some pieces fuel w_next next.at (n - length piece) (up ++ piece) last tail behind short new one.ends
      (append_assoc up piece rest ∙ (first ∙ sym (ap stream_of one.ups))) (omega (arith, enough, size, some, move.some)) left spent
      (subst (λ k. Leads (Moves w.now by) (record { at = next.at; left = k }) pieces behind) move.left later) ended in
      let world : up_pieces (suc fuel) r w n by ≡ up_pieces fuel r w_next (n - length piece) by
      = up_next fuel r w n by opened move.some ∙ ap (λ k. up_pieces fuel r (up_piece r w k) (n - k) by) (sym size) in
      subst (λ x. MovesUp r w x b s new (up ++ ((piece ++ concat pieces) ++ last))) (sym world) (record {
        ends = subst (EndsHold r (up_pieces fuel r w_next (n - length piece) by) b new)
            (append_assoc up piece (concat pieces ++ last) ∙ ap (λ l. up ++ l) (sym (append_assoc piece (concat pieces) last))) more.ends;
        ups = more.ups ∙ one.ups;
        downs = grows_on _ _ _ _ _ _ one.downs more.downs;
        down = more.down;
        now = more.now;
      })

  -- What an honest wire gives in a movement to the server is what moves up in the world.
  pub up_moves : (by fuel : ℕ) (w : World) (s : ServerState) (n : ℕ) (up bytes tail : List ℕ) (short : Bool) (new : ServerState) → EndsHold r w b s up
      → up ++ (bytes ++ tail) ≡ stream_of w.talk.ups → n ≤ fuel → n ≤ flying w.talk.ups w.up → (short ≡ true → tail ≡ [])
      → IsMoved is_server_closed (Takes w.now) n by s bytes short new → MovesUp r w (up_pieces fuel r w n by) b s new (up ++ bytes)
  up_moves zero fuel w s n up bytes tail short new ends cut enough few spent moved =
      let (same, none) = none_moves is_server_closed (ServerTakes w.now) (ServerCloses w.now) moved.pieces (record { at = s; left = n }) moved.behind moved.moved in
      let all : bytes ≡ moved.last = moved.all ∙ ap (λ l. l ++ moved.last) none in
      subst (λ l. MovesUp r w (up_pieces fuel r w n 0) b s new (up ++ l)) (sym all)
      (up_ended 0 fuel w s n up moved.last tail moved.behind short new ends (ap (λ l. up ++ (l ++ tail)) (sym all) ∙ cut) few spent (sym same) moved.ends)
  up_moves (suc k) fuel w s n up bytes tail short new ends cut enough few spent moved =
      subst (λ l. MovesUp r w (up_pieces fuel r w n (suc k)) b s new (up ++ l)) (sym moved.all)
      (up_goes (suc k) (omega arith) moved.pieces fuel w s n up moved.last tail moved.behind short new ends (ap (λ l. up ++ (l ++ tail)) (sym moved.all) ∙ cut) enough few spent
      moved.moved moved.ends)
