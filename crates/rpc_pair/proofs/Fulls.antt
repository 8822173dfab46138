-- A book whose journal has no room for what it would take next: it keeps the frames that fit, and closes with the client's side of the world.
use Rattle.std.proofs.Common.{◌≡◌, refl, sym, ap, ◌∙◌, subst, ℕ, ◌+◌, ◌-◌, ◌≤◌, ◌<◌, max, List, [], ◌∷◌, ◌++◌, length, take, drop, append_assoc, arith, inl, inr, ◌⊎◌}
use Rattle.std.specs.Prelude.{None}
use Rattle.std.proofs.lemmas.List.{length-append, length-drop, length-take, take_all}
use Rattle.std.proofs.Math.Seq.{take-add, take-append-add}
use Rattle.readers.specs.Reader.{Each, IsByte, IsProperFront}
use Rattle.readers.proofs.Readers.{each-join}
use Rattle.rpc_frame.specs.Frames.{IsFrame, frames}
use Rattle.rpc_frame.specs.States.{stream_place}
use Rattle.rpc_frame.specs.Streams.{AreBodies, AreWithin}
use Rattle.rpc_msg.specs.declared.shared.CloseCause.TheVariants as cause
use Rattle.rpc_end.specs.Ends.{EndState, EndsFrame, FrameGoesOn, WouldTakeOf, closed_by, holding}
use Rattle.rpc_meeting.specs.Talks.{Common, Talk}
use Rattle.rpc_meeting.specs.Worlds.{boundary, came_bodies, journal, stream_of}
use Rattle.rpc_meeting.proofs.Lines.{most}
use Rattle.rpc_msg.specs.declared.message.Message.{Message}
use Rattle.rpc_book.specs.Books.{BookState}
use Rattle.rpc_book.specs.Feeds.{IsFull}
use Rattle.rpc_book.proofs.Once.{count_within}
use Rattle.rpc_pair.specs.Rules.{IsOfSchema}
use Rattle.rpc_pair.proofs.BookFeeds.{IsBookAt, never_faulty}
use Rattle.rpc_pair.proofs.Edges.{edge_frames, edges_grow}
use Rattle.rpc_pair.proofs.Given.{given_are, parted, parted_bytes}
use Rattle.rpc_pair.proofs.Sendable.{downs_opened, downs_within}

one_of : (xs : List ℕ) → 1 ≤ length xs → (x : ℕ) × (take 1 xs ≡ x ∷ [])
one_of [] some = absurd (omega (arith, some))
one_of (x ∷ xs) some = (x, refl)

-- a frame without its last byte goes on
ends_goes_on : (e : EndState) (piece body : List ℕ) (j : ℕ) → EndsFrame e piece body (j + 1) → j + 1 ≤ length piece → FrameGoesOn e (take j piece)
ends_goes_on e piece body j (le, stands) few =
    let (x, last) = one_of (drop j piece) (omega (arith, few, length-drop j piece)) in
    let all : take (length e.held + (j + 1)) (e.held ++ piece) ≡ (e.held ++ take j piece) ++ x ∷ []
    = take-append-add e.held piece (j + 1)
    ∙ (ap (λ s. e.held ++ s) (take-add j 1 piece ∙ ap (λ s. take j piece ++ s) last) ∙ sym (append_assoc e.held (take j piece) (x ∷ []))) in
    (body, x, [], subst (IsFrame e.max body) all stands)

module _ (r : Common) (is : IsOfSchema r) (b : BookState) (t : Talk) (piece tail : List ℕ) (up come : List Message) (at : IsBookAt r b t up come)
    (cut : b.got ++ (piece ++ tail) ≡ stream_of t.downs) (bytes : Each IsByte piece) (full : IsFull b piece) where
  -- the bodies of what came are those of its bytes
  bodies_here : (j : ℕ) (held : List ℕ) → AreBodies (most r) (b.got ++ take j piece) at.bodies held → at.bodies ≡ came_bodies t.downs (length (b.got ++ take j piece))
  bodies_here j held are =
      given_are r is t.downs (downs_within r is t at.meets.carried) (downs_opened r is t at.meets.carried) (b.got ++ take j piece) (drop j piece ++ tail)
      (parted b.got piece tail j ∙ cut) (parted_bytes b.got piece j (each-join IsByte b.got piece at.bytes bytes)) at.bodies held are

  -- no frame ends in these bytes of the piece
  goes_on : (j : ℕ) → FrameGoesOn b.link (take j piece) → at.bodies ≡ came_bodies t.downs (length (b.got ++ take j piece))
  goes_on j on = bodies_here j (b.link.held ++ take j piece) (record {
    whole = ap (λ s. s ++ take j piece) at.took.bodies_are.whole ∙ append_assoc (frames at.bodies) b.link.held (take j piece);
    short = subst (λ m. AreWithin m at.bodies) at.max at.took.bodies_are.short;
    front = subst (λ m. IsProperFront (IsFrame m) (b.link.held ++ take j piece)) at.max on;
  })

  -- there are bytes left, and the journal passes its limit behind a byte before which no frame ends
  still : (j : ℕ) × (journal ≤ length b.got + j) × (at.bodies ≡ came_bodies t.downs (length (b.got ++ take j piece))) × (j ≤ length piece)
  still = let (k, would, over) = full in by k would over (count_within b.link piece k would)
    where
      by : (k : ℕ) → WouldTakeOf b.link piece None k → journal < length b.got + k → k ≤ length piece
          → (j : ℕ) × (journal ≤ length b.got + j) × (at.bodies ≡ came_bodies t.downs (length (b.got ++ take j piece))) × (j ≤ length piece)
      by k (inl (body, ends)) over few =
          let last : k ≡ k - 1 + 1 = omega (arith, over, at.room) in
          let le : k - 1 + 1 ≤ length piece = omega (arith, few, last) in
          let on = ends_goes_on b.link piece body (k - 1) (subst (EndsFrame b.link piece body) last ends) le in
          (k - 1, omega (arith, over, at.room), goes_on (k - 1) on, omega (arith, few))
      by k (inr (inl (on, all))) over few =
          let same : take k piece ≡ piece = take_all k piece (omega (arith, all)) in
          (k, omega (arith, over), goes_on k (subst (FrameGoesOn b.link) (sym same) on), few)
      by k (inr (inr (n, passes, count))) over few =
          let why = cause.BadFrame (stream_place (b.link.place + n)) in
          absurd (never_faulty r is b t piece tail up come at cut bytes 0 b why (closed_by (holding b.link [] (n + 1)) why) (inl (n, passes, refl, refl)))

  frames_long : length b.got ≡ length (frames at.bodies) + length b.link.held
  frames_long = ap length at.took.bodies_are.whole ∙ length-append (frames at.bodies) b.link.held

  -- no later frame ends within the limit
  edge_low : boundary t.downs journal ≤ length b.got
  edge_low =
      let (j, over, same, few) = still in
      let n = length (b.got ++ take j piece) in
      omega (
        arith,
        edges_grow t.downs journal n (omega (arith, over, length-append b.got (take j piece), length-take j piece, few)),
        edge_frames t.downs n,
        ap (λ bs. length (frames bs)) same,
        frames_long,
      )

  -- where no frame has begun one ends there
  edge_here : b.link.held ≡ [] → length b.got ≤ boundary t.downs journal
  edge_here empty =
      let same : at.bodies ≡ came_bodies t.downs (length b.got)
      = given_are r is t.downs (downs_within r is t at.meets.carried) (downs_opened r is t at.meets.carried) b.got (piece ++ tail) cut at.bytes at.bodies b.link.held
      (subst (λ m. AreBodies m b.got at.bodies b.link.held) at.max at.took.bodies_are) in
      omega (
        arith,
        edges_grow t.downs (length b.got) journal at.room,
        edge_frames t.downs (length b.got),
        ap (λ bs. length (frames bs)) same,
        frames_long,
        ap length empty,
      )

  -- the bytes of the piece that is fed are not all taken
  some_left : length piece ≡ 0 → ⊥
  some_left none = let (k, would, over) = full in omega (arith, count_within b.link piece k would, over, none, at.room)

  -- What it keeps is all up to the last frame that ends within the limit, or what it had.
  pub full_edge : (before taken : ℕ) → length b.got ≡ before + taken → (taken ≡ 0) ⊎ ((length piece ≡ 0) ⊎ (b.link.held ≡ []))
      → length b.got ≡ max before (boundary t.downs journal)
  full_edge before taken count (inl none) = omega (arith, count, none, edge_low)
  full_edge before taken count (inr (inl over)) = absurd (some_left over)
  full_edge before taken count (inr (inr empty)) = omega (arith, count, edge_low, edge_here empty)
