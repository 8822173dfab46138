-- When an end that is fed last heard something, and whether it has a header, is what its side of the world has.
use Rattle.std.proofs.Common.{◌≡◌, refl, sym, ap, ◌∙◌, subst, ℕ, ◌-◌, ◌<◌, Bool, true, false, if◌then◌else◌, List, [], ◌∷◌, ◌++◌, map, length, take, drop, append_assoc, arith, inl, inr}
use Rattle.std.specs.Prelude.{nat_lt}
use Rattle.std.proofs.lemmas.Bool.{le-ltb, lt-ltb}
use Rattle.std.proofs.lemmas.List.{take_all}
use Rattle.readers.specs.Reader.{Each, IsByte, IsProperFront}
use Rattle.readers.proofs.Readers.{each-front}
use Rattle.rpc_frame.specs.Frames.{IsFrame, frames}
use Rattle.rpc_frame.specs.Streams.{AreBodies, AreWithin}
use Rattle.rpc_msg.specs.Beats.{moment}
use Rattle.rpc_msg.specs.declared.message.Message.{Message}
use Rattle.rpc_end.specs.Ends.{EndState, EndsFrame, heard, holding}
use Rattle.rpc_end.specs.Taken.{HasTaken, has_first}
use Rattle.rpc_end.specs.Taking.{GivesMessage, IsPartTaken}
use Rattle.rpc_end.specs.declared.end.Got.{Got}
use Rattle.rpc_end.proofs.Taken.{ended_bodies}
use Rattle.rpc_talk.specs.Acts.{body_of, own_header}
use Rattle.rpc_talk.specs.Opened.{AreOpened}
use Rattle.rpc_meeting.specs.Talks.{Common}
use Rattle.rpc_meeting.specs.Worlds.{Side, came_bodies, came_log, frame_count, has_header, header_size, heard_since, stream_of, whole}
use Rattle.rpc_meeting.proofs.Lines.{most}
use Rattle.rpc_pair.specs.Links.{LinkStands}
use Rattle.rpc_pair.specs.Rules.{IsOfSchema}
use Rattle.rpc_pair.proofs.Given.{frames_same, given_are, parted, parted_bytes}
use Rattle.rpc_pair.proofs.LinkLaws.{moment_now}

-- the side behind so many bytes more
abbrev pub side_behind : List Message → Side → ℕ → ℕ → ℕ → Side
side_behind log side now before after =
    record { cause = side.cause; heard = heard_since side now (frame_count log before) (frame_count log after); sent = side.sent }

-- that of no more is as it was
pub side_still : (log : List Message) (side : Side) (now n : ℕ) → side_behind log side now n n ≡ side
side_still log side now n = ap (λ (h : ℕ). record { cause = side.cause; heard = h; sent = side.sent })
    (ap (λ c. if c then now else side.heard) (le-ltb (frame_count log n) (frame_count log n) (omega arith)))

header_first : (log : List Message) (n : ℕ) → has_first (came_bodies log n) ≡ has_header n
header_first log n = by (has_header n)
  where
    by : (b : Bool) → has_first (if b then own_header ∷ map body_of (whole log (n - header_size)) else []) ≡ b
    by true = refl
    by false = refl

one_longer : (bs : List (List ℕ)) (body : List ℕ) → (length bs < length (bs ++ body ∷ [])) × (has_first (bs ++ body ∷ []) ≡ true)
one_longer [] body = (omega arith, refl)
one_longer (b ∷ bs) body = (omega (arith, (one_longer bs body).0), refl)

module _ (r : Common) (is : IsOfSchema r) (log : List Message) (within : AreWithin (most r) (map body_of log))
    (opened : (n : ℕ) → AreOpened (most r) (came_bodies log n) (came_log log n)) (e : EndState) (max : e.max ≡ most r) (given piece tail : List ℕ)
    (cut : given ++ (piece ++ tail) ≡ stream_of log) (bytes : Each IsByte (given ++ piece)) (bs : List (List ℕ)) (came : List Message) (took : HasTaken e given bs came)
    (side : Side) (now : ℕ) (stands : LinkStands r (length given) side now e) where
  before_are : bs ≡ came_bodies log (length given)
  before_are =
      given_are r is log within opened given (piece ++ tail) cut (each-front IsByte given piece bytes) bs e.held (subst (λ m. AreBodies m given bs e.held) max took.bodies_are)

  after_are : (used : ℕ) (bodies : List (List ℕ)) (held : List ℕ) → AreBodies (most r) (given ++ take used piece) bodies held
      → bodies ≡ came_bodies log (length (given ++ take used piece))
  after_are used bodies held are =
      given_are r is log within opened (given ++ take used piece) (drop used piece ++ tail) (parted given piece tail used ∙ cut) (parted_bytes given piece used bytes) bodies
      held are

  -- no frame ended
  quiet_stands : (used : ℕ) (held : List ℕ) → AreBodies (most r) (given ++ take used piece) bs held
      → LinkStands r (length (given ++ take used piece)) (side_behind log side now (length given) (length (given ++ take used piece))) now (holding e held used)
  quiet_stands used held are =
      let here = after_are used bs held are in
      let same : frame_count log (length (given ++ take used piece)) ≡ frame_count log (length given)
      = frames_same log (length (given ++ take used piece)) ∙ (ap (λ xs. length xs) (sym here ∙ before_are) ∙ sym (frames_same log (length given))) in
      let none : nat_lt (frame_count log (length given)) (frame_count log (length (given ++ take used piece))) ≡ false = le-ltb _ _ (omega (arith, same)) in
      record {
        max = stands.max;
        cause = stands.cause;
        greeted = λ going. stands.greeted going
            ∙ (sym (header_first log (length given)) ∙ (ap has_first (sym before_are ∙ here) ∙ header_first log (length (given ++ take used piece))));
        every = stands.every;
        timeout = stands.timeout;
        seen = stands.seen;
        heard = stands.heard ∙ sym (ap (λ b. if b then now else side.heard) none);
        sent = stands.sent;
      }

  -- one ended, which was the header or a message
  loud_stands : (used : ℕ) (body : List ℕ) → EndsFrame e piece body used
      → LinkStands r (length (given ++ take used piece)) (side_behind log side now (length given) (length (given ++ take used piece))) now (heard (holding e [] used) now)
  loud_stands used body ends =
      let are = subst (λ m. AreBodies m (given ++ take used piece) (bs ++ body ∷ []) []) max (ended_bodies e given piece body bs used took.bodies_are ends) in
      let here = after_are used (bs ++ body ∷ []) [] are in
      let (longer, first) = one_longer bs body in
      let count_before : frame_count log (length given) ≡ length bs = frames_same log (length given) ∙ ap (λ xs. length xs) (sym before_are) in
      let count_after : frame_count log (length (given ++ take used piece)) ≡ length (bs ++ body ∷ [])
      = frames_same log (length (given ++ take used piece)) ∙ ap (λ xs. length xs) (sym here) in
      let more : nat_lt (frame_count log (length given)) (frame_count log (length (given ++ take used piece))) ≡ true
      = lt-ltb _ _ (omega (arith, count_before, count_after, longer)) in
      let at : moment e.beat now ≡ now = moment_now r (length given) side now e stands in
      record {
        max = stands.max;
        cause = stands.cause;
        greeted = λ going. sym (sym (header_first log (length (given ++ take used piece))) ∙ (ap has_first (sym here) ∙ first));
        every = stands.every;
        timeout = stands.timeout;
        seen = omega (arith, at);
        heard = at ∙ sym (ap (λ b. if b then now else side.heard) more);
        sent = stands.sent;
      }

  -- a part of a frame, or the header
  pub part_stands : (used : ℕ) (new : EndState) → IsPartTaken e piece now used new
      → LinkStands r (length (given ++ take used piece)) (side_behind log side now (length given) (length (given ++ take used piece))) now new
  part_stands used new (inl (on, all, same)) =
      subst (LinkStands r (length (given ++ take used piece)) (side_behind log side now (length given) (length (given ++ take used piece))) now) (sym same)
      (quiet_stands used (e.held ++ piece) (record {
        whole = ap (λ s. s ++ take used piece) took.bodies_are.whole
            ∙ (append_assoc (frames bs) e.held (take used piece) ∙ ap (λ p. frames bs ++ (e.held ++ p)) (take_all used piece (omega (arith, all))));
        short = subst (λ m. AreWithin m bs) max took.bodies_are.short;
        front = subst (λ m. IsProperFront (IsFrame m) (e.held ++ piece)) max on;
      }))
  part_stands used new (inr (body, ends, opening, opens, same)) =
      subst (LinkStands r (length (given ++ take used piece)) (side_behind log side now (length given) (length (given ++ take used piece))) now) (sym same)
      (loud_stands used body ends)

  -- a message, once it counts as heard
  pub message_stands : (g : Got) (link : EndState) → GivesMessage e piece g link
      → LinkStands r (length (given ++ take g.used piece)) (side_behind log side now (length given) (length (given ++ take g.used piece))) now (heard link now)
  message_stands g link gives =
      subst (λ l. LinkStands r (length (given ++ take g.used piece)) (side_behind log side now (length given) (length (given ++ take g.used piece))) now (heard l now))
      (sym gives.new_is) (loud_stands g.used g.body gives.frame_ends)
