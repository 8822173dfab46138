-- What an honest wire gives: an end that took a front of what the other end wrote has the messages that came of its log; the next message
-- that it gives is the next of the log; and nothing closes it.
use Rattle.std.proofs.Common.{◌≡◌, refl, sym, ap, ◌∙◌, subst, ℕ, suc, ◌+◌, ◌-◌, ◌≤◌, ◌<◌, ◌^◌, Bool, true, false, if◌then◌else◌, List, [], ◌∷◌, ◌++◌, map, length, take, drop, append_assoc, nat_le, arith, ◌⊎◌, inl, inr}
use Rattle.std.specs.Prelude.{Option, Some, None}
use Rattle.std.proofs.lemmas.List.{length-append, take-append-drop}
use Rattle.std.proofs.Math.Seq.{take-append_seam}
use Rattle.readers.specs.Reader.{Each, IsByte}
use Rattle.readers.proofs.Readers.{each-front, each-rest}
use Rattle.rpc_frame.specs.Streams.{AreBodies, AreWithin}
use Rattle.rpc_frame.proofs.StreamBodies.{begun_bodies, bodies_are}
use Rattle.rpc_msg.specs.declared.message.Message.{Message}
use Rattle.rpc_msg.specs.declared.message.Message.TheVariants as message
use Rattle.rpc_msg.specs.declared.shared.CloseCause.{CloseCause}
use Rattle.rpc_end.specs.Ends.{EndState, heard}
use Rattle.rpc_end.specs.Taken.{HasTaken, has_first}
use Rattle.rpc_end.specs.Taking.{GivesMessage, IsClosedBy}
use Rattle.rpc_end.specs.declared.end.Got.{Got}
use Rattle.rpc_end.proofs.Taken.{closed_cause, limit_few, taken_message}
use Rattle.rpc_log.specs.Logs.{log_in, log_of}
use Rattle.rpc_talk.specs.Acts.{body_of, own_header}
use Rattle.rpc_talk.specs.Causes.{cause_of}
use Rattle.rpc_talk.specs.Opened.{AreOpened}
use Rattle.rpc_talk.specs.Welcome.{Call}
use Rattle.rpc_talk.proofs.Accepting.{IsTaken}
use Rattle.rpc_talk.proofs.Opening.{opened_log}
use Rattle.rpc_talk.proofs.StreamCauses.{no_cause}
use Rattle.rpc_client.proofs.Dispatches.{taken_log}
use Rattle.rpc_meeting.specs.Talks.{Common}
use Rattle.rpc_meeting.specs.Worlds.{came_bodies, came_log, frame_count, has_header, header_size, size, stream_of, whole}
use Rattle.rpc_meeting.proofs.Bytes.{cut_at}
use Rattle.rpc_meeting.proofs.Carried.{IsUp}
use Rattle.rpc_meeting.proofs.Lines.{most}
use Rattle.rpc_meeting.proofs.Whole.{le_false, some_size, tells_le, whole_prefix}
use Rattle.rpc_pair.specs.Rules.{IsOfSchema}
use Rattle.rpc_pair.proofs.Schemas.{room}

-- a caller that made no calls takes all that goes up
pub ups_taken : (r : Common) (m : ℕ) (calls : List Call) (before log : List Message) → Each (IsUp r) log → IsTaken m calls before log
ups_taken r m calls before [] all = refl
ups_taken r m calls before (message.Heartbeat ∷ log) all = ap (λ xs. message.Heartbeat ∷ xs) (ups_taken r m calls (before ++ message.Heartbeat ∷ []) log all.1)
ups_taken r m calls before (message.Query q ∷ log) all = ap (λ xs. message.Query q ∷ xs) (ups_taken r m calls (before ++ message.Query q ∷ []) log all.1)
ups_taken r m calls before (message.Response a ∷ log) all = absurd all.0

some_one : (a : Message) (came : List Message) → came ++ a ∷ [] ≡ [] → ⊥
some_one a [] e = cc
some_one a (b ∷ came) e = cc

-- what came of a log is its beginning
pub came_front : (log : List Message) (n : ℕ) → (rest : List Message) × (came_log log n ++ rest ≡ log)
came_front log n = by (has_header n) (whole_prefix log (n - header_size))
  where
    by : (b : Bool) → ((rest : List Message) × (whole log (n - header_size) ++ rest ≡ log)) → (rest : List Message) × ((if b then whole log (n - header_size) else []) ++ rest ≡ log)
    by true front = front
    by false front = (log, refl)

bodies_count : (log : List Message) → length (map body_of log) ≡ length log
bodies_count [] = refl
bodies_count (a ∷ log) = ap suc (bodies_count log)

-- no frame is whole in no bytes
pub none_whole : (log : List Message) → whole log 0 ≡ []
none_whole [] = refl
none_whole (a ∷ log) = ap (λ b. if b then a ∷ whole log (0 - size a) else []) (le_false (size a) 0 (omega (arith, some_size a)))

abbrev AreAsMany : List Message → ℕ → Bool → Type 0
AreAsMany log n b = (if b then 1 else 0) + length (whole log (n - header_size)) ≡ length (if b then own_header ∷ map body_of (whole log (n - header_size)) else [])

-- the world counts as many frames
pub frames_same : (log : List Message) (n : ℕ) → frame_count log n ≡ length (came_bodies log n)
frames_same log n = by (tells_le header_size n)
  where
    by : ((nat_le header_size n ≡ true) × (header_size ≤ n)) ⊎ ((nat_le header_size n ≡ false) × (n < header_size)) → AreAsMany log n (has_header n)
    by (inl (e, le)) =
        let one : 1 + length (whole log (n - header_size)) ≡ suc (length (whole log (n - header_size))) = omega arith in
        subst (AreAsMany log n) (sym e) (one ∙ ap suc (sym (bodies_count (whole log (n - header_size)))))
    by (inr (e, lt)) =
        let left : n - header_size ≡ 0 = omega (arith, lt) in
        let none : length (whole log (n - header_size)) ≡ 0 = ap (λ k. length (whole log k)) left ∙ ap (λ l. length l) (none_whole log) in
        subst (AreAsMany log n) (sym e) (omega (arith, none))

-- a piece, parted at a place
pub parted : (got piece tail : List ℕ) (used : ℕ) → (got ++ take used piece) ++ (drop used piece ++ tail) ≡ got ++ (piece ++ tail)
parted got piece tail used =
    append_assoc got (take used piece) (drop used piece ++ tail)
    ∙ ap (λ s. got ++ s) (sym (append_assoc (take used piece) (drop used piece) tail) ∙ ap (λ s. s ++ tail) (take-append-drop used piece))

-- the bytes of the front of a piece
pub parted_bytes : (got piece : List ℕ) (used : ℕ) → Each IsByte (got ++ piece) → Each IsByte (got ++ take used piece)
parted_bytes got piece used bytes =
    each-front IsByte (got ++ take used piece) (drop used piece)
    (subst (Each IsByte) (sym (append_assoc got (take used piece) (drop used piece) ∙ ap (λ s. got ++ s) (take-append-drop used piece))) bytes)

module _ (r : Common) (is : IsOfSchema r) (log : List Message) (within : AreWithin (most r) (map body_of log))
    (opened : (n : ℕ) → AreOpened (most r) (came_bodies log n) (came_log log n)) where
  few : most r < 256 ^ 8
  few = limit_few (most r) is.limits.message.1

  -- ---- a front of the stream

  module _ (got tail : List ℕ) (cut : got ++ tail ≡ stream_of log) (bytes : Each IsByte got) where
    bodies_here : (held : List ℕ) × AreBodies (most r) got (came_bodies log (length got)) held
    bodies_here =
        let (held, are) = cut_at (most r) few log (length got) (omega (arith, room r is)) within (omega (arith, ap length cut, length-append got tail)) in
        (held, subst (λ s. AreBodies (most r) s (came_bodies log (length got)) held) (ap (take (length got)) (sym cut) ∙ take-append_seam got tail) are)

    -- it reads as the messages that came
    pub given_log : log_of (most r) got ≡ came_log log (length got)
    given_log =
        let (held, are) = bodies_here in
        ap (log_in (most r)) (bodies_are (most r) few got (came_bodies log (length got)) bytes (begun_bodies (most r) few got (came_bodies log (length got)) held are))
        ∙ opened_log (most r) (came_bodies log (length got)) (came_log log (length got)) (opened (length got))

    -- which an end has that took it
    pub given_came : (e : EndState) (bs : List (List ℕ)) (came : List Message) → e.max ≡ most r → HasTaken e got bs came → came ≡ came_log log (length got)
    given_came e bs came max took =
        sym (taken_log e got bs came (omega (arith, max, is.limits.message.1)) bytes took) ∙ (ap (λ m. log_of m got) max ∙ given_log)

    -- the bodies are those that came
    pub given_are : (bs : List (List ℕ)) (held : List ℕ) → AreBodies (most r) got bs held → bs ≡ came_bodies log (length got)
    given_are bs held are =
        let (rest, front) = bodies_here in
        sym (bodies_are (most r) few got bs bytes (begun_bodies (most r) few got bs held are))
        ∙ bodies_are (most r) few got (came_bodies log (length got)) bytes (begun_bodies (most r) few got (came_bodies log (length got)) rest front)

    -- so are those that an end took
    pub given_bodies : (e : EndState) (bs : List (List ℕ)) (came : List Message) → e.max ≡ most r → HasTaken e got bs came → bs ≡ came_bodies log (length got)
    given_bodies e bs came max took = given_are bs e.held (subst (λ m. AreBodies m got bs e.held) max took.bodies_are)

    -- and an end has read a header where that came
    pub given_greeted : (e : EndState) (bs : List (List ℕ)) (came : List Message) → e.max ≡ most r → HasTaken e got bs came → e.greeted ≡ has_header (length got)
    given_greeted e bs came max took = took.greeted ∙ (ap has_first (given_bodies e bs came max took) ∙ by (has_header (length got)))
      where
        by : (b : Bool) → has_first (if b then own_header ∷ map body_of (whole log (length got - header_size)) else []) ≡ b
        by true = refl
        by false = refl

    -- and by which it has no cause to close
    given_cause : (calls : List Call) → IsTaken (most r) calls [] (came_log log (length got)) → cause_of (most r) calls got ≡ None
    given_cause calls all =
        let (held, are) = bodies_here in
        no_cause (most r) few calls (came_bodies log (length got)) (came_log log (length got)) (opened (length got)) all got held bytes are

  -- ---- a piece behind it

  module _ (e : EndState) (max : e.max ≡ most r) (got piece tail : List ℕ) (cut : got ++ (piece ++ tail) ≡ stream_of log) (bytes : Each IsByte (got ++ piece))
      (bs : List (List ℕ)) (came : List Message) (took : HasTaken e got bs came) where
    -- The message that an end gives is the next of the log.
    pub next_given : (now : ℕ) (g : Got) (new : EndState) → GivesMessage e piece g new → (rest : List Message) × (came ++ g.message ∷ rest ≡ log)
    next_given now g new gives =
        let after = got ++ take g.used piece in
        let took_now = taken_message e got piece now g new bs came took gives in
        let here : came ++ g.message ∷ [] ≡ came_log log (length after)
        = given_came after (drop g.used piece ++ tail) (parted got piece tail g.used ∙ cut) (parted_bytes got piece g.used bytes) (heard new now) (bs ++ g.body ∷ [])
        (came ++ g.message ∷ []) (ap (λ (x : EndState). x.max) gives.new_is ∙ max) took_now in
        let (rest, front) = came_front log (length after) in
        (rest, sym (append_assoc came (g.message ∷ []) rest) ∙ (ap (λ xs. xs ++ rest) here ∙ front))

    -- And nothing that it gives closes an end: no length, header or message is at fault.
    pub never_closed : (calls : List Call) → ((n : ℕ) → IsTaken (most r) calls [] (came_log log n)) → (why : CloseCause) (new : EndState) → IsClosedBy e piece why new → ⊥
    never_closed calls all why new closed =
        let got_bytes : Each IsByte got = each-front IsByte got piece bytes in
        let came_is : came ≡ came_log log (length got) = given_came got (piece ++ tail) cut got_bytes e bs came max took in
        let taken : IsTaken e.max calls [] came
        = subst (λ m. IsTaken m calls [] came) (sym max) (subst (IsTaken (most r) calls []) (sym came_is) (all (length got))) in
        let (used, cause) = closed_cause e (omega (arith, max, is.limits.message.1)) calls got piece got_bytes (each-rest IsByte got piece bytes) bs came took taken why new closed in
        let after = got ++ take used piece in
        let none : cause_of (most r) calls after ≡ None
        = given_cause after (drop used piece ++ tail) (parted got piece tail used ∙ cut) (parted_bytes got piece used bytes) calls (all (length after)) in
        absurd (no_why why (sym none ∙ (ap (λ m. cause_of m calls after) (sym max) ∙ cause)))
      where
        no_why : (w : CloseCause) → ◌≡◌ {A = Option CloseCause} None (Some w) → ⊥
        no_why w e = cc
