-- What more bytes make of a stream: its first fault and what is accepted before it stay, and while it has none what is accepted grows.
use Rattle.std.proofs.Common.{◌≡◌, refl, sym, ap, ◌∙◌, ℕ, ◌+◌, ◌^◌, ◌<◌, Bool, true, false, if◌then◌else◌, List, [], ◌∷◌, ◌++◌, length}
use Rattle.std.specs.Prelude.{Option, Some, None}
use Rattle.readers.specs.Reader.{Each, IsByte}
use Rattle.rpc_frame.specs.Streams.{bodies}
use Rattle.rpc_frame.proofs.StreamBodies.{bodies_grow}
use Rattle.rpc_msg.specs.declared.message.Header.{Header}
use Rattle.rpc_msg.specs.declared.message.Message.{Message}
use Rattle.rpc_msg.specs.declared.message.Message.TheVariants as message
use Rattle.rpc_msg.specs.declared.shared.CloseCause.{CloseCause}
use Rattle.rpc_msg.specs.declared.shared.CloseCause.TheVariants as cause
use Rattle.rpc_log.specs.Logs.{is_opening, log_in, log_of, messages_in, then_messages}
use Rattle.rpc_log.specs.Readings.{has_one, header_in, message_in}
use Rattle.rpc_log.proofs.Growing.{log_grows}
use Rattle.rpc_talk.specs.Causes.{bad_header, bad_message, cause_after, cause_in, cause_of, frame_cause, header_cause, message_cause, unwelcome, with_message}
use Rattle.rpc_talk.specs.Welcome.{Call, accepted, accepted_after, is_welcome}
use Rattle.rpc_talk.proofs.Accepting.{IsTaken, accepted_on, welcome_more}
use Rattle.rpc_pair.proofs.SeenFrames.{frame_stays}

-- the fault of a body that reads as this, and of those behind it
abbrev body_cause : ℕ → List Call → Option CloseCause → List Message → ℕ → List ℕ → List (List ℕ) → Option Message → Option CloseCause
body_cause m calls end before start body later o =
    message_cause (bad_message m (start + 8) body) m calls before (cause_after end m calls (with_message before o) (start + 8 + length body) later) o

-- the fault of what is behind a message, and what is accepted with it
abbrev cause_behind : ℕ → List Call → Option CloseCause → List Message → ℕ → List ℕ → List (List ℕ) → Message → Option CloseCause
cause_behind m calls end before start body later a = cause_after end m calls (before ++ a ∷ []) (start + 8 + length body) later

abbrev accepted_with : ℕ → List Call → List Message → List (List ℕ) → Message → List Message
accepted_with m calls before later a = a ∷ accepted_after m calls (before ++ a ∷ []) (messages_in m later)

-- the fault of what is behind a header
abbrev cause_opened : ℕ → List Call → Option CloseCause → List ℕ → List (List ℕ) → Option CloseCause
cause_opened m calls end head later = cause_after end m calls [] (8 + length head) later

-- ---- more bodies, behind a fault

module _ (m : ℕ) (calls : List Call) (end : Option CloseCause) (why : CloseCause) (later : List (List ℕ)) where
  -- the fault of these bodies is that of more, and no more is accepted
  abbrev AfterStays : List (List ℕ) → List Message → ℕ → Type 0
  AfterStays bs before start =
      cause_after None m calls before start bs ≡ Some why
      → (cause_after end m calls before start (bs ++ later) ≡ Some why)
      × (accepted_after m calls before (messages_in m (bs ++ later)) ≡ accepted_after m calls before (messages_in m bs))

  after_stays : (bs : List (List ℕ)) (before : List Message) (start : ℕ) → AfterStays bs before start
  after_stays [] before start fault = absurd cc
  after_stays (body ∷ bs) before start fault = by (message_in m body) (after_stays bs) fault
    where
      by : (o : Option Message) → ((b : List Message) (n : ℕ) → AfterStays bs b n) → body_cause m calls None before start body bs o ≡ Some why
          → (body_cause m calls end before start body (bs ++ later) o ≡ Some why)
          × (accepted_after m calls before (then_messages o (messages_in m (bs ++ later))) ≡ accepted_after m calls before (then_messages o (messages_in m bs)))
      by None more e = (e, refl)
      by (Some a) more e = welcome (is_welcome m calls before a) e
        where
          welcome : (b : Bool) → (if b then cause_behind m calls None before start body bs a else unwelcome m calls before a) ≡ Some why
              → ((if b then cause_behind m calls end before start body (bs ++ later) a else unwelcome m calls before a) ≡ Some why)
              × ((if b then accepted_with m calls before (bs ++ later) a else []) ≡ (if b then accepted_with m calls before bs a else []))
          welcome true f = let (cause_is, log_is) = more (before ++ a ∷ []) (start + 8 + length body) f in (cause_is, ap (λ xs. a ∷ xs) log_is)
          welcome false f = (f, refl)

  in_stays : (bs : List (List ℕ)) → cause_in None m calls bs ≡ Some why
      → (cause_in end m calls (bs ++ later) ≡ Some why) × (accepted m calls (log_in m (bs ++ later)) ≡ accepted m calls (log_in m bs))
  in_stays [] fault = absurd cc
  in_stays (head ∷ bs) fault = by (header_in m head) fault
    where
      by : (o : Option Header) → header_cause (bad_header m head) (cause_opened m calls None head bs) o ≡ Some why
          → (header_cause (bad_header m head) (cause_opened m calls end head (bs ++ later)) o ≡ Some why)
          × (accepted m calls (if is_opening o then messages_in m (bs ++ later) else []) ≡ accepted m calls (if is_opening o then messages_in m bs else []))
      by None e = (e, refl)
      by (Some header) e = opened (has_one header) e
        where
          opened : (b : Bool) → (if b then cause_opened m calls None head bs else Some cause.NoCommonProtocol) ≡ Some why
              → ((if b then cause_opened m calls end head (bs ++ later) else Some cause.NoCommonProtocol) ≡ Some why)
              × (accepted m calls (if b then messages_in m (bs ++ later) else []) ≡ accepted m calls (if b then messages_in m bs else []))
          opened true f = after_stays bs [] (8 + length head) f
          opened false f = (f, refl)

-- ---- bodies of which none is at fault

no_fault : (m : ℕ) (calls : List Call) (before : List Message) (a : Message) → unwelcome m calls before a ≡ None → is_welcome m calls before a ≡ false → ⊥
no_fault m calls before message.Heartbeat none not_welcome = cc
no_fault m calls before (message.Query q) none not_welcome = cc
no_fault m calls before (message.Response r) none not_welcome = cc

module _ (m : ℕ) (calls more : List Call) (end : Option CloseCause) where
  -- all their messages are accepted, and more calls add no fault
  abbrev AfterCalm : List (List ℕ) → List Message → ℕ → Type 0
  AfterCalm bs before start =
      cause_after end m calls before start bs ≡ None
      → (cause_after end m (calls ++ more) before start bs ≡ None) × IsTaken m calls before (messages_in m bs)

  after_calm : (bs : List (List ℕ)) (before : List Message) (start : ℕ) → AfterCalm bs before start
  after_calm [] before start calm = (calm, refl)
  after_calm (body ∷ bs) before start calm = by (message_in m body) (after_calm bs) calm
    where
      by : (o : Option Message) → ((b : List Message) (n : ℕ) → AfterCalm bs b n) → body_cause m calls end before start body bs o ≡ None
          → (body_cause m (calls ++ more) end before start body bs o ≡ None) × IsTaken m calls before (then_messages o (messages_in m bs))
      by None next e = (e, refl)
      by (Some a) next e = welcome (is_welcome m calls before a) refl e
        where
          welcome : (b : Bool) → is_welcome m calls before a ≡ b → (if b then cause_behind m calls end before start body bs a else unwelcome m calls before a) ≡ None
              → (body_cause m (calls ++ more) end before start body bs (Some a) ≡ None) × IsTaken m calls before (a ∷ messages_in m bs)
          welcome true is f =
              let (cause_is, log_is) = next (before ++ a ∷ []) (start + 8 + length body) f in (
                ap (λ b. if b then cause_behind m (calls ++ more) end before start body bs a else unwelcome m (calls ++ more) before a) (welcome_more m calls more before a is)
                    ∙ cause_is,
                ap (λ b. if b then accepted_with m calls before bs a else []) is ∙ ap (λ xs. a ∷ xs) log_is,
              )
          welcome false is f = absurd (no_fault m calls before a f is)

  in_calm : (bs : List (List ℕ)) → cause_in end m calls bs ≡ None → (cause_in end m (calls ++ more) bs ≡ None) × IsTaken m calls [] (log_in m bs)
  in_calm [] calm = (calm, refl)
  in_calm (head ∷ bs) calm = by (header_in m head) calm
    where
      by : (o : Option Header) → header_cause (bad_header m head) (cause_opened m calls end head bs) o ≡ None
          → (header_cause (bad_header m head) (cause_opened m (calls ++ more) end head bs) o ≡ None) × IsTaken m calls [] (if is_opening o then messages_in m bs else [])
      by None e = (e, refl)
      by (Some header) e = opened (has_one header) e
        where
          opened : (b : Bool) → (if b then cause_opened m calls end head bs else Some cause.NoCommonProtocol) ≡ None
              → ((if b then cause_opened m (calls ++ more) end head bs else Some cause.NoCommonProtocol) ≡ None)
              × IsTaken m calls [] (if b then messages_in m bs else [])
          opened true f = after_calm bs [] (8 + length head) f
          opened false f = absurd cc

-- ---- streams

-- all messages of a stream that has no fault are accepted
pub calm_taken : (m : ℕ) (calls : List Call) (s : List ℕ) → cause_of m calls s ≡ None → IsTaken m calls [] (log_of m s)
calm_taken m calls s calm = (in_calm m calls [] (frame_cause m s) (bodies m s) calm).1

-- and more calls give it none
pub calm_more : (m : ℕ) (calls more : List Call) (s : List ℕ) → cause_of m calls s ≡ None → cause_of m (calls ++ more) s ≡ None
calm_more m calls more s calm = (in_calm m calls more (frame_cause m s) (bodies m s) calm).0

module _ (m : ℕ) (few : m < 256 ^ 8) (calls : List Call) (s x : List ℕ) (bytes : Each IsByte (s ++ x)) where
  -- The first fault of some bytes is that of more, and what stands behind it is not accepted.
  pub fault_stays : (why : CloseCause) → cause_of m calls s ≡ Some why
      → (cause_of m calls (s ++ x) ≡ Some why) × (accepted m calls (log_of m (s ++ x)) ≡ accepted m calls (log_of m s))
  fault_stays why fault = by (frame_cause m s) refl
    where
      by : (o : Option CloseCause) → frame_cause m s ≡ o
          → (cause_of m calls (s ++ x) ≡ Some why) × (accepted m calls (log_of m (s ++ x)) ≡ accepted m calls (log_of m s))
      by None none =
          let (later, same) = bodies_grow m few s x bytes in
          let (cause_is, log_is) = in_stays m calls (frame_cause m (s ++ x)) why later (bodies m s) (ap (λ o. cause_in o m calls (bodies m s)) (sym none) ∙ fault) in
          (ap (cause_in (frame_cause m (s ++ x)) m calls) same ∙ cause_is, ap (λ bs. accepted m calls (log_in m bs)) same ∙ log_is)
      by (Some at) found =
          let (place, same) = frame_stays m few s x bytes at found in (
            ap (λ o. cause_in o m calls (bodies m (s ++ x))) (place ∙ sym found) ∙ (ap (cause_in (frame_cause m s) m calls) same ∙ fault),
            ap (λ bs. accepted m calls (log_in m bs)) same,
          )

  -- What is accepted of bytes that have no fault is the first of what is accepted of more.
  pub accepted_grows : cause_of m calls s ≡ None → (later : List Message) × (accepted m calls (log_of m (s ++ x)) ≡ accepted m calls (log_of m s) ++ later)
  accepted_grows calm =
      let (later, same) = log_grows m s x few bytes in
      let taken = calm_taken m calls s calm in
      let rest = accepted_after m calls (log_of m s) later in
      (rest, ap (accepted m calls) same ∙ (accepted_on m calls [] (log_of m s) later taken ∙ ap (λ xs. xs ++ rest) (sym taken)))
