-- How the log of a stream grows with the stream.
use Rattle.std.proofs.Common.{◌≡◌, refl, sym, ap, ◌∙◌, ℕ, ◌^◌, ◌<◌, ◌≤◌, Bool, true, false, if◌then◌else◌, List, [], ◌∷◌, ◌++◌, length, take, arith}
use Rattle.std.specs.Prelude.{Option, Some, None, Ok}
use Rattle.readers.specs.Reader.{Each, IsByte}
use Rattle.rpc_frame.specs.Feeding.{IsFrameFed}
use Rattle.rpc_frame.specs.States.{FrameState}
use Rattle.rpc_frame.specs.Streams.{HasGiven, given, bodies}
use Rattle.rpc_frame.specs.declared.reader.Fed.{Fed}
use Rattle.rpc_frame.proofs.StreamBodies.{bodies_grow, given_bodies}
use Rattle.rpc_frame.proofs.Streams.{feed_given}
use Rattle.rpc_log.specs.Logs.{then_messages, messages_in, opens, log_in, log_of}
use Rattle.rpc_log.specs.Readings.{message_in}
use Rattle.rpc_msg.specs.declared.message.Message.{Message}

-- ---- more bodies

-- behind other bodies, more messages: as many as more bodies, or fewer
abbrev Adds : ℕ → List Message → List Message → Type 0
Adds count old new = (later : List Message) × (new ≡ old ++ later) × (length later ≤ count)

messages_few : (m : ℕ) (bs : List (List ℕ)) → length (messages_in m bs) ≤ length bs
messages_few m [] = omega arith
messages_few m (body ∷ bs) = by (message_in m body) (messages_few m bs)
  where
    by : (o : Option Message) → length (messages_in m bs) ≤ length bs → length (then_messages o (messages_in m bs)) ≤ length (body ∷ bs)
    by None few = omega arith
    by (Some a) few = omega arith

pub messages_grow : (m : ℕ) (bs later : List (List ℕ)) → Adds (length later) (messages_in m bs) (messages_in m (bs ++ later))
messages_grow m [] later = (messages_in m later, refl, messages_few m later)
messages_grow m (body ∷ bs) later = by (message_in m body) (messages_grow m bs later)
  where
    by : (o : Option Message) → Adds (length later) (messages_in m bs) (messages_in m (bs ++ later))
        → Adds (length later) (then_messages o (messages_in m bs)) (then_messages o (messages_in m (bs ++ later)))
    by None grown = ([], refl, omega arith)
    by (Some a) (more, is, few) = (more, ap (λ ms. a ∷ ms) is, few)

-- bodies that are none of a log have none behind them
log_few : (m : ℕ) (bs : List (List ℕ)) → length (log_in m bs) ≤ length bs
log_few m [] = omega arith
log_few m (head ∷ bs) = by (opens m head)
  where
    by : (b : Bool) → length (if b then messages_in m bs else []) ≤ length (head ∷ bs)
    by true = omega (arith, messages_few m bs)
    by false = omega arith

pub log_in_grows : (m : ℕ) (bs later : List (List ℕ)) → Adds (length later) (log_in m bs) (log_in m (bs ++ later))
log_in_grows m [] later = (log_in m later, refl, log_few m later)
log_in_grows m (head ∷ bs) later = by (opens m head)
  where
    by : (b : Bool) → Adds (length later) (if b then messages_in m bs else []) (if b then messages_in m (bs ++ later) else [])
    by true = messages_grow m bs later
    by false = ([], refl, omega arith)

-- ---- a longer stream

-- the log of a longer stream begins with that of a shorter one
pub log_grows : (m : ℕ) (s x : List ℕ) → m < 256 ^ 8 → Each IsByte (s ++ x) → (later : List Message) × (log_of m (s ++ x) ≡ log_of m s ++ later)
log_grows m s x few vs =
    let (more, is) = bodies_grow m few s x vs in
    let (later, same, count) = log_in_grows m (bodies m s) more in
    (later, ap (log_in m) is ∙ same)

-- a feed adds a message at most: one where it ends a frame, and none where it does not
pub log_fed : (m : ℕ) (s : List ℕ) (bs : List (List ℕ)) (old new : FrameState) (piece : List ℕ) (fed : Fed) → m < 256 ^ 8
    → Each IsByte (s ++ take fed.used piece) → Each IsByte s → HasGiven m s bs old → IsFrameFed old piece (Ok fed) new
    → (later : List Message) × (log_of m (s ++ take fed.used piece) ≡ log_of m s ++ later) × (length later ≤ length (given fed.frame))
log_fed m s bs old new piece fed few all vs gave feeds =
    let after = given_bodies m few (s ++ take fed.used piece) (bs ++ given fed.frame) new all (feed_given m s bs old new piece fed gave feeds) in
    let (later, same, count) = log_in_grows m bs (given fed.frame) in
    (later, ap (log_in m) after ∙ (same ∙ ap (λ xs. log_in m xs ++ later) (sym (given_bodies m few s bs old vs gave))), count)
