-- What a client that got some bytes is once bytes close it.
use Rattle.std.proofs.Common.{◌≡◌, refl, sym, ap, ◌∙◌, subst, inl, inr, ◌⊎◌, ℕ, ◌+◌, ◌<◌, ◌≤◌, ◌^◌, Bool, true, false, if◌then◌else◌, List, [], ◌∷◌, ◌++◌, length, take, append_assoc}
use Rattle.std.specs.Prelude.{Option, Some, None}
use Rattle.readers.specs.Reader.{Each, IsByte, whole}
use Rattle.readers.proofs.Readers.{each-rest}
use Rattle.rpc_frame.specs.Frames.{frames}
use Rattle.rpc_frame.specs.Streams.{bodies}
use Rattle.rpc_frame.proofs.StreamBodies.{bodies_are}
use Rattle.rpc_msg.specs.declared.message.Header.{Header}
use Rattle.rpc_msg.specs.declared.message.Message.{Message}
use Rattle.rpc_msg.specs.declared.shared.CloseCause.{CloseCause}
use Rattle.rpc_msg.specs.declared.shared.CloseCause.TheVariants as cause
use Rattle.rpc_log.specs.Logs.{is_opening, log_in, log_of, messages_in, opens, then_messages}
use Rattle.rpc_log.specs.Readings.{has_one, header_in, message_in}
use Rattle.rpc_talk.specs.Causes.{bad_header, bad_message, cause_of, header_cause}
use Rattle.rpc_talk.specs.Opened.{AreReadAs}
use Rattle.rpc_talk.specs.Welcome.{accepted}
use Rattle.rpc_talk.proofs.Opening.{first_read, no_more, opened_log}
use Rattle.rpc_talk.proofs.Placing.{bad_none}
use Rattle.rpc_talk.proofs.StreamCauses.{no_frame_cause, none_before}
use Rattle.rpc_end.specs.Ends.{EndState, EndsFrame, PassesLimit, WouldTakeOf, closed_by, holding, unread}
use Rattle.rpc_end.specs.Taken.{has_first, HasTaken}
use Rattle.rpc_end.specs.Taking.{IsClosedBy}
use Rattle.rpc_end.proofs.Taken.{ended_bodies, fault_front, limit_few, long_cause, unread_cause}
use Rattle.rpc_client.specs.Clients.{ClientState}
use Rattle.rpc_client.specs.Kept.{accepted_of, row_calls, HasGot, IsGoing}
use Rattle.rpc_client.proofs.Feeds.{kept_by_log, stops, AreKept}

-- ---- logs that stop at a body

-- messages, and a body that is none
messages_stop : (m : ℕ) (bs : List (List ℕ)) (log : List Message) (body : List ℕ) → AreReadAs m bs log → message_in m body ≡ None → messages_in m (bs ++ body ∷ []) ≡ log
messages_stop m [] log body read none = ap (λ o. then_messages o []) none ∙ sym (no_more m log read)
messages_stop m (b ∷ bs) [] body read none = absurd cc
messages_stop m (b ∷ bs) (a ∷ log) body read none =
    let (head, tail) = first_read m b bs a log read in
    ap (λ o. then_messages o (messages_in m (bs ++ body ∷ []))) head ∙ ap (λ xs. a ∷ xs) (messages_stop m bs log body tail none)

-- a first body that is no header of version 1
no_opening : (m : ℕ) (body : List ℕ) (why : CloseCause) → header_cause (bad_header m body) None (header_in m body) ≡ Some why → opens m body ≡ false
no_opening m body why is = by (header_in m body) is
  where
    by_one : (header : Header) (b : Bool) → has_one header ≡ b → (if b then None else Some cause.NoCommonProtocol) ≡ Some why → has_one header ≡ false
    by_one header true e is = absurd cc
    by_one header false e is = e

    by : (o : Option Header) → header_cause (bad_header m body) None o ≡ Some why → is_opening o ≡ false
    by None is = refl
    by (Some header) is = by_one header (has_one header) refl is

nothing : (bs : List (List ℕ)) → false ≡ has_first bs → bs ≡ []
nothing [] e = refl
nothing (b ∷ bs) e = absurd cc

-- the log of bodies that an end took, and one that closes it
unread_log : (old : EndState) (got : List ℕ) (bs : List (List ℕ)) (log : List Message) (body : List ℕ) (why : CloseCause) → HasTaken old got bs log → unread old body ≡ Some why
    → log_in old.max (bs ++ body ∷ []) ≡ log
unread_log old got [] log body why took is =
    let bad_one : header_cause (bad_header old.max body) None (header_in old.max body) ≡ Some why =
    ap (λ b. if b then bad_message old.max (old.start + 8) body else header_cause (bad_header old.max body) None (header_in old.max body)) (sym took.greeted) ∙ is in
    ap (λ b. if b then messages_in old.max [] else []) (no_opening old.max body why bad_one) ∙ sym took.read
unread_log old got (head ∷ bs) log body why took is =
    let line : bad_message old.max (old.start + 8) body ≡ Some why =
    ap (λ b. if b then bad_message old.max (old.start + 8) body else header_cause (bad_header old.max body) None (header_in old.max body)) (sym took.greeted) ∙ is in
    ap (λ b. if b then messages_in old.max (bs ++ body ∷ []) else []) took.read.0
    ∙ messages_stop old.max bs log body took.read.1 (bad_none old.max (old.start + 8) body why line)

-- ---- the client

-- some bodies, and the same or one more, which is no header where it is the first
abbrev pub AddsNoHeader : ℕ → List (List ℕ) → List (List ℕ) → Type 0
AddsNoHeader m before now = (now ≡ before) ⊎ ((body : List ℕ) × (now ≡ before ++ body ∷ []) × (before ≡ [] → opens m body ≡ false))

-- the first bytes of a piece, so many, close a client: their cause is the first fault of all bytes, and they add no message and no header
pub record StopsAt (c : ClientState) (got piece : List ℕ) (why : CloseCause) (new : EndState) (used : ℕ) : Type 0 where
  pub takes : WouldTakeOf c.link piece None used
  pub has : HasGot (record c { link = new }) (got ++ take used piece)
  pub log : log_of c.link.max (got ++ take used piece) ≡ log_of c.link.max got
  pub bodies_are : AddsNoHeader c.link.max (bodies c.link.max got) (bodies c.link.max (got ++ take used piece))
  pub fault : cause_of c.link.max (row_calls c.rows) (got ++ take used piece) ≡ Some why

module _ (c : ClientState) (got piece : List ℕ) (open_ : c.link.cause ≡ None) (has : HasGot c got) (more : Each IsByte piece) where
  abbrev pub after : ℕ → List ℕ
  after used = got ++ take used piece

  abbrev going : IsGoing c got
  going = has.going open_

  few : c.link.max < 256 ^ 8
  few = limit_few c.link.max has.limit

  -- closed, with this log of the bytes up to there
  closes : (e : EndState) (used : ℕ) (why : CloseCause) → e.max ≡ c.link.max → Each IsByte (after used) → log_of c.link.max (after used) ≡ going.log
      → HasGot (record c { link = closed_by e why }) (after used)
  closes e used why max bytes log_is =
      stops (record c { link = closed_by e why }) (after used) going.log why (max ∙ has.max) (subst (λ n. n ≤ 2 ^ 30) (sym max) has.limit) bytes
      (subst (λ n. accepted_of n c.rows (after used) ≡ going.log) (sym max) (ap (accepted c.link.max (row_calls c.rows)) log_is ∙ going.all))
      (subst (λ n. AreKept n going.log c.rows) (sym max) (kept_by_log c got open_ has going)) has.calls refl

  few_bodies : bodies c.link.max got ≡ going.bodies
  few_bodies = (no_frame_cause c.link.max few got going.bodies c.link.held has.bytes going.took.bodies_are).1

  before_log : log_of c.link.max got ≡ going.log
  before_log = ap (log_in c.link.max) few_bodies ∙ opened_log c.link.max going.bodies going.log going.took.read

  -- a length that is too long adds no body
  long_bodies : (n : ℕ) → Each IsByte (after (n + 1)) → PassesLimit c.link piece n → bodies c.link.max (after (n + 1)) ≡ going.bodies
  long_bodies n bytes passes =
      let rest = c.link.held ++ take (n + 1) piece in
      let are = going.took.bodies_are in
      let cut : after (n + 1) ≡ frames going.bodies ++ rest =
      ap (λ s. s ++ take (n + 1) piece) are.whole ∙ append_assoc (frames going.bodies) c.link.held (take (n + 1) piece) in
      let fault = fault_front c.link.max c.link.held piece n passes in
      let rest_bytes : Each IsByte rest = each-rest IsByte (frames going.bodies) rest (subst (Each IsByte) cut bytes) in
      bodies_are c.link.max few (after (n + 1)) going.bodies bytes
      (record { rest = rest; whole = cut; short = are.short; over = none_before c.link.max few rest (length c.link.held + n) rest_bytes fault })

  long_log : (n : ℕ) → Each IsByte (after (n + 1)) → PassesLimit c.link piece n → log_of c.link.max (after (n + 1)) ≡ going.log
  long_log n bytes passes = ap (log_in c.link.max) (long_bodies n bytes passes) ∙ opened_log c.link.max going.bodies going.log going.took.read

  body_bodies : (body : List ℕ) (used : ℕ) → Each IsByte (after used) → EndsFrame c.link piece body used → bodies c.link.max (after used) ≡ going.bodies ++ body ∷ []
  body_bodies body used bytes ends =
      (no_frame_cause c.link.max few (after used) (going.bodies ++ body ∷ []) [] bytes (ended_bodies c.link got piece body going.bodies used going.took.bodies_are ends)).1

  body_log : (body : List ℕ) (used : ℕ) (why : CloseCause) → Each IsByte (after used) → EndsFrame c.link piece body used → unread c.link body ≡ Some why
      → log_of c.link.max (after used) ≡ going.log
  body_log body used why bytes ends is =
      ap (log_in c.link.max) (body_bodies body used bytes ends) ∙ unread_log c.link got going.bodies going.log body why going.took is

  -- a first body that closes the client is no header
  unread_opens : (body : List ℕ) (why : CloseCause) → unread c.link body ≡ Some why → bodies c.link.max got ≡ [] → opens c.link.max body ≡ false
  unread_opens body why is none =
      let first : c.link.greeted ≡ false = going.took.greeted ∙ ap has_first (sym few_bodies ∙ none) in
      no_opening c.link.max body why
      (ap (λ b. if b then bad_message c.link.max (c.link.start + 8) body else header_cause (bad_header c.link.max body) None (header_in c.link.max body)) (sym first) ∙ is)

  -- whatever of a piece closes a client, so many bytes of it are taken, and it is the first fault of all
  pub closed_got : ((n : ℕ) → Each IsByte (after n)) → (why : CloseCause) (new : EndState) → IsClosedBy c.link piece why new → (used : ℕ) × StopsAt c got piece why new used
  closed_got bytes why new (inl (n, passes, why_is, is)) = (
    n + 1,
    record {
      takes = inr (inr (n, passes, refl));
      has = subst (λ e. HasGot (record c { link = e }) (after (n + 1))) (sym is)
          (closes (holding c.link [] (n + 1)) (n + 1) why refl (bytes (n + 1)) (long_log n (bytes (n + 1)) passes));
      log = long_log n (bytes (n + 1)) passes ∙ sym before_log;
      bodies_are = inl (long_bodies n (bytes (n + 1)) passes ∙ sym few_bodies);
      fault = long_cause c.link has.limit (row_calls c.rows) got piece has.bytes more going.bodies going.log going.took going.all n passes ∙ ap Some (sym why_is);
    },
  )
  closed_got bytes why new (inr (body, used, ends, is_unread, is)) = (
    used,
    record {
      takes = inl (body, ends);
      has = subst (λ e. HasGot (record c { link = e }) (after used)) (sym is)
          (closes (holding c.link [] used) used why refl (bytes used) (body_log body used why (bytes used) ends is_unread));
      log = body_log body used why (bytes used) ends is_unread ∙ sym before_log;
      bodies_are = inr (body, body_bodies body used (bytes used) ends ∙ ap (λ bs. bs ++ body ∷ []) (sym few_bodies), unread_opens body why is_unread);
      fault = unread_cause c.link has.limit (row_calls c.rows) got piece has.bytes more going.bodies going.log going.took going.all body used ends why is_unread;
    },
  )
