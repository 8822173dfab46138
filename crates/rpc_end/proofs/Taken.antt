-- What an end took, piece by piece, and what is at fault where bytes close it.
use Rattle.std.proofs.Common.{◌≡◌, refl, sym, ap, ◌∙◌, subst, ℕ, ◌+◌, ◌^◌, ◌<◌, ◌≤◌, true, false, if◌then◌else◌, List, [], ◌∷◌, ◌++◌, map, length, take, drop, append_assoc, arith, inl, inr}
use Rattle.std.specs.Prelude.{Some, None}
use Rattle.std.proofs.lemmas.List.{append-nil, length-append, length-take, take-append-drop}
use Rattle.readers.specs.Reader.{Each, IsByte, IsFaultAt}
use Rattle.readers.proofs.Readers.{each-join, each-front}
use Rattle.bp_num.specs.declared.number.Why.TheVariants.{Length}
use Rattle.rpc_frame.specs.Frames.{frames, IsFrame, FrameWhy}
use Rattle.rpc_frame.specs.States.{FrameState, stream_place, moved}
use Rattle.rpc_frame.specs.Streams.{AreBodies, HasGiven}
use Rattle.rpc_frame.proofs.Streams.{start_given, feed_given}
use Rattle.rpc_frame.proofs.HeadSteps.{take_front}
use Rattle.rpc_msg.specs.declared.message.Message.{Message}
use Rattle.rpc_msg.specs.declared.shared.CloseCause.{CloseCause}
use Rattle.rpc_msg.specs.declared.shared.CloseCause.TheVariants as cause
use Rattle.rpc_msg.specs.declared.shared.Limits.{Limits}
use Rattle.rpc_log.specs.Logs.{opens}
use Rattle.rpc_log.specs.Readings.{message_in, header_in}
use Rattle.rpc_talk.specs.Causes.{bad_header, bad_message, unwelcome, header_cause, cause_of}
use Rattle.rpc_talk.specs.Welcome.{Call, is_welcome}
use Rattle.rpc_talk.proofs.Accepting.{IsTaken}
use Rattle.rpc_talk.proofs.Causing.{unread_behind, unwelcome_behind}
use Rattle.rpc_talk.proofs.Opening.{more_opened}
use Rattle.rpc_talk.proofs.Placing.{bad_message_on, bad_none}
use Rattle.rpc_talk.proofs.StreamCauses.{frame_fault, whole_cause}
use Rattle.rpc_end.specs.Ends.{EndState, first_end, FrameGoesOn, EndsFrame, PassesLimit, holding, heard, unread}
use Rattle.rpc_end.specs.Taken.{has_first, HasTaken}
use Rattle.rpc_end.specs.Taking.{IsPartTaken, GivesMessage, IsClosedBy}
use Rattle.rpc_end.specs.declared.end.Got.{Got}

-- ---- frames

counted_on : (a b p n : ℕ) → p ≡ stream_place a → n ≡ a + b → stream_place (p + b) ≡ stream_place n
counted_on a b p n is sum = omega arith

-- the reader of an end that took a stream
abbrev reader_at : EndState → List ℕ → FrameState
reader_at e got = record { max = e.max; held = e.held; place = stream_place (length got); failed = None }

has_given : (e : EndState) (got : List ℕ) (bs : List (List ℕ)) → AreBodies e.max got bs e.held → HasGiven e.max got bs (reader_at e got)
has_given e got bs are = record { limit = refl; bodies_are = are; place = refl; going = refl }

-- a piece in which no frame ends
part_bodies : (e : EndState) (got piece : List ℕ) (bs : List (List ℕ)) (used : ℕ) → AreBodies e.max got bs e.held → FrameGoesOn e piece → used ≡ length piece
    → AreBodies e.max (got ++ take used piece) bs (e.held ++ piece)
part_bodies e got piece bs used are on all =
    subst (λ xs. AreBodies e.max (got ++ take used piece) xs (e.held ++ piece)) (append-nil bs)
    (feed_given e.max got bs (reader_at e got) (moved (reader_at e got) (e.held ++ piece) used) piece (record { used = used; frame = None }) (has_given e got bs are)
    (refl, (on, all, refl))).bodies_are

-- one in which one ends
pub ended_bodies : (e : EndState) (got piece body : List ℕ) (bs : List (List ℕ)) (used : ℕ) → AreBodies e.max got bs e.held → EndsFrame e piece body used
    → AreBodies e.max (got ++ take used piece) (bs ++ body ∷ []) []
ended_bodies e got piece body bs used are ends =
    (feed_given e.max got bs (reader_at e got) (moved (reader_at e got) [] used) piece (record { used = used; frame = Some body }) (has_given e got bs are)
    (refl, (ends, refl))).bodies_are

-- how many bytes they are
used_within : (e : EndState) (piece body : List ℕ) (used : ℕ) → EndsFrame e piece body used → used ≤ length piece
used_within e piece body used ends = omega (arith, ends.0, length-append e.held piece)

got_place : (e : EndState) (got piece : List ℕ) (used : ℕ) → e.place ≡ stream_place (length got) → used ≤ length piece
    → stream_place (e.place + used) ≡ stream_place (length (got ++ take used piece))
got_place e got piece used place le =
    counted_on (length got) used e.place (length (got ++ take used piece)) place
    (length-append got (take used piece) ∙ ap (λ n. length got + n) (length-take used piece ∙ omega arith))

-- where a message begins, when no frame has begun
frames_all : (m : ℕ) (got : List ℕ) (bs : List (List ℕ)) → AreBodies m got bs [] → got ≡ frames bs
frames_all m got bs are = are.whole ∙ append-nil (frames bs)

-- ---- what is taken goes on

pub taken_start : (limits : Limits) (now : ℕ) → HasTaken (first_end limits now) [] [] []
taken_start limits now = record {
  bodies_are = (start_given limits.max_message).bodies_are;
  place = refl;
  start = refl;
  greeted = refl;
  read = refl;
}

nothing_first : (bs : List (List ℕ)) → false ≡ has_first bs → bs ≡ []
nothing_first [] e = refl
nothing_first (b ∷ bs) e = absurd cc

no_first : (bs : List (List ℕ)) → true ≡ has_first bs → bs ≡ [] → ⊥
no_first [] e is = cc
no_first (b ∷ bs) e is = cc

module _ (old : EndState) (got piece : List ℕ) (now : ℕ) where
  -- a header
  header_taken : (body : List ℕ) (used : ℕ) (log : List Message) → HasTaken old got [] log → EndsFrame old piece body used → opens old.max body ≡ true
      → HasTaken (heard (holding old [] used) now) (got ++ take used piece) (body ∷ []) log
  header_taken body used log took ends is_link_open =
      let are = ended_bodies old got piece body [] used took.bodies_are ends in
      let place = got_place old got piece used took.place (used_within old piece body used ends) in
      record {
        bodies_are = are;
        place = place;
        start = place ∙ ap (λ s. stream_place (length s)) (frames_all old.max (got ++ take used piece) (body ∷ []) are);
        greeted = refl;
        read = (is_link_open, ap (map Some) (sym took.read));
      }

  -- a part of a frame
  held_taken : (used : ℕ) (bs : List (List ℕ)) (log : List Message) → HasTaken old got bs log → FrameGoesOn old piece → used ≡ length piece
      → HasTaken (holding old (old.held ++ piece) used) (got ++ take used piece) bs log
  held_taken used bs log took on all = record {
    bodies_are = part_bodies old got piece bs used took.bodies_are on all;
    place = got_place old got piece used took.place (omega (arith, all));
    start = took.start;
    greeted = took.greeted;
    read = took.read;
  }

  -- either: no message came
  pub taken_part : (used : ℕ) (new : EndState) (bs : List (List ℕ)) (log : List Message) → HasTaken old got bs log → IsPartTaken old piece now used new
      → (after : List (List ℕ)) × HasTaken new (got ++ take used piece) after log
  taken_part used new bs log took (inl (on, all, is)) = (bs, subst (λ e. HasTaken e (got ++ take used piece) bs log) (sym is) (held_taken used bs log took on all))
  taken_part used new bs log took (inr (body, ends, opening, is_link_open, is)) =
      let none : bs ≡ [] = nothing_first bs (sym opening ∙ took.greeted) in (
        body ∷ [],
        subst (λ e. HasTaken e (got ++ take used piece) (body ∷ []) log) (sym is)
            (header_taken body used log (subst (λ xs. HasTaken old got xs log) none took) ends is_link_open),
      )

  -- a message
  message_after : (body : List ℕ) (used : ℕ) (a : Message) (bs : List (List ℕ)) (log : List Message) → HasTaken old got bs log → EndsFrame old piece body used
      → old.greeted ≡ true → message_in old.max body ≡ Some a → HasTaken (heard (holding old [] used) now) (got ++ take used piece) (bs ++ body ∷ []) (log ++ a ∷ [])
  message_after body used a [] log took ends greeted is = absurd (no_first [] (sym greeted ∙ took.greeted) refl)
  message_after body used a (head ∷ bs) log took ends greeted is =
      let are = ended_bodies old got piece body (head ∷ bs) used took.bodies_are ends in
      let place = got_place old got piece used took.place (used_within old piece body used ends) in
      record {
        bodies_are = are;
        place = place;
        start = place ∙ ap (λ s. stream_place (length s)) (frames_all old.max (got ++ take used piece) (head ∷ bs ++ body ∷ []) are);
        greeted = refl;
        read = more_opened old.max head bs log body a took.read is;
      }

  pub taken_message : (g : Got) (new : EndState) (bs : List (List ℕ)) (log : List Message) → HasTaken old got bs log → GivesMessage old piece g new
      → HasTaken (heard new now) (got ++ take g.used piece) (bs ++ g.body ∷ []) (log ++ g.message ∷ [])
  taken_message g new bs log took came =
      subst (λ e. HasTaken (heard e now) (got ++ take g.used piece) (bs ++ g.body ∷ []) (log ++ g.message ∷ [])) (sym came.new_is)
      (message_after g.body g.used g.message bs log took came.frame_ends came.greeted came.message)

-- ---- what closes an end

pub limit_few : (m : ℕ) → m ≤ 2 ^ 30 → m < 256 ^ 8
limit_few m le = omega (arith, le)

each-take : (n : ℕ) (s : List ℕ) → Each IsByte s → Each IsByte (take n s)
each-take n s vs = each-front IsByte (take n s) (drop n s) (subst (Each IsByte) (sym (take-append-drop n s)) vs)

-- the fault of some bytes is that of all bytes up to it
pub fault_front : (m : ℕ) (held piece : List ℕ) (n : ℕ) → IsFaultAt (IsFrame m) (FrameWhy m) (held ++ piece) (length held + n) Length
    → IsFaultAt (IsFrame m) (FrameWhy m) (held ++ take (n + 1) piece) (length held + n) Length
fault_front m held piece n (p, b, v, cut, at, front, none, why) = (p, b, [], line, at, front, none, why)
  where
    line : held ++ take (n + 1) piece ≡ p ++ b ∷ []
    line =
        let count : length held + (n + 1) ≡ length p + 1 = omega (arith, at) in
        sym (take_front (length held) (n + 1) held piece refl)
        ∙ (ap (λ k. take k (held ++ piece)) count ∙ (ap (take (length p + 1)) cut ∙ take_front (length p) 1 p (b ∷ v) refl))

-- of an end that accepted all that it took, by the calls that it made; it takes these bytes besides
module _ (old : EndState) (limit : old.max ≤ 2 ^ 30) (calls : List Call) (got piece : List ℕ) (bytes : Each IsByte got) (more : Each IsByte piece) where
  abbrev after : ℕ → List ℕ
  after used = got ++ take used piece

  after_bytes : (used : ℕ) → Each IsByte (after used)
  after_bytes used = each-join IsByte got (take used piece) bytes (each-take used piece more)

  abbrev few : old.max < 256 ^ 8
  few = limit_few old.max limit

  -- a length that is too long
  pub long_cause : (bs : List (List ℕ)) (log : List Message) → HasTaken old got bs log → IsTaken old.max calls [] log → (n : ℕ) → PassesLimit old piece n
      → cause_of old.max calls (after (n + 1)) ≡ Some (cause.BadFrame (stream_place (old.place + n)))
  long_cause bs log took all n passes =
      let rest = old.held ++ take (n + 1) piece in
      let cut : after (n + 1) ≡ frames bs ++ rest = ap (λ s. s ++ take (n + 1) piece) took.bodies_are.whole ∙ append_assoc (frames bs) old.held (take (n + 1) piece) in
      let count : length got ≡ length (frames bs) + length old.held = ap length took.bodies_are.whole ∙ length-append (frames bs) old.held in
      let at : length got + n ≡ length (frames bs) + (length old.held + n) = omega (arith, count) in
      frame_fault old.max few calls bs log took.read all (after (n + 1)) rest (length old.held + n) (length got + n) (after_bytes (n + 1)) took.bodies_are.short cut
      (fault_front old.max old.held piece n passes) at
      ∙ ap (λ k. Some (cause.BadFrame k)) (sym (counted_on (length got) n old.place (length got + n) took.place refl))

  -- a body that is not what has to come next
  pub unread_cause : (bs : List (List ℕ)) (log : List Message) → HasTaken old got bs log → IsTaken old.max calls [] log → (body : List ℕ) (used : ℕ) → EndsFrame old piece body used
      → (why : CloseCause) → unread old body ≡ Some why → cause_of old.max calls (after used) ≡ Some why
  unread_cause [] log took all body used ends why is =
      whole_cause old.max few calls (body ∷ []) (after used) (after_bytes used) (ended_bodies old got piece body [] used took.bodies_are ends)
      ∙ (ap (λ b. if b then bad_message old.max (old.start + 8) body else header_cause (bad_header old.max body) None (header_in old.max body)) (sym took.greeted) ∙ is)
  unread_cause (head ∷ bs) log took all body used ends why is =
      let line : bad_message old.max (old.start + 8) body ≡ Some why
      = ap (λ b. if b then bad_message old.max (old.start + 8) body else header_cause (bad_header old.max body) None (header_in old.max body)) (sym took.greeted) ∙ is in
      whole_cause old.max few calls (head ∷ bs ++ body ∷ []) (after used) (after_bytes used) (ended_bodies old got piece body (head ∷ bs) used took.bodies_are ends)
      ∙ (unread_behind old.max calls None head bs log body took.read all (bad_none old.max (old.start + 8) body why line)
      ∙ (sym (bad_message_on old.max (length (frames (head ∷ bs))) body)
      ∙ (ap (λ n. bad_message old.max (n + 8) body) (sym took.start) ∙ line)))

  -- whatever closes an end while it reads is the first fault of its stream
  pub closed_cause : (bs : List (List ℕ)) (log : List Message) → HasTaken old got bs log → IsTaken old.max calls [] log → (why : CloseCause) (new : EndState) → IsClosedBy old piece why new
      → (used : ℕ) × (cause_of old.max calls (after used) ≡ Some why)
  closed_cause bs log took all why new (inl (n, passes, why_is, is)) = (n + 1, long_cause bs log took all n passes ∙ ap Some (sym why_is))
  closed_cause bs log took all why new (inr (body, used, ends, is_unread, is)) = (used, unread_cause bs log took all body used ends why is_unread)

  -- and so is a message that is not welcome
  pub unwelcome_cause : (bs : List (List ℕ)) (log : List Message) → HasTaken old got bs log → IsTaken old.max calls [] log → (g : Got) (new : EndState) → GivesMessage old piece g new
      → is_welcome old.max calls log g.message ≡ false → cause_of old.max calls (after g.used) ≡ unwelcome old.max calls log g.message
  unwelcome_cause [] log took all g new came not_welcome = absurd (no_first [] (sym came.greeted ∙ took.greeted) refl)
  unwelcome_cause (head ∷ bs) log took all g new came not_welcome =
      whole_cause old.max few calls (head ∷ bs ++ g.body ∷ []) (after g.used) (after_bytes g.used) (ended_bodies old got piece g.body (head ∷ bs) g.used took.bodies_are came.frame_ends)
      ∙ unwelcome_behind old.max calls None head bs log g.body g.message took.read all came.message not_welcome
