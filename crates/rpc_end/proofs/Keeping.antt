-- What an end keeps when its reader of frames takes a piece, and what it takes to give bytes back.
use Rattle.std.proofs.Common.{◌≡◌, refl, sym, ap, ◌∙◌, subst, ℕ, zero, suc, ◌+◌, ◌-◌, ◌^◌, ◌<◌, ◌≤◌, Bool, false, List, [], ◌∷◌, ◌++◌, length, take, drop, inr, arith}
use Rattle.std.specs.Prelude.{Option, Some, None, Result, Ok, Err, IfOk}
use Rattle.std.specs.Option.{is_some}
use Rattle.std.proofs.lemmas.List.{append-nil, length-append, length-drop, length-take, take-append-drop}
use Rattle.readers.specs.Reader.{IsProperFront}
use Rattle.bp_num.specs.Forms.{little_endian}
use Rattle.rpc_frame.specs.Feeding.{FedGives, IsFrameFed, WouldTake as ReaderWould}
use Rattle.rpc_frame.specs.declared.error.FrameError.TheVariants as stop
use Rattle.rpc_frame.specs.Frames.{frame, IsFrame}
use Rattle.rpc_frame.specs.States.{FrameState, failed_after, stream_place, undone}
use Rattle.rpc_frame.proofs.HeadSteps.{length-little, take_front}
use Rattle.rpc_frame.proofs.Streams.{frame_is, front_none, front_start, is_frame}
use Rattle.rpc_msg.specs.declared.shared.CloseCause.{CloseCause}
use Rattle.rpc_msg.specs.declared.shared.CloseCause.TheVariants as cause
use Rattle.rpc_msg.specs.declared.shared.FeedError.{FeedError}
use Rattle.rpc_msg.specs.declared.shared.FeedError.TheVariants as feed
use Rattle.rpc_log.specs.Logs.{opens}
use Rattle.rpc_log.specs.Readings.{message_in}
use Rattle.rpc_end.specs.Ends.{EndState, IsEnd, EndsFrame, WouldTakeOf, closed_by, heard, holding, unread}
use Rattle.rpc_end.specs.Taking.{CanPutBack, IsFedBy, IsNextOf, IsReadNext, IsTooLong, TakesSome, next_used, put_back}
use Rattle.rpc_end.specs.declared.end.Next.{Next}
use Rattle.rpc_end.specs.declared.end.Next.TheVariants as next
use Rattle.rpc_end.proofs.Taken.{limit_few}

-- an end, with what a reader of frames shows
abbrev pub with_reader : EndState → FrameState → EndState
with_reader e r = record e { max = r.max; held = r.held; place = r.place }

-- ---- invariants

abbrev pub Keeps : ℕ → FrameState → ℕ → Bool → Option CloseCause → Type 0
Keeps most r start greeted why = (most ≡ r.max) × IsEnd r.max r.held start greeted why r.failed

pub kept_fed : (most : ℕ) (old new : FrameState) (piece : List ℕ) (given : Option (List ℕ)) (used start : ℕ) (greeted : Bool) (why : Option CloseCause)
    → Keeps most old start greeted why → FedGives old piece given used new → Keeps most new start greeted why
kept_fed most old new piece None used start greeted why (same, e) (on, all, is) =
    subst (λ r. Keeps most r start greeted why) (sym is) (same, record { limit = e.limit; front = on; going = λ none. refl; opening = e.opening })
kept_fed most old new piece (Some body) used start greeted why (same, e) (ends, is) =
    subst (λ r. Keeps most r start greeted why) (sym is) (same, record { limit = e.limit; front = front_start old.max; going = λ none. refl; opening = e.opening })

-- where a length is too long, the end closes
pub kept_long : (most : ℕ) (old new : FrameState) (n start : ℕ) (greeted : Bool) (before : Option CloseCause) (why : CloseCause)
    → Keeps most old start greeted before → new ≡ failed_after old n → Keeps most new start greeted (Some why)
kept_long most old new n start greeted before why (same, e) is =
    subst (λ r. Keeps most r start greeted (Some why)) (sym is) (same, record { limit = e.limit; front = front_start old.max; going = λ none. absurd (no_cause why none); opening = e.opening })
  where
    no_cause : (x : CloseCause) → Some x ≡ None → ⊥
    no_cause x e = cc

-- the front of a frame, but for its last bytes
undone_front : (m : ℕ) (body : List ℕ) (used : ℕ) → m < 256 ^ 8 → length body ≤ m → 1 ≤ used → used ≤ length body + 8
    → IsProperFront (IsFrame m) (take (8 + length body - used) (frame body))
undone_front m body used few short some within = by (drop k (frame body)) (take-append-drop k (frame body)) (length-drop k (frame body))
  where
    k : ℕ
    k = 8 + length body - used

    by : (rest : List ℕ) → take k (frame body) ++ rest ≡ frame body → length rest ≡ length (frame body) - k → IsProperFront (IsFrame m) (take k (frame body))
    by [] cut size = absurd (omega (arith, size, some, within, length-append (little_endian 8 (length body)) body, length-little 8 (length body)))
    by (b ∷ x) cut size = (body, b, x, subst (λ s. IsFrame m body s) (sym cut) (frame_is m body few short))

pub kept_back : (most : ℕ) (old new : FrameState) (body : List ℕ) (used place start : ℕ) (greeted : Bool) (why : Option CloseCause)
    → Keeps most old start greeted why → length body ≤ old.max → 1 ≤ used → used ≤ length body + 8 → new ≡ undone old body used place → Keeps most new start greeted why
kept_back most old new body used place start greeted why (same, e) short some within is =
    subst (λ r. Keeps most r start greeted why) (sym is)
    (same, record { limit = e.limit; front = undone_front old.max body used (limit_few old.max e.limit) short some within; going = λ none. refl; opening = e.opening })

pub kept_new : (most : ℕ) (r : FrameState) → most ≤ 2 ^ 30 → r ≡ record { max = most; held = []; place = 0; failed = None } → Keeps most r 0 false None
kept_new most r limit is =
    subst (λ x. Keeps most x 0 false None) (sym is) (refl, record { limit = limit; front = front_start most; going = λ none. refl; opening = λ first. refl })

-- ---- what a feed gives an end

pub fed_by : (e : EndState) (old new : FrameState) (piece : List ℕ) (given : Option (List ℕ)) (used : ℕ) → FedGives old piece given used new
    → IsFedBy (with_reader e old) piece given used (with_reader e new)
fed_by e old new piece None used (on, all, is) = (on, all, ap (with_reader e) is)
fed_by e old new piece (Some body) used (ends, is) = (ends, ap (with_reader e) is)

pub would_take_by : (e : EndState) (r : FrameState) (piece : List ℕ) (n : ℕ) → ReaderWould r piece None n → WouldTakeOf (with_reader e r) piece None n
would_take_by e r piece n would = would

-- ---- a frame that ended

module _ (old mid : EndState) (piece body : List ℕ) (used : ℕ) (open_still : old.cause ≡ None) (limit : old.max ≤ 2 ^ 30)
    (front : IsProperFront (IsFrame old.max) old.held) (fed : IsFedBy old piece (Some body) used mid) where
  abbrev few : old.max < 256 ^ 8
  few = limit_few old.max limit

  -- it is the bytes held, and those of the piece
  whole_frame : (frame body ≡ old.held ++ take used piece) × (length body ≤ old.max)
  whole_frame =
      let (text, short) = is_frame old.max body (take (length old.held + used) (old.held ++ piece)) fed.0.1 in
      (sym text ∙ take_front (length old.held) used old.held piece refl, short)

  frame_size : length old.held + used ≡ 8 + length body
  frame_size =
      let (text, short) = is_frame old.max body (take (length old.held + used) (old.held ++ piece)) fed.0.1 in
      omega (arith, fed.0.0, ap length text, length-take (length old.held + used) (old.held ++ piece), length-append (little_endian 8 (length body)) body, length-little 8 (length body))

  some_used : (n : ℕ) → used ≡ n → 1 ≤ used
  some_used zero none = absurd (
      let (text, short) = whole_frame in
      front_none old.max old.held body [] front (frame_is old.max body few short)
      (sym (append-nil old.held) ∙ (ap (λ n. old.held ++ take n piece) (sym none) ∙ (sym text ∙ sym (append-nil (frame body))))))
  some_used (suc n) is = omega (arith, is)

  pub can_put_back : CanPutBack mid body used
  can_put_back = record {
    going = ap (λ (e : EndState). e.cause) fed.1 ∙ open_still;
    empty = ap (λ (e : EndState). e.held) fed.1;
    short = subst (λ k. length body ≤ k) (sym (ap (λ (e : EndState). e.max) fed.1)) whole_frame.1;
    some = some_used used refl;
    within = omega (arith, frame_size);
  }

  -- given back, they leave the end as it was
  given_back : put_back mid body used old.place ≡ old
  given_back =
      let held_is : take (8 + length body - used) (frame body) ≡ old.held
      = ap (take (8 + length body - used)) whole_frame.0
      ∙ (ap (λ k. take k (old.held ++ take used piece)) count ∙ (take_front (length old.held) 0 old.held (take used piece) refl ∙ append-nil old.held)) in
      ap (λ (e : EndState). put_back e body used old.place) fed.1 ∙ ap (λ h. put_held h) held_is
    where
      count : 8 + length body - used ≡ length old.held + 0
      count = omega (arith, frame_size)

      put_held : List ℕ → EndState
      put_held h = record old { held = h }

  -- what its body is, is what comes next
  -- what the body is read as was some bytes
  pub read_some : (now place : ℕ) (result : Result Next FeedError) (new : EndState) → IsReadNext mid body used place now result new → IfOk result (λ n. TakesSome piece (next_used n))
  read_some now place (Ok (next.Part n)) new (first, all, is_link_open, is) = λ any. subst (λ k. 1 ≤ k) (sym all) can_put_back.some
  read_some now place (Ok (next.Message got)) new (greeted, all, at, body_is, reads, is) = λ any. subst (λ k. 1 ≤ k) (sym all) can_put_back.some
  read_some now place (Err why) new is = tt

  pub next_read : (now : ℕ) (result : Result Next FeedError) (new : EndState) → IsReadNext mid body used old.place now result new → IsNextOf old piece now result new
  next_read now (Ok (next.Part n)) new (first, all, is_link_open, is) = (
    open_still,
    inr (
      body,
      subst (EndsFrame old piece body) (sym all) fed.0,
      ap (λ (e : EndState). e.greeted) (sym fed.1) ∙ first,
      ap (λ (e : EndState). opens e.max body) (sym fed.1) ∙ is_link_open,
      is ∙ (ap (λ (e : EndState). heard e now) fed.1 ∙ ap (λ k. heard (holding old [] k) now) (sym all)),
    ),
  )
  next_read now (Ok (next.Message got)) new (later, same_used, same_place, same_body, read, is) = (
    open_still,
    record {
      frame_ends = subst (λ b. EndsFrame old piece b got.used) (sym same_body) (subst (EndsFrame old piece body) (sym same_used) fed.0);
      greeted = ap (λ (e : EndState). e.greeted) (sym fed.1) ∙ later;
      message = ap (message_in old.max) same_body ∙ (ap (λ (e : EndState). message_in e.max body) (sym fed.1) ∙ read);
      new_is = is ∙ (fed.1 ∙ ap (holding old []) (sym same_used));
      can_back = subst (λ e. CanPutBack e got.body got.used) (sym is) (subst (λ b. CanPutBack mid b got.used) (sym same_body) (subst (CanPutBack mid body) (sym same_used) can_put_back));
      back =
          ap (λ e. put_back e got.body got.used got.place) is
          ∙ (ap (λ b. put_back mid b got.used got.place) same_body ∙ (ap (λ u. put_back mid body u got.place) same_used ∙ (ap (put_back mid body used) same_place ∙ given_back)));
    },
  )
  next_read now (Err (feed.Closed why)) new (unread_is, is) =
      inr (open_still, inr (body, used, fed.0, ap (λ (e : EndState). unread e body) (sym fed.1) ∙ unread_is, is ∙ ap (λ e. closed_by e why) fed.1))
  next_read now (Err feed.OutOfMemory) new is = (open_still, is ∙ given_back)

pub none_of : (o : Option CloseCause) → false ≡ is_some o → o ≡ None
none_of None e = refl
none_of (Some why) e = absurd cc

-- ---- a length that is too long

pub kept_stop : (most : ℕ) (old new : FrameState) (piece : List ℕ) (at start : ℕ) (greeted : Bool) (before : Option CloseCause) (why : CloseCause)
    → Keeps most old start greeted before → IsFrameFed old piece (Err (stop.TooLong at)) new → Keeps most new start greeted (Some why)
kept_stop most old new piece at start greeted before why kept (going, (n, passes, place, is)) = kept_long most old new n start greeted before why kept is

pub long_by : (e : EndState) (old new : FrameState) (piece : List ℕ) (at : ℕ) → IsFrameFed old piece (Err (stop.TooLong at)) new
    → IsTooLong (with_reader e old) piece (cause.BadFrame at) (closed_by (with_reader e new) (cause.BadFrame at))
long_by e old new piece at (going, (n, passes, place, is)) =
    let counted : stream_place (old.place + n + 1) ≡ stream_place (old.place + (n + 1)) = omega arith in (
      n,
      passes,
      ap cause.BadFrame place,
      ap (λ r. closed_by (with_reader e r) (cause.BadFrame at)) is ∙ ap (λ p. closed_by (at_place p) (cause.BadFrame at)) counted,
    )
  where
    at_place : ℕ → EndState
    at_place p = record e { max = old.max; held = []; place = p }
