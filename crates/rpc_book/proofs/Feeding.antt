-- What a feed makes of a book.
use Rattle.std.proofs.Common.{◌≡◌, refl, sym, ap, ◌∙◌, subst, inl, inr, ℕ, ◌+◌, ◌<◌, ◌≤◌, ◌^◌, Bool, true, false, if◌then◌else◌, List, [], ◌∷◌, ◌++◌, length, take, arith}
use Rattle.std.specs.Prelude.{Option, Some, None, Result, Ok, Err}
use Rattle.std.proofs.lemmas.List.{length-append, length-take}
use Rattle.readers.specs.Reader.{Each, IsByte}
use Rattle.rpc_frame.specs.Streams.{bodies}
use Rattle.rpc_msg.specs.declared.message.Message.{Message}
use Rattle.rpc_msg.specs.declared.message.Message.TheVariants as message
use Rattle.rpc_msg.specs.declared.shared.CloseCause.{CloseCause}
use Rattle.rpc_msg.specs.declared.shared.CloseCause.TheVariants as cause
use Rattle.rpc_msg.specs.declared.shared.FeedError.{FeedError}
use Rattle.rpc_msg.specs.declared.shared.FeedError.TheVariants as feed
use Rattle.rpc_log.specs.Logs.{log_of}
use Rattle.rpc_talk.specs.Causes.{cause_of, unwelcome}
use Rattle.rpc_talk.specs.Welcome.{Call, accepted, is_welcome}
use Rattle.rpc_talk.proofs.Accepting.{accepted_not}
use Rattle.rpc_talk.proofs.StreamCauses.{no_frame_cause}
use Rattle.rpc_end.specs.Ends.{EndState, WouldTakeOf, heard, said, shut, shut_by}
use Rattle.rpc_end.specs.Taken.{HasTaken, has_first}
use Rattle.rpc_end.specs.Taking.{GivesMessage, IsClosedBy, IsPartTaken}
use Rattle.rpc_end.specs.declared.end.Got.{Got}
use Rattle.rpc_end.proofs.Taken.{limit_few, taken_message}
use Rattle.rpc_client.specs.Clients.{ClientState, Hearing, HearsOne, IsClientFed, PassesOn, answering, by_rows, client_behind, closed_for, end_behind as client_end, fed, hearing, with_link as with_client_link}
use Rattle.rpc_client.specs.Kept.{HasGot, IsGoing, row_calls}
use Rattle.rpc_client.specs.Rows.{Row}
use Rattle.rpc_client.specs.Tables.{rows_heard}
use Rattle.rpc_client.proofs.Closes.{AddsNoHeader, StopsAt, closed_got}
use Rattle.rpc_client.proofs.Dispatches.{taken_log}
use Rattle.rpc_client.proofs.Feeds.{kept_by_log, message_got, part_got, part_same}
use Rattle.rpc_client.proofs.Gots.{all_bytes}
use Rattle.rpc_client.proofs.TableSteps.{Hears, rows_hear}
use Rattle.rpc_book.specs.declared.made.Made.{Made}
use Rattle.rpc_book.specs.Books.{BookState, Booked, accepted_in, begins, calls_of, fault_of, got_header, messages_of}
use Rattle.rpc_book.specs.Feeds.{FeedCloses, LeavesRoom, HearsMessage, IsBookFed, closes_for, end_heard, own_answer, with_bytes}
use Rattle.rpc_book.specs.Inside.{AreMadeOf, IsBook, book_of, kept_behind}
use Rattle.rpc_book.proofs.Heard.{Stay, heard_stays}
use Rattle.rpc_book.proofs.Once.{part_takes, same_count}
use Rattle.rpc_book.proofs.Same.{calls_same}
use Rattle.rpc_book.proofs.Sounds.{all_same, bodies_same, fault_same, log_same, sound}

-- ---- headers

-- a body that is no header adds none
no_header : (m : ℕ) (before now : List (List ℕ)) → AddsNoHeader m before now → begins m now ≡ begins m before
no_header m before now (inl same) = ap (begins m) same
no_header m [] now (inr (body, is, none)) = ap (begins m) is ∙ none refl
no_header m (head ∷ before) now (inr (body, is, none)) = ap (begins m) is

-- nor does one behind others
later_body : (m : ℕ) (bs : List (List ℕ)) (body : List ℕ) → has_first bs ≡ true → begins m (bs ++ body ∷ []) ≡ begins m bs
later_body m [] body first = absurd cc
later_body m (head ∷ bs) body first = refl

-- ---- causes

fault_closed : (old : EndState) (piece : List ℕ) (why : CloseCause) (new : EndState) → IsClosedBy old piece why new → new.cause ≡ Some why
fault_closed old piece why new (inl (n, passes, why_is, is)) = ap (λ e. e.cause) is
fault_closed old piece why new (inr (body, used, ends, unread, is)) = ap (λ e. e.cause) is

behind_cause : (e : EndState) (now : ℕ) (o : Option Message) (why : Option CloseCause) → e.cause ≡ None → (closed_for (heard (answering e o) now) why).cause ≡ why
behind_cause e now None None open_ = open_
behind_cause e now (Some a) None open_ = open_
behind_cause e now None (Some why) open_ = ap (λ o. (shut_by (heard e now) why o).cause) open_
behind_cause e now (Some a) (Some why) open_ = ap (λ o. (shut_by (heard (said e a) now) why o).cause) open_

-- ---- a feed of a book that is open, of bytes for which there is room

module _ (c : ClientState) (made : List Made) (got : List ℕ) (is : IsBook c made got) (piece : List ℕ) (now count : ℕ) (bytes : Each IsByte piece)
    (open_ : c.link.cause ≡ None) (takes : WouldTakeOf c.link piece None count) (room : length got + count ≤ 2 ^ 30) where
  abbrev book : BookState
  book = book_of c made got

  abbrev m : ℕ
  m = c.limits.max_message

  abbrev pub after : List ℕ
  after = got ++ take count piece

  going : IsGoing c got
  going = is.has.going open_

  after_bytes : (n : ℕ) → Each IsByte (got ++ take n piece)
  after_bytes n = all_bytes got piece n is.has.bytes bytes

  after_room : length after ≤ 2 ^ 30
  after_room = let sum = length-append got (take count piece) in let taken = length-take count piece in omega (arith, sum, taken, room)

  has_room : LeavesRoom book piece count
  has_room = (takes, room)

  counts : (n : ℕ) → WouldTakeOf c.link piece None n → n ≡ count
  counts n other = same_count c got piece open_ is.has bytes n count other takes

  abbrev Feeds : Result ℕ FeedError → ClientState → List ℕ → Type 0
  Feeds answer new bs = IsBook new made bs × IsBookFed book piece now answer (book_of new made bs)

  -- ---- the end alone changes

  module _ (new : ClientState) (same : new ≡ with_client_link c new.link) where
    -- the book with these bytes more
    more_book : book_of new made after ≡ with_bytes book (take count piece) new.link
    more_book = ap (λ x. book_of x made after) same

    more_kept : HasGot (with_client_link c new.link) after → IsBook new made after
    more_kept has = record { has = subst (λ x. HasGot x after) (sym same) has; dispatches = subst (λ x. AreMadeOf made x.rows) (sym same) is.dispatches; room = after_room }

    part_fed : (used : ℕ) → IsPartTaken c.link piece now used new.link → Feeds (Ok used) new after
    part_fed used part =
        let is_count = counts used (part_takes c.link piece now used new.link part) in
        let has = part_got c new.link got piece now used open_ is.has (after_bytes used) part in
        let kept = more_kept (subst (λ n. HasGot (with_client_link c new.link) (got ++ take n piece)) is_count has) in
        let calm = (part_same c.link piece now used new.link part).1 ∙ open_ in (
          kept,
          subst (λ n. IsBookFed book piece now (Ok n) (book_of new made after)) (sym is_count) (
            open_,
            record {
              room = has_room;
              did = inl (subst (λ n. IsPartTaken c.link piece now n new.link) is_count part, more_book);
              calm = calm;
              fault = ((sound new made after kept).going calm).fault;
            },
          ),
        )

    fault_fed : (why : CloseCause) → IsClosedBy c.link piece why new.link → Feeds (Err (feed.Closed why)) new after
    fault_fed why closes =
        let (used, stops) = closed_got c got piece open_ is.has bytes after_bytes why new.link closes in
        at (subst (StopsAt c got piece why new.link) (counts used stops.takes) stops)
      where
        at : StopsAt c got piece why new.link count → Feeds (Err (feed.Closed why)) new after
        at stops =
            let log : log_of m after ≡ log_of m got = subst (λ n. log_of n after ≡ log_of n got) is.has.max stops.log in
            let header : begins m (bodies m after) ≡ begins m (bodies m got) =
            subst (λ n. begins n (bodies n after) ≡ begins n (bodies n got)) is.has.max (no_header c.link.max (bodies c.link.max got) (bodies c.link.max after) stops.bodies_are) in (
              more_kept stops.has,
              inr (inr (
                open_,
                (
                  count,
                  record {
                    room = has_room;
                    did = inl (closes, more_book);
                    stops = record {
                      closed = fault_closed c.link piece why new.link closes;
                      fault = ap fault_of more_book ∙ (fault_same c made got is after ∙ stops.fault);
                      accepted = ap accepted_in more_book ∙ ap (accepted m (calls_of book.made)) log;
                      header = ap got_header more_book ∙ header;
                    };
                  },
                ),
              )),
            )

  -- ---- a message is heard

  -- why a message closes a client
  abbrev closes_by : ℕ → List Call → List Message → Message → Option CloseCause
  closes_by n calls log a = if is_welcome n calls log a then None else unwelcome n calls log a

  abbrev closes_if : Message → Bool → Option CloseCause
  closes_if a b = if b then None else unwelcome c.link.max (row_calls c.rows) going.log a

  closes_same : (a : Message) → closes_for book a ≡ closes_by c.link.max (row_calls c.rows) going.log a
  closes_same a =
      ap (λ n. closes_by n (calls_of book.made) (messages_of book) a) (sym is.has.max)
      ∙ (ap (λ cs. closes_by c.link.max cs (messages_of book) a) (calls_same c made got is)
      ∙ ap (λ log. closes_by c.link.max (row_calls c.rows) log a) (log_same c made got is going))

  heard_cause : (a : Message) → (hearing c.link.max c.rows a).cause ≡ closes_by c.link.max (row_calls c.rows) going.log a
  heard_cause message.Heartbeat = refl
  heard_cause (message.Query q) = refl
  heard_cause (message.Response r) =
      by (rows_heard c.link.max c.rows r.id r.result) (rows_hear c.link.max going.log c.rows r.id r.result is.has.calls.apart (kept_by_log c got open_ is.has going))
    where
      by : (x : Result (List Row) CloseCause) → Hears c.link.max c.rows going.log r.id r.result x → (by_rows c.rows x).cause ≡ closes_by c.link.max (row_calls c.rows) going.log (message.Response r)
      by (Ok rows) (welcome, calls, kept) = sym (ap (closes_if (message.Response r)) welcome)
      by (Err why) (not_welcome, because) = sym (ap (closes_if (message.Response r)) not_welcome ∙ because)

  cause_same : (a : Message) → (hearing m c.rows a).cause ≡ closes_for book a
  cause_same a = ap (λ n. (hearing n c.rows a).cause) (sym is.has.max) ∙ (heard_cause a ∙ sym (closes_same a))

  answer_same : (a : Message) → (hearing m c.rows a).answer ≡ own_answer m a
  answer_same message.Heartbeat = refl
  answer_same (message.Query q) = refl
  answer_same (message.Response r) = by (rows_heard m c.rows r.id r.result)
    where
      by : (x : Result (List Row) CloseCause) → (by_rows c.rows x).answer ≡ None
      by (Ok rows) = refl
      by (Err why) = refl

  -- what closes is not welcome
  not_welcome : (a : Message) (why : CloseCause) → closes_for book a ≡ Some why → is_welcome c.link.max (row_calls c.rows) going.log a ≡ false
  not_welcome a why closes = by (is_welcome c.link.max (row_calls c.rows) going.log a) refl (sym (closes_same a) ∙ closes)
    where
      by : (b : Bool) → is_welcome c.link.max (row_calls c.rows) going.log a ≡ b → (if b then None else unwelcome c.link.max (row_calls c.rows) going.log a) ≡ Some why
          → is_welcome c.link.max (row_calls c.rows) going.log a ≡ false
      by true e line = absurd cc
      by false e line = e

  module _ (g : Got) (behind : EndState) (gives : GivesMessage c.link piece g behind) (is_count : g.used ≡ count) where
    took : HasTaken (heard behind now) after (going.bodies ++ g.body ∷ []) (going.log ++ g.message ∷ [])
    took =
        subst (λ n. HasTaken (heard behind now) (got ++ take n piece) (going.bodies ++ g.body ∷ []) (going.log ++ g.message ∷ [])) is_count
        (taken_message c.link got piece now g behind going.bodies going.log going.took gives)

    behind_max : behind.max ≡ c.limits.max_message
    behind_max = ap (λ e. e.max) gives.new_is ∙ is.has.max

    limit : behind.max ≤ 2 ^ 30
    limit = subst (λ n. n ≤ 2 ^ 30) (is.has.max ∙ sym behind_max) is.has.limit

    after_log : log_of m after ≡ going.log ++ g.message ∷ []
    after_log =
        ap (λ n. log_of n after) (sym behind_max)
        ∙ taken_log (heard behind now) after (going.bodies ++ g.body ∷ []) (going.log ++ g.message ∷ []) limit (after_bytes count) took

    after_bodies : bodies m after ≡ going.bodies ++ g.body ∷ []
    after_bodies =
        ap (λ n. bodies n after) (sym behind_max)
        ∙ (no_frame_cause behind.max (limit_few behind.max limit) after (going.bodies ++ g.body ∷ []) (heard behind now).held (after_bytes count) took.bodies_are).1

    -- one that is not welcome leaves what was accepted
    still_accepted : is_welcome c.link.max (row_calls c.rows) going.log g.message ≡ false → accepted m (calls_of book.made) (log_of m after) ≡ accepted_in book
    still_accepted refuses =
        ap (accepted m (calls_of book.made)) after_log
        ∙ (ap (λ n. accepted n (calls_of book.made) (going.log ++ g.message ∷ [])) (sym is.has.max)
        ∙ (ap (λ cs. accepted c.link.max cs (going.log ++ g.message ∷ [])) (calls_same c made got is)
        ∙ (accepted_not c.link.max (row_calls c.rows) going.log [] g.message going.all refuses ∙ sym (all_same c made got is going))))

    still_header : begins m (bodies m after) ≡ begins m (bodies m got)
    still_header =
        ap (begins m) after_bodies
        ∙ (later_body m going.bodies g.body (sym going.took.greeted ∙ gives.greeted) ∙ ap (begins m) (sym (bodies_same c made got is going)))

  module _ (answer : Result ℕ FeedError) (new : ClientState) (one : HearsOne c piece now answer new) where
    abbrev a : Message
    a = one.got.message

    abbrev h : Hearing
    h = hearing m c.rows a

    gives : GivesMessage c.link piece one.got one.behind
    gives = one.took.1

    used_is : one.got.used ≡ count
    used_is = counts one.got.used (inl (one.got.body, gives.frame_ends))

    end_same : client_end one.behind now h ≡ end_heard book one.behind now a
    end_same =
        ap (λ o. closed_for (heard (answering one.behind o) now) h.cause) (answer_same a)
        ∙ ap (closed_for (heard (answering one.behind (own_answer m a)) now)) (cause_same a)

    abbrev with_dispatches : List Booked → EndState → BookState
    with_dispatches ds e = record { limits = c.limits; made = ds; got = after; link = e }

    stay : Stay made c.rows is.dispatches h.rows
    stay = heard_stays made c.rows is.dispatches m a

    heard_book : book_of new made after ≡ with_bytes book (take count piece) (end_heard book one.behind now a)
    heard_book =
        ap (λ x. book_of x made after) one.new_is
        ∙ (ap (λ ds. with_dispatches ds (client_end one.behind now h)) stay.1 ∙ ap (with_dispatches book.made) end_same)

    got_message : HasGot (client_behind c one.behind now h) after × (cause_of c.link.max (row_calls c.rows) after ≡ h.cause)
    got_message =
        subst (λ n. HasGot (client_behind c one.behind now h) (got ++ take n piece) × (cause_of c.link.max (row_calls c.rows) (got ++ take n piece) ≡ h.cause)) used_is
        (message_got c one.behind got piece now one.got open_ is.has bytes (after_bytes one.got.used) gives)

    heard_kept : IsBook new made after
    heard_kept = record {
      has = subst (λ x. HasGot x after) (sym one.new_is) got_message.0;
      dispatches = subst (λ x. AreMadeOf made x.rows) (sym one.new_is) stay.0;
      room = after_room;
    }

    heard_fault : fault_of (book_of new made after) ≡ h.cause
    heard_fault = ap fault_of heard_book ∙ (fault_same c made got is after ∙ got_message.1)

    heard_closed : (why : Option CloseCause) → closes_for book a ≡ why → new.link.cause ≡ why
    heard_closed why closes =
        ap (λ b. b.link.cause) heard_book
        ∙ (behind_cause one.behind now (own_answer m a) (closes_for book a) (ap (λ e. e.cause) gives.new_is ∙ open_) ∙ closes)

    hears : (why : Option CloseCause) → closes_for book a ≡ why → HearsMessage book piece now count why (book_of new made after)
    hears why closes = record { got = one.got; behind = one.behind; gives = gives; count = sym used_is; closes = sym closes; new_is = heard_book }

    abbrev Fed : Result ℕ FeedError → Type 0
    Fed x = Feeds x new (kept_behind got (take count piece) x)

    message_fed : Feeds answer new (kept_behind got (take count piece) answer)
    message_fed = by (closes_for book a) refl
      where
        answer_is : (why : Option CloseCause) → closes_for book a ≡ why → fed count why ≡ answer
        answer_is why closes = sym (one.answer_is ∙ (ap (λ n. fed n h.cause) used_is ∙ ap (fed count) (cause_same a ∙ closes)))

        by : (why : Option CloseCause) → closes_for book a ≡ why → Feeds answer new (kept_behind got (take count piece) answer)
        by None closes =
            subst Fed (answer_is None closes) (
              heard_kept,
              (open_, record { room = has_room; did = inr (hears None closes); calm = heard_closed None closes; fault = heard_fault ∙ (cause_same a ∙ closes) }),
            )
        by (Some why) closes =
            subst Fed (answer_is (Some why) closes) (
              heard_kept,
              inr (inr (
                open_,
                (
                  count,
                  record {
                    room = has_room;
                    did = inr (hears (Some why) closes);
                    stops = record {
                      closed = heard_closed (Some why) closes;
                      fault = heard_fault ∙ (cause_same a ∙ closes);
                      accepted = ap accepted_in heard_book ∙ still_accepted one.got one.behind gives used_is (not_welcome a why closes);
                      header = ap got_header heard_book ∙ still_header one.got one.behind gives used_is;
                    };
                  },
                ),
              )),
            )

  -- ---- both

  passed : (answer : Result ℕ FeedError) (new : ClientState) → PassesOn c piece now answer new → Feeds answer new (kept_behind got (take count piece) answer)
  passed (Ok used) new ((calm, part), same) = part_fed new same used part
  passed (Err (feed.Closed why)) new (inl (closed, same_end), same) = absurd (let line : None ≡ Some why = sym open_ ∙ closed in cc)
  passed (Err (feed.Closed why)) new (inr (calm, closes), same) = fault_fed new same why closes
  passed (Err feed.OutOfMemory) new ((calm, same_end), same) =
      let back : new ≡ c = same ∙ ap (with_client_link c) same_end in
      (subst (λ x. IsBook x made got) (sym back) is, (open_, ap (λ x. book_of x made got) back))

  pub fed_book : (answer : Result ℕ FeedError) (new : ClientState) → IsClientFed c piece now answer new → Feeds answer new (kept_behind got (take count piece) answer)
  fed_book answer new (inl passes) = passed answer new passes
  fed_book answer new (inr one) = message_fed answer new one

-- no room

pub full_book : (c new : ClientState) (made : List Made) (got piece : List ℕ) (now n len : ℕ) → len ≡ length got → c.link.cause ≡ None → WouldTakeOf c.link piece None n
    → 2 ^ 30 < length got + n → new ≡ with_client_link c (shut c.link (cause.JournalFull len)) → FeedCloses (book_of c made got) piece now (cause.JournalFull len) (book_of new made got)
full_book c new made got piece now n len count open_ takes full same =
    inr (inl (open_, (n, takes, full), ap cause.JournalFull count, ap (λ x. book_of x made got) same))
