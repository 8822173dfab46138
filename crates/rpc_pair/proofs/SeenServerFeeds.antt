-- What a feed makes of a server, by all bytes that came to it.
use Rattle.std.proofs.Common.{◌≡◌, refl, sym, ap, ◌∙◌, subst, ℕ, ◌+◌, ◌^◌, ◌<◌, ◌≤◌, ℤ, pos, Bool, true, false, if◌then◌else◌, List, [], ◌∷◌, ◌++◌, take, drop, append_assoc, arith, inl, inr}
use Rattle.std.specs.Prelude.{Option, Some, None, Result, Ok, Err}
use Rattle.std.specs.List.{count_by}
use Rattle.std.specs.Option.{option_map}
use Rattle.std.proofs.lemmas.Bool.Decides.{Decides-int_eq}
use Rattle.std.proofs.lemmas.List.{take-append-drop}
use Rattle.readers.specs.Reader.{Each, IsByte}
use Rattle.readers.proofs.Readers.{each-front, each-join}
use Rattle.rpc_msg.specs.declared.fault.MsgFault.{MsgFault}
use Rattle.rpc_msg.specs.declared.message.Header.{Header}
use Rattle.rpc_msg.specs.declared.message.Message.{Message}
use Rattle.rpc_msg.specs.declared.message.Message.TheVariants as message
use Rattle.rpc_msg.specs.declared.message.Response.{Response}
use Rattle.rpc_msg.specs.declared.shared.CloseCause.{CloseCause}
use Rattle.rpc_msg.specs.declared.shared.CloseCause.TheVariants as cause
use Rattle.rpc_msg.specs.declared.shared.FeedError.{FeedError}
use Rattle.rpc_msg.specs.declared.shared.FeedError.TheVariants as feed
use Rattle.rpc_msg.specs.Forms.{header_form, message_form}
use Rattle.rpc_log.specs.Logs.{log_of}
use Rattle.rpc_log.specs.Readings.{fault_in, has_one, header_in}
use Rattle.rpc_talk.specs.Causes.{bad_header, bad_message, cause_of, header_cause, placed, unwelcome}
use Rattle.rpc_talk.specs.Welcome.{is_welcome}
use Rattle.rpc_talk.proofs.Accepting.{IsTaken, accepted_more}
use Rattle.rpc_end.specs.Ends.{EndState, heard, said}
use Rattle.rpc_end.specs.Taken.{HasTaken}
use Rattle.rpc_end.specs.Taking.{GivesMessage, IsClosedBy, IsNextOf, IsPartTaken}
use Rattle.rpc_end.specs.declared.end.Got.{Got}
use Rattle.rpc_end.specs.declared.end.Next.{Next}
use Rattle.rpc_end.specs.declared.end.Next.TheVariants as next
use Rattle.rpc_end.proofs.Taken.{closed_cause, limit_few, taken_message, taken_part, unwelcome_cause}
use Rattle.rpc_client.proofs.Dispatches.{taken_log}
use Rattle.rpc_server.specs.Servers.{Does, DoesAsTaken, ServerState, after_heard, after_said, eof_to, query_heard, told, with_end}
use Rattle.rpc_server.specs.Rules.{Rules}
use Rattle.rpc_server.specs.Tables.{standing, unfinished}
use Rattle.rpc_server.specs.declared.arrival.Arrival.{Arrival}
use Rattle.rpc_server.specs.declared.arrival.ServerFed.{ServerFed}
use Rattle.rpc_server.specs.declared.hearing.Heard.{Heard}
use Rattle.rpc_server.specs.declared.hearing.Heard.TheVariants as does
use Rattle.rpc_pair.specs.Feeds.{ServerCloses, ServerTakes}
use Rattle.rpc_pair.specs.Seen.{is_answered_as, is_asked, is_asked_as}
use Rattle.rpc_pair.proofs.SeenQueries.{AreAsked, IsQueryFault, asked_still, count_push, put_asked, query_fault}
use Rattle.rpc_pair.proofs.SeenServes.{AtAnswer, AtMany, AtReading, AtTwice, IsReadingFault, Serves, ServesAll, StopsFor, stops_grow}
use Rattle.rpc_pair.proofs.SeenTook.{no_cause}
use Rattle.rpc_pair.proofs.ServerFeeds.{part_same}

-- ---- what goes out, and a frame that is heard

-- leave what was taken
said_heard : (link : EndState) (id : ℤ) (h : Heard) (now : ℕ) (given : List ℕ) (bs : List (List ℕ)) (log : List Message) → HasTaken (heard link now) given bs log
    → HasTaken (heard (after_said link id h) now) given bs log
said_heard link id does.Ignored now given bs log took = took
said_heard link id (does.Answered a) now given bs log took =
    record { bodies_are = took.bodies_are; place = took.place; start = took.start; greeted = took.greeted; read = took.read }
said_heard link id (does.Asked place v) now given bs log took = took
said_heard link id (does.Noted place v) now given bs log took = took
said_heard link id does.Stopped now given bs log took =
    record { bodies_are = took.bodies_are; place = took.place; start = took.start; greeted = took.greeted; read = took.read }
said_heard link id (does.Faulty why) now given bs log took = took

pub said_same : {A : Type 0} (f : EndState → A) → ((e : EndState) (a : Message) → f (said e a) ≡ f e) → (link : EndState) (id : ℤ) (h : Heard) → f (after_said link id h) ≡ f link
said_same f same link id does.Ignored = refl
said_same f same link id (does.Answered a) = same link a
said_same f same link id (does.Asked place v) = refl
said_same f same link id (does.Noted place v) = refl
said_same f same link id does.Stopped = same link (eof_to id)
said_same f same link id (does.Faulty why) = refl

-- ---- how bytes are at fault

unread_reading : (m : ℕ) (greeted : Bool) (start : ℕ) (body : List ℕ) (why : CloseCause)
    → (if greeted then bad_message m (start + 8) body else header_cause (bad_header m body) None (header_in m body)) ≡ Some why → IsReadingFault why
unread_reading m true start body why is = by (fault_in m message_form body) is
  where
    by : (o : Option MsgFault) → option_map (λ f. cause.BadMessage (placed (start + 8) f)) o ≡ Some why → IsReadingFault why
    by None e = absurd cc
    by (Some f) e = let line : cause.BadMessage (placed (start + 8) f) ≡ why = cc in subst IsReadingFault line tt
unread_reading m false start body why is = by (header_in m body) is
  where
    bad : (o : Option MsgFault) → option_map (λ f. cause.BadHeader (placed 8 f)) o ≡ Some why → IsReadingFault why
    bad None e = absurd cc
    bad (Some f) e = let line : cause.BadHeader (placed 8 f) ≡ why = cc in subst IsReadingFault line tt

    other : (b : Bool) → (if b then None else Some cause.NoCommonProtocol) ≡ Some why → IsReadingFault why
    other true e = absurd cc
    other false e = let line : cause.NoCommonProtocol ≡ why = cc in subst IsReadingFault line tt

    by : (o : Option Header) → header_cause (bad_header m body) None o ≡ Some why → IsReadingFault why
    by None e = bad (fault_in m header_form body) e
    by (Some header) e = other (has_one header) e

pub closed_reading : (old : EndState) (piece : List ℕ) (why : CloseCause) (new : EndState) → IsClosedBy old piece why new → IsReadingFault why
closed_reading old piece why new (inl (n, passes, is, same)) = subst IsReadingFault (sym is) tt
closed_reading old piece why new (inr (body, used, ends, is, same)) = unread_reading old.max old.greeted old.start body why is

pub fault_closed : (old : EndState) (piece : List ℕ) (why : CloseCause) (new : EndState) → IsClosedBy old piece why new → new.cause ≡ Some why
fault_closed old piece why new (inl (n, passes, is, same)) = ap (λ (e : EndState). e.cause) same
fault_closed old piece why new (inr (body, used, ends, is, same)) = ap (λ (e : EndState). e.cause) same

-- what is told is an error only of a fault
pub told_fault : (id : ℤ) (h : Heard) (why : CloseCause) → Err why ≡ told id h → h ≡ does.Faulty why
told_fault id does.Ignored why is = absurd cc
told_fault id (does.Answered a) why is = absurd cc
told_fault id (does.Asked place v) why is = absurd cc
told_fault id (does.Noted place v) why is = absurd cc
told_fault id does.Stopped why is = absurd cc
told_fault id (does.Faulty w) why is = let same : w ≡ why = cc in ap does.Faulty same

abbrev used_of : Result ServerFed FeedError → ℕ
used_of (Ok fed) = fed.used
used_of (Err why) = 0

-- ---- a server that took all, and a piece

module _ (given : List ℕ) (s : ServerState) (all : ServesAll given s) (piece : List ℕ) (piece_bytes : Each IsByte piece) (now : ℕ) (new : ServerState) where
  abbrev after : ℕ → List ℕ
  after used = given ++ take used piece

  all_bytes : Each IsByte (given ++ piece)
  all_bytes = each-join IsByte given piece all.bytes piece_bytes

  longer : (used : ℕ) → after used ++ drop used piece ≡ given ++ piece
  longer used = append_assoc given (take used piece) (drop used piece) ∙ ap (λ p. given ++ p) (take-append-drop used piece)

  after_bytes : (used : ℕ) → Each IsByte (after used)
  after_bytes used = each-front IsByte (after used) (drop used piece) (subst (Each IsByte) (sym (longer used)) all_bytes)

  -- it goes on, by its old rules
  abbrev pub GoesOn : List ℕ → Type 0
  GoesOn bytes = ServesAll bytes new × (new.link.cause ≡ s.link.cause) × (new.rules ≡ s.rules)

  -- it stopped, by them
  abbrev pub Stopped : Type 0
  Stopped = Serves (given ++ piece) new × (new.rules ≡ s.rules)

  stopped : (used : ℕ) (why : CloseCause) → new.rules ≡ s.rules → new.link.cause ≡ Some why → StopsFor s.rules.limits (after used) why → Stopped
  stopped used why rules closed stops =
      let few = subst (λ m. m < 256 ^ 8) all.max (limit_few s.link.max all.limit) in
      let grown = stops_grow s.rules.limits few (after used) (drop used piece) (subst (Each IsByte) (sym (longer used)) all_bytes) why stops in (
        inr (record {
          why = why;
          closed = closed;
          bytes = all_bytes;
          stops = subst (λ r. StopsFor r.limits (given ++ piece) why) (sym rules) (subst (λ g. StopsFor s.rules.limits g why) (longer used) grown);
        }),
        rules,
      )

  -- ---- no message came

  part_serves : (used : ℕ) (link : EndState) → IsPartTaken s.link piece now used link → new ≡ with_end s link → GoesOn (after used)
  part_serves used link part same =
      let (bodies, took) = taken_part s.link given piece now used link all.bodies all.log all.took part in
      let max : link.max ≡ s.link.max = part_same (λ (e : EndState). e.max) (λ e held n. refl) (λ e n. refl) s.link piece now used link part in
      subst (λ (x : ServerState). ServesAll (after used) x × (x.link.cause ≡ s.link.cause) × (x.rules ≡ s.rules)) (sym same) (
        record {
          max = max ∙ all.max;
          limit = subst (λ m. m ≤ 2 ^ 30) (sym max) all.limit;
          bytes = after_bytes used;
          bodies = bodies;
          log = all.log;
          took = took;
          quiet = subst (λ m. IsTaken m [] [] all.log) (sym max) all.quiet;
          asked = all.asked;
        },
        part_same (λ (e : EndState). e.cause) (λ e held n. refl) (λ e n. refl) s.link piece now used link part,
        refl,
      )

  -- ---- a message came

  module _ (g : Got) (link : EndState) (gives : GivesMessage s.link piece g link) where
    abbrev log_now : List Message
    log_now = all.log ++ g.message ∷ []

    took_now : HasTaken (heard link now) (after g.used) (all.bodies ++ g.body ∷ []) log_now
    took_now = taken_message s.link given piece now g link all.bodies all.log all.took gives

    max_now : link.max ≡ s.link.max
    max_now = ap (λ (e : EndState). e.max) gives.new_is

    log_is : log_of s.rules.limits.max_message (after g.used) ≡ log_now
    log_is =
        ap (λ m. log_of m (after g.used)) (sym (max_now ∙ all.max))
        ∙ taken_log (heard link now) (after g.used) (all.bodies ++ g.body ∷ []) log_now (subst (λ m. m ≤ 2 ^ 30) (sym max_now) all.limit) (after_bytes g.used) took_now

    -- it is no answer
    message_serves : (id : ℤ) (h : Heard) → new.link ≡ heard (after_said link id h) now → new.rules ≡ s.rules → is_welcome s.link.max [] all.log g.message ≡ true
        → AreAsked log_now new.table → GoesOn (after g.used)
    message_serves id h is rules welcome asked =
        let max : new.link.max ≡ s.link.max
        = ap (λ (e : EndState). e.max) is ∙ (said_same (λ (e : EndState). e.max) (λ e a. refl) link id h ∙ max_now) in (
          record {
            max = max ∙ (all.max ∙ sym (ap (λ (r : Rules). r.limits.max_message) rules));
            limit = subst (λ m. m ≤ 2 ^ 30) (sym max) all.limit;
            bytes = after_bytes g.used;
            bodies = all.bodies ++ g.body ∷ [];
            log = log_now;
            took = subst (λ e. HasTaken e (after g.used) (all.bodies ++ g.body ∷ []) log_now) (sym is)
                (said_heard link id h now (after g.used) (all.bodies ++ g.body ∷ []) log_now took_now);
            quiet = subst (λ m. IsTaken m [] [] log_now) (sym max) (accepted_more s.link.max [] all.log g.message all.quiet welcome);
            asked = asked;
          },
          ap (λ (e : EndState). e.cause) is ∙ (said_same (λ (e : EndState). e.cause) (λ e a. refl) link id h ∙ ap (λ (e : EndState). e.cause) gives.new_is),
          rules,
        )

    does_serves : (a : Message) → g.message ≡ a → (told_as : Option Arrival) → Does s now link a (Ok told_as) new → GoesOn (after g.used)
    does_serves message.Heartbeat its told_as (is, same) =
        message_serves (pos 0) does.Ignored (ap (λ (x : ServerState). x.link) same) (ap (λ (x : ServerState). x.rules) same)
        (ap (is_welcome s.link.max [] all.log) its) (subst (AreAsked log_now) (sym (ap (λ (x : ServerState). x.table) same)) (asked_still all.log s.table g.message all.asked))
    does_serves (message.Query q) its told_as (is, heard_is, link_is) =
        message_serves q.id (query_heard s q) link_is heard_is.rules (ap (is_welcome s.link.max [] all.log) its)
        (subst (λ a. AreAsked (all.log ++ a ∷ []) new.table) (sym its)
        (put_asked s.table new.table q.id (after_heard (standing s.table q.id) (query_heard s q)) heard_is.table all.log q refl all.asked))
    does_serves (message.Response r) its told_as (is, same) = absurd cc

    -- ---- it closes the server

    counted : (p : Message → Bool) (a : Message) → g.message ≡ a → p a ≡ true
        → count_by p (log_of s.rules.limits.max_message (after g.used)) ≡ count_by p all.log + 1
    counted p a its true_is =
        ap (count_by p) log_is ∙ (count_push p all.log g.message ∙ ap (λ b. count_by p all.log + (if b then 1 else 0)) (ap p its ∙ true_is))

    answer_cause_is : (r : Response) → g.message ≡ message.Response r → cause_of s.rules.limits.max_message [] (after g.used) ≡ Some (cause.UnknownId r.id)
    answer_cause_is r its =
        ap (λ m. cause_of m [] (after g.used)) (sym all.max)
        ∙ (unwelcome_cause s.link all.limit [] given piece all.bytes piece_bytes all.bodies all.log all.took all.quiet g link gives (ap (is_welcome s.link.max [] all.log) its)
        ∙ ap (unwelcome s.link.max [] all.log) its)

    does_stops : (a : Message) → g.message ≡ a → (why : CloseCause) → Does s now link a (Err why) new → Stopped
    does_stops message.Heartbeat its why (is, same) = absurd cc
    does_stops (message.Response r) its why (is, same) =
        let why_is : why ≡ cause.UnknownId r.id = cc in
        let some = counted (is_answered_as r.id) (message.Response r) its ((Decides-int_eq r.id r.id).1 refl) in
        stopped g.used why (ap (λ (x : ServerState). x.rules) same) (ap (λ (x : ServerState). x.link.cause) same)
        (AtAnswer r.id why_is (answer_cause_is r its ∙ ap (λ w. Some w) (sym why_is)) (omega (arith, some)))
    does_stops (message.Query q) its why (is, heard_is, link_is) =
        by (query_fault s.rules (unfinished s.table) q (standing s.table q.id) why (told_fault q.id (query_heard s q) why is))
      where
        by : IsQueryFault s.rules (standing s.table q.id) (unfinished s.table) q why → Stopped
        by (inl (why_is, open_)) =
            let two = counted (is_asked_as q.id) (message.Query q) its ((Decides-int_eq q.id q.id).1 refl) in
            stopped g.used why heard_is.rules (ap (λ (e : EndState). e.cause) link_is) (AtTwice q.id why_is (omega (arith, two, all.asked.each q.id open_)))
        by (inr (why_is, full)) =
            let more = counted is_asked (message.Query q) its refl in
            stopped g.used why heard_is.rules (ap (λ (e : EndState). e.cause) link_is) (AtMany why_is (omega (arith, more, full, all.asked.few)))

  -- ---- a feed

  closed_stops : (why : CloseCause) (link : EndState) → IsClosedBy s.link piece why link → new ≡ with_end s link → Stopped
  closed_stops why link closed same =
      let (used, fault) = closed_cause s.link all.limit [] given piece all.bytes piece_bytes all.bodies all.log all.took all.quiet why link closed in
      stopped used why (ap (λ (x : ServerState). x.rules) same) (ap (λ (x : ServerState). x.link.cause) same ∙ fault_closed s.link piece why link closed)
      (AtReading (closed_reading s.link piece why link closed) (ap (λ m. cause_of m [] (after used)) (sym all.max) ∙ fault))

  pub takes_serves : (n : ℕ) → ServerTakes now s piece n new → GoesOn (after n)
  takes_serves n (told_as, (taken, link, takes, does_as)) = by taken takes does_as
    where
      by : (x : Result Next FeedError) → IsNextOf s.link piece now x link → DoesAsTaken s now x link (Ok (record { used = n; arrival = told_as })) new → GoesOn (after n)
      by (Ok (next.Part used)) (going, part) (is, same) = subst (λ k. GoesOn (after k)) (sym (ap used_of is)) (part_serves used link part same)
      by (Ok (next.Message g)) (going, gives) (used, did) = subst (λ k. GoesOn (after k)) (sym used) (does_serves g link gives g.message refl told_as did)
      by (Err why) is_next (is, same) = absurd cc

  pub closes_serves : s.link.cause ≡ None → ServerCloses now s piece new → Stopped
  closes_serves open_ (why, (taken, link, takes, does_as)) = by taken takes does_as
    where
      by : (x : Result Next FeedError) → IsNextOf s.link piece now x link → DoesAsTaken s now x link (Err (feed.Closed why)) new → Stopped
      by (Ok (next.Part used)) (going, part) (is, same) = absurd cc
      by (Ok (next.Message g)) (going, gives) did = does_stops g link gives g.message refl why did
      by (Err (feed.Closed w)) (inl (closed, kept)) (is, same) = absurd (no_cause s.link.cause w open_ closed)
      by (Err (feed.Closed w)) (inr (going, closed)) (is, same) = closed_stops w link closed same
      by (Err feed.OutOfMemory) is_next (is, same) = absurd cc
