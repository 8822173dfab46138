-- A feed keeps the moments of an end, and that what closes it happened.
use Rattle.std.proofs.Common.{◌≡◌, refl, sym, ap, ◌∙◌, subst, ℕ, List, inl, inr, ◌⊎◌}
use Rattle.std.specs.Prelude.{Option, Some, None, Result, Ok, Err}
use Rattle.rpc_msg.specs.Beats.{BeatState, heard_at}
use Rattle.rpc_msg.specs.declared.message.Message.{Message}
use Rattle.rpc_msg.specs.declared.message.Message.TheVariants as message
use Rattle.rpc_msg.specs.declared.shared.CloseCause.{CloseCause}
use Rattle.rpc_msg.specs.declared.shared.CloseCause.TheVariants as cause
use Rattle.rpc_msg.specs.declared.shared.FeedError.TheVariants as feed
use Rattle.rpc_msg.specs.declared.shared.FeedError.{FeedError}
use Rattle.rpc_schedule.specs.declared.event.Event.{Event}
use Rattle.rpc_end.specs.Ends.{EndState, heard, shut_by}
use Rattle.rpc_end.specs.Taking.{GivesMessage, IsNextOf}
use Rattle.rpc_end.specs.declared.end.Got.{Got}
use Rattle.rpc_end.specs.declared.end.Next.{Next}
use Rattle.rpc_end.specs.declared.end.Next.TheVariants as next
use Rattle.rpc_client.specs.Clients.{answering, closed_for}
use Rattle.rpc_server.specs.Servers.{Does, DoesAsTaken, ServerState, query_heard}
use Rattle.rpc_server.specs.Tables.{standing, unfinished}
use Rattle.rpc_server.specs.declared.arrival.Arrival.{Arrival}
use Rattle.rpc_book.specs.Books.{BookState, calls_of}
use Rattle.rpc_book.specs.Feeds.{FeedCloses, HearsMessage, PassesFault, PassesPart, closes_for, own_answer}
use Rattle.rpc_pair.specs.Feeds.{BookCloses, BookTakes, ServerCloses, ServerTakes}
use Rattle.rpc_pair.specs.Pairs.{is_book_closed, is_server_closed}
use Rattle.rpc_pair.specs.Seen.{IsMomentOf}
use Rattle.rpc_pair.proofs.SeenCauses.{IsFault, is_fault}
use Rattle.rpc_pair.proofs.SeenPieces.{Kept}
use Rattle.rpc_pair.proofs.SeenQueries.{IsQueryFault, query_fault}
use Rattle.rpc_pair.proofs.SeenServerFeeds.{closed_reading, fault_closed, said_same, told_fault}
use Rattle.rpc_pair.proofs.SeenServes.{IsReadingFault}
use Rattle.rpc_pair.proofs.SeenTimes.{BeatGoes, Caused, IsTimed, closed_beat, fault_caused, message_beat, part_beat, timed_goes, timed_shut}
use Rattle.rpc_pair.proofs.ServerFeeds.{part_same}

-- ---- a book

closed_for_beat : (e : EndState) (why : Option CloseCause) → (closed_for e why).beat ≡ e.beat
closed_for_beat e None = refl
closed_for_beat e (Some why) = by e.cause
  where
    by : (o : Option CloseCause) → (shut_by e why o).beat ≡ e.beat
    by None = refl
    by (Some old) = refl

answering_beat : (e : EndState) (o : Option Message) → (answering e o).beat ≡ e.beat
answering_beat e None = refl
answering_beat e (Some a) = refl

hears_beat : (b : BookState) (piece : List ℕ) (now n : ℕ) (why : Option CloseCause) (new : BookState) → HearsMessage b piece now n why new → BeatGoes now b.link.beat new.link.beat
hears_beat b piece now n why new hears =
    let a = own_answer b.limits.max_message hears.got.message in
    inr (ap (λ (x : BookState). x.link.beat) hears.new_is
    ∙ (closed_for_beat (heard (answering hears.behind a) now) (closes_for b hears.got.message)
    ∙ ap (λ (x : BeatState). heard_at x now) (answering_beat hears.behind a ∙ message_beat b.link piece hears.got hears.behind hears.gives)))

takes_beat : (b : BookState) (piece : List ℕ) (now n : ℕ) (new : BookState) → PassesPart b piece now n new ⊎ HearsMessage b piece now n None new → BeatGoes now b.link.beat new.link.beat
takes_beat b piece now n new (inl (part, is)) = part_beat b.link piece now n new.link part
takes_beat b piece now n new (inr hears) = hears_beat b piece now n None new hears

closes_beat : (b : BookState) (piece : List ℕ) (now n : ℕ) (why : CloseCause) (new : BookState) → PassesFault b piece n why new ⊎ HearsMessage b piece now n (Some why) new
    → BeatGoes now b.link.beat new.link.beat
closes_beat b piece now n why new (inl (closed, is)) = inl (closed_beat b.link piece why new.link closed)
closes_beat b piece now n why new (inr hears) = hears_beat b piece now n (Some why) new hears

-- ---- a server

settled_beat : (s : ServerState) (piece : List ℕ) (now : ℕ) (g : Got) (link : EndState) → GivesMessage s.link piece g link → (new : ServerState)
    → new.link.beat ≡ heard_at link.beat now → BeatGoes now s.link.beat new.link.beat
settled_beat s piece now g link gives new is = inr (is ∙ ap (λ (x : BeatState). heard_at x now) (message_beat s.link piece g link gives))

reading_fault : (why : CloseCause) → IsReadingFault why → IsFault why
reading_fault (cause.BadFrame at) reading = tt
reading_fault (cause.BadHeader why) reading = tt
reading_fault cause.NoCommonProtocol reading = tt
reading_fault (cause.BadMessage why) reading = tt
reading_fault _ reading = absurd reading

module _ (Happens : Event → Type 0) (close eof : Event) (timeout now : ℕ) (here : IsMomentOf Happens now) where
  abbrev pub Timed : EndState → Type 0
  Timed e = IsTimed Happens close eof timeout e

  abbrev Told : Option CloseCause → Type 0
  Told o = Caused Happens close eof timeout o

  -- ---- a feed of a book

  book_closes : (b : BookState) (piece : List ℕ) (why : CloseCause) (new : BookState) → Timed b.link → FeedCloses b piece now why new → Timed new.link
  book_closes b piece why new timed (inl (closed, same)) = subst (λ (x : BookState). Timed x.link) (sym same) timed
  book_closes b piece why new timed (inr (inl (open_, full, is, same))) =
      subst (λ (x : BookState). Timed x.link) (sym same)
      (timed_shut Happens close eof timeout b.link timed why (subst (λ w. Told (Some w)) (sym is) tt))
  book_closes b piece why new timed (inr (inr (open_, (n, closes)))) =
      timed_goes Happens close eof timeout b.link new.link timed now here (closes_beat b piece now n why new closes.did)
      (subst Told (sym closes.stops.closed)
      (fault_caused Happens close eof timeout why (is_fault new.limits.max_message (calls_of new.made) new.got why closes.stops.fault)))

  pub book_timed : Kept is_book_closed (BookTakes now) (BookCloses now) (λ given b. Timed b.link) (λ given b. Timed b.link)
  book_timed = record {
    goes = λ given b open_ timed. timed;
    holds = λ given b timed. timed;
    takes = λ given b piece n new bytes timed fed.
        timed_goes Happens close eof timeout b.link new.link timed now here (takes_beat b piece now n new fed.1.did) (subst Told (sym fed.1.calm) tt);
    closes = λ given b piece new bytes timed fed. book_closes b piece fed.0 new timed fed.1;
  }

  -- ---- a feed of a server

  module _ (s : ServerState) (piece : List ℕ) (new : ServerState) (timed : Timed s.link) where
    going_on : BeatGoes now s.link.beat new.link.beat → new.link.cause ≡ s.link.cause → Timed new.link
    going_on beat same = timed_goes Happens close eof timeout s.link new.link timed now here beat (subst Told (sym same) timed.caused)

    stopping : BeatGoes now s.link.beat new.link.beat → (why : CloseCause) → new.link.cause ≡ Some why → Told (Some why) → Timed new.link
    stopping beat why is told_as = timed_goes Happens close eof timeout s.link new.link timed now here beat (subst Told (sym is) told_as)

    module _ (g : Got) (link : EndState) (gives : GivesMessage s.link piece g link) where
      same_cause : link.cause ≡ s.link.cause
      same_cause = ap (λ (e : EndState). e.cause) gives.new_is

      beat_by : new.link.beat ≡ heard_at link.beat now → BeatGoes now s.link.beat new.link.beat
      beat_by is = settled_beat s piece now g link gives new is

      does_timed : (a : Message) (told_as : Option Arrival) → Does s now link a (Ok told_as) new → Timed new.link
      does_timed message.Heartbeat told_as (is, same) =
          going_on (beat_by (ap (λ (x : ServerState). x.link.beat) same)) (ap (λ (x : ServerState). x.link.cause) same ∙ same_cause)
      does_timed (message.Query q) told_as (is, heard_is, link_is) =
          going_on (beat_by (ap (λ (e : EndState). e.beat) link_is
          ∙ ap (λ (x : BeatState). heard_at x now) (said_same (λ (e : EndState). e.beat) (λ e a. refl) link q.id (query_heard s q))))
          (ap (λ (e : EndState). e.cause) link_is ∙ (said_same (λ (e : EndState). e.cause) (λ e a. refl) link q.id (query_heard s q) ∙ same_cause))
      does_timed (message.Response r) told_as (is, same) = absurd cc

      stops_timed : (a : Message) (why : CloseCause) → Does s now link a (Err why) new → Timed new.link
      stops_timed message.Heartbeat why (is, same) = absurd cc
      stops_timed (message.Response r) why (is, same) =
          let why_is : why ≡ cause.UnknownId r.id = cc in
          stopping (beat_by (ap (λ (x : ServerState). x.link.beat) same)) why (ap (λ (x : ServerState). x.link.cause) same) (subst (λ w. Told (Some w)) (sym why_is) tt)
      stops_timed (message.Query q) why (is, heard_is, link_is) =
          stopping (beat_by (ap (λ (e : EndState). e.beat) link_is
          ∙ ap (λ (x : BeatState). heard_at x now) (said_same (λ (e : EndState). e.beat) (λ e a. refl) link q.id (query_heard s q))))
          why (ap (λ (e : EndState). e.cause) link_is)
          (by (query_fault s.rules (unfinished s.table) q (standing s.table q.id) why (told_fault q.id (query_heard s q) why is)))
        where
          by : IsQueryFault s.rules (standing s.table q.id) (unfinished s.table) q why → Told (Some why)
          by (inl (why_is, open_)) = subst (λ w. Told (Some w)) (sym why_is) tt
          by (inr (why_is, full)) = subst (λ w. Told (Some w)) (sym why_is) tt

    server_takes : (n : ℕ) → ServerTakes now s piece n new → Timed new.link
    server_takes n (told_as, (taken, link, takes, does_as)) = by taken takes does_as
      where
        by : (x : Result Next FeedError) → IsNextOf s.link piece now x link → DoesAsTaken s now x link (Ok (record { used = n; arrival = told_as })) new → Timed new.link
        by (Ok (next.Part used)) (going, part) (is, same) =
            going_on (subst (λ (x : ServerState). BeatGoes now s.link.beat x.link.beat) (sym same) (part_beat s.link piece now used link part))
            (ap (λ (x : ServerState). x.link.cause) same ∙ part_same (λ (e : EndState). e.cause) (λ e held n. refl) (λ e n. refl) s.link piece now used link part)
        by (Ok (next.Message g)) (going, gives) (used, did) = does_timed g link gives g.message told_as did
        by (Err why) is_next (is, same) = absurd cc

    server_closes : ServerCloses now s piece new → Timed new.link
    server_closes (why, (taken, link, takes, does_as)) = by taken takes does_as
      where
        by : (x : Result Next FeedError) → IsNextOf s.link piece now x link → DoesAsTaken s now x link (Err (feed.Closed why)) new → Timed new.link
        by (Ok (next.Part used)) (going, part) (is, same) = absurd cc
        by (Ok (next.Message g)) (going, gives) did = stops_timed g link gives g.message why did
        by (Err (feed.Closed w)) (inl (closed, kept)) (is, same) =
            subst (λ (x : ServerState). Timed x.link) (sym same) (subst Timed (sym kept) timed)
        by (Err (feed.Closed w)) (inr (going, closed)) (is, same) =
            stopping (inl (ap (λ (x : ServerState). x.link.beat) same ∙ closed_beat s.link piece w link closed)) w
            (ap (λ (x : ServerState). x.link.cause) same ∙ fault_closed s.link piece w link closed)
            (fault_caused Happens close eof timeout w (reading_fault w (closed_reading s.link piece w link closed)))
        by (Err feed.OutOfMemory) is_next (is, same) = absurd cc

  pub server_timed : Kept is_server_closed (ServerTakes now) (ServerCloses now) (λ given s. Timed s.link) (λ given s. Timed s.link)
  server_timed = record {
    goes = λ given s open_ timed. timed;
    holds = λ given s timed. timed;
    takes = λ given s piece n new bytes timed fed. server_takes s piece new timed n fed;
    closes = λ given s piece new bytes timed fed. server_closes s piece new timed fed;
  }
