-- What closes the ends in a run of turns happened in it.
use Rattle.std.proofs.Common.{◌≡◌, refl, sym, ap, subst, ℕ, ℤ, max, List, [], ◌∷◌, inl, inr}
use Rattle.std.specs.Prelude.{Option, Some, None, Result, Ok, Err}
use Rattle.readers.specs.Reader.{Each}
use Rattle.bp_value.specs.declared.value.Value.{Value}
use Rattle.rpc_msg.specs.declared.shared.Limits.{Limits}
use Rattle.rpc_msg.specs.declared.shared.Ticket.{Ticket}
use Rattle.rpc_schedule.specs.declared.event.Event.{Event}
use Rattle.rpc_schedule.specs.declared.event.Event.TheVariants as ev
use Rattle.rpc_schema.specs.declared.desc.Entry.{Entry}
use Rattle.rpc_schema.specs.declared.desc.RpcDesc.{RpcDesc}
use Rattle.rpc_talk.specs.Acts.{Act}
use Rattle.rpc_end.specs.Ends.{EndState, first_end}
use Rattle.rpc_client.specs.declared.error.AbortError.{AbortError}
use Rattle.rpc_client.specs.declared.error.DispatchError.{DispatchError}
use Rattle.rpc_meeting.specs.declared.answer.StepAnswer.{StepAnswer}
use Rattle.rpc_meeting.specs.Deeds.{Deed, Refuse, Call, Abort, Tell, MoveUp, MoveDown, Tick, CloseClient, CloseServer, Reveal}
use Rattle.rpc_meeting.specs.Steps.{moved_bytes}
use Rattle.rpc_meeting.specs.Worlds.{Reason}
use Rattle.rpc_book.specs.Books.{BookState, Booked, find_booked}
use Rattle.rpc_book.specs.Calls.{Aborts, IsAbortedAt, IsBooked}
use Rattle.rpc_server.specs.Acting.{ActsBy, IsActRefused, IsActed, RespondsTo, act_refusal}
use Rattle.rpc_server.specs.Servers.{ServerState}
use Rattle.rpc_server.specs.declared.error.ActError.{ActError}
use Rattle.rpc_server.specs.declared.error.ActError.TheVariants as refused
use Rattle.rpc_pair.specs.Feeds.{BookCloses, BookTakes, ServerCloses, ServerTakes}
use Rattle.rpc_pair.specs.Links.{cause_as}
use Rattle.rpc_pair.specs.Made.{dispatches_of}
use Rattle.rpc_pair.specs.Pairs.{BookMoves, Came, DoesOver, IsNewPair, IsTurn, PairState, ServerMoves, Traffic, all_put, down_flight, is_book_closed, is_server_closed, ticked, up_flight}
use Rattle.rpc_pair.specs.Played.{AreTurns, Turn}
use Rattle.rpc_pair.specs.Seen.{AreCausedBy, HasEvent, IsCausedBy, IsMomentOf}
use Rattle.rpc_pair.specs.Standing.{booked_menu}
use Rattle.rpc_pair.proofs.SeenFeedTimes.{book_timed, server_timed}
use Rattle.rpc_pair.proofs.SeenPieces.{move_kept}
use Rattle.rpc_pair.proofs.SeenSources.{IsSourceOf, deed_source}
use Rattle.rpc_pair.proofs.SeenTimes.{IsTimed, greater, timed_same, timed_shut, timed_tick}

-- ---- calls, which change neither moments nor causes

abbrev IsStill : EndState → EndState → Type 0
IsStill old new = (new.beat ≡ old.beat) × (new.cause ≡ old.cause)

still : (old new : EndState) → new ≡ old → IsStill old new
still old new same = (ap (λ (e : EndState). e.beat) same, ap (λ (e : EndState). e.cause) same)

booked_still : (b : BookState) (label : List ℕ) (d : RpcDesc) (v : Value) (result : Result Ticket DispatchError) (new : BookState) → IsBooked b label d v result new → IsStill b.link new.link
booked_still b label d v (Ok ticket) new (may, id, is, fresh) = (ap (λ (x : BookState). x.link.beat) is, ap (λ (x : BookState). x.link.cause) is)
booked_still b label d v (Err why) new (refused_for, same) = still b.link new.link (ap (λ (x : BookState). x.link) same)

aborted_still : (b : BookState) (id : ℤ) (result : Result (Unit {0}) AbortError) (new : BookState) → IsAbortedAt b id result new → IsStill b.link new.link
aborted_still b id (Err why) new (refused_for, same) = still b.link new.link (ap (λ (x : BookState). x.link) same)
aborted_still b id (Ok u) new (free, aborts) = by (find_booked id b.made) aborts
  where
    by : (o : Option Booked) → Aborts b id o new → IsStill b.link new.link
    by None never = absurd never
    by (Some d) is = (ap (λ (x : BookState). x.link.beat) is, ap (λ (x : BookState). x.link.cause) is)

module _ (s : ServerState) (id : ℤ) (act : Act) (new : ServerState) where
  as_it_was : new ≡ s → IsStill s.link new.link
  as_it_was same = still s.link new.link (ap (λ (x : ServerState). x.link) same)

  refused_still : (why : ActError) → IsActRefused s id why new → IsStill s.link new.link
  refused_still refused.Stopped (rules, put, link) = still s.link new.link link
  refused_still refused.Closed same = as_it_was same
  refused_still refused.NoSuch same = as_it_was same
  refused_still refused.WrongKind same = as_it_was same
  refused_still refused.AlreadyBegun same = as_it_was same
  refused_still refused.NotBegun same = as_it_was same
  refused_still refused.BadValue same = as_it_was same
  refused_still (refused.TooLong most) same = as_it_was same
  refused_still refused.OutOfMemory same = as_it_was same

  responds_still : (place : ℕ) (d : RpcDesc) (result : Result (Unit {0}) ActError) → RespondsTo s place d id act result new → IsStill s.link new.link
  responds_still place d (Ok u) (fits, short, acted) = (ap (λ (e : EndState). e.beat) acted.link, ap (λ (e : EndState). e.cause) acted.link)
  responds_still place d (Err refused.BadValue) (bad, same) = as_it_was same
  responds_still place d (Err (refused.TooLong most)) (fits, long, is, same) = as_it_was same
  responds_still place d (Err refused.OutOfMemory) same = as_it_was same
  responds_still place d (Err refused.Closed) never = absurd never
  responds_still place d (Err refused.NoSuch) never = absurd never
  responds_still place d (Err refused.Stopped) never = absurd never
  responds_still place d (Err refused.WrongKind) never = absurd never
  responds_still place d (Err refused.AlreadyBegun) never = absurd never
  responds_still place d (Err refused.NotBegun) never = absurd never

  acted_still : (result : Result (Unit {0}) ActError) → IsActed s id act result new → IsStill s.link new.link
  acted_still result acts = by (act_refusal s id act) acts
    where
      by : (o : Option ActError) → ActsBy o s id act result new → IsStill s.link new.link
      by (Some why) (is, refused_by) = refused_still why refused_by
      by None (place, e, here, entry, responds) = responds_still place e.desc result responds

-- ---- deeds, of which each event happens

module _ (Happens : Event → Type 0) (timeout : ℕ) where
  abbrev ClientTimed : EndState → Type 0
  ClientTimed e = IsTimed Happens ev.CloseClient ev.EofClient timeout e

  abbrev ServerTimed : EndState → Type 0
  ServerTimed e = IsTimed Happens ev.CloseServer ev.EofServer timeout e

  pub record AreTimed (p : PairState) : Type 0 where
    pub now : IsMomentOf Happens p.now
    pub client : ClientTimed p.book.link
    pub server : ServerTimed p.server.link

  module _ (old : PairState) (timed : AreTimed old) where
    client_still : (new : BookState) → IsStill old.book.link new.link → ClientTimed new.link
    client_still new (beat, cause) =
        timed_same Happens ev.CloseClient ev.EofClient timeout old.book.link new.link timed.client beat
        (subst (IsCausedBy Happens ev.CloseClient ev.EofClient timeout) (sym cause) timed.client.caused)

    server_still : (new : ServerState) → IsStill old.server.link new.link → ServerTimed new.link
    server_still new (beat, cause) =
        timed_same Happens ev.CloseServer ev.EofServer timeout old.server.link new.link timed.server beat
        (subst (IsCausedBy Happens ev.CloseServer ev.EofServer timeout) (sym cause) timed.server.caused)

    client_moves : (count by : ℕ) (came : Came) (new : BookState) → BookMoves old.now count by old.book came new → ClientTimed new.link
    client_moves count by came new moved =
        (move_kept is_book_closed (BookTakes old.now) (BookCloses old.now) (λ given b. ClientTimed b.link) (λ given b. ClientTimed b.link)
        (book_timed Happens ev.CloseClient ev.EofClient timeout old.now timed.now) count by [] old.book came.bytes came.short new timed.client moved).0

    server_moves : (count by : ℕ) (came : Came) (new : ServerState) → ServerMoves old.now count by old.server came new → ServerTimed new.link
    server_moves count by came new moved =
        (move_kept is_server_closed (ServerTakes old.now) (ServerCloses old.now) (λ given s. ServerTimed s.link) (λ given s. ServerTimed s.link)
        (server_timed Happens ev.CloseServer ev.EofServer timeout old.now timed.now) count by [] old.server came.bytes came.short new timed.server moved).0

    module _ (e : Event) (happens : Happens e) where
      client_cause : (why : Reason) → IsSourceOf e (CloseClient why) → IsCausedBy Happens ev.CloseClient ev.EofClient timeout (Some (cause_as why))
      client_cause why (inl (event, is)) = subst (λ w. IsCausedBy Happens ev.CloseClient ev.EofClient timeout (Some (cause_as w))) (sym is) (subst Happens event happens)
      client_cause why (inr (event, is)) = subst (λ w. IsCausedBy Happens ev.CloseClient ev.EofClient timeout (Some (cause_as w))) (sym is) (subst Happens event happens)

      server_cause : (why : Reason) → IsSourceOf e (CloseServer why) → IsCausedBy Happens ev.CloseServer ev.EofServer timeout (Some (cause_as why))
      server_cause why (inl (event, is)) = subst (λ w. IsCausedBy Happens ev.CloseServer ev.EofServer timeout (Some (cause_as w))) (sym is) (subst Happens event happens)
      server_cause why (inr (event, is)) = subst (λ w. IsCausedBy Happens ev.CloseServer ev.EofServer timeout (Some (cause_as w))) (sym is) (subst Happens event happens)

      tick_timed : (moment : ℕ) → e ≡ ev.At moment → AreTimed (ticked old (max old.now moment))
      tick_timed moment event =
          let here = greater Happens ev.CloseClient ev.EofClient timeout old.now moment timed.now (inr (subst Happens event happens)) in
          record {
            now = here;
            client = timed_tick Happens ev.CloseClient ev.EofClient timeout old.book.link timed.client (max old.now moment) here;
            server = timed_tick Happens ev.CloseServer ev.EofServer timeout old.server.link timed.server (max old.now moment) here;
          }

      same_timed : (new : PairState) → new ≡ old → AreTimed new
      same_timed new same = subst AreTimed (sym same) timed

      pub deed_timed : (deed : Deed) (up down : Came) (answer : StepAnswer) (new : PairState) → IsSourceOf e deed → DoesOver deed old up down answer new → AreTimed new
      deed_timed (Refuse why) up down answer new source (no_up, no_down, (refused_for, same)) = same_timed new same
      deed_timed (Call label d v) up down answer new source (no_up, no_down, (book, answers, same)) =
          subst AreTimed (sym same)
          (record { now = timed.now; client = client_still book (booked_still old.book label d v answers.result book answers.calls); server = timed.server })
      deed_timed (Abort d) up down answer new source (no_up, no_down, (book, answers, same)) =
          subst AreTimed (sym same)
          (record { now = timed.now; client = client_still book (aborted_still old.book d.id answers.result book answers.calls); server = timed.server })
      deed_timed (Tell d act) up down answer new source (no_up, no_down, (server, answers, same)) =
          subst AreTimed (sym same)
          (record { now = timed.now; client = timed.client; server = server_still server (acted_still old.server d.id act server answers.result answers.calls) })
      deed_timed (MoveUp count by) up down answer new source (no_down, done, (server, moves, same)) =
          subst AreTimed (sym same)
          (record { now = timed.now; client = timed.client; server = server_moves (moved_bytes count (up_flight old)) by up server moves })
      deed_timed (MoveDown count by) up down answer new source (no_up, done, (book, moves, same)) =
          subst AreTimed (sym same)
          (record { now = timed.now; client = client_moves (moved_bytes count (down_flight old)) by down book moves; server = timed.server })
      deed_timed (Tick moment) up down answer new source (no_up, no_down, (done, same)) = subst AreTimed (sym same) (tick_timed moment source)
      deed_timed (CloseClient why) up down answer new source (no_up, no_down, (done, same)) =
          subst AreTimed (sym same) (record {
            now = timed.now;
            client = timed_shut Happens ev.CloseClient ev.EofClient timeout old.book.link timed.client (cause_as why) (client_cause why source);
            server = timed.server;
          })
      deed_timed (CloseServer why) up down answer new source (no_up, no_down, (done, same)) =
          subst AreTimed (sym same) (record {
            now = timed.now;
            client = timed.client;
            server = timed_shut Happens ev.CloseServer ev.EofServer timeout old.server.link timed.server (cause_as why) (server_cause why source);
          })
      deed_timed Reveal up down answer new source (no_up, no_down, (shown, same)) = same_timed new same

  -- ---- turns

  put_timed : (p : PairState) → AreTimed p → AreTimed (all_put p)
  put_timed p timed = record { now = timed.now; client = client_still p timed (all_put p).book (refl, refl); server = server_still p timed (all_put p).server (refl, refl) }

  turn_timed : (old : PairState) (e : Event) (t : Traffic) (answer : StepAnswer) (new : PairState) → AreTimed old → Happens e → IsTurn old e t answer new → AreTimed new
  turn_timed old e t answer new timed happens turn =
      let source = deed_source old.book.limits.max_message old.server.rules.entries (dispatches_of old.book) (booked_menu old.book) e turn.deed turn.comes in
      subst AreTimed (sym turn.out)
      (put_timed turn.behind (deed_timed old timed e happens turn.deed t.up_came t.down_came answer turn.behind source turn.does))

  turns_timed : (turns : List Turn) (old new : PairState) → AreTimed old → Each (λ t. Happens t.lined.event) turns → AreTurns old turns new → AreTimed new
  turns_timed [] old new timed all same = subst AreTimed same timed
  turns_timed (t ∷ turns) old new timed (happens, rest) (next, (behind, turn), later) =
      turns_timed turns next new (turn_timed old t.lined.event t.traffic t.answer next timed happens turn) rest later

-- ---- a run

-- each event of a run is one of it
each_there : (Q : Event → Type 0) (turns : List Turn) → ((e : Event) → HasEvent e turns → Q e) → Each (λ t. Q t.lined.event) turns
each_there Q [] all = tt
each_there Q (t ∷ turns) all = (all t.lined.event (inl refl), each_there Q turns (λ e there. all e (inr there)))

first_timed : (Happens : Event → Type 0) (close eof : Event) (limits : Limits) (e : EndState) → e ≡ first_end limits 0 → IsTimed Happens close eof limits.beat_timeout e
first_timed Happens close eof limits e is =
    subst (IsTimed Happens close eof limits.beat_timeout) (sym is) (record { beat = record { silence = refl; latest = inl refl; heard = inl refl }; caused = tt })

-- Where turns follow a start, what closed the ends by no bytes happened in them.
pub causes_show : (entries : List Entry) (limits : Limits) (p : PairState) (turns : List Turn) (new : PairState) → IsNewPair entries limits p → AreTurns (all_put p) turns new
    → AreCausedBy turns limits new
causes_show entries limits p turns new fresh run =
    let Happens : Event → Type 0 = λ e. HasEvent e turns in
    let start : AreTimed Happens limits.beat_timeout p = record {
      now = inl fresh.now;
      client = first_timed Happens ev.CloseClient ev.EofClient limits p.book.link (ap (λ (b : BookState). b.link) fresh.book);
      server = first_timed Happens ev.CloseServer ev.EofServer limits p.server.link fresh.server.link_is;
    } in
    let timed = turns_timed Happens limits.beat_timeout turns (all_put p) new (put_timed Happens limits.beat_timeout p start) (each_there Happens turns (λ e there. there)) run in
    record { client = timed.client.caused; server = timed.server.caused }
