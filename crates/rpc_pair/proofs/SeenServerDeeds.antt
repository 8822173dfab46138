-- What a deed makes of a server, by all bytes that came to it.
use Rattle.std.proofs.Common.{◌≡◌, refl, sym, ap, ◌∙◌, subst, ℕ, ◌^◌, ◌≤◌, ℤ, max, Bool, true, false, if◌then◌else◌, List, [], ◌++◌, arith, inl, inr}
use Rattle.std.specs.Prelude.{Option, Some, None, Result, Ok, Err}
use Rattle.std.proofs.lemmas.List.{append-nil}
use Rattle.rpc_msg.specs.Beats.{after_beat, beat_of}
use Rattle.rpc_msg.specs.declared.beat.BeatAct.{BeatAct}
use Rattle.rpc_msg.specs.declared.beat.BeatAct.TheVariants as beat
use Rattle.rpc_msg.specs.declared.message.Message.{Message}
use Rattle.rpc_msg.specs.declared.shared.CloseCause.{CloseCause}
use Rattle.rpc_schedule.specs.declared.event.Event.{Event}
use Rattle.rpc_schema.specs.declared.desc.Entry.{Entry}
use Rattle.rpc_talk.specs.Acts.{Act}
use Rattle.rpc_talk.proofs.Accepting.{IsTaken}
use Rattle.rpc_end.specs.Ends.{EndState, after_act, after_tick, is_closed, is_link_open, shut, shut_by, taken_out, with_beat}
use Rattle.rpc_end.specs.Taken.{HasTaken}
use Rattle.rpc_client.proofs.Dispatches.{said_taken}
use Rattle.rpc_meeting.specs.declared.answer.StepAnswer.{StepAnswer}
use Rattle.rpc_meeting.specs.Deeds.{Deed, Refuse, Call, Abort, Tell, MoveUp, MoveDown, Tick, CloseClient, CloseServer, Reveal}
use Rattle.rpc_meeting.specs.Steps.{moved_bytes}
use Rattle.rpc_server.specs.Acting.{ActsBy, IsActRefused, IsActed, RespondsTo, act_refusal, answer_to, place_at, stands_behind}
use Rattle.rpc_server.specs.Rules.{Rules}
use Rattle.rpc_server.specs.Servers.{ServerState, with_end}
use Rattle.rpc_server.specs.Tables.{open_count, place_in_schema, standing}
use Rattle.rpc_server.specs.declared.error.ActError.{ActError}
use Rattle.rpc_server.specs.declared.error.ActError.TheVariants as refused
use Rattle.rpc_server.specs.declared.table.Standing.{Standing}
use Rattle.rpc_server.specs.declared.table.Standing.TheVariants.{Nowhere, Open, Stopped}
use Rattle.rpc_pair.specs.Feeds.{ServerCloses, ServerTakes}
use Rattle.rpc_pair.specs.Links.{cause_as}
use Rattle.rpc_pair.specs.Pairs.{Came, DoesOver, PairState, ServerMoves, is_server_closed, up_flight}
use Rattle.rpc_pair.proofs.SeenEnds.{ClosesFor, TickCloses, shut_cause, tick_cause}
use Rattle.rpc_pair.proofs.SeenPieces.{Kept, move_kept}
use Rattle.rpc_pair.proofs.SeenQueries.{AreAsked, act_asked, few_open}
use Rattle.rpc_pair.proofs.SeenServerFeeds.{closes_serves, takes_serves}
use Rattle.rpc_pair.proofs.SeenServes.{Serves, ServesAll, StopsFor, open_serves}
use Rattle.rpc_pair.proofs.SeenSources.{IsSourceOf}
use Rattle.rpc_pair.proofs.SeenTook.{IsOwnCause, going_open}
use Rattle.rpc_pair.proofs.StillTaken.{out_taken, shut_taken, tick_taken}

-- ---- a movement

-- with its rules; and while it goes on it took all
abbrev HasServed : Rules → List ℕ → ServerState → Type 0
HasServed r given s = Serves given s × (s.rules ≡ r)

abbrev ServesOn : Rules → List ℕ → ServerState → Type 0
ServesOn r given s = ServesAll given s × (s.link.cause ≡ None) × (s.rules ≡ r)

server_kept : (now : ℕ) (r : Rules) → Kept is_server_closed (ServerTakes now) (ServerCloses now) (HasServed r) (ServesOn r)
server_kept now r = record {
  goes = λ given s open_ held. let going = going_open s.link open_ in (open_serves given s going held.0, going, held.1);
  holds = λ given s on. (inl (on.0, subst IsOwnCause (sym on.1) tt), on.2);
  takes = λ given s piece n new bytes on fed. let more = takes_serves given s on.0 piece bytes now new n fed in (more.0, more.1 ∙ on.1, more.2 ∙ on.2);
  closes = λ given s piece new bytes on fed. let stops = closes_serves given s on.0 piece bytes now new on.1 fed in (stops.0, stops.1 ∙ on.2);
}

-- ---- what takes no bytes

module _ (given : List ℕ) (s : ServerState) (serves : Serves given s) where
  -- it has the rules that it had
  abbrev pub KeepsServing : ServerState → Type 0
  KeepsServing new = Serves given new × (new.rules ≡ s.rules)

  -- what was taken is the same, and the queries are among those that came
  record IsLike (new : ServerState) : Type 0 where
    max : new.link.max ≡ s.link.max
    taken : (bs : List (List ℕ)) (log : List Message) → HasTaken s.link given bs log → HasTaken new.link given bs log
    asked : (log : List Message) → AreAsked log s.table → AreAsked log new.table
    rules : new.rules ≡ s.rules

  all_like : (new : ServerState) → IsLike new → ServesAll given s → ServesAll given new
  all_like new like all = record {
    max = like.max ∙ (all.max ∙ sym (ap (λ (r : Rules). r.limits.max_message) like.rules));
    limit = subst (λ m. m ≤ 2 ^ 30) (sym like.max) all.limit;
    bytes = all.bytes;
    bodies = all.bodies;
    log = all.log;
    took = like.taken all.bodies all.log all.took;
    quiet = subst (λ m. IsTaken m [] [] all.log) (sym like.max) all.quiet;
    asked = like.asked all.log all.asked;
  }

  -- and its cause too
  same_serves : (new : ServerState) → IsLike new → new.link.cause ≡ s.link.cause → KeepsServing new
  same_serves new like same = (by serves, like.rules)
    where
      by : Serves given s → Serves given new
      by (inl (all, own)) = inl (all_like new like all, subst IsOwnCause (sym same) own)
      by (inr none) = inr (record {
        why = none.why;
        closed = same ∙ none.closed;
        bytes = none.bytes;
        stops = subst (λ (r : Rules). StopsFor r.limits given none.why) (sym like.rules) none.stops;
      })

  -- or it closes for what is no fault of the bytes
  closed_serves : (new : ServerState) → IsLike new → (why : CloseCause) → IsOwnCause (Some why) → s.link.cause ≡ None → new.link.cause ≡ Some why → KeepsServing new
  closed_serves new like why own open_ is = (inl (all_like new like (open_serves given s open_ serves), subst IsOwnCause (sym is) own), like.rules)

  is_same : (new : ServerState) → new ≡ s → KeepsServing new
  is_same new same = (subst (Serves given) (sym same) serves, ap (λ (x : ServerState). x.rules) same)

  -- ---- its end alone changes

  tick_max : (now : ℕ) → (after_tick s.link now).max ≡ s.link.max
  tick_max now = by (is_closed s.link) (beat_of s.link.beat now (is_link_open s.link))
    where
      by : (b : Bool) (what : BeatAct) → (if b then s.link else after_act (with_beat s.link (after_beat s.link.beat now what)) what).max ≡ s.link.max
      by true what = refl
      by false beat.Quiet = refl
      by false beat.Send = refl
      by false (beat.Late last at) = refl

  shut_max : (why : CloseCause) → (shut s.link why).max ≡ s.link.max
  shut_max why = by s.link.cause
    where
      by : (o : Option CloseCause) → (shut_by s.link why o).max ≡ s.link.max
      by None = refl
      by (Some old) = refl

  pub tick_serves : (now : ℕ) → KeepsServing (with_end s (after_tick s.link now))
  tick_serves now = by (tick_cause s.link now)
    where
      like : IsLike (with_end s (after_tick s.link now))
      like = record { max = tick_max now; taken = λ bs log took. tick_taken s.link given bs log took now; asked = λ log are. are; rules = refl }

      by : TickCloses s.link now (after_tick s.link now) → KeepsServing (with_end s (after_tick s.link now))
      by (inl same) = same_serves (with_end s (after_tick s.link now)) like same
      by (inr (open_, silent, is)) = closed_serves (with_end s (after_tick s.link now)) like _ tt open_ is

  pub shut_serves : (why : CloseCause) → IsOwnCause (Some why) → KeepsServing (with_end s (shut s.link why))
  shut_serves why own = by (shut_cause s.link why)
    where
      like : IsLike (with_end s (shut s.link why))
      like = record { max = shut_max why; taken = λ bs log took. shut_taken s.link given bs log took why; asked = λ log are. are; rules = refl }

      by : ClosesFor s.link why (shut s.link why) → KeepsServing (with_end s (shut s.link why))
      by (inl same) = same_serves (with_end s (shut s.link why)) like same
      by (inr (open_, is)) = closed_serves (with_end s (shut s.link why)) like why own open_ is

  -- output is taken
  pub out_serves : (count : ℕ) → KeepsServing (with_end s (taken_out s.link count))
  out_serves count =
      same_serves (with_end s (taken_out s.link count))
      (record { max = refl; taken = λ bs log took. out_taken s.link given bs log took count; asked = λ log are. are; rules = refl }) refl

  -- ---- a handler's act

  module _ (id : ℤ) (act : Act) (new : ServerState) where
    refused_serves : (why : ActError) → IsActRefused s id why new → KeepsServing new
    refused_serves refused.Stopped (rules, put, link) =
        same_serves new (record {
          max = ap (λ (e : EndState). e.max) link;
          taken = λ bs log took. subst (λ e. HasTaken e given bs log) (sym link) took;
          asked = λ log are. act_asked s.table new.table id Nowhere put log (omega arith) are;
          rules = rules;
        }) (ap (λ (e : EndState). e.cause) link)
    refused_serves refused.Closed same = is_same new same
    refused_serves refused.NoSuch same = is_same new same
    refused_serves refused.WrongKind same = is_same new same
    refused_serves refused.AlreadyBegun same = is_same new same
    refused_serves refused.NotBegun same = is_same new same
    refused_serves refused.BadValue same = is_same new same
    refused_serves (refused.TooLong most) same = is_same new same
    refused_serves refused.OutOfMemory same = is_same new same

    was_open : (st : Standing) (place : ℕ) → place_in_schema st ≡ Some place → open_count st ≡ 1
    was_open Nowhere place is = absurd cc
    was_open (Open other begun) place is = refl
    was_open Stopped place is = absurd cc

    responds_serves : (place : ℕ) (e : Entry) → place_at s id ≡ Some place → (result : Result (Unit {0}) ActError) → RespondsTo s place e.desc id act result new → KeepsServing new
    responds_serves place e here (Ok u) (fits, short, acted) =
        same_serves new (record {
          max = ap (λ (x : EndState). x.max) acted.link;
          taken = λ bs log took. subst (λ x. HasTaken x given bs log) (sym acted.link) (said_taken s.link (answer_to e.desc id act) given bs log took);
          asked = λ log are. act_asked s.table new.table id (stands_behind act place) acted.table log
              (omega (arith, few_open (stands_behind act place), was_open (standing s.table id) place here)) are;
          rules = acted.rules;
        }) (ap (λ (x : EndState). x.cause) acted.link)
    responds_serves place e here (Err refused.BadValue) (bad, same) = is_same new same
    responds_serves place e here (Err (refused.TooLong most)) (fits, long, is, same) = is_same new same
    responds_serves place e here (Err refused.OutOfMemory) same = is_same new same
    responds_serves place e here (Err refused.Closed) never = absurd never
    responds_serves place e here (Err refused.NoSuch) never = absurd never
    responds_serves place e here (Err refused.Stopped) never = absurd never
    responds_serves place e here (Err refused.WrongKind) never = absurd never
    responds_serves place e here (Err refused.AlreadyBegun) never = absurd never
    responds_serves place e here (Err refused.NotBegun) never = absurd never

    pub act_serves : (result : Result (Unit {0}) ActError) → IsActed s id act result new → KeepsServing new
    act_serves result acts = by (act_refusal s id act) acts
      where
        by : (o : Option ActError) → ActsBy o s id act result new → KeepsServing new
        by (Some why) (is, refused_by) = refused_serves why refused_by
        by None (place, e, here, entry, responds) = responds_serves place e here result responds

-- ---- deeds

-- a server came to another, to which these are all bytes that came
pub record ServedOn (s : ServerState) (given bytes : List ℕ) (new : ServerState) : Type 0 where
  pub serves : Serves (given ++ bytes) new
  pub rules : new.rules ≡ s.rules

pub served_none : (s : ServerState) (given : List ℕ) (new : ServerState) → new.rules ≡ s.rules → Serves given new → ServedOn s given [] new
served_none s given new rules serves = record { serves = subst (λ g. Serves g new) (sym (append-nil given)) serves; rules = rules }

none_came : (given : List ℕ) (s : ServerState) (serves : Serves given s) (up : Came) (new : ServerState) → up.bytes ≡ [] → KeepsServing given s serves new → ServedOn s given up.bytes new
none_came given s serves up new none (now, rules) = subst (λ bytes. ServedOn s given bytes new) (sym none) (served_none s given new rules now)

server_moves : (now count by : ℕ) (given : List ℕ) (s : ServerState) (came : Came) (new : ServerState) → Serves given s → ServerMoves now count by s came new → ServedOn s given came.bytes new
server_moves now count by given s came new serves moved =
    let (on, bytes) = move_kept is_server_closed (ServerTakes now) (ServerCloses now) (HasServed s.rules) (ServesOn s.rules) (server_kept now s.rules) count by given s
    came.bytes came.short new (serves, refl) moved in
    record { serves = on.0; rules = on.1 }

-- A deed: the server took what it could of all that came with it.
pub deed_served : (given : List ℕ) (e : Event) (deed : Deed) (old : PairState) (up down : Came) (answer : StepAnswer) (new : PairState) → Serves given old.server
    → IsSourceOf e deed → DoesOver deed old up down answer new → ServedOn old.server given up.bytes new.server
deed_served given e (Refuse why) old up down answer new serves source (still, none, (refused_for, same)) =
    none_came given old.server serves up new.server (ap (λ (c : Came). c.bytes) still) (is_same given old.server serves new.server (ap (λ (p : PairState). p.server) same))
deed_served given e (Call label d v) old up down answer new serves source (still, none, (book, answers, same)) =
    none_came given old.server serves up new.server (ap (λ (c : Came). c.bytes) still) (is_same given old.server serves new.server (ap (λ (p : PairState). p.server) same))
deed_served given e (Abort d) old up down answer new serves source (still, none, (book, answers, same)) =
    none_came given old.server serves up new.server (ap (λ (c : Came). c.bytes) still) (is_same given old.server serves new.server (ap (λ (p : PairState). p.server) same))
deed_served given e (Tell d act) old up down answer new serves source (still, none, (server, answers, same)) =
    none_came given old.server serves up new.server (ap (λ (c : Came). c.bytes) still)
    (subst (KeepsServing given old.server serves) (sym (ap (λ (p : PairState). p.server) same)) (act_serves given old.server serves d.id act server answers.result answers.calls))
deed_served given e (MoveUp count by) old up down answer new serves source (none, done, (server, moves, same)) =
    subst (ServedOn old.server given up.bytes) (sym (ap (λ (p : PairState). p.server) same))
    (server_moves old.now (moved_bytes count (up_flight old)) by given old.server up server serves moves)
deed_served given e (MoveDown count by) old up down answer new serves source (still, done, (book, moves, same)) =
    none_came given old.server serves up new.server (ap (λ (c : Came). c.bytes) still) (is_same given old.server serves new.server (ap (λ (p : PairState). p.server) same))
deed_served given e (Tick moment) old up down answer new serves source (still, none, (done, same)) =
    none_came given old.server serves up new.server (ap (λ (c : Came). c.bytes) still)
    (subst (KeepsServing given old.server serves) (sym (ap (λ (p : PairState). p.server) same)) (tick_serves given old.server serves (max old.now moment)))
deed_served given e (CloseClient why) old up down answer new serves source (still, none, (done, same)) =
    none_came given old.server serves up new.server (ap (λ (c : Came). c.bytes) still) (is_same given old.server serves new.server (ap (λ (p : PairState). p.server) same))
deed_served given e (CloseServer why) old up down answer new serves source (still, none, (done, same)) =
    none_came given old.server serves up new.server (ap (λ (c : Came). c.bytes) still)
    (subst (KeepsServing given old.server serves) (sym (ap (λ (p : PairState). p.server) same)) (shut_serves given old.server serves (cause_as why) (own source)))
  where
    own : IsSourceOf e (CloseServer why) → IsOwnCause (Some (cause_as why))
    own (inl (event, is)) = subst (λ w. IsOwnCause (Some (cause_as w))) (sym is) tt
    own (inr (event, is)) = subst (λ w. IsOwnCause (Some (cause_as w))) (sym is) tt
deed_served given e Reveal old up down answer new serves source (still, none, (shown, same)) =
    none_came given old.server serves up new.server (ap (λ (c : Came). c.bytes) still) (is_same given old.server serves new.server (ap (λ (p : PairState). p.server) same))
