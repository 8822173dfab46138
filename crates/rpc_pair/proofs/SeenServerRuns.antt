-- A run of turns over any wires shows what they gave to the server.
use Rattle.std.proofs.Common.{◌≡◌, refl, sym, ap, ◌∙◌, subst, ℕ, List, [], ◌∷◌, ◌++◌, length, append_assoc, arith, inl, inr}
use Rattle.std.specs.Prelude.{Option, Some, None}
use Rattle.readers.specs.Reader.{Each}
use Rattle.rpc_msg.specs.Limits.{AreLimits}
use Rattle.rpc_msg.specs.declared.message.Message.{Message}
use Rattle.rpc_msg.specs.declared.message.Message.TheVariants as message
use Rattle.rpc_msg.specs.declared.shared.CloseCause.{CloseCause}
use Rattle.rpc_msg.specs.declared.shared.CloseCause.TheVariants as cause
use Rattle.rpc_msg.specs.declared.shared.Limits.{Limits}
use Rattle.rpc_schedule.specs.declared.event.Event.{Event}
use Rattle.rpc_schema.specs.declared.desc.Entry.{Entry}
use Rattle.rpc_talk.specs.Causes.{cause_of}
use Rattle.rpc_talk.proofs.Accepting.{IsTaken, taken_first}
use Rattle.rpc_talk.proofs.StreamCauses.{no_cause}
use Rattle.rpc_end.specs.Ends.{EndState}
use Rattle.rpc_end.specs.Taken.{HasTaken}
use Rattle.rpc_end.proofs.Taken.{limit_few, taken_start}
use Rattle.rpc_meeting.specs.declared.answer.StepAnswer.{StepAnswer}
use Rattle.rpc_server.specs.Rules.{Rules}
use Rattle.rpc_server.specs.Servers.{IsNew, ServerState}
use Rattle.rpc_pair.specs.Made.{dispatches_of}
use Rattle.rpc_pair.specs.Pairs.{IsNewPair, IsTurn, PairState, Traffic, all_put}
use Rattle.rpc_pair.specs.Played.{AreTurns, Turn, all_up}
use Rattle.rpc_pair.specs.Seen.{CameCalmly, IsNoAnswer, ServerCauseShows, ServerShows}
use Rattle.rpc_pair.specs.Standing.{booked_menu}
use Rattle.rpc_pair.proofs.SeenQueries.{none_asked}
use Rattle.rpc_pair.proofs.SeenServerDeeds.{KeepsServing, ServedOn, deed_served, out_serves, served_none}
use Rattle.rpc_pair.proofs.SeenServes.{AtAnswer, AtMany, AtReading, AtTwice, IsReadingFault, Serves, ServesAll, StopsFor, all_log}
use Rattle.rpc_pair.proofs.SeenSources.{deed_source}
use Rattle.rpc_pair.proofs.SeenTook.{IsOwnCause}

-- ---- what is shown

quiet_each : (m : ℕ) (before log : List Message) → IsTaken m [] before log → Each IsNoAnswer log
quiet_each m before [] all = tt
quiet_each m before (message.Heartbeat ∷ log) all = (tt, quiet_each m (before ++ message.Heartbeat ∷ []) log (taken_first m [] before message.Heartbeat log all).1)
quiet_each m before (message.Query q ∷ log) all = (tt, quiet_each m (before ++ message.Query q ∷ []) log (taken_first m [] before (message.Query q) log all).1)
quiet_each m before (message.Response r ∷ log) all = absurd (let (welcome, rest) = taken_first m [] before (message.Response r) log all in cc)

module _ (given : List ℕ) (s : ServerState) where
  all_calm : ServesAll given s → CameCalmly s given
  all_calm all = (
    ap (λ m. cause_of m [] given) (sym all.max)
        ∙ no_cause s.link.max (limit_few s.link.max all.limit) [] all.bodies all.log all.took.read all.quiet given s.link.held all.bytes all.took.bodies_are,
    subst (Each IsNoAnswer) (sym (all_log given s all)) (quiet_each s.link.max [] all.log all.quiet),
  )

  own_shows : (o : Option CloseCause) → IsOwnCause o → CameCalmly s given → ServerCauseShows s given o
  own_shows None own calm = calm
  own_shows (Some (cause.Late last now)) own calm = calm
  own_shows (Some cause.EndOfInput) own calm = calm
  own_shows (Some cause.ClosedHere) own calm = calm
  own_shows (Some _) own calm = absurd own

  reading_shows : (why : CloseCause) → IsReadingFault why → cause_of s.rules.limits.max_message [] given ≡ Some why → ServerCauseShows s given (Some why)
  reading_shows (cause.BadFrame at) reading is = is
  reading_shows (cause.BadHeader why) reading is = is
  reading_shows cause.NoCommonProtocol reading is = is
  reading_shows (cause.BadMessage why) reading is = is
  reading_shows _ reading is = absurd reading

  stops_show : (why : CloseCause) → StopsFor s.rules.limits given why → ServerCauseShows s given (Some why)
  stops_show why (AtReading reading fault) = reading_shows why reading fault
  stops_show why (AtAnswer id is fault some) = subst (λ w. ServerCauseShows s given (Some w)) (sym is) (fault ∙ ap (λ w. Some w) is, some)
  stops_show why (AtTwice id is two) = subst (λ w. ServerCauseShows s given (Some w)) (sym is) two
  stops_show why (AtMany is many) = subst (λ w. ServerCauseShows s given (Some w)) (sym is) (refl, many)

  serves_show : Serves given s → ServerShows given s
  serves_show (inl (all, own)) = record { bytes = all.bytes; cause = own_shows s.link.cause own (all_calm all) }
  serves_show (inr none) = record { bytes = none.bytes; cause = subst (ServerCauseShows s given) (sym none.closed) (stops_show none.why none.stops) }

-- ---- turns

-- all output goes out
put_serves : (given : List ℕ) (p : PairState) (serves : Serves given p.server) → KeepsServing given p.server serves (all_put p).server
put_serves given p serves = out_serves given p.server serves (length p.server.link.output)

turn_served : (given : List ℕ) (old : PairState) (e : Event) (t : Traffic) (answer : StepAnswer) (new : PairState) → Serves given old.server → IsTurn old e t answer new
    → ServedOn old.server given t.up_came.bytes new.server
turn_served given old e t answer new serves turn =
    let source = deed_source old.book.limits.max_message old.server.rules.entries (dispatches_of old.book) (booked_menu old.book) e turn.deed turn.comes in
    let on = deed_served given e turn.deed old t.up_came t.down_came answer turn.behind serves source turn.does in
    let put = put_serves (given ++ t.up_came.bytes) turn.behind on.serves in
    subst (λ (p : PairState). ServedOn old.server given t.up_came.bytes p.server) (sym turn.out) (record { serves = put.0; rules = put.1 ∙ on.rules })

turns_served : (turns : List Turn) (given : List ℕ) (old new : PairState) → Serves given old.server → AreTurns old turns new → ServedOn old.server given (all_up turns) new.server
turns_served [] given old new serves same =
    served_none old.server given new.server (ap (λ (p : PairState). p.server.rules) (sym same)) (subst (λ (p : PairState). Serves given p.server) same serves)
turns_served (t ∷ turns) given old new serves (next, (behind, turn), later) =
    let one = turn_served given old t.lined.event t.traffic t.answer next serves turn in
    let rest = turns_served turns (given ++ t.traffic.up_came.bytes) next new one.serves later in
    record { serves = subst (λ g. Serves g new.server) (append_assoc given t.traffic.up_came.bytes (all_up turns)) rest.serves; rules = rest.rules ∙ one.rules }

-- ---- the start

first_serves : (entries : List Entry) (limits : Limits) (s : ServerState) → AreLimits limits → IsNew entries limits 0 s → Serves [] s
first_serves entries limits s are new =
    let max : s.link.max ≡ limits.max_message = ap (λ (e : EndState). e.max) new.link_is in
    let most = are.message.1 in
    inl (
      record {
        max = max ∙ sym (ap (λ (l : Limits). l.max_message) new.limits_are);
        limit = omega (arith, max, most);
        bytes = tt;
        bodies = [];
        log = [];
        took = subst (λ e. HasTaken e [] [] []) (sym new.link_is) (taken_start limits 0);
        quiet = refl;
        asked = none_asked s.table new.table_is;
      },
      subst IsOwnCause (sym (ap (λ (e : EndState). e.cause) new.link_is)) tt,
    )

-- Where turns follow a start, the server shows why all bytes that came up closed it, if they did.
pub server_shows : (entries : List Entry) (limits : Limits) (p : PairState) (turns : List Turn) (new : PairState) → AreLimits limits → IsNewPair entries limits p
    → AreTurns (all_put p) turns new → ServerShows (all_up turns) new.server × (new.server.rules.limits ≡ limits)
server_shows entries limits p turns new are fresh run =
    let start = put_serves [] p (first_serves entries limits p.server are fresh.server) in
    let on = turns_served turns [] (all_put p) new start.0 run in
    (serves_show (all_up turns) new.server on.serves, ap (λ (r : Rules). r.limits) on.rules ∙ fresh.server.limits_are)
