-- A run of turns over any wires shows what they gave to the client.
use Rattle.std.proofs.Common.{◌≡◌, refl, sym, ap, ◌∙◌, subst, ℕ, ◌^◌, ◌<◌, List, [], ◌∷◌, ◌++◌, arith, inl}
use Rattle.std.specs.Prelude.{None}
use Rattle.rpc_msg.specs.Limits.{AreLimits}
use Rattle.rpc_msg.specs.declared.shared.Limits.{Limits}
use Rattle.rpc_frame.proofs.Streams.{front_start}
use Rattle.rpc_schedule.specs.declared.event.Event.{Event}
use Rattle.rpc_schema.specs.declared.desc.Entry.{Entry}
use Rattle.rpc_talk.specs.Causes.{cause_of}
use Rattle.rpc_talk.proofs.StreamCauses.{no_cause}
use Rattle.rpc_meeting.specs.declared.answer.StepAnswer.{StepAnswer}
use Rattle.rpc_book.specs.Books.{BookState, fault_of, first_book}
use Rattle.rpc_pair.specs.Made.{dispatches_of}
use Rattle.rpc_pair.specs.Pairs.{IsNewPair, IsTurn, PairState, Traffic, all_put}
use Rattle.rpc_pair.specs.Played.{AreTurns, Turn, all_down}
use Rattle.rpc_pair.specs.Seen.{BookShows}
use Rattle.rpc_pair.specs.Standing.{booked_menu}
use Rattle.rpc_pair.proofs.SeenDeeds.{deed_took}
use Rattle.rpc_pair.proofs.SeenMoves.{TookOn, took_along, took_none}
use Rattle.rpc_pair.proofs.SeenShows.{took_shows}
use Rattle.rpc_pair.proofs.SeenSources.{deed_source}
use Rattle.rpc_pair.proofs.SeenTook.{Took, took_same}

-- ---- turns

-- all output goes out
put_took : (given bytes : List ℕ) (b : BookState) (p : PairState) → TookOn b given bytes p.book → TookOn b given bytes (all_put p).book
put_took given bytes b p on =
    record { took = took_same (given ++ bytes) p.book (all_put p).book refl refl refl on.took; limits = on.limits; bytes_are = on.bytes_are }

turn_took : (given : List ℕ) (old : PairState) (e : Event) (t : Traffic) (answer : StepAnswer) (new : PairState) → Took given old.book → IsTurn old e t answer new
    → TookOn old.book given t.down_came.bytes new.book
turn_took given old e t answer new took turn =
    let source = deed_source old.book.limits.max_message old.server.rules.entries (dispatches_of old.book) (booked_menu old.book) e turn.deed turn.comes in
    subst (λ (p : PairState). TookOn old.book given t.down_came.bytes p.book) (sym turn.out)
    (put_took given t.down_came.bytes old.book turn.behind (deed_took given e turn.deed old t.up_came t.down_came answer turn.behind took source turn.does))

turns_took : (turns : List Turn) (given : List ℕ) (old new : PairState) → Took given old.book → AreTurns old turns new → TookOn old.book given (all_down turns) new.book
turns_took [] given old new took same =
    took_none old.book given new.book (ap (λ (p : PairState). p.book.limits) (sym same)) (subst (λ (p : PairState). Took given p.book) same took)
turns_took (t ∷ turns) given old new took (next, (behind, turn), later) =
    let one = turn_took given old t.lined.event t.traffic t.answer next took turn in
    took_along old.book next.book new.book given t.traffic.down_came.bytes (all_down turns) one
    (turns_took turns (given ++ t.traffic.down_came.bytes) next new one.took later)

-- ---- the start

-- limits on messages are far below what a length can say
pub few_of : (limits : Limits) → AreLimits limits → limits.max_message < 256 ^ 8
few_of limits are = let most = are.message.1 in omega (arith, most)

first_took : (entries : List Entry) (limits : Limits) (p : PairState) → AreLimits limits → IsNewPair entries limits p → Took [] (all_put p).book
first_took entries limits p are new =
    let m = limits.max_message in
    let calm : cause_of m [] [] ≡ None
    = no_cause m (few_of limits are) [] [] [] refl refl [] [] tt (record { whole = refl; short = tt; front = front_start m }) in
    took_same [] (first_book limits 0) (all_put p).book (ap (λ (b : BookState). b.got) new.book)
    (ap (λ (b : BookState). fault_of b) new.book) (ap (λ (b : BookState). b.link.cause) new.book) (inl (record { all = refl; calm = calm }, tt))

-- Where turns follow a start, the book shows what all bytes that came down make of it.
pub client_shows : (entries : List Entry) (limits : Limits) (p : PairState) (turns : List Turn) (new : PairState) → AreLimits limits → IsNewPair entries limits p
    → AreTurns (all_put p) turns new → BookShows (all_down turns) new.book × (new.book.limits ≡ limits)
client_shows entries limits p turns new are fresh run =
    let on = turns_took turns [] (all_put p) new (first_took entries limits p are fresh) run in
    let same : new.book.limits ≡ limits = on.limits ∙ ap (λ (b : BookState). b.limits) fresh.book in
    (took_shows (all_down turns) new.book (subst (λ (l : Limits). l.max_message < 256 ^ 8) (sym same) (few_of limits are)) on.bytes_are on.took, same)
