-- What each call makes of a client that got some bytes.
use Rattle.std.proofs.Common.{◌≡◌, ◌≢◌, refl, sym, ap, ◌∙◌, subst, inl, inr, ◌⊎◌, ℕ, suc, zero, ◌+◌, ◌-◌, ◌<◌, ◌≤◌, ◌^◌, ℤ, Bool, true, false, not, ◌&&◌, ◌||◌, if◌then◌else◌, List, [], ◌∷◌, ◌++◌, length, take, drop, append-nil, arith}
use Rattle.std.proofs.lemmas.List.{length-drop, take_all}
use Rattle.std.specs.Prelude.{Option, Some, None, Result, Ok, Err}
use Rattle.std.specs.Option.{is_none, is_some, option_or}
use Rattle.rpc_msg.specs.declared.shared.Received.{Received}
use Rattle.readers.specs.Reader.{Each, IsByte}
use Rattle.rpc_msg.specs.declared.message.Answer.{Answer}
use Rattle.rpc_msg.specs.declared.shared.CloseCause.{CloseCause}
use Rattle.rpc_msg.specs.Beats.{BeatState, after_beat, beat_of}
use Rattle.rpc_msg.specs.declared.beat.BeatAct.{BeatAct}
use Rattle.rpc_msg.specs.declared.beat.BeatAct.TheVariants as act
use Rattle.rpc_msg.specs.declared.message.Message.TheVariants as message
use Rattle.rpc_msg.specs.declared.shared.CloseCause.TheVariants as cause
use Rattle.rpc_msg.specs.declared.shared.Ending.{Ending}
use Rattle.rpc_msg.specs.declared.shared.Ending.TheVariants as ending
use Rattle.rpc_msg.specs.declared.shared.FeedError.{FeedError}
use Rattle.rpc_msg.specs.declared.shared.FeedError.TheVariants as feed
use Rattle.rpc_msg.specs.declared.shared.Limits.{Limits}
use Rattle.rpc_msg.specs.Limits.{AreLimits}
use Rattle.rpc_log.specs.Logs.{log_of, responses_of}
use Rattle.rpc_talk.specs.Causes.{cause_of}
use Rattle.rpc_talk.specs.Parts.{Fate, Goes_on, Ends, Broken, CallParts, cut_parts, cut_ending, is_stream, parts_of, unless_closed}
use Rattle.rpc_talk.specs.Welcome.{accepted}
use Rattle.rpc_talk.proofs.StreamCauses.{no_cause}
use Rattle.rpc_end.specs.Ends.{EndState, acted, after_act, after_tick, closed_by, is_closed, is_link_open, said, shut, shut_by, taken_out, with_beat}
use Rattle.rpc_end.specs.Taking.{IsNextOf, IsPartTaken}
use Rattle.rpc_end.specs.declared.end.Got.{Got}
use Rattle.rpc_end.proofs.Taken.{limit_few, taken_start}
use Rattle.rpc_client.specs.declared.entry.Phase.{Phase}
use Rattle.rpc_client.specs.declared.entry.Phase.TheVariants as phase
use Rattle.rpc_client.specs.declared.entry.Took.{Took}
use Rattle.rpc_client.specs.declared.error.DispatchError.{DispatchError}
use Rattle.rpc_msg.specs.declared.shared.Ticket.{Ticket}
use Rattle.bp_value.specs.declared.value.Value.{Value}
use Rattle.rpc_schema.specs.declared.desc.RpcDesc.{RpcDesc}
use Rattle.rpc_client.specs.declared.error.AbortError.{AbortError}
use Rattle.rpc_client.specs.declared.error.AbortError.TheVariants as refused
use Rattle.rpc_client.specs.Clients.{ClientState, client_behind, fed, first_client, hearing, next_query, with_link, with_rows, IsAborted, IsDispatched, IsClientFed, PassesOn, HearsOne, ShowsCall}
use Rattle.rpc_client.specs.Kept.{accepted_of, row_calls, ending_kept, AreCalls, GotOn, HasGot, Holds, IsGoing, IsKept, KeepsGot, TakesHeld, TookHeld, ReceivesHeld, ShowsHeld}
use Rattle.rpc_client.specs.Rows.{Row, abort_refusal, row_aborted, after_take, is_at_first}
use Rattle.rpc_client.specs.Tables.{abort_data, find_row, has_row_id, call_query, refusal_at, with_row, AbortsRow, RowTaken, TakesRow, ShownOf}
use Rattle.rpc_client.proofs.Closes.{closed_got}
use Rattle.rpc_client.proofs.Dispatches.{all_accepted, dispatch_got, said_taken}
use Rattle.rpc_client.proofs.Feeds.{kept_by_log, message_got, part_got, part_same, stops, AreFaults}
use Rattle.rpc_client.proofs.GotSteps.{take_kept, take_told, kept_ending, shown_ending}
use Rattle.rpc_client.proofs.Numbers.{same_calls_are}
use Rattle.rpc_client.proofs.Places.{take_stays, Stays}
use Rattle.rpc_client.proofs.TableSteps.{found_id, same_calls}

-- ---- a new client

pub start_got : (limits : Limits) (now : ℕ) → AreLimits limits → HasGot (first_client limits now) []
start_got limits now ranges = record {
  max = refl;
  limit = ranges.message.1;
  bytes = tt;
  kept = tt;
  calls = record { callable = tt; each = tt; apart = tt };
  going = λ e. record { bodies = []; log = []; took = taken_start limits now; all = refl };
}

-- ---- a close

pub shut_got : (c : ClientState) (why : CloseCause) → KeepsGot c (with_link c (shut c.link why))
shut_got c why got has = by c.link.cause refl
  where
    by : (o : Option CloseCause) → c.link.cause ≡ o → HasGot (with_link c (shut_by c.link why o)) got
    by (Some old) e = has
    by None e =
        let going = has.going e in
        stops (with_link c (closed_by c.link why)) got going.log why has.max has.limit has.bytes (all_accepted c got has.limit has.bytes going) (kept_by_log c got e has going) has.calls refl

-- ---- one row changes

pub each_found : (P : Row → Type 0) (id : ℤ) (rows : List Row) (row : Row) → Each P rows → find_row id rows ≡ Some row → P row
each_found P id [] row all found = absurd cc
each_found P id (r ∷ rows) row (here, all) found = by (has_row_id id r) found (each_found P id rows row all)
  where
    by : (b : Bool) → (if b then Some r else find_row id rows) ≡ Some row → (find_row id rows ≡ Some row → P row) → P row
    by true is later = let same : r ≡ row = cc in subst P same here
    by false is later = later is

each_put : (P : Row → Type 0) (new : Row) (rows : List Row) → P new → Each P rows → Each P (with_row new rows)
each_put P new [] keeps all = tt
each_put P new (r ∷ rows) keeps (here, all) = by (has_row_id new.id r) (each_put P new rows keeps all)
  where
    by : (b : Bool) → Each P (with_row new rows) → Each P (if b then new ∷ rows else r ∷ with_row new rows)
    by true later = (keeps, all)
    by false later = (here, later)

-- a row of the same id and procedure that is kept as well
row_got : (c : ClientState) (got : List ℕ) (id : ℤ) (row new : Row) (link : EndState) → HasGot c got → find_row id c.rows ≡ Some row → Stays row new
    → ((closed : Bool) (answers : List Answer) → is_closed c.link ≡ closed → IsKept c.link.max closed answers row → IsKept c.link.max closed answers new)
    → link.max ≡ c.link.max → link.cause ≡ c.link.cause → (IsGoing c got → IsGoing (record c { rows = with_row new c.rows; link = link }) got)
    → HasGot (record c { rows = with_row new c.rows; link = link }) got
row_got c got id row new link has found stays keeps max cause goes =
    let its : row.id ≡ id = found_id id c.rows row found in
    let calls : row_calls (with_row new c.rows) ≡ row_calls c.rows = same_calls c.rows row new (ap (λ i. find_row i c.rows) (stays.0 ∙ its) ∙ found) stays in
    let log_is : accepted_of c.link.max c.rows got ≡ accepted_of link.max (with_row new c.rows) got =
    ap (λ n. accepted n (row_calls c.rows) (log_of n got)) (sym max)
    ∙ ap (λ cs. accepted link.max cs (log_of link.max got)) (sym calls) in
    let m = c.link.max in
    let here : IsKept m (is_closed c.link) (responses_of new.id (accepted_of m c.rows got)) new =
    keeps (is_closed c.link) (responses_of new.id (accepted_of m c.rows got)) refl
    (subst (λ i. IsKept m (is_closed c.link) (responses_of i (accepted_of m c.rows got)) row) (sym stays.0)
    (each_found (λ r. IsKept m (is_closed c.link) (responses_of r.id (accepted_of m c.rows got)) r) id c.rows row has.kept found)) in
    let all : Each (λ r. IsKept m (is_closed c.link) (responses_of r.id (accepted_of m c.rows got)) r) (with_row new c.rows) =
    each_put (λ r. IsKept m (is_closed c.link) (responses_of r.id (accepted_of m c.rows got)) r) new c.rows here has.kept in
    record {
      max = max ∙ has.max;
      limit = subst (λ n. n ≤ 2 ^ 30) (sym max) has.limit;
      bytes = has.bytes;
      kept = subst (λ n. Each (λ r. IsKept n (is_closed link) (responses_of r.id (accepted_of link.max (with_row new c.rows) got)) r) (with_row new c.rows)) (sym max)
          (subst (λ b. Each (λ r. IsKept m b (responses_of r.id (accepted_of link.max (with_row new c.rows) got)) r) (with_row new c.rows)) (sym (ap is_some cause))
          (subst (λ acc. Each (λ r. IsKept m (is_closed c.link) (responses_of r.id acc) r) (with_row new c.rows)) log_is all));
      calls = same_calls_are (with_row new c.rows) c.rows calls has.calls;
      going = λ e. goes (has.going (sym cause ∙ e));
    }

-- ---- a take

going_rows : (c : ClientState) (got : List ℕ) (new : List Row) (link : EndState) → link ≡ c.link → row_calls new ≡ row_calls c.rows → IsGoing c got → IsGoing (record c { rows = new; link = link }) got
going_rows c got new link same calls going =
    subst (λ e. IsGoing (record c { rows = new; link = e }) got) (sym same)
    (record { bodies = going.bodies; log = going.log; took = going.took; all = ap (λ cs. accepted c.link.max cs going.log) calls ∙ going.all })

pub take_got : (c : ClientState) (id : ℤ) (answer : Took) (new : ClientState) → TakesRow (is_closed c.link) c.rows id answer new.rows → new ≡ with_rows c new.rows → KeepsGot c new
take_got c id answer new takes same got has = subst (λ x. HasGot x got) (sym same) (by (find_row id c.rows) refl takes)
  where
    by : (o : Option Row) → find_row id c.rows ≡ o → RowTaken (is_closed c.link) c.rows answer new.rows o → HasGot (with_rows c new.rows) got
    by None found (stranger, is) = subst (λ rows. HasGot (with_rows c rows) got) (sym is) has
    by (Some row) found (row_told, is) =
        let after = after_take (is_closed c.link) row in
        let stays = take_stays (is_closed c.link) row in
        let its : row.id ≡ id = found_id id c.rows row found in
        let calls : row_calls (with_row after c.rows) ≡ row_calls c.rows = same_calls c.rows row after (ap (λ i. find_row i c.rows) (stays.0 ∙ its) ∙ found) stays in
        subst (λ rows. HasGot (with_rows c rows) got) (sym is)
        (row_got c got id row after c.link has found stays (λ closed answers e kept. subst (λ b. IsKept c.link.max closed answers (after_take b row)) (sym e) (take_kept c.link.max closed answers row kept))
        refl refl (going_rows c got (with_row after c.rows) c.link refl calls))

-- ---- a feed

pub all_bytes : (got piece : List ℕ) (n : ℕ) → Each IsByte got → Each IsByte piece → Each IsByte (got ++ take n piece)
all_bytes [] [] n here more = more_none n
  where
    more_none : (n : ℕ) → Each IsByte (take n [])
    more_none zero = tt
    more_none (suc n) = tt
all_bytes [] (b ∷ piece) zero here more = tt
all_bytes [] (b ∷ piece) (suc n) here (byte, more) = (byte, all_bytes [] piece n here more)
all_bytes (b ∷ got) piece n (byte, here) more = (byte, all_bytes got piece n here more)

-- what has no cause has no fault
pub fine : (c : ClientState) (got : List ℕ) → c.link.cause ≡ None → HasGot c got → cause_of c.link.max (row_calls c.rows) got ≡ None
fine c got open_ has =
    let going = has.going open_ in
    no_cause c.link.max (limit_few c.link.max has.limit) (row_calls c.rows) going.bodies going.log going.took.read going.all got c.link.held has.bytes going.took.bodies_are

part_calm : (old new : EndState) (piece : List ℕ) (now used : ℕ) → old.cause ≡ None → IsPartTaken old piece now used new → new.cause ≡ None
part_calm old new piece now used open_ part = (part_same old piece now used new part).1 ∙ open_

passes_on : (old : ClientState) (piece : List ℕ) (now : ℕ) (answer : Result ℕ FeedError) (new : ClientState) (got : List ℕ) → Each IsByte piece → HasGot old got
    → PassesOn old piece now answer new → GotOn old piece answer new got
passes_on old piece now (Ok used) new got more has ((open_, part), is) =
    let after = part_got old new.link got piece now used open_ has (all_bytes got piece used has.bytes more) part in
    let calm : new.link.cause ≡ None = part_calm old.link new.link piece now used open_ part in (
      subst (λ x. HasGot x (got ++ take used piece)) (sym is) after,
      ap (λ m. cause_of m (row_calls old.rows) (got ++ take used piece)) (sym (part_same old.link piece now used new.link part).0)
          ∙ fine (with_link old new.link) (got ++ take used piece) calm after,
    )
passes_on old piece now (Err (feed.Closed why)) new got more has (inl (closed, same), is) =
    inl (closed, subst (λ x. HasGot x got) (sym (is ∙ ap (with_link old) same)) has)
passes_on old piece now (Err (feed.Closed why)) new got more has (inr (open_, closes), is) =
    let (used, stops) = closed_got old got piece open_ has more (λ n. all_bytes got piece n has.bytes more) why new.link closes in
    inr (used, subst (λ x. HasGot x (got ++ take used piece)) (sym is) stops.has, stops.fault)
passes_on old piece now (Err feed.OutOfMemory) new got more has ((open_, same), is) =
    subst (λ x. HasGot x got) (sym (is ∙ ap (with_link old) same)) has

-- why a message closes a client is the first fault of all bytes; what does not leaves none
hears_one : (old : ClientState) (piece : List ℕ) (now : ℕ) (answer : Result ℕ FeedError) (new : ClientState) (got : List ℕ) → Each IsByte piece → HasGot old got
    → HearsOne old piece now answer new → GotOn old piece answer new got
hears_one old piece now answer new got more has one = by (hearing old.limits.max_message old.rows one.got.message).cause both.1 (sym one.answer_is)
  where
    both : HasGot (client_behind old one.behind now (hearing old.limits.max_message old.rows one.got.message)) (got ++ take one.got.used piece)
        × AreFaults old got piece one.got (hearing old.limits.max_message old.rows one.got.message).cause
    both = message_got old one.behind got piece now one.got one.took.0 has more (all_bytes got piece one.got.used has.bytes more) one.took.1

    by : (o : Option CloseCause) → AreFaults old got piece one.got o → fed one.got.used o ≡ answer → GotOn old piece answer new got
    by None fault is = subst (λ a. GotOn old piece a new got) is (subst (λ x. HasGot x (got ++ take one.got.used piece)) (sym one.new_is) both.0, fault)
    by (Some why) fault is = subst (λ a. GotOn old piece a new got) is (inr (one.got.used, subst (λ x. HasGot x (got ++ take one.got.used piece)) (sym one.new_is) both.0, fault))

pub feed_got : (old : ClientState) (piece : List ℕ) (now : ℕ) (answer : Result ℕ FeedError) (new : ClientState) (got : List ℕ) → Each IsByte piece → HasGot old got
    → IsClientFed old piece now answer new → GotOn old piece answer new got
feed_got old piece now answer new got more has (inl passes) = passes_on old piece now answer new got more has passes
feed_got old piece now answer new got more has (inr one) = hears_one old piece now answer new got more has one

-- ---- an abort

pub running : (row : Row) → abort_refusal row ≡ None → (row.handed ≡ false) × (row.ending ≡ None)
running row is = by row.handed row.ending is
  where
    by : (h : Bool) (e : Option Ending)
        → (if h || is_some e then Some refused.AlreadyEnded
        else if not (is_stream row.desc.kind) then Some refused.NotStream else if is_at_first row.phase then Some refused.NotBegun else None) ≡ None
        → (h ≡ false) × (e ≡ None)
    by true e is = absurd cc
    by false (Some e) is = absurd cc
    by false None is = (refl, refl)

-- a stream that has no ending is kept when it is aborted
abort_kept : (m : ℕ) (answers : List Answer) (row : Row) → abort_refusal row ≡ None → IsKept m false answers row → IsKept m false answers (row_aborted row)
abort_kept m answers row free kept = by row.cut refl (running row free)
  where
    by : (cut : Option ℕ) → row.cut ≡ cut → (row.handed ≡ false) × (row.ending ≡ None) → IsKept m false answers (row_aborted row)
    by (Some c) is (his, left) = absurd (
        let line : None ≡ Some ending.Aborted = sym left ∙ (kept.holds.ending ∙ (ap (λ b. ending_kept b (cut_ending row.cut (parts_of m row.desc answers).mark false)) his
        ∙ ap (λ o. cut_ending o (parts_of m row.desc answers).mark false) is)) in cc)
    by None is (his, left) =
        let ps = (parts_of m row.desc answers).parts in
        let waits : row.waiting ≡ drop row.taken ps = kept.holds.waiting ∙ ap (λ o. drop row.taken (cut_parts o ps)) is in
        let within : row.taken ≤ length ps = subst (λ o. row.taken ≤ length (cut_parts o ps)) is kept.holds.taken in
        let sum : row.taken + length row.waiting ≡ length ps = let count = ap length waits ∙ length-drop row.taken ps in omega (arith, count, within) in
        let all : take (row.taken + length row.waiting) ps ≡ ps = take_all (row.taken + length row.waiting) ps (omega (arith, sum)) in
        record {
          holds = record {
            waiting = waits ∙ ap (drop row.taken) (sym all);
            taken = subst (λ xs. row.taken ≤ length xs) (sym all) within;
            ending = ap (λ b. ending_kept b (Some ending.Aborted)) (sym his);
            handed = λ h. refl;
            over = kept.holds.over;
            cut = omega (arith, sum);
          };
          phase = kept.phase;
        }

abbrev state : Limits → List Row → EndState → ClientState
state limits rows link = record { limits = limits; rows = rows; link = link }

by_fields : (a : ClientState) (limits : Limits) (rows : List Row) (link : EndState) → a.limits ≡ limits → a.rows ≡ rows → a.link ≡ link
    → ◌≡◌ {A = ClientState} a (record { limits = limits; rows = rows; link = link })
by_fields a limits rows link e f g =
    ap (λ l. state l a.rows a.link) e ∙ (ap (λ r. state limits r a.link) f ∙ ap (λ k. state limits rows k) g)

pub abort_got : (c : ClientState) (id : ℤ) (answer : Result (Unit {0}) AbortError) (new : ClientState) → IsAborted c id answer new → KeepsGot c new
abort_got c id (Err why) new (refuses, is) got has = subst (λ x. HasGot x got) (sym is) has
abort_got c id (Ok u) new (open_, (free, aborts), same) got has = by (find_row id c.rows) refl free aborts
  where
    by : (o : Option Row) → find_row id c.rows ≡ o → refusal_at o ≡ None → AbortsRow c.rows c.link o new.rows new.link → HasGot new got
    by None found free aborts = absurd aborts
    by (Some row) found free (rows_are, link_is) =
        let after = row_aborted row in
        let query = call_query row.desc row.id abort_data in
        let its : row.id ≡ id = found_id id c.rows row found in
        let calls : row_calls (with_row after c.rows) ≡ row_calls c.rows = same_calls c.rows row after (ap (λ i. find_row i c.rows) its ∙ found) (refl, refl) in
        let kept : HasGot (record c { rows = with_row after c.rows; link = said c.link query }) got =
        row_got c got id row after (said c.link query) has found (refl, refl)
        (λ closed answers e keeps.
        let shut_not : closed ≡ false = sym e ∙ open_ in
        subst (λ b. IsKept c.link.max b answers after) (sym shut_not) (abort_kept c.link.max answers row free (subst (λ b. IsKept c.link.max b answers row) shut_not keeps)))
        refl refl
        (λ going. record {
          bodies = going.bodies;
          log = going.log;
          took = said_taken c.link query got going.bodies going.log going.took;
          all = ap (λ cs. accepted c.link.max cs going.log) calls ∙ going.all;
        }) in
        subst (λ x. HasGot x got) (sym (by_fields new c.limits (with_row after c.rows) (said c.link query) same rows_are link_is)) kept

-- ---- moments, and what goes out

link_got : (c : ClientState) (got : List ℕ) (beat : BeatState) (output : List ℕ) → HasGot c got → HasGot (with_link c (record c.link { beat = beat; output = output })) got
link_got c got beat output has = record {
  max = has.max;
  limit = has.limit;
  bytes = has.bytes;
  kept = has.kept;
  calls = has.calls;
  going = λ e.
      (let going = has.going e in
      record {
        bodies = going.bodies;
        log = going.log;
        took = record { bodies_are = going.took.bodies_are; place = going.took.place; start = going.took.start; greeted = going.took.greeted; read = going.took.read };
        all = going.all;
      });
}

pub take_out_got : (c : ClientState) (count : ℕ) → KeepsGot c (with_link c (taken_out c.link count))
take_out_got c count got has = link_got c got c.link.beat (drop count c.link.output) has

pub tick_got : (c : ClientState) (now : ℕ) → KeepsGot c (with_link c (after_tick c.link now))
tick_got c now got has = by c.link.cause refl
  where
    by_act : (what : BeatAct) (beat : BeatState) → c.link.cause ≡ None → HasGot (with_link c (after_act (with_beat c.link beat) what)) got
    by_act act.Quiet beat open_ = link_got c got beat c.link.output has
    by_act act.Send beat open_ = link_got c got beat (said c.link message.Heartbeat).output has
    by_act (act.Late last at) beat open_ =
        subst (λ o. HasGot (with_link c (shut_by (with_beat c.link beat) (cause.Late last at) o)) got) open_
        (shut_got (with_link c (with_beat c.link beat)) (cause.Late last at) got (link_got c got beat c.link.output has))

    by : (o : Option CloseCause) → c.link.cause ≡ o → HasGot (with_link c (after_tick c.link now)) got
    by (Some why) e = subst (λ b. HasGot (with_link c (if b then c.link else acted c.link now (beat_of c.link.beat now (is_link_open c.link)))) got) (sym (ap is_some e)) has
    by None e =
        subst (λ b. HasGot (with_link c (if b then c.link else acted c.link now (beat_of c.link.beat now (is_link_open c.link)))) got) (sym (ap is_some e))
        (by_act (beat_of c.link.beat now (is_link_open c.link)) (after_beat c.link.beat now (beat_of c.link.beat now (is_link_open c.link))) e)

-- what a take answers is the next of what the call holds
pub took_held : (c : ClientState) (id : ℤ) (answer : Took) (new : List Row) → TakesRow (is_closed c.link) c.rows id answer new → TakesHeld c id answer
took_held c id answer new takes got has = by (find_row id c.rows) refl takes
  where
    by : (o : Option Row) → find_row id c.rows ≡ o → RowTaken (is_closed c.link) c.rows answer new o → TookHeld c got answer o
    by None found (stranger, is) = stranger
    by (Some row) found (row_told, is) =
        let m = c.link.max in
        let kept = each_found (λ r. IsKept m (is_closed c.link) (responses_of r.id (accepted_of m c.rows got)) r) id c.rows row has.kept found in
        row_told ∙ take_told (parts_of m row.desc (responses_of row.id (accepted_of m c.rows got))) (is_closed c.link) row kept.holds

-- so is what is shown
pub shown_held : (c : ClientState) (id : ℤ) (shown : Option Received) → ShowsCall c id shown → ReceivesHeld c id shown
shown_held c id shown shows got has = by shown (find_row id c.rows) refl shows
  where
    by : (s : Option Received) (o : Option Row) → find_row id c.rows ≡ o → ShownOf (unless_closed (is_closed c.link)) o s → ShowsHeld c got s o
    by s None found none = none
    by None (Some row) found handed = handed
    by (Some r) (Some row) found (left, parts, ending) =
        let m = c.link.max in
        let kept = each_found (λ x. IsKept m (is_closed c.link) (responses_of x.id (accepted_of m c.rows got)) x) id c.rows row has.kept found in
        let p = parts_of m row.desc (responses_of row.id (accepted_of m c.rows got)) in (
          left,
          parts ∙ kept.holds.waiting,
          ending ∙ (ap (λ e. option_or e (unless_closed (is_closed c.link))) (kept_ending p (is_closed c.link) row kept.holds left)
              ∙ shown_ending row.cut p.mark (is_closed c.link)),
        )
