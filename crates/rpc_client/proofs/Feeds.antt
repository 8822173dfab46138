-- What a client that got some bytes is once it took more.
use Rattle.std.proofs.Common.{◌≡◌, refl, sym, ap, ◌∙◌, subst, inl, inr, ◌⊎◌, ℕ, ◌+◌, ◌<◌, ◌≤◌, ◌^◌, ℤ, Bool, true, false, if◌then◌else◌, List, [], ◌∷◌, ◌++◌, length, take, drop, arith}
use Rattle.std.specs.Prelude.{Option, Some, None, Result, Ok, Err}
use Rattle.std.specs.Option.{is_some}
use Rattle.readers.specs.Reader.{Each, IsByte}
use Rattle.rpc_msg.specs.declared.message.Answer.{Answer}
use Rattle.rpc_msg.specs.declared.message.Message.{Message}
use Rattle.rpc_msg.specs.declared.message.Message.TheVariants as message
use Rattle.rpc_msg.specs.declared.message.Query.{Query}
use Rattle.rpc_msg.specs.declared.shared.CloseCause.{CloseCause}
use Rattle.rpc_log.specs.Logs.{log_of, response_for, responses_of}
use Rattle.rpc_talk.specs.Acts.{response}
use Rattle.rpc_talk.specs.Causes.{cause_of, unwelcome}
use Rattle.rpc_talk.specs.Welcome.{accepted, is_welcome}
use Rattle.rpc_talk.proofs.Accepting.{accepted_more, accepted_not, IsTaken}
use Rattle.rpc_talk.proofs.StreamCauses.{no_cause}
use Rattle.rpc_end.specs.Ends.{EndState, closed_by, heard, is_closed, shut, shut_by}
use Rattle.rpc_end.specs.Taken.{HasTaken}
use Rattle.rpc_end.specs.Taking.{GivesMessage, IsPartTaken}
use Rattle.rpc_end.specs.declared.end.Got.{Got}
use Rattle.rpc_end.proofs.Taken.{limit_few, taken_message, taken_part, unwelcome_cause}
use Rattle.rpc_client.specs.Clients.{ClientState, answering, by_rows, client_behind, hearing, no_procedure}
use Rattle.rpc_client.specs.Kept.{accepted_of, row_calls, AreCalls, HasGot, IsGoing, IsKept}
use Rattle.rpc_client.specs.Rows.{Row}
use Rattle.rpc_client.specs.Tables.{rows_heard}
use Rattle.rpc_client.proofs.Dispatches.{all_accepted, said_taken, taken_log}
use Rattle.rpc_client.proofs.GotSteps.{closed_row}
use Rattle.rpc_client.proofs.Numbers.{same_calls_are}
use Rattle.rpc_client.proofs.TableSteps.{each_map, no_more, rows_hear, Hears}

-- each call is what the responses of a log make of it
abbrev pub AreKept : ℕ → List Message → List Row → Type 0
AreKept m log rows = Each (λ row. IsKept m false (responses_of row.id log) row) rows

-- ---- a client that goes on

pub kept_by_log : (c : ClientState) (got : List ℕ) → c.link.cause ≡ None → (has : HasGot c got) (going : IsGoing c got) → AreKept c.link.max going.log c.rows
kept_by_log c got open_ has going =
    subst (λ b. Each (λ row. IsKept c.link.max b (responses_of row.id going.log) row) c.rows) (ap is_some open_)
    (subst (λ log. Each (λ row. IsKept c.link.max (is_closed c.link) (responses_of row.id log) row) c.rows) (all_accepted c got has.limit has.bytes going) has.kept)

-- it took bytes, accepted all of their log, and has rows that are kept by it
pub goes_on : (c : ClientState) (got : List ℕ) (bs : List (List ℕ)) (log : List Message) → c.link.max ≡ c.limits.max_message → c.link.max ≤ 2 ^ 30 → Each IsByte got
    → HasTaken c.link got bs log → IsTaken c.link.max (row_calls c.rows) [] log → AreKept c.link.max log c.rows → AreCalls c.rows → c.link.cause ≡ None → HasGot c got
goes_on c got bs log max limit bytes took all kept calls open_ =
    let going : IsGoing c got = record { bodies = bs; log = log; took = took; all = all } in
    record {
      max = max;
      limit = limit;
      bytes = bytes;
      kept = subst (λ b. Each (λ row. IsKept c.link.max b (responses_of row.id (accepted_of c.link.max c.rows got)) row) c.rows) (sym (ap is_some open_))
          (subst (λ x. Each (λ row. IsKept c.link.max false (responses_of row.id x) row) c.rows) (sym (all_accepted c got limit bytes going)) kept);
      calls = calls;
      going = λ e. going;
    }

-- it closed, and accepted this log of the bytes that it got
pub stops : (c : ClientState) (got : List ℕ) (log : List Message) (why : CloseCause) → c.link.max ≡ c.limits.max_message → c.link.max ≤ 2 ^ 30 → Each IsByte got
    → accepted_of c.link.max c.rows got ≡ log → AreKept c.link.max log c.rows → AreCalls c.rows → c.link.cause ≡ Some why → HasGot c got
stops c got log why max limit bytes is kept calls closed =
    record {
      max = max;
      limit = limit;
      bytes = bytes;
      kept = subst (λ b. Each (λ row. IsKept c.link.max b (responses_of row.id (accepted_of c.link.max c.rows got)) row) c.rows) (sym (ap is_some closed))
          (subst (λ x. Each (λ row. IsKept c.link.max true (responses_of row.id x) row) c.rows) (sym is)
          (each_map (λ row. IsKept c.link.max false (responses_of row.id log) row) (λ row. IsKept c.link.max true (responses_of row.id log) row) c.rows
          (λ row keeps. closed_row c.link.max (responses_of row.id log) row keeps) kept));
      calls = calls;
      going = λ e. absurd (let line : Some why ≡ None = sym closed ∙ e in cc);
    }

-- ---- a part of a frame, or the header

pub part_same : (old : EndState) (piece : List ℕ) (now used : ℕ) (new : EndState) → IsPartTaken old piece now used new → (new.max ≡ old.max) × (new.cause ≡ old.cause)
part_same old piece now used new (inl (on, all, is)) = (ap (λ e. e.max) is, ap (λ e. e.cause) is)
part_same old piece now used new (inr (body, ends, greeted, opens, is)) = (ap (λ e. e.max) is, ap (λ e. e.cause) is)

pub part_got : (c : ClientState) (new : EndState) (got piece : List ℕ) (now used : ℕ) → c.link.cause ≡ None → HasGot c got → Each IsByte (got ++ take used piece)
    → IsPartTaken c.link piece now used new → HasGot (record c { link = new }) (got ++ take used piece)
part_got c new got piece now used open_ has bytes part =
    let going = has.going open_ in
    let (max, cause) = part_same c.link piece now used new part in
    let (after, took) = taken_part c.link got piece now used new going.bodies going.log going.took part in
    goes_on (record c { link = new }) (got ++ take used piece) after going.log (max ∙ has.max) (subst (λ m. m ≤ 2 ^ 30) (sym max) has.limit) bytes took
    (subst (λ m. IsTaken m (row_calls c.rows) [] going.log) (sym max) going.all) (subst (λ m. AreKept m going.log c.rows) (sym max) (kept_by_log c got open_ has going))
    has.calls (cause ∙ open_)

-- ---- a message

-- one that is no response changes no call
other_kept : (m : ℕ) (log : List Message) (a : Message) (rows : List Row) → ((id : ℤ) → responses_of id (log ++ a ∷ []) ≡ responses_of id log) → AreKept m log rows → AreKept m (log ++ a ∷ []) rows
other_kept m log a rows same kept =
    each_map (λ row. IsKept m false (responses_of row.id log) row) (λ row. IsKept m false (responses_of row.id (log ++ a ∷ [])) row) rows
    (λ row keeps. subst (λ before. IsKept m false before row) (sym (same row.id)) keeps) kept

-- what a message that came makes of the cause: it is the first fault of all bytes, or they have none
abbrev pub AreFaults : ClientState → List ℕ → List ℕ → Got → Option CloseCause → Type 0
AreFaults c got piece g o = cause_of c.link.max (row_calls c.rows) (got ++ take g.used piece) ≡ o

module _ (c : ClientState) (mid : EndState) (got piece : List ℕ) (now : ℕ) (g : Got) (open_ : c.link.cause ≡ None) (has : HasGot c got)
    (more : Each IsByte piece) (bytes : Each IsByte (got ++ take g.used piece)) (came : GivesMessage c.link piece g mid) where
  abbrev pub m : ℕ
  m = c.link.max

  abbrev pub after : List ℕ
  after = got ++ take g.used piece

  abbrev going : IsGoing c got
  going = has.going open_

  mid_max : mid.max ≡ c.link.max
  mid_max = ap (λ e. e.max) came.new_is

  mid_cause : mid.cause ≡ None
  mid_cause = ap (λ e. e.cause) came.new_is ∙ open_

  took : HasTaken (heard mid now) after (going.bodies ++ g.body ∷ []) (going.log ++ g.message ∷ [])
  took = taken_message c.link got piece now g mid going.bodies going.log going.took came

  answered_took : (o : Option Message) → HasTaken (heard (answering mid o) now) after (going.bodies ++ g.body ∷ []) (going.log ++ g.message ∷ [])
  answered_took None = took
  answered_took (Some a) = said_taken (heard mid now) a after (going.bodies ++ g.body ∷ []) (going.log ++ g.message ∷ []) took

  answered_max : (o : Option Message) → (answering mid o).max ≡ c.link.max
  answered_max None = mid_max
  answered_max (Some a) = mid_max

  answered_cause : (o : Option Message) → (answering mid o).cause ≡ None
  answered_cause None = mid_cause
  answered_cause (Some a) = mid_cause

  -- it is welcome
  welcome_got : (rows : List Row) (o : Option Message) → is_welcome m (row_calls c.rows) going.log g.message ≡ true → row_calls rows ≡ row_calls c.rows
      → AreKept m (going.log ++ g.message ∷ []) rows → HasGot (record c { rows = rows; link = heard (answering mid o) now }) after
  welcome_got rows o welcome calls kept =
      let max = answered_max o in
      goes_on (record c { rows = rows; link = heard (answering mid o) now }) after (going.bodies ++ g.body ∷ []) (going.log ++ g.message ∷ []) (max ∙ has.max)
      (subst (λ n. n ≤ 2 ^ 30) (sym max) has.limit) bytes (answered_took o)
      (subst (λ n. IsTaken n (row_calls rows) [] (going.log ++ g.message ∷ [])) (sym max)
      (subst (λ calls. IsTaken m calls [] (going.log ++ g.message ∷ [])) (sym calls) (accepted_more m (row_calls c.rows) going.log g.message going.all welcome)))
      (subst (λ n. AreKept n (going.log ++ g.message ∷ []) rows) (sym max) kept) (same_calls_are rows c.rows calls has.calls) (answered_cause o)

  -- it is not, and closes the client
  unwelcome_got : (why : CloseCause) → is_welcome m (row_calls c.rows) going.log g.message ≡ false → HasGot (record c { link = shut (heard mid now) why }) after
  unwelcome_got why not_welcome =
      let log_is : log_of mid.max after ≡ going.log ++ g.message ∷ [] =
      taken_log (heard mid now) after (going.bodies ++ g.body ∷ []) (going.log ++ g.message ∷ []) (subst (λ n. n ≤ 2 ^ 30) (sym mid_max) has.limit) bytes took in
      let accepted_is : accepted_of mid.max c.rows after ≡ going.log =
      ap (accepted mid.max (row_calls c.rows)) log_is ∙ (ap (λ n. accepted n (row_calls c.rows) (going.log ++ g.message ∷ [])) mid_max
      ∙ accepted_not m (row_calls c.rows) going.log [] g.message going.all not_welcome) in
      subst (λ e. HasGot (record c { link = e }) after) (sym (ap (shut_by (heard mid now) why) mid_cause))
      (stops (record c { link = closed_by (heard mid now) why }) after going.log why (mid_max ∙ has.max) (subst (λ n. n ≤ 2 ^ 30) (sym mid_max) has.limit) bytes accepted_is
      (subst (λ n. AreKept n going.log c.rows) (sym mid_max) (kept_by_log c got open_ has going)) has.calls refl)

  -- the bytes of a message that is welcome have no fault
  no_fault : is_welcome m (row_calls c.rows) going.log g.message ≡ true → cause_of m (row_calls c.rows) after ≡ None
  no_fault welcome =
      ap (λ n. cause_of n (row_calls c.rows) after) (sym mid_max)
      ∙ no_cause mid.max (limit_few mid.max (subst (λ n. n ≤ 2 ^ 30) (sym mid_max) has.limit)) (row_calls c.rows) (going.bodies ++ g.body ∷ []) (going.log ++ g.message ∷ []) took.read
      (subst (λ n. IsTaken n (row_calls c.rows) [] (going.log ++ g.message ∷ [])) (sym mid_max) (accepted_more m (row_calls c.rows) going.log g.message going.all welcome))
      after (heard mid now).held bytes took.bodies_are

  by_message : (a : Message) → g.message ≡ a → HasGot (client_behind c mid now (hearing m c.rows a)) after × AreFaults c got piece g (hearing m c.rows a).cause
  by_message message.Heartbeat e = (
    welcome_got c.rows None (ap (is_welcome m (row_calls c.rows) going.log) e) refl
        (other_kept m going.log g.message c.rows (λ id. no_more id going.log g.message (ap (response_for id) e)) (kept_by_log c got open_ has going)),
    no_fault (ap (is_welcome m (row_calls c.rows) going.log) e),
  )
  by_message (message.Query q) e = (
    welcome_got c.rows (Some (no_procedure m q)) (ap (is_welcome m (row_calls c.rows) going.log) e) refl
        (other_kept m going.log g.message c.rows (λ id. no_more id going.log g.message (ap (response_for id) e)) (kept_by_log c got open_ has going)),
    no_fault (ap (is_welcome m (row_calls c.rows) going.log) e),
  )
  by_message (message.Response r) e = by_heard (rows_heard m c.rows r.id r.result) (rows_hear m going.log c.rows r.id r.result has.calls.apart (kept_by_log c got open_ has going))
    where
      by_heard : (x : Result (List Row) CloseCause) → Hears m c.rows going.log r.id r.result x → HasGot (client_behind c mid now (by_rows c.rows x)) after × AreFaults c got piece g (by_rows c.rows x).cause
      by_heard (Ok rows) (welcome, calls, kept) =
          (welcome_got rows None (ap (is_welcome m (row_calls c.rows) going.log) e ∙ welcome) calls (subst (λ a. AreKept m (going.log ++ a ∷ []) rows) (sym e) kept), no_fault (ap (is_welcome m (row_calls c.rows) going.log) e ∙ welcome))
      by_heard (Err why) (not_welcome, is) =
          let refuses = ap (is_welcome m (row_calls c.rows) going.log) e ∙ not_welcome in (
            unwelcome_got why refuses,
            unwelcome_cause c.link has.limit (row_calls c.rows) got piece has.bytes more going.bodies going.log going.took going.all g mid came refuses
                ∙ (ap (unwelcome m (row_calls c.rows) going.log) e ∙ is),
          )

  pub message_got : HasGot (client_behind c mid now (hearing c.limits.max_message c.rows g.message)) after × AreFaults c got piece g (hearing c.limits.max_message c.rows g.message).cause
  message_got = subst (λ n. HasGot (client_behind c mid now (hearing n c.rows g.message)) after × AreFaults c got piece g (hearing n c.rows g.message).cause) has.max (by_message g.message refl)
