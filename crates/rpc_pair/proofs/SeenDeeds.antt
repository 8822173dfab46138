-- What a deed makes of a book, by all bytes that came to it.
use Rattle.std.proofs.Common.{◌≡◌, refl, sym, ap, ◌∙◌, subst, ℕ, ℤ, max, Bool, true, false, ◌&&◌, if◌then◌else◌, List, [], ◌∷◌, ◌++◌, inl, inr}
use Rattle.std.specs.Prelude.{Option, Some, None, Result, Ok, Err}
use Rattle.std.specs.Option.{is_none}
use Rattle.bp_value.specs.declared.value.Value.{Value}
use Rattle.rpc_msg.specs.declared.shared.CloseCause.{CloseCause}
use Rattle.rpc_msg.specs.declared.shared.Ticket.{Ticket}
use Rattle.rpc_schedule.specs.declared.event.Event.{Event}
use Rattle.rpc_schema.specs.declared.desc.RpcDesc.{RpcDesc}
use Rattle.rpc_talk.specs.Causes.{cause_of}
use Rattle.rpc_end.specs.Ends.{EndState, after_tick, is_link_open, shut}
use Rattle.rpc_client.specs.declared.error.AbortError.{AbortError}
use Rattle.rpc_client.specs.declared.error.DispatchError.{DispatchError}
use Rattle.rpc_meeting.specs.declared.answer.StepAnswer.{StepAnswer}
use Rattle.rpc_meeting.specs.Deeds.{Deed, Refuse, Call, Abort, Tell, MoveUp, MoveDown, Tick, CloseClient, CloseServer, Reveal}
use Rattle.rpc_meeting.specs.Steps.{moved_bytes}
use Rattle.rpc_book.specs.Books.{BookState, Booked, call_of, calls_of, changed, fault_of, find_booked, has_booked_id, with_connection}
use Rattle.rpc_book.specs.Calls.{Aborts, IsAbortedAt, IsBooked, cut_to, new_booked, next_id}
use Rattle.rpc_pair.specs.Links.{cause_as}
use Rattle.rpc_pair.specs.Pairs.{Came, DoesOver, PairState, down_flight}
use Rattle.rpc_pair.proofs.SeenEnds.{ClosesFor, TickCloses, shut_cause, tick_cause}
use Rattle.rpc_pair.proofs.SeenFaults.{calm_more}
use Rattle.rpc_pair.proofs.SeenMoves.{TookOn, book_moves, took_none}
use Rattle.rpc_pair.proofs.SeenSources.{IsSourceOf}
use Rattle.rpc_pair.proofs.SeenTook.{IsOwnCause, Took, open_all, took_same}

link_going : (e : EndState) → is_link_open e ≡ true → e.cause ≡ None
link_going e is = by e.greeted e.cause is
  where
    by : (greeted : Bool) (o : Option CloseCause) → (greeted && is_none o) ≡ true → o ≡ None
    by true None is = refl
    by true (Some why) is = absurd cc
    by false o is = absurd cc

-- a cut changes no call
calls_cut : (p : Booked → Bool) (count : ℕ) (made : List Booked) → calls_of (changed p (cut_to count) made) ≡ calls_of made
calls_cut p count [] = refl
calls_cut p count (d ∷ made) = by (p d) (calls_cut p count made)
  where
    by : (b : Bool) → calls_of (changed p (cut_to count) made) ≡ calls_of made
        → calls_of (if b then cut_to count d ∷ made else d ∷ changed p (cut_to count) made) ≡ calls_of (d ∷ made)
    by true later = refl
    by false later = ap (λ cs. call_of d ∷ cs) later

calls_more : (made : List Booked) (d : Booked) → calls_of (made ++ d ∷ []) ≡ calls_of made ++ call_of d ∷ []
calls_more [] d = refl
calls_more (x ∷ made) d = ap (λ cs. call_of x ∷ cs) (calls_more made d)

module _ (given : List ℕ) (b : BookState) (took : Took given b) where
  -- ---- its end alone changes

  linked : (e : EndState) → e.cause ≡ b.link.cause → Took given (with_connection b e)
  linked e same = took_same given b (with_connection b e) refl refl same took

  closes : (e : EndState) (why : CloseCause) → IsOwnCause (Some why) → b.link.cause ≡ None → e.cause ≡ Some why → Took given (with_connection b e)
  closes e why own open_ is =
      let all = open_all given b open_ took in
      inl (record { all = all.all; calm = all.calm }, subst IsOwnCause (sym is) own)

  pub tick_took : (now : ℕ) → Took given (with_connection b (after_tick b.link now))
  tick_took now = by (tick_cause b.link now)
    where
      by : TickCloses b.link now (after_tick b.link now) → Took given (with_connection b (after_tick b.link now))
      by (inl same) = linked (after_tick b.link now) same
      by (inr (open_, silent, is)) = closes (after_tick b.link now) _ tt open_ is

  pub shut_took : (why : CloseCause) → IsOwnCause (Some why) → Took given (with_connection b (shut b.link why))
  shut_took why own = by (shut_cause b.link why)
    where
      by : ClosesFor b.link why (shut b.link why) → Took given (with_connection b (shut b.link why))
      by (inl same) = linked (shut b.link why) same
      by (inr (open_, is)) = closes (shut b.link why) why own open_ is

  -- ---- calls

  -- it has the limits that it had
  abbrev KeepsTook : BookState → Type 0
  KeepsTook new = Took given new × (new.limits ≡ b.limits)

  same_took : (new : BookState) → new ≡ b → KeepsTook new
  same_took new same = (subst (Took given) (sym same) took, ap (λ (x : BookState). x.limits) same)

  dispatch_took : (label : List ℕ) (d : RpcDesc) (v : Value) (result : Result Ticket DispatchError) (new : BookState) → IsBooked b label d v result new → KeepsTook new
  dispatch_took label d v (Err why) new (refused, same) = same_took new same
  dispatch_took label d v (Ok ticket) new (may, id, is, fresh) =
      let open_ = link_going b.link may.0.0.0.0 in
      let all = open_all given b open_ took in
      let made = new_booked label (next_id d.kind b.made) d in
      let calls : calls_of new.made ≡ calls_of b.made ++ call_of made ∷ [] = ap (λ (x : BookState). calls_of x.made) is ∙ calls_more b.made made in
      let m = b.limits.max_message in
      let calm : fault_of new ≡ None
      = ap (λ (x : BookState). cause_of x.limits.max_message (calls_of new.made) x.got) is
      ∙ (ap (λ cs. cause_of m cs b.got) calls ∙ calm_more m (calls_of b.made) (call_of made ∷ []) b.got all.calm) in
      let going : new.link.cause ≡ None = ap (λ (x : BookState). x.link.cause) is ∙ open_ in
      (inl (record { all = all.all ∙ sym (ap (λ (x : BookState). x.got) is); calm = calm }, subst IsOwnCause (sym going) tt), ap (λ (x : BookState). x.limits) is)

  abort_took : (id : ℤ) (result : Result (Unit {0}) AbortError) (new : BookState) → IsAbortedAt b id result new → KeepsTook new
  abort_took id (Err why) new (refused, same) = same_took new same
  abort_took id (Ok u) new (free, aborts) = by (find_booked id b.made) aborts
    where
      by : (o : Option Booked) → Aborts b id o new → KeepsTook new
      by None never = absurd never
      by (Some d) is =
          let calls : calls_of new.made ≡ calls_of b.made = ap (λ (x : BookState). calls_of x.made) is ∙ calls_cut (has_booked_id id) _ b.made in
          let fault : fault_of new ≡ fault_of b
          = ap (λ (x : BookState). cause_of x.limits.max_message (calls_of new.made) x.got) is ∙ ap (λ cs. cause_of b.limits.max_message cs b.got) calls in
          (took_same given b new (ap (λ (x : BookState). x.got) is) fault (ap (λ (x : BookState). x.link.cause) is) took, ap (λ (x : BookState). x.limits) is)

  none_came : (down : Came) (new : BookState) → down.bytes ≡ [] → KeepsTook new → TookOn b given down.bytes new
  none_came down new none (now, limits) = subst (λ bytes. TookOn b given bytes new) (sym none) (took_none b given new limits now)

-- A deed: the book took what it could of all that came with it.
pub deed_took : (given : List ℕ) (e : Event) (deed : Deed) (old : PairState) (up down : Came) (answer : StepAnswer) (new : PairState) → Took given old.book → IsSourceOf e deed
    → DoesOver deed old up down answer new → TookOn old.book given down.bytes new.book
deed_took given e (Refuse why) old up down answer new took source (none, still, (refused, same)) =
    none_came given old.book took down new.book (ap (λ (c : Came). c.bytes) still) (same_took given old.book took new.book (ap (λ (p : PairState). p.book) same))
deed_took given e (Call label d v) old up down answer new took source (none, still, (book, answers, same)) =
    none_came given old.book took down new.book (ap (λ (c : Came). c.bytes) still)
    (subst (KeepsTook given old.book took) (sym (ap (λ (p : PairState). p.book) same)) (dispatch_took given old.book took label d v answers.result book answers.calls))
deed_took given e (Abort d) old up down answer new took source (none, still, (book, answers, same)) =
    none_came given old.book took down new.book (ap (λ (c : Came). c.bytes) still)
    (subst (KeepsTook given old.book took) (sym (ap (λ (p : PairState). p.book) same)) (abort_took given old.book took d.id answers.result book answers.calls))
deed_took given e (Tell d act) old up down answer new took source (none, still, (server, answers, same)) =
    none_came given old.book took down new.book (ap (λ (c : Came). c.bytes) still) (same_took given old.book took new.book (ap (λ (p : PairState). p.book) same))
deed_took given e (MoveUp count by) old up down answer new took source (still, done, (server, moves, same)) =
    none_came given old.book took down new.book (ap (λ (c : Came). c.bytes) still) (same_took given old.book took new.book (ap (λ (p : PairState). p.book) same))
deed_took given e (MoveDown count by) old up down answer new took source (still, done, (book, moves, same)) =
    subst (TookOn old.book given down.bytes) (sym (ap (λ (p : PairState). p.book) same))
    (book_moves old.now (moved_bytes count (down_flight old)) by given old.book down book took moves)
deed_took given e (Tick moment) old up down answer new took source (none, still, (done, same)) =
    none_came given old.book took down new.book (ap (λ (c : Came). c.bytes) still)
    (subst (KeepsTook given old.book took) (sym (ap (λ (p : PairState). p.book) same)) (tick_took given old.book took (max old.now moment), refl))
deed_took given e (CloseClient why) old up down answer new took source (none, still, (done, same)) =
    none_came given old.book took down new.book (ap (λ (c : Came). c.bytes) still)
    (subst (KeepsTook given old.book took) (sym (ap (λ (p : PairState). p.book) same)) (shut_took given old.book took (cause_as why) (own source), refl))
  where
    own : IsSourceOf e (CloseClient why) → IsOwnCause (Some (cause_as why))
    own (inl (event, is)) = subst (λ w. IsOwnCause (Some (cause_as w))) (sym is) tt
    own (inr (event, is)) = subst (λ w. IsOwnCause (Some (cause_as w))) (sym is) tt
deed_took given e (CloseServer why) old up down answer new took source (none, still, (done, same)) =
    none_came given old.book took down new.book (ap (λ (c : Came). c.bytes) still) (same_took given old.book took new.book (ap (λ (p : PairState). p.book) same))
deed_took given e Reveal old up down answer new took source (none, still, (shown, same)) =
    none_came given old.book took down new.book (ap (λ (c : Came). c.bytes) still) (same_took given old.book took new.book (ap (λ (p : PairState). p.book) same))
