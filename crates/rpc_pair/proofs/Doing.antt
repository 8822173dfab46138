-- What a deed does to both ends, over wires that give what is in flight, is what it does in the world.
use Rattle.std.proofs.Common.{◌≡◌, refl, sym, ap, ◌∙◌, subst, ℕ, ◌+◌, ◌≤◌, max, false, List, [], ◌++◌, length, take, arith}
use Rattle.std.specs.Prelude.{Option, Some, None}
use Rattle.std.proofs.lemmas.List.{length-append}
use Rattle.std.proofs.Math.Seq.{take-append_seam}
use Rattle.bp_value.specs.declared.value.Value.{Value}
use Rattle.rpc_end.specs.Ends.{EndState, shut, shut_by}
use Rattle.rpc_msg.specs.declared.shared.CloseCause.{CloseCause}
use Rattle.rpc_meeting.specs.declared.answer.StepAnswer.{StepAnswer}
use Rattle.rpc_meeting.specs.declared.answer.StepAnswer.TheVariants.{Done}
use Rattle.rpc_meeting.specs.Deeds.{Deed, Refuse, Call, Abort, Tell, MoveUp, MoveDown, Tick, CloseClient, CloseServer, Reveal}
use Rattle.rpc_meeting.specs.Steps.{Stepped, abort_held, act_server, after_deed, dispatch, moved_bytes, new_dispatch}
use Rattle.rpc_schema.specs.declared.desc.RpcDesc.{RpcDesc}
use Rattle.rpc_talk.specs.Acts.{Act}
use Rattle.rpc_meeting.specs.Talks.{Common, Dispatch, Talk, received}
use Rattle.rpc_meeting.specs.Worlds.{Reason, World, come, flying, is_shut, stream_of}
use Rattle.rpc_meeting.proofs.Deeds.{IsFounded}
use Rattle.rpc_meeting.proofs.Lines.{most}
use Rattle.rpc_book.specs.Books.{BookState, with_connection}
use Rattle.rpc_book.specs.Calls.{IsAbortedAt, IsBooked}
use Rattle.rpc_server.specs.Acting.{IsActed}
use Rattle.rpc_server.specs.Servers.{ServerState, with_end}
use Rattle.rpc_pair.specs.Callers.{aborted_as, dispatched_as}
use Rattle.rpc_pair.specs.Links.{cause_as}
use Rattle.rpc_pair.specs.Pairs.{Answers, BookMoves, Came, DoesOver, PairState, ServerMoves, down_flight, moved_down, moved_up, nothing, ticked, up_flight, with_book, with_server}
use Rattle.rpc_pair.specs.Rules.{IsOfSchema}
use Rattle.rpc_pair.specs.Stands.{answer_as}
use Rattle.rpc_pair.proofs.BothEnds.{ActsOn, ActsOnAs, EndsHold, IsSameUp, act_ends, act_world}
use Rattle.rpc_pair.proofs.DownMoves.{down_moves}
use Rattle.rpc_pair.proofs.EndCalls.{AsksOn, AsksOnAs, IsSameDown, abort_ends, abort_world, dispatch_ends, dispatch_world, label_found}
use Rattle.rpc_pair.proofs.EndMoves.{close_client_ends, close_server_ends}
use Rattle.rpc_pair.proofs.Flowing.{ComesOf}
use Rattle.rpc_pair.proofs.Growing.{Grows, grows_none}
use Rattle.rpc_pair.proofs.Ticks.{tick_ends}
use Rattle.rpc_pair.proofs.UpMoves.{up_moves}

-- the answer is the world's, and both ends stand for its next world; what is to go out grows as what is written, and so many bytes moved
pub record DoneAs (r : Common) (w : World) (to : Stepped) (old new : PairState) (up_came down_came : ℕ) (answer : StepAnswer) : Type 0 where
  pub outcome : to.outcome ≡ answer
  pub taken : List ℕ
  pub ends : EndsHold r to.world new.book new.server taken
  pub moment : new.now ≡ to.world.now
  pub ups : Grows (stream_of w.talk.ups) (stream_of to.world.talk.ups) old.book.link.output new.book.link.output
  pub downs : Grows (stream_of w.talk.downs) (stream_of to.world.talk.downs) old.server.link.output new.server.link.output
  pub up_count : to.world.up ≡ w.up + up_came
  pub down_count : to.world.down ≡ w.down + down_came
  pub up_put : new.moved.up_put ≡ old.moved.up_put
  pub up_moved : new.moved.up ≡ old.moved.up + up_came
  pub down_put : new.moved.down_put ≡ old.moved.down_put
  pub down_moved : new.moved.down ≡ old.moved.down + down_came

shut_output : (e : EndState) (why : CloseCause) → (shut e why).output ≡ e.output
shut_output e why = by e.cause
  where
    by : (o : Option CloseCause) → (shut_by e why o).output ≡ e.output
    by None = refl
    by (Some other) = refl

few_moved : (count : Option ℕ) (flight : ℕ) → moved_bytes count flight ≤ flight
few_moved None flight = omega arith
few_moved (Some n) flight = omega arith

module _ (r : Common) (is : IsOfSchema r) (w : World) (old : PairState) (up : List ℕ) (ends : EndsHold r w old.book old.server up) (moment : old.now ≡ w.now) where
  -- ---- deeds by which nothing moves

  -- nothing is done
  nothing_done : (to : Stepped) (answer : StepAnswer) (new : PairState) → to.world ≡ w → to.outcome ≡ answer → new ≡ old → DoneAs r w to old new 0 0 answer
  nothing_done to answer new world outcome same =
      subst (λ x. DoneAs r w to old x 0 0 answer) (sym same) (record {
        outcome = outcome;
        taken = up;
        ends = subst (λ x. EndsHold r x old.book old.server up) (sym world) ends;
        moment = moment ∙ sym (ap (λ (x : World). x.now) world);
        ups = grows_none _ _ _ _ (ap (λ (x : World). stream_of x.talk.ups) world) refl;
        downs = grows_none _ _ _ _ (ap (λ (x : World). stream_of x.talk.downs) world) refl;
        up_count = omega (arith, ap (λ (x : World). x.up) world);
        down_count = omega (arith, ap (λ (x : World). x.down) world);
        up_put = refl;
        up_moved = omega arith;
        down_put = refl;
        down_moved = omega arith;
      })

  -- the book asks for something
  asks_done : (to : Stepped) (answer : StepAnswer) (book : BookState) → IsSameDown w to.world → AsksOn r answer w to old.book book old.server up
      → DoneAs r w to old (with_book old book) 0 0 answer
  asks_done to answer book (world, downs, queries) on = record {
    outcome = on.outcome;
    taken = up;
    ends = on.ends;
    moment = moment ∙ sym (ap (λ (x : World). x.now) world);
    ups = record { bytes = on.bytes; stream_is = on.stream; output_is = on.output };
    downs = grows_none _ _ _ _ (ap stream_of downs) refl;
    up_count = omega (arith, ap (λ (x : World). x.up) world);
    down_count = omega (arith, ap (λ (x : World). x.down) world);
    up_put = refl;
    up_moved = omega arith;
    down_put = refl;
    down_moved = omega arith;
  }

  -- a handler acts
  acts_done : (to : Stepped) (answer : StepAnswer) (server : ServerState) → IsSameUp w to.world → ActsOn r answer w to old.book old.server server up
      → DoneAs r w to old (with_server old server) 0 0 answer
  acts_done to answer server (world, ups, made) on = record {
    outcome = on.outcome;
    taken = up;
    ends = on.ends;
    moment = moment ∙ sym (ap (λ (x : World). x.now) world);
    ups = grows_none _ _ _ _ (ap stream_of ups) refl;
    downs = record { bytes = on.bytes; stream_is = on.stream; output_is = on.output };
    up_count = omega (arith, ap (λ (x : World). x.up) world);
    down_count = omega (arith, ap (λ (x : World). x.down) world);
    up_put = refl;
    up_moved = omega arith;
    down_put = refl;
    down_moved = omega arith;
  }

  -- a moment comes
  tick_done : (at : ℕ) → DoneAs r w (after_deed r w (Tick at)) old (ticked old (max old.now at)) 0 0 Done
  tick_done at =
      let on = tick_ends r w old.book old.server up ends at in
      subst (λ k. DoneAs r w (after_deed r w (Tick at)) old (ticked old (max k at)) 0 0 Done) (sym moment) (record {
        outcome = refl;
        taken = up;
        ends = on.ends;
        moment = sym on.now;
        ups = on.ups;
        downs = on.downs;
        up_count = omega (arith, on.up_same);
        down_count = omega (arith, on.down_same);
        up_put = refl;
        up_moved = omega arith;
        down_put = refl;
        down_moved = omega arith;
      })

  -- ---- deeds

  -- no byte came
  quiet_done : (to : Stepped) (answer : StepAnswer) (up_came down_came : Came) (new : PairState) → up_came ≡ nothing → down_came ≡ nothing → DoneAs r w to old new 0 0 answer
      → DoneAs r w to old new (length up_came.bytes) (length down_came.bytes) answer
  quiet_done to answer up_came down_came new up_none down_none done =
      subst (λ (x : Came). DoneAs r w to old new (length x.bytes) (length down_came.bytes) answer) (sym up_none)
      (subst (λ (x : Came). DoneAs r w to old new 0 (length x.bytes) answer) (sym down_none) done)

  up_taken : take w.up (stream_of w.talk.ups) ≡ up
  up_taken = ap (λ n. take n (stream_of w.talk.ups)) (sym ends.stands.up_count) ∙ (ap (take (length up)) (sym ends.stands.up_front) ∙ take-append_seam up ends.stands.up_tail)

  -- what the book got, while it is not closed, is all that came down
  got_taken : is_shut w.client ≡ false → take w.down (stream_of w.talk.downs) ≡ old.book.got
  got_taken opened =
      let count : w.down ≡ length old.book.got = sym (ends.stands.got_count ∙ ends.good.taken opened) in
      ap (λ n. take n (stream_of w.talk.downs)) count ∙ (ap (take (length old.book.got)) (sym ends.stands.got_front) ∙ take-append_seam old.book.got ends.stands.got_tail)

  -- bytes move to the server
  up_done : (count : Option ℕ) (by : ℕ) (came : Came) (server : ServerState) → up_flight old ≡ flying w.talk.ups w.up → ComesOf (stream_of w.talk.ups) w.up came
      → ServerMoves old.now (moved_bytes count (up_flight old)) by old.server came server
      → DoneAs r w (after_deed r w (MoveUp count by)) old (moved_up old server (length came.bytes)) (length came.bytes) 0 Done
  up_done count by came server flight comes moves =
      let fuel = flying w.talk.ups w.up in
      let on = up_moves r is old.book by fuel w old.server (moved_bytes count fuel) up came.bytes comes.tail came.short server ends
      (ap (λ l. l ++ (came.bytes ++ comes.tail)) (sym up_taken) ∙ comes.cut) (few_moved count fuel) (few_moved count fuel) comes.spent
      (subst (λ k. ServerMoves w.now (moved_bytes count k) by old.server came server) flight
      (subst (λ k. ServerMoves k (moved_bytes count (up_flight old)) by old.server came server) moment moves)) in
      record {
        outcome = refl;
        taken = up ++ came.bytes;
        ends = on.ends;
        moment = moment ∙ sym on.now;
        ups = grows_none _ _ _ _ (ap stream_of on.ups) refl;
        downs = on.downs;
        up_count = omega (arith, on.ends.stands.up_count, length-append up came.bytes, ends.stands.up_count);
        down_count = omega (arith, on.down);
        up_put = refl;
        up_moved = refl;
        down_put = refl;
        down_moved = omega arith;
      }

  -- and to the client
  down_done : (count : Option ℕ) (by : ℕ) (came : Came) (book : BookState) → down_flight old ≡ flying w.talk.downs w.down → ComesOf (stream_of w.talk.downs) w.down came
      → BookMoves old.now (moved_bytes count (down_flight old)) by old.book came book
      → DoneAs r w (after_deed r w (MoveDown count by)) old (moved_down old book (length came.bytes)) 0 (length came.bytes) Done
  down_done count by came book flight comes moves =
      let fuel = flying w.talk.downs w.down in
      let on = down_moves r is old.server up by fuel w old.book (moved_bytes count fuel) came.bytes comes.tail came.short book ends
      (λ opened. ap (λ l. l ++ (came.bytes ++ comes.tail)) (sym (got_taken opened)) ∙ comes.cut) (few_moved count fuel) (few_moved count fuel) comes.spent
      (subst (λ k. BookMoves w.now (moved_bytes count k) by old.book came book) flight
      (subst (λ k. BookMoves k (moved_bytes count (down_flight old)) by old.book came book) moment moves)) in
      record {
        outcome = refl;
        taken = up;
        ends = on.ends;
        moment = moment ∙ sym on.now;
        ups = grows_none _ _ _ _ (ap (λ (t : Talk). stream_of t.ups) on.talk) on.output;
        downs = grows_none _ _ _ _ (ap (λ (t : Talk). stream_of t.downs) on.talk) refl;
        up_count = omega (arith, on.ups);
        down_count = on.down;
        up_put = refl;
        up_moved = omega arith;
        down_put = refl;
        down_moved = refl;
      }

  -- an end closes
  client_closed : (why : Reason) → DoneAs r w (after_deed r w (CloseClient why)) old (with_book old (with_connection old.book (shut old.book.link (cause_as why)))) 0 0 Done
  client_closed why = record {
    outcome = refl;
    taken = up;
    ends = close_client_ends r w old.book old.server up ends why;
    moment = moment;
    ups = grows_none _ _ _ _ refl (shut_output old.book.link (cause_as why));
    downs = grows_none _ _ _ _ refl refl;
    up_count = omega arith;
    down_count = omega arith;
    up_put = refl;
    up_moved = omega arith;
    down_put = refl;
    down_moved = omega arith;
  }

  server_closed : (why : Reason) → DoneAs r w (after_deed r w (CloseServer why)) old (with_server old (with_end old.server (shut old.server.link (cause_as why)))) 0 0 Done
  server_closed why = record {
    outcome = refl;
    taken = up;
    ends = close_server_ends r w old.book old.server up ends why;
    moment = moment;
    ups = grows_none _ _ _ _ refl refl;
    downs = grows_none _ _ _ _ refl (shut_output old.server.link (cause_as why));
    up_count = omega arith;
    down_count = omega arith;
    up_put = refl;
    up_moved = omega arith;
    down_put = refl;
    down_moved = omega arith;
  }

  -- the answer of a call is the world's
  call_done : (label : List ℕ) (d : RpcDesc) (v : Value) → IsFounded r w.talk.made (Call label d v) → (answer : StepAnswer) (book : BookState)
      → Answers (IsBooked old.book label d v) dispatched_as answer book → DoneAs r w (after_deed r w (Call label d v)) old (with_book old book) 0 0 answer
  call_done label d v (known, fits) answer book did =
      let to = dispatch r w (new_dispatch w label d) v in
      asks_done to answer book (dispatch_world r w (new_dispatch w label d) v)
      (subst (λ o. AsksOnAs o r w to old.book book old.server up) did.tells (dispatch_ends r is w old.book book old.server up ends label d v did.result known fits did.calls))

  abort_done : (d : Dispatch) → IsFounded r w.talk.made (Abort d) → (answer : StepAnswer) (book : BookState) → Answers (IsAbortedAt old.book d.id) aborted_as answer book
      → DoneAs r w (after_deed r w (Abort d)) old (with_book old book) 0 0 answer
  abort_done d (label, here) answer book did =
      let to = abort_held r w d (received (most r) (come w) false d) in
      asks_done to answer book (abort_world r w d)
      (subst (λ o. AsksOnAs o r w to old.book book old.server up) did.tells (abort_ends r is w old.book book old.server up ends label d did.result here did.calls))

  act_done : (d : Dispatch) (act : Act) → IsFounded r w.talk.made (Tell d act) → (answer : StepAnswer) (server : ServerState) → Answers (IsActed old.server d.id act) answer_as answer server
      → DoneAs r w (after_deed r w (Tell d act)) old (with_server old server) 0 0 answer
  act_done d act ((label, here), suit, given, handles) answer server did =
      let to = act_server r w d.id act in
      acts_done to answer server (act_world r w d.id act)
      (subst (λ o. ActsOnAs o r w to old.book old.server server up) did.tells
      (act_ends r is w old.book old.server server up ends d (label_found r w ends.good label d here) act suit given handles did.result did.calls))

  module _ (up_came down_came : Came) (answer : StepAnswer) (new : PairState) where
    abbrev IsDone : Deed → Type 0
    IsDone deed = DoneAs r w (after_deed r w deed) old new (length up_came.bytes) (length down_came.bytes) answer

    quietly : (deed : Deed) (behind : PairState) (x : StepAnswer) → DoneAs r w (after_deed r w deed) old behind 0 0 x → up_came ≡ nothing → down_came ≡ nothing → answer ≡ x → new ≡ behind
        → IsDone deed
    quietly deed behind x done up_none down_none is_answer same =
        quiet_done (after_deed r w deed) answer up_came down_came new up_none down_none
        (subst (λ a. DoneAs r w (after_deed r w deed) old new 0 0 a) (sym is_answer) (subst (λ p. DoneAs r w (after_deed r w deed) old p 0 0 x) (sym same) done))

    -- A deed of a pair that stands for a world is the world's: the answer, what is said, and the bytes that move.
    pub deed_done : (deed : Deed) → IsFounded r w.talk.made deed → up_flight old ≡ flying w.talk.ups w.up → down_flight old ≡ flying w.talk.downs w.down
        → old.book.link.output ≡ [] → old.server.link.output ≡ [] → (new.book.link.output ≡ [] → ComesOf (stream_of w.talk.ups) w.up up_came)
        → (new.server.link.output ≡ [] → ComesOf (stream_of w.talk.downs) w.down down_came) → DoesOver deed old up_came down_came answer new → IsDone deed
    deed_done (Refuse why) known up_fly down_fly book_out server_out up_comes down_comes (up_none, down_none, (is_answer, same)) =
        quiet_done (after_deed r w (Refuse why)) answer up_came down_came new up_none down_none (nothing_done (after_deed r w (Refuse why)) answer new refl (sym is_answer) same)
    deed_done (Call label d v) known up_fly down_fly book_out server_out up_comes down_comes (up_none, down_none, (book, did, same)) =
        quietly (Call label d v) (with_book old book) answer (call_done label d v known answer book did) up_none down_none refl same
    deed_done (Abort d) known up_fly down_fly book_out server_out up_comes down_comes (up_none, down_none, (book, did, same)) =
        quietly (Abort d) (with_book old book) answer (abort_done d known answer book did) up_none down_none refl same
    deed_done (Tell d act) known up_fly down_fly book_out server_out up_comes down_comes (up_none, down_none, (server, did, same)) =
        quietly (Tell d act) (with_server old server) answer (act_done d act known answer server did) up_none down_none refl same
    deed_done (MoveUp count by) known up_fly down_fly book_out server_out up_comes down_comes (down_none, is_answer, (server, moves, same)) =
        let comes = up_comes (ap (λ (p : PairState). p.book.link.output) same ∙ book_out) in
        subst (λ a. DoneAs r w (after_deed r w (MoveUp count by)) old new (length up_came.bytes) (length down_came.bytes) a) (sym is_answer)
        (subst (λ (x : Came). DoneAs r w (after_deed r w (MoveUp count by)) old new (length up_came.bytes) (length x.bytes) Done) (sym down_none)
        (subst (λ p. DoneAs r w (after_deed r w (MoveUp count by)) old p (length up_came.bytes) 0 Done) (sym same) (up_done count by up_came server up_fly comes moves)))
    deed_done (MoveDown count by) known up_fly down_fly book_out server_out up_comes down_comes (up_none, is_answer, (book, moves, same)) =
        let comes = down_comes (ap (λ (p : PairState). p.server.link.output) same ∙ server_out) in
        subst (λ a. DoneAs r w (after_deed r w (MoveDown count by)) old new (length up_came.bytes) (length down_came.bytes) a) (sym is_answer)
        (subst (λ (x : Came). DoneAs r w (after_deed r w (MoveDown count by)) old new (length x.bytes) (length down_came.bytes) Done) (sym up_none)
        (subst (λ p. DoneAs r w (after_deed r w (MoveDown count by)) old p 0 (length down_came.bytes) Done) (sym same) (down_done count by down_came book down_fly comes moves)))
    deed_done (Tick at) known up_fly down_fly book_out server_out up_comes down_comes (up_none, down_none, (is_answer, same)) =
        quietly (Tick at) (ticked old (max old.now at)) Done (tick_done at) up_none down_none is_answer same
    deed_done (CloseClient why) known up_fly down_fly book_out server_out up_comes down_comes (up_none, down_none, (is_answer, same)) =
        quietly (CloseClient why) _ Done (client_closed why) up_none down_none is_answer same
    deed_done (CloseServer why) known up_fly down_fly book_out server_out up_comes down_comes (up_none, down_none, (is_answer, same)) =
        quietly (CloseServer why) _ Done (server_closed why) up_none down_none is_answer same
    deed_done Reveal known up_fly down_fly book_out server_out up_comes down_comes (up_none, down_none, (is_answer, same)) =
        quiet_done (after_deed r w Reveal) answer up_came down_came new up_none down_none (nothing_done (after_deed r w Reveal) answer new refl (sym is_answer) same)
