-- A turn of a pair over honest wires is a step of the world, from the start on.
use Rattle.std.proofs.Common.{◌≡◌, refl, sym, ap, ◌∙◌, subst, ℕ, ◌+◌, ◌≤◌, List, [], ◌∷◌, map, length, arith}
use Rattle.std.specs.Prelude.{Option, Some}
use Rattle.std.specs.Io.KnownBytes.{append_known}
use Rattle.std.proofs.lemmas.List.{append-nil}
use Rattle.std.proofs.Math.Seq.{drop-length}
use Rattle.bp_base.specs.Moves.{GivenIsFront}
use Rattle.rpc_frame.specs.Frames.{frame}
use Rattle.rpc_schedule.specs.declared.event.Event.{Event}
use Rattle.rpc_msg.specs.declared.shared.Limits.{Limits}
use Rattle.rpc_end.specs.Ends.{EndState, first_end, taken_out}
use Rattle.rpc_talk.specs.Acts.{own_header}
use Rattle.rpc_meeting.specs.declared.answer.StepAnswer.{StepAnswer}
use Rattle.rpc_meeting.specs.Deeds.{Deed, IsDeedOf}
use Rattle.rpc_meeting.specs.Menus.{last_menu}
use Rattle.rpc_meeting.specs.Steps.{IsStep, Stepped, after_deed}
use Rattle.rpc_meeting.specs.Talks.{Common, Dispatch}
use Rattle.rpc_meeting.specs.Worlds.{World, come, first_world, flying, stream_of}
use Rattle.rpc_meeting.proofs.Deeds.{deed_known}
use Rattle.rpc_meeting.proofs.Lines.{most}
use Rattle.rpc_meeting.proofs.Reached.{good}
use Rattle.rpc_book.specs.Books.{BookState, Booked, with_connection}
use Rattle.rpc_server.specs.Rules.{Rules}
use Rattle.rpc_pair.specs.declared.moved.Moved.{Moved}
use Rattle.rpc_pair.specs.Made.{dispatches_of, made_dispatch}
use Rattle.rpc_pair.specs.Pairs.{Came, IsDeedAt, IsTurn, PairState, Traffic, all_put, down_flight, up_flight}
use Rattle.rpc_pair.specs.Rules.{IsOfSchema}
use Rattle.rpc_pair.specs.Standing.{booked_of}
use Rattle.rpc_pair.specs.Wires.{Flows, PutsOver, StandsFor, StandsOver, StartsOver, StepsTo, WireTells, TurnsOver}
use Rattle.rpc_pair.proofs.BothEnds.{EndsHold}
use Rattle.rpc_pair.proofs.Doing.{DoneAs, deed_done}
use Rattle.rpc_pair.proofs.Edges.{stream_size}
use Rattle.rpc_pair.proofs.EndMoves.{first_ends, out_client_ends, out_server_ends}
use Rattle.rpc_pair.proofs.Flowing.{IsTold, comes_of, flows_on}
use Rattle.rpc_pair.proofs.Growing.{Grows}
use Rattle.rpc_pair.proofs.Reaching.{reached_step}
use Rattle.rpc_pair.proofs.Schemas.{schema_ok}
use Rattle.rpc_pair.proofs.Shown.{menu_ends}

-- ---- what an event comes to

made_same : (made : List Dispatch) → map made_dispatch (map (λ (d : Booked). d.made) (map booked_of made)) ≡ made
made_same [] = refl
made_same (d ∷ made) = ap (λ ds. d ∷ ds) (made_same made)

-- all that is to go out of both ends is out
put_ends : (r : Common) (w : World) (p : PairState) (taken : List ℕ) → EndsHold r w p.book p.server taken → EndsHold r w (all_put p).book (all_put p).server taken
put_ends r w p taken ends =
    let book = with_connection p.book (taken_out p.book.link (length p.book.link.output)) in
    out_server_ends r w book p.server taken (out_client_ends r w p.book p.server taken ends (length p.book.link.output)) (length p.server.link.output)

module _ (r : Common) (is : IsOfSchema r) (w : World) (old : PairState) (up_sent up_given down_sent down_given : Option (List ℕ))
    (stands : StandsFor r w old up_sent up_given down_sent down_given) where
  ends : EndsHold r w old.book old.server stands.taken
  ends = record { good = good r w (schema_ok r is) stands.reached; stands = stands.ends }

  -- the deed of an event is that of the world
  deed_there : (e : Event) (deed : Deed) → IsDeedAt old e deed → IsDeedOf (most r) r.entries w.talk.made (last_menu (most r) (come w) w.talk.made) e deed
  deed_there e deed comes =
      let entries = old.server.rules.entries in
      subst (λ m. IsDeedOf m r.entries w.talk.made (last_menu (most r) (come w) w.talk.made) e deed) (ap (λ (l : Limits). l.max_message) stands.ends.book.limits)
      (subst (λ es. IsDeedOf old.book.limits.max_message es w.talk.made (last_menu (most r) (come w) w.talk.made) e deed) (ap (λ (x : Rules). x.entries) stands.ends.server.rules)
      (subst (λ made. IsDeedOf old.book.limits.max_message entries made (last_menu (most r) (come w) w.talk.made) e deed)
      (ap (λ bs. map made_dispatch (map (λ (d : Booked). d.made) bs)) stands.ends.book.made ∙ made_same w.talk.made)
      (subst (λ menu. IsDeedOf old.book.limits.max_message entries (dispatches_of old.book) menu e deed) (menu_ends r is w old.book old.server stands.taken ends) comes)))

  up_flies : up_flight old ≡ flying w.talk.ups w.up
  up_flies = omega (arith, stands.up.put_counted, stands.up.moved_counted, stream_size w.talk.ups)

  down_flies : down_flight old ≡ flying w.talk.downs w.down
  down_flies = omega (arith, stands.down.put_counted, stands.down.moved_counted, stream_size w.talk.downs)

  module _ (e : Event) (t : Traffic) (answer : StepAnswer) (new : PairState) (turn : IsTurn old e t answer new)
      (up_sent_now up_given_now down_sent_now down_given_now : Option (List ℕ)) (up : IsTold up_sent up_given up_sent_now up_given_now t.up_put t.up_came)
      (down : IsTold down_sent down_given down_sent_now down_given_now t.down_put t.down_came) where
    abbrev to : Stepped
    to = after_deed r w turn.deed

    step : IsStep r w e to
    step = (turn.deed, deed_there e turn.deed turn.comes, refl)

    does : DoneAs r w to old turn.behind (length t.up_came.bytes) (length t.down_came.bytes) answer
    does =
        deed_done r is w old stands.taken ends stands.moment t.up_came t.down_came answer turn.behind turn.deed
        (deed_known r w.talk.made (last_menu (most r) (come w) w.talk.made) e turn.deed (deed_there e turn.deed turn.comes)) up_flies down_flies stands.client_out stands.server_out
        (λ none. comes_of (stream_of w.talk.ups) w.up up_sent up_given up_sent_now up_given_now old.moved.up_put old.moved.up t.up_put t.up_came stands.up up (turn.up_put ∙ none))
        (λ none. comes_of (stream_of w.talk.downs) w.down down_sent down_given down_sent_now down_given_now old.moved.down_put old.moved.down t.down_put t.down_came stands.down down
        (turn.down_put ∙ none))
        turn.does

    behind_stands : StandsFor r to.world (all_put turn.behind) up_sent_now up_given_now down_sent_now down_given_now
    behind_stands = record {
      reached = reached_step r w e to stands.reached step;
      taken = does.taken;
      ends = (put_ends r to.world turn.behind does.taken does.ends).stands;
      moment = does.moment;
      client_out = drop-length turn.behind.book.link.output;
      server_out = drop-length turn.behind.server.link.output;
      up = up_flows;
      down = down_flows;
    }
      where
        up_flows : Flows (stream_of to.world.talk.ups) to.world.up up_sent_now up_given_now (all_put turn.behind).moved.up_put (all_put turn.behind).moved.up
        up_flows =
            let output = turn.behind.book.link.output in
            let size : w.up ≤ length (stream_of w.talk.ups) = omega (arith, ends.good.up, stream_size w.talk.ups) in
            subst (λ k. Flows (stream_of to.world.talk.ups) to.world.up up_sent_now up_given_now (k + length output) turn.behind.moved.up) (sym does.up_put)
            (subst (λ k. Flows (stream_of to.world.talk.ups) to.world.up up_sent_now up_given_now (old.moved.up_put + length output) k) (sym does.up_moved)
            (flows_on (stream_of w.talk.ups) w.up up_sent up_given up_sent_now up_given_now old.moved.up_put old.moved.up t.up_put t.up_came stands.up up
            (stream_of to.world.talk.ups) output to.world.up (subst (λ l. Grows (stream_of w.talk.ups) (stream_of to.world.talk.ups) l output) stands.client_out does.ups)
            turn.up_put does.up_count size))

        down_flows : Flows (stream_of to.world.talk.downs) to.world.down down_sent_now down_given_now (all_put turn.behind).moved.down_put (all_put turn.behind).moved.down
        down_flows =
            let output = turn.behind.server.link.output in
            let size : w.down ≤ length (stream_of w.talk.downs) = omega (arith, ends.good.down, stream_size w.talk.downs) in
            subst (λ k. Flows (stream_of to.world.talk.downs) to.world.down down_sent_now down_given_now (k + length output) turn.behind.moved.down) (sym does.down_put)
            (subst (λ k. Flows (stream_of to.world.talk.downs) to.world.down down_sent_now down_given_now (old.moved.down_put + length output) k) (sym does.down_moved)
            (flows_on (stream_of w.talk.downs) w.down down_sent down_given down_sent_now down_given_now old.moved.down_put old.moved.down t.down_put t.down_came stands.down down
            (stream_of to.world.talk.downs) output to.world.down (subst (λ l. Grows (stream_of w.talk.downs) (stream_of to.world.talk.downs) l output) stands.server_out does.downs)
            turn.down_put does.down_count size))

    -- A turn of a pair that stands for a world has the world's answer, and the pair stands for its next world.
    pub turn_stands : (next : Stepped) × IsStep r w e next × (next.outcome ≡ answer) × StandsFor r next.world new up_sent_now up_given_now down_sent_now down_given_now
    turn_stands =
        (to, step, does.outcome, subst (λ p. StandsFor r to.world p up_sent_now up_given_now down_sent_now down_given_now) (sym turn.out) behind_stands)

-- ---- over two wires

module _ {W : Type 0} (honest : W → Type 0) (sent given : W → Option (List ℕ)) where
  told_by : (old new : W) (put : List ℕ) (came : Came) → honest old → WireTells honest sent given old new put came → GivenIsFront (sent new) (given new)
      → IsTold (sent old) (given old) (sent new) (given new) put came
  told_by old new put came is_honest tells front = record { put_is = tells.put_is; came_is = tells.came_is; front = front; spent = tells.spent is_honest }

  -- A turn over honest wires is a step of the world.
  pub turns_step : (r : Common) (w : World) (old new : PairState) (up up_new down down_new : W) (e : Event) (answer : StepAnswer) → IsOfSchema r → honest up → honest down
      → StandsOver sent given r w old up down → TurnsOver honest sent given up up_new down down_new old e answer new → GivenIsFront (sent up_new) (given up_new)
      → GivenIsFront (sent down_new) (given down_new) → StepsTo sent given r w e answer new up_new down_new
  turns_step r w old new up up_new down down_new e answer is up_honest down_honest stands turns up_front down_front =
      let t = turns.traffic in
      let (to, step, outcome, here) = turn_stands r is w old (sent up) (given up) (sent down) (given down) stands e t answer new turns.turn
      (sent up_new) (given up_new) (sent down_new) (given down_new) (told_by up up_new t.up_put t.up_came up_honest turns.up_tells up_front)
      (told_by down down_new t.down_put t.down_came down_honest turns.down_tells down_front) in
      record { to = to; step = step; outcome = outcome; stands = here }

-- ---- the start

module _ (stream : List ℕ) (stream_is : stream ≡ stream_of []) where
  first_flow : (sent given sent_now given_now : Option (List ℕ)) (put_count moved_count : ℕ) → sent ≡ Some [] → given ≡ Some [] → sent_now ≡ append_known sent stream → given_now ≡ given
      → put_count ≡ 0 → moved_count ≡ 0 → Flows (stream_of []) 0 sent_now given_now (put_count + length stream) moved_count
  first_flow sent given sent_now given_now put_count moved_count none_sent none_given put same put_none moved_none = record {
    sent_is = put ∙ (ap (λ k. append_known k stream) none_sent ∙ ap (λ l. Some l) stream_is);
    given_is = same ∙ none_given;
    put_counted = omega (arith, put_none, ap length stream_is);
    moved_counted = moved_none;
  }

header_out : (r : Common) → (first_end r.limits 0).output ≡ stream_of []
header_out r = sym (append-nil (frame own_header))

-- A new pair whose headers were put stands for the first world.
pub starts : {W : Type 0} (sent given : W → Option (List ℕ)) (r : Common) (p q : PairState) (up up_new down down_new : W) → StartsOver sent given r p up down
    → PutsOver sent given p q up up_new down down_new → StandsOver sent given r first_world q up_new down_new
starts sent given r p q up up_new down down_new start puts =
    subst (λ x. StandsOver sent given r first_world x up_new down_new) (sym puts.state) (record {
      reached = ([], [], refl);
      taken = [];
      ends = (put_ends r first_world p [] (subst (λ b. EndsHold r first_world b p.server []) (sym start.pair.book) (first_ends r p.server start.schema start.pair.server))).stands;
      moment = start.pair.now;
      client_out = drop-length p.book.link.output;
      server_out = drop-length p.server.link.output;
      up = first_flow p.book.link.output (ap (λ (b : BookState). b.link.output) start.pair.book ∙ header_out r) (sent up) (given up) (sent up_new) (given up_new) p.moved.up_put p.moved.up
          start.up_sent start.up_given puts.up_sent puts.up_given (ap (λ (m : Moved). m.up_put) start.pair.moved) (ap (λ (m : Moved). m.up) start.pair.moved);
      down = first_flow p.server.link.output (ap (λ (e : EndState). e.output) start.pair.server.link_is ∙ header_out r) (sent down) (given down) (sent down_new) (given down_new)
          p.moved.down_put p.moved.down start.down_sent start.down_given puts.down_sent puts.down_given (ap (λ (m : Moved). m.down_put) start.pair.moved)
          (ap (λ (m : Moved). m.down) start.pair.moved);
    })
