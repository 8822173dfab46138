-- A run of turns counts what was put to the wires and what they gave.
use Rattle.std.proofs.Common.{◌≡◌, sym, ap, ◌∙◌, subst, ℕ, ◌+◌, List, [], ◌∷◌, ◌++◌, length, arith}
use Rattle.std.proofs.lemmas.List.{length-append}
use Rattle.rpc_msg.specs.declared.shared.Limits.{Limits}
use Rattle.rpc_schedule.specs.declared.event.Event.{Event}
use Rattle.rpc_schema.specs.declared.desc.Entry.{Entry}
use Rattle.rpc_end.specs.Ends.{EndState}
use Rattle.rpc_meeting.specs.declared.answer.StepAnswer.{StepAnswer}
use Rattle.rpc_meeting.specs.Deeds.{Deed, Refuse, Call, Abort, Tell, MoveUp, MoveDown, Tick, CloseClient, CloseServer, Reveal}
use Rattle.rpc_book.specs.Books.{BookState}
use Rattle.rpc_pair.specs.Pairs.{Came, DoesOver, IsNewPair, IsTurn, PairState, Traffic, all_put, nothing}
use Rattle.rpc_pair.specs.Played.{AreTurns, Turn, all_down, all_down_put, all_up, all_up_put}
use Rattle.rpc_pair.specs.Seen.{CountsShow}
use Rattle.rpc_pair.specs.declared.moved.Moved.{Moved}

-- these bytes more were put to each wire, and came from it
pub record Counts (old : Moved) (up up_put down down_put : List ℕ) (new : Moved) : Type 0 where
  pub up_moved : new.up ≡ old.up + length up
  pub up_sent : new.up_put ≡ old.up_put + length up_put
  pub down_moved : new.down ≡ old.down + length down
  pub down_sent : new.down_put ≡ old.down_put + length down_put

same_counts : (old new : Moved) → new ≡ old → Counts old [] [] [] [] new
same_counts old new same = record {
  up_moved = omega (arith, ap (λ (m : Moved). m.up) same);
  up_sent = omega (arith, ap (λ (m : Moved). m.up_put) same);
  down_moved = omega (arith, ap (λ (m : Moved). m.down) same);
  down_sent = omega (arith, ap (λ (m : Moved). m.down_put) same);
}

counts_along : (a b c : Moved) (up up_put down down_put up2 up_put2 down2 down_put2 : List ℕ) → Counts a up up_put down down_put b → Counts b up2 up_put2 down2 down_put2 c
    → Counts a (up ++ up2) (up_put ++ up_put2) (down ++ down2) (down_put ++ down_put2) c
counts_along a b c up up_put down down_put up2 up_put2 down2 down_put2 one two = record {
  up_moved = omega (arith, one.up_moved, two.up_moved, length-append up up2);
  up_sent = omega (arith, one.up_sent, two.up_sent, length-append up_put up_put2);
  down_moved = omega (arith, one.down_moved, two.down_moved, length-append down down2);
  down_sent = omega (arith, one.down_sent, two.down_sent, length-append down_put down_put2);
}

-- ---- a deed, by which nothing is put

-- nothing came
still : (old new : PairState) (up down : Came) → up ≡ nothing → down ≡ nothing → new.moved ≡ old.moved → Counts old.moved up.bytes [] down.bytes [] new.moved
still old new up down no_up no_down same =
    subst (λ (c : Came). Counts old.moved c.bytes [] down.bytes [] new.moved) (sym no_up)
    (subst (λ (c : Came). Counts old.moved [] [] c.bytes [] new.moved) (sym no_down) (same_counts old.moved new.moved same))

deed_counts : (deed : Deed) (old : PairState) (up down : Came) (answer : StepAnswer) (new : PairState) → DoesOver deed old up down answer new
    → Counts old.moved up.bytes [] down.bytes [] new.moved
deed_counts (Refuse why) old up down answer new (no_up, no_down, (refused, same)) = still old new up down no_up no_down (ap (λ (p : PairState). p.moved) same)
deed_counts (Call label d v) old up down answer new (no_up, no_down, (book, answers, same)) = still old new up down no_up no_down (ap (λ (p : PairState). p.moved) same)
deed_counts (Abort d) old up down answer new (no_up, no_down, (book, answers, same)) = still old new up down no_up no_down (ap (λ (p : PairState). p.moved) same)
deed_counts (Tell d act) old up down answer new (no_up, no_down, (server, answers, same)) = still old new up down no_up no_down (ap (λ (p : PairState). p.moved) same)
deed_counts (Tick moment) old up down answer new (no_up, no_down, (done, same)) = still old new up down no_up no_down (ap (λ (p : PairState). p.moved) same)
deed_counts (CloseClient why) old up down answer new (no_up, no_down, (done, same)) = still old new up down no_up no_down (ap (λ (p : PairState). p.moved) same)
deed_counts (CloseServer why) old up down answer new (no_up, no_down, (done, same)) = still old new up down no_up no_down (ap (λ (p : PairState). p.moved) same)
deed_counts Reveal old up down answer new (no_up, no_down, (shown, same)) = still old new up down no_up no_down (ap (λ (p : PairState). p.moved) same)
deed_counts (MoveUp count by) old up down answer new (no_down, done, (server, moves, same)) =
    let moved = ap (λ (p : PairState). p.moved) same in
    subst (λ (c : Came). Counts old.moved up.bytes [] c.bytes [] new.moved) (sym no_down) (record {
      up_moved = ap (λ (m : Moved). m.up) moved;
      up_sent = omega (arith, ap (λ (m : Moved). m.up_put) moved);
      down_moved = omega (arith, ap (λ (m : Moved). m.down) moved);
      down_sent = omega (arith, ap (λ (m : Moved). m.down_put) moved);
    })
deed_counts (MoveDown count by) old up down answer new (no_up, done, (book, moves, same)) =
    let moved = ap (λ (p : PairState). p.moved) same in
    subst (λ (c : Came). Counts old.moved c.bytes [] down.bytes [] new.moved) (sym no_up) (record {
      up_moved = omega (arith, ap (λ (m : Moved). m.up) moved);
      up_sent = omega (arith, ap (λ (m : Moved). m.up_put) moved);
      down_moved = ap (λ (m : Moved). m.down) moved;
      down_sent = omega (arith, ap (λ (m : Moved). m.down_put) moved);
    })

-- ---- turns

turn_counts : (old : PairState) (e : Event) (t : Traffic) (answer : StepAnswer) (new : PairState) → IsTurn old e t answer new
    → Counts old.moved t.up_came.bytes t.up_put t.down_came.bytes t.down_put new.moved
turn_counts old e t answer new turn =
    let moved = ap (λ (p : PairState). p.moved) turn.out in
    let did = deed_counts turn.deed old t.up_came t.down_came answer turn.behind turn.does in
    record {
      up_moved = ap (λ (m : Moved). m.up) moved ∙ did.up_moved;
      up_sent = omega (arith, ap (λ (m : Moved). m.up_put) moved, did.up_sent, ap length turn.up_put);
      down_moved = ap (λ (m : Moved). m.down) moved ∙ did.down_moved;
      down_sent = omega (arith, ap (λ (m : Moved). m.down_put) moved, did.down_sent, ap length turn.down_put);
    }

turns_count : (turns : List Turn) (old new : PairState) → AreTurns old turns new
    → Counts old.moved (all_up turns) (all_up_put turns) (all_down turns) (all_down_put turns) new.moved
turns_count [] old new same = same_counts old.moved new.moved (sym (ap (λ (p : PairState). p.moved) same))
turns_count (t ∷ turns) old new (next, (behind, turn), later) =
    counts_along old.moved next.moved new.moved t.traffic.up_came.bytes t.traffic.up_put t.traffic.down_came.bytes t.traffic.down_put
    (all_up turns) (all_up_put turns) (all_down turns) (all_down_put turns) (turn_counts old t.lined.event t.traffic t.answer next turn) (turns_count turns next new later)

-- From a new pair on, all bytes are counted.
pub counts_show : (entries : List Entry) (limits : Limits) (p : PairState) (turns : List Turn) (new : PairState) → IsNewPair entries limits p → AreTurns (all_put p) turns new
    → CountsShow turns new.moved
counts_show entries limits p turns new fresh run =
    let all = turns_count turns (all_put p) new run in
    let book = ap (λ (b : BookState). length b.link.output) fresh.book in
    let server = ap (λ (e : EndState). length e.output) fresh.server.link_is in
    let none = fresh.moved in
    record {
      up = omega (arith, all.up_moved, ap (λ (m : Moved). m.up) none);
      up_put = omega (arith, all.up_sent, book, ap (λ (m : Moved). m.up_put) none);
      down = omega (arith, all.down_moved, ap (λ (m : Moved). m.down) none);
      down_put = omega (arith, all.down_sent, server, ap (λ (m : Moved). m.down_put) none);
    }
