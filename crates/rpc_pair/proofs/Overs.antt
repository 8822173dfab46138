-- A movement of one end over a wire, and what an event does over two.
use Rattle.std.proofs.Common.{◌≡◌, refl, sym, ap, ◌∙◌, subst, ℕ, ◌+◌, Bool, List, [], arith}
use Rattle.std.specs.Prelude.{Option, Result, Ok, Err, OnOk}
use Rattle.bp_base.specs.Faults.{BothGoOn}
use Rattle.bp_base.specs.Moves.{in_flight}
use Rattle.bp_base.specs.Told.{Gains}
use Rattle.bp_base.proofs.Telling.{Gains-trans}
use Rattle.rpc_schedule.specs.declared.event.Event.{Event}
use Rattle.rpc_schedule.specs.declared.event.Event.TheVariants as ev
use Rattle.rpc_meeting.specs.Deeds.{Deed, Refuse, Call, Abort, Tell, MoveUp, MoveDown, Tick, CloseClient, CloseServer, Reveal}
use Rattle.rpc_meeting.specs.Steps.{moved_bytes}
use Rattle.rpc_meeting.specs.declared.answer.StepAnswer.{StepAnswer}
use Rattle.rpc_meeting.specs.declared.answer.StepAnswer.TheVariants.{Done}
use Rattle.rpc_server.specs.Servers.{ServerState}
use Rattle.rpc_book.specs.Books.{BookState}
use Rattle.rpc_pair.specs.Feeds.{BookCloses, BookTakes, ServerCloses, ServerTakes}
use Rattle.rpc_pair.specs.Moving.{IsCarried, IsMoved, IsSpent, TakesPiece}
use Rattle.rpc_pair.specs.Pairs.{PairState, BookMoves, Came, Comes, Does, DoesOver, IsDeedAt, ServerMoves, down_flight, is_book_closed, is_server_closed, nothing, up_flight}
use Rattle.rpc_pair.specs.Wires.{ActsOver, MovesDownOver, MovesUpOver, PutsOver, WireTells, TurnsOver}
use Rattle.rpc_pair.proofs.Outgoing.{gains_none}

-- where nothing failed two wires are as they were
pub both_still : {W : Type 0} (faults : W → ℕ) (honest : W → Type 0) (up down : W) (failed : Type 0) → (failed → ⊥) → BothGoOn faults honest up up down down failed
both_still faults honest up down failed fails = record {
  up_honest = (λ h. h, λ h. h);
  down_honest = (λ h. h, λ h. h);
  up_later = omega arith;
  down_later = omega arith;
  rose = λ f. absurd (fails f);
  up_steady = λ n. refl;
  down_steady = λ n. refl;
}

-- where a call went well, so does what follows of it
pub on_ok : {A E P Q : Type 0} (result : Result A E) → (P → Q) → OnOk result P → OnOk result Q
on_ok (Ok a) turns did = turns did
on_ok (Err e) turns did = tt

module _ {W : Type 0} (honest : W → Type 0) (sent given : W → Option (List ℕ)) where
  -- nothing passed a wire
  pub tells_nothing : (w new : W) → sent new ≡ sent w → given new ≡ given w → WireTells honest sent given w new [] nothing
  tells_nothing w new put came = record { put_is = gains_none sent w new put; came_is = gains_none given w new came; spent = λ h e. absurd cc }

  came_tells : (w new : W) (n : ℕ) (Moved : List ℕ → Bool → Type 0) (c : IsCarried honest sent given w new n Moved) → sent new ≡ sent w
      → WireTells honest sent given w new [] (record { bytes = c.bytes; short = c.short })
  came_tells w new n Moved c same = record {
    put_is = gains_none sent w new same;
    came_is = c.gained;
    spent = λ h e. subst (λ s. IsSpent (in_flight s (given new))) same (c.spent h e);
  }

  module _ (p : PairState) (count : Option ℕ) (by n counted sum : ℕ) (w new : W) (same : sent new ≡ sent w) where
    abbrev pub put_up_count : ServerState → ℕ → PairState
    put_up_count s k = record { book = p.book; server = s; now = p.now; moved = record { up = k; up_put = p.moved.up_put; down = p.moved.down; down_put = p.moved.down_put } }

    abbrev pub put_down_count : BookState → ℕ → PairState
    put_down_count b k = record { book = b; server = p.server; now = p.now; moved = record { up = p.moved.up; up_put = p.moved.up_put; down = k; down_put = p.moved.down_put } }

    pub up_over : (s : ServerState) → IsCarried honest sent given w new n (λ bytes short. IsMoved is_server_closed (TakesPiece (ServerTakes p.now) (ServerCloses p.now)) counted by p.server bytes short s)
        → counted ≡ moved_bytes count (up_flight p) → sum ≡ p.moved.up + n → MovesUpOver honest sent given p count by w new (put_up_count s sum)
    up_over s c is grows = record {
      came = record { bytes = c.bytes; short = c.short };
      does = (
        refl,
        refl,
        (
          s,
          subst (λ k. ServerMoves p.now k by p.server (record { bytes = c.bytes; short = c.short }) s) is c.moved,
          ap (put_up_count s) (grows ∙ ap (λ k. p.moved.up + k) (sym c.counted)),
        ),
      );
      tells = came_tells w new n _ c same;
    }

    pub down_over : (b : BookState) → IsCarried honest sent given w new n (λ bytes short. IsMoved is_book_closed (TakesPiece (BookTakes p.now) (BookCloses p.now)) counted by p.book bytes short b)
        → counted ≡ moved_bytes count (down_flight p) → sum ≡ p.moved.down + n → MovesDownOver honest sent given p count by w new (put_down_count b sum)
    down_over b c is grows = record {
      came = record { bytes = c.bytes; short = c.short };
      does = (
        refl,
        refl,
        (
          b,
          subst (λ k. BookMoves p.now k by p.book (record { bytes = c.bytes; short = c.short }) b) is c.moved,
          ap (put_down_count b) (grows ∙ ap (λ k. p.moved.down + k) (sym c.counted)),
        ),
      );
      tells = came_tells w new n _ c same;
    }

  -- bytes are put behind what a wire gave
  put_after : (w mid new : W) (put : List ℕ) (came : Came) → WireTells honest sent given w mid [] came → Gains sent mid new put → given new ≡ given mid → WireTells honest sent given w new put came
  put_after w mid new put came tells gained same = record {
    put_is = Gains-trans sent w mid new [] put tells.put_is gained;
    came_is = same ∙ tells.came_is;
    spent = λ h e. subst (λ g. IsSpent (in_flight (sent w) g)) (sym same) (tells.spent h e);
  }

  -- ---- an event

  does_quietly : (p : PairState) (deed : Deed) (answer : StepAnswer) (new : PairState) → Does deed p answer new → DoesOver deed p nothing nothing answer new
  does_quietly p (Refuse why) answer new does = (refl, refl, does)
  does_quietly p (Call label d v) answer new does = (refl, refl, does)
  does_quietly p (Abort d) answer new does = (refl, refl, does)
  does_quietly p (Tell d act) answer new does = (refl, refl, does)
  does_quietly p (MoveUp count by) answer new does = absurd does
  does_quietly p (MoveDown count by) answer new does = absurd does
  does_quietly p (Tick moment) answer new does = (refl, refl, does)
  does_quietly p (CloseClient why) answer new does = (refl, refl, does)
  does_quietly p (CloseServer why) answer new does = (refl, refl, does)
  does_quietly p Reveal answer new does = (refl, refl, does)

  pub quiet_acts : (p new : PairState) (e : Event) (answer : StepAnswer) (up down : W) → Comes (IsDeedAt p e) p answer new → ActsOver honest sent given up up down down p e answer new
  quiet_acts p new e answer up down (deed, is, does) = record {
    deed = deed;
    comes = is;
    up_came = nothing;
    down_came = nothing;
    does = does_quietly p deed answer new does;
    up_tells = tells_nothing up up refl refl;
    down_tells = tells_nothing down down refl refl;
  }

  pub up_acts : (p new : PairState) (count : Option ℕ) (by : ℕ) (up up_new down : W) → MovesUpOver honest sent given p count by up up_new new
      → ActsOver honest sent given up up_new down down p (ev.Up count by) Done new
  up_acts p new count by up up_new down moves = record {
    deed = MoveUp count by;
    comes = refl;
    up_came = moves.came;
    down_came = nothing;
    does = moves.does;
    up_tells = moves.tells;
    down_tells = tells_nothing down down refl refl;
  }

  pub down_acts : (p new : PairState) (count : Option ℕ) (by : ℕ) (up down down_new : W) → MovesDownOver honest sent given p count by down down_new new
      → ActsOver honest sent given up up down down_new p (ev.Down count by) Done new
  down_acts p new count by up down down_new moves = record {
    deed = MoveDown count by;
    comes = refl;
    up_came = nothing;
    down_came = moves.came;
    does = moves.does;
    up_tells = tells_nothing up up refl refl;
    down_tells = moves.tells;
  }

  -- and then all that the ends have to say goes out
  pub turns_over : (up up_mid up_new down down_mid down_new : W) (old behind new : PairState) (e : Event) (answer : StepAnswer)
      → ActsOver honest sent given up up_mid down down_mid old e answer behind → PutsOver sent given behind new up_mid up_new down_mid down_new
      → TurnsOver honest sent given up up_new down down_new old e answer new
  turns_over up up_mid up_new down down_mid down_new old behind new e answer acts puts = record {
    traffic = record { up_put = behind.book.link.output; up_came = acts.up_came; down_put = behind.server.link.output; down_came = acts.down_came };
    turn = record { deed = acts.deed; comes = acts.comes; behind = behind; does = acts.does; up_put = refl; down_put = refl; out = puts.state };
    up_tells = put_after up up_mid up_new behind.book.link.output acts.up_came acts.up_tells puts.up_sent puts.up_given;
    down_tells = put_after down down_mid down_new behind.server.link.output acts.down_came acts.down_tells puts.down_sent puts.down_given;
  }
