-- The moments of an end are moments of a run, and what closes it there happened in it.
use Rattle.std.proofs.Common.{◌≡◌, refl, sym, ap, subst, ℕ, ◌-◌, ◌<◌, max, Bool, true, false, nat_le, if◌then◌else◌, List, arith, inl, inr, ◌⊎◌}
use Rattle.std.specs.Prelude.{Option, Some, None}
use Rattle.std.proofs.lemmas.Bool.{leb-false, leb-true}
use Rattle.rpc_msg.specs.Beats.{BeatState, after_beat, beat_of, heard_at, moment}
use Rattle.rpc_msg.specs.declared.beat.BeatAct.{BeatAct}
use Rattle.rpc_msg.specs.declared.beat.BeatAct.TheVariants as act
use Rattle.rpc_msg.specs.declared.shared.CloseCause.{CloseCause}
use Rattle.rpc_msg.specs.declared.shared.CloseCause.TheVariants as cause
use Rattle.rpc_schedule.specs.declared.event.Event.{Event}
use Rattle.rpc_end.specs.Ends.{EndState, after_act, after_tick, is_closed, is_link_open, shut, shut_by, with_beat}
use Rattle.rpc_end.specs.Taking.{GivesMessage, IsClosedBy, IsPartTaken}
use Rattle.rpc_end.specs.declared.end.Got.{Got}
use Rattle.rpc_pair.specs.Seen.{IsCausedBy, IsMomentOf}
use Rattle.rpc_pair.proofs.SeenCauses.{IsFault}
use Rattle.rpc_pair.proofs.SeenEnds.{ClosesFor, TickCloses, shut_cause, tick_cause}

-- ---- what a feed does to the moments

-- they are as they were, or something was heard now
abbrev pub BeatGoes : ℕ → BeatState → BeatState → Type 0
BeatGoes now old new = (new ≡ old) ⊎ (new ≡ heard_at old now)

pub part_beat : (e : EndState) (piece : List ℕ) (now used : ℕ) (new : EndState) → IsPartTaken e piece now used new → BeatGoes now e.beat new.beat
part_beat e piece now used new (inl (on, all, same)) = inl (ap (λ (x : EndState). x.beat) same)
part_beat e piece now used new (inr (body, ends, opening, opens, same)) = inr (ap (λ (x : EndState). x.beat) same)

pub closed_beat : (e : EndState) (piece : List ℕ) (why : CloseCause) (new : EndState) → IsClosedBy e piece why new → new.beat ≡ e.beat
closed_beat e piece why new (inl (n, passes, is, same)) = ap (λ (x : EndState). x.beat) same
closed_beat e piece why new (inr (body, used, ends, is, same)) = ap (λ (x : EndState). x.beat) same

pub message_beat : (e : EndState) (piece : List ℕ) (g : Got) (link : EndState) → GivesMessage e piece g link → link.beat ≡ e.beat
message_beat e piece g link gives = ap (λ (x : EndState). x.beat) gives.new_is

-- ---- an end in a run

module _ (Happens : Event → Type 0) (close eof : Event) (timeout : ℕ) where
  abbrev pub Caused : Option CloseCause → Type 0
  Caused o = IsCausedBy Happens close eof timeout o

  -- the greatest moment seen and the last at which something was heard
  pub record HasMoments (b : BeatState) : Type 0 where
    pub silence : b.timeout ≡ timeout
    pub latest : IsMomentOf Happens b.latest
    pub heard : IsMomentOf Happens b.heard

  pub record IsTimed (e : EndState) : Type 0 where
    pub beat : HasMoments e.beat
    pub caused : Caused e.cause

  -- a fault of the bytes is told by them
  pub fault_caused : (why : CloseCause) → IsFault why → Caused (Some why)
  fault_caused (cause.Late last now) fault = absurd fault
  fault_caused cause.EndOfInput fault = absurd fault
  fault_caused cause.ClosedHere fault = absurd fault
  fault_caused _ fault = tt

  -- the greater of two moments is one
  pub greater : (a b : ℕ) → IsMomentOf Happens a → IsMomentOf Happens b → IsMomentOf Happens (max a b)
  greater a b one two = by (nat_le a b) refl
    where
      by : (c : Bool) → nat_le a b ≡ c → IsMomentOf Happens (max a b)
      by true is = let same : max a b ≡ b = omega (arith, leb-true a b is) in subst (IsMomentOf Happens) (sym same) two
      by false is = let same : max a b ≡ a = omega (arith, leb-false a b is) in subst (IsMomentOf Happens) (sym same) one

  -- its moments are as they were
  pub timed_same : (e new : EndState) → IsTimed e → new.beat ≡ e.beat → Caused new.cause → IsTimed new
  timed_same e new timed same caused = record { beat = subst HasMoments (sym same) timed.beat; caused = caused }

  -- or something was heard now
  pub timed_goes : (e new : EndState) → IsTimed e → (now : ℕ) → IsMomentOf Happens now → BeatGoes now e.beat new.beat → Caused new.cause → IsTimed new
  timed_goes e new timed now here (inl same) caused = timed_same e new timed same caused
  timed_goes e new timed now here (inr same) caused =
      let later = greater e.beat.latest now timed.beat.latest here in
      record { beat = subst HasMoments (sym same) (record { silence = timed.beat.silence; latest = later; heard = later }); caused = caused }

  module _ (e : EndState) (timed : IsTimed e) where
    pub timed_shut : (why : CloseCause) → Caused (Some why) → IsTimed (shut e why)
    timed_shut why caused = timed_same e (shut e why) timed (beat_is e.cause) (by (shut_cause e why))
      where
        beat_is : (o : Option CloseCause) → (shut_by e why o).beat ≡ e.beat
        beat_is None = refl
        beat_is (Some old) = refl

        by : ClosesFor e why (shut e why) → Caused (shut e why).cause
        by (inl same) = subst Caused (sym same) timed.caused
        by (inr (open_, is)) = subst Caused (sym is) caused

    -- a moment comes
    module _ (now : ℕ) (here : IsMomentOf Happens now) where
      later : IsMomentOf Happens (moment e.beat now)
      later = greater e.beat.latest now timed.beat.latest here

      tick_caused : TickCloses e now (after_tick e now) → Caused (after_tick e now).cause
      tick_caused (inl same) = subst Caused (sym same) timed.caused
      tick_caused (inr (open_, silent, is)) =
          subst Caused (sym is) (timed.beat.heard, later, subst (λ n. n < moment e.beat now - e.beat.heard) timed.beat.silence silent)

      tick_beat : HasMoments (after_tick e now).beat
      tick_beat = by (is_closed e) (beat_of e.beat now (is_link_open e))
        where
          by : (b : Bool) (what : BeatAct) → HasMoments (if b then e else after_act (with_beat e (after_beat e.beat now what)) what).beat
          by true what = timed.beat
          by false act.Quiet = record { silence = timed.beat.silence; latest = later; heard = timed.beat.heard }
          by false act.Send = record { silence = timed.beat.silence; latest = later; heard = timed.beat.heard }
          by false (act.Late last at) = record { silence = timed.beat.silence; latest = later; heard = timed.beat.heard }

      pub timed_tick : IsTimed (after_tick e now)
      timed_tick = record { beat = tick_beat; caused = tick_caused (tick_cause e now) }
