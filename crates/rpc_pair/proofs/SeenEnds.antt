-- How moments and closes change the cause of an end.
use Rattle.std.proofs.Common.{◌≡◌, refl, ℕ, ◌-◌, ◌<◌, Bool, true, false, ◌&&◌, if◌then◌else◌, inl, inr, ◌⊎◌}
use Rattle.std.specs.Prelude.{nat_le, nat_lt, Option, Some, None}
use Rattle.std.specs.Option.{is_some}
use Rattle.std.proofs.lemmas.Bool.{ltb-true}
use Rattle.rpc_msg.specs.Beats.{beat_of, moment}
use Rattle.rpc_msg.specs.declared.beat.BeatAct.TheVariants as act
use Rattle.rpc_msg.specs.declared.shared.CloseCause.{CloseCause}
use Rattle.rpc_msg.specs.declared.shared.CloseCause.TheVariants as cause
use Rattle.rpc_end.specs.Ends.{EndState, acted, after_tick, is_link_open, shut, shut_by}

-- it is as it was, or an open end closes for this
abbrev pub ClosesFor : EndState → CloseCause → EndState → Type 0
ClosesFor e why new = (new.cause ≡ e.cause) ⊎ ((e.cause ≡ None) × (new.cause ≡ Some why))

pub shut_cause : (e : EndState) (why : CloseCause) → ClosesFor e why (shut e why)
shut_cause e why = by e.cause refl
  where
    by : (o : Option CloseCause) → e.cause ≡ o → ClosesFor e why (shut_by e why o)
    by None is = inr (is, refl)
    by (Some old) is = inl refl

-- the other end was silent for longer than it may be
abbrev pub IsSilent : EndState → ℕ → Type 0
IsSilent e now = e.beat.timeout < moment e.beat now - e.beat.heard

-- it is as it was, or it closes for that
abbrev pub TickCloses : EndState → ℕ → EndState → Type 0
TickCloses e now new = (new.cause ≡ e.cause) ⊎ ((e.cause ≡ None) × IsSilent e now × (new.cause ≡ Some (cause.Late e.beat.heard (moment e.beat now))))

pub tick_cause : (e : EndState) (now : ℕ) → TickCloses e now (after_tick e now)
tick_cause e now = by e.cause refl
  where
    late : (b : Bool) → nat_lt e.beat.timeout (moment e.beat now - e.beat.heard) ≡ b → e.cause ≡ None → (c : Bool)
        → TickCloses e now (acted e now (if b then act.Late e.beat.heard (moment e.beat now) else (if c then act.Send else act.Quiet)))
    late true is open_ c = inr (open_, ltb-true e.beat.timeout (moment e.beat now - e.beat.heard) is, refl)
    late false is open_ true = inl refl
    late false is open_ false = inl refl

    by : (o : Option CloseCause) → e.cause ≡ o → TickCloses e now (if is_some o then e else acted e now (beat_of e.beat now (is_link_open e)))
    by (Some why) is = inl refl
    by None is =
        late (nat_lt e.beat.timeout (moment e.beat now - e.beat.heard)) refl is (is_link_open e && nat_le e.beat.every (moment e.beat now - e.beat.sent))
