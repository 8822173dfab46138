-- Faults of bodies in a stream.
use Rattle.std.proofs.Common.{◌≡◌, refl, ap, ℕ, ◌+◌, List, [], ◌∷◌, length, arith}
use Rattle.std.specs.Prelude.{Option, Some, None}
use Rattle.std.specs.Option.{option_map, option_and_then}
use Rattle.readers.specs.Reader.{Outcome, whole, more, bad}
use Rattle.bp_num.specs.declared.number.Why.{Why}
use Rattle.bp_value.specs.declared.value.Value.{Value}
use Rattle.bp_grammar.specs.Reading.{read}
use Rattle.rpc_frame.specs.States.{stream_place}
use Rattle.rpc_msg.specs.Forms.{message_form}
use Rattle.rpc_msg.specs.declared.fault.MsgFault.{MsgFault}
use Rattle.rpc_msg.specs.declared.fault.MsgFault.TheVariants as fault
use Rattle.rpc_msg.specs.declared.shared.CloseCause.{CloseCause}
use Rattle.rpc_msg.specs.declared.shared.CloseCause.TheVariants as cause
use Rattle.rpc_log.specs.Readings.{whole_value, whole_fault, fault_in, message_in, message_of}
use Rattle.rpc_talk.specs.Causes.{placed, bad_message}

place_on : (a b c : ℕ) → stream_place (stream_place a + b + c) ≡ stream_place (a + b + c)
place_on a b c = omega arith

-- a place that stays at the last value of a u64 goes on from one that does
pub placed_on : (a b : ℕ) (why : MsgFault) → placed (stream_place a + b) why ≡ placed (a + b) why
placed_on a b (fault.Bad at w) = ap (λ n. fault.Bad n w) (place_on a b at)
placed_on a b (fault.Cut at) = ap fault.Cut (place_on a b at)
placed_on a b (fault.Trailing at) = ap fault.Trailing (place_on a b at)

pub bad_message_on : (m a : ℕ) (body : List ℕ) → bad_message m (stream_place a + 8) body ≡ bad_message m (a + 8) body
bad_message_on m a body = by (fault_in m message_form body)
  where
    by : (o : Option MsgFault) → option_map (λ why. cause.BadMessage (placed (stream_place a + 8) why)) o ≡ option_map (λ why. cause.BadMessage (placed (a + 8) why)) o
    by None = refl
    by (Some why) = ap (λ w. Some (cause.BadMessage w)) (placed_on a 8 why)

-- what has a fault is no value
no_value : (count : ℕ) (o : Outcome ℕ Why Value) (why : MsgFault) → whole_fault count o ≡ Some why → whole_value o ≡ None
no_value count (whole v []) why e = absurd cc
no_value count (whole v (b ∷ u)) why e = refl
no_value count more why e = refl
no_value count (bad n w) why e = refl

pub bad_none : (m start : ℕ) (body : List ℕ) (why : CloseCause) → bad_message m start body ≡ Some why → message_in m body ≡ None
bad_none m start body why e = by (fault_in m message_form body) refl e
  where
    by : (o : Option MsgFault) → fault_in m message_form body ≡ o → option_map (λ w. cause.BadMessage (placed start w)) o ≡ Some why → message_in m body ≡ None
    by None is is_some = absurd cc
    by (Some w) is is_some = ap (option_and_then message_of) (no_value (length body) (read m message_form body) w is)
