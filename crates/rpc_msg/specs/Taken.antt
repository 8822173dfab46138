-- What is read at a cursor in a body, which moves behind it.
use Rattle.std.specs.Prelude.{◌≡◌, ℕ, zero, suc, ◌-◌, Option, Some, None, List, length, Result, Ok, Err}
use Rattle.readers.specs.Reader.{Outcome, whole, more, bad}
use Rattle.bp_num.specs.declared.number.Why.{Why}
use Rattle.bp_value.specs.declared.value.Value.{Value}
use Rattle.bp_codec.specs.declared.stop.Stop.{Stop}
use Rattle.bp_codec.specs.declared.stop.Stop.TheVariants as stop
use Rattle.rpc_msg.specs.declared.fault.MsgFault.TheVariants as fault
use Rattle.rpc_msg.specs.declared.fault.MsgError.{MsgError}
use Rattle.rpc_msg.specs.declared.fault.MsgError.TheVariants as error
use Rattle.rpc_msg.specs.Values.{item_value, eof_value}

-- a reading stops, and leaves these bytes: where a byte is at fault it is their first
abbrev pub Halts : {B : Type 0} → Stop → Outcome ℕ Why B → List ℕ → Type 0
Halts stop.More o left = o ≡ more
Halts (stop.Bad w) o left = o ≡ bad (length left) w
Halts stop.OutOfMemory o left = Unit {0}

-- the bytes `old` are read, and the bytes `new` are left; g says what was read
abbrev pub TakesAs : {A B : Type 0} → (A → B) → (List ℕ → Outcome ℕ Why B) → List ℕ → List ℕ → Result A Stop → Type 0
TakesAs g reads old new (Ok a) = reads old ≡ whole (g a) new
TakesAs g reads old new (Err e) = Halts e (reads old) new

-- a part was read: an item, whose spelling has so many bytes, or the end of the stream
abbrev pub TakesPart : (List ℕ → Outcome ℕ Why Value) → List ℕ → List ℕ → Result (Option ℕ) Stop → Type 0
TakesPart reads old new (Ok None) = reads old ≡ whole eof_value new
TakesPart reads old new (Ok (Some size)) = (text : List ℕ) × (size ≡ length text) × (reads old ≡ whole (item_value text) new)
TakesPart reads old new (Err e) = Halts e (reads old) new

-- what the reading of a body of `count` bytes answers, of which so many are left
abbrev pub ended_at : {A : Type 0} → ℕ → ℕ → Result A Stop → Result A MsgError
ended_at count zero (Ok a) = Ok a
ended_at count (suc left) (Ok a) = Err (error.Fault (fault.Trailing (count - suc left)))
ended_at count left (Err stop.More) = Err (error.Fault (fault.Cut count))
ended_at count left (Err (stop.Bad w)) = Err (error.Fault (fault.Bad (count - left) w))
ended_at count left (Err stop.OutOfMemory) = Err error.OutOfMemory
