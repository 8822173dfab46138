-- What a call that reads a source to its end answers.
use Rattle.std.specs.Prelude.{◌≡◌, ℕ, ◌<◌, ◌≤◌, List, length, Vec, Result, Ok, Err}
use Rattle.std.specs.declared.option.Option.{Option}
use Rattle.std.specs.declared.alloc.Global.{Global}
use Rattle.bp_base.specs.Told.{Gains, Loses}
use Rattle.bp_base.specs.declared.errors.ReadAllError.{ReadAllError}
use Rattle.bp_base.specs.declared.errors.ReadAllError.TheVariants as error

-- these bytes came from a source: what it has given grew by them, and what it has left lost them
pub record Came {S : Type 0} (given_of left_of : S → Option (List ℕ)) (old new : S)
    (bytes : List ℕ) : Type 0 where
  pub given : Gains given_of old new bytes
  pub left : Loses left_of old new bytes

-- The bytes that came are the answer, or there are too many. `TooLong` is answered exactly where
-- more than `max` came.
abbrev pub AnswersWhole : ℕ → Result (Vec ℕ Global) ReadAllError → List ℕ → Type 0
AnswersWhole max (Ok all) bytes = (all.items ≡ bytes) × (length bytes ≤ max)
AnswersWhole max (Err (error.TooLong bound)) bytes = (bound ≡ max) × (max < length bytes)
AnswersWhole max (Err error.ReadFault) bytes = length bytes ≤ max
AnswersWhole max (Err error.OutOfMemory) bytes = length bytes ≤ max
