-- What was done to a list of bytes to which a part was to be appended.
use Rattle.std.specs.Prelude.{◌≡◌, ℕ, List, ◌++◌, Result, Ok, Err}
use Rattle.bp_codec.specs.declared.error.PutError.{PutError}
use Rattle.bp_codec.specs.Puts.{Extends}
use Rattle.bp_value.specs.declared.memory.OutOfMemory.{OutOfMemory}

-- the bytes were appended; or where memory ran out some were
abbrev pub Adds : List ℕ → List ℕ → List ℕ → Result (Unit {0}) OutOfMemory → Type 0
Adds bytes old new (Ok u) = new ≡ old ++ bytes
Adds bytes old new (Err e) = Extends old new

-- both went well, or neither did
abbrev pub EndsAlike : Result (Unit {0}) PutError → Result (Unit {0}) OutOfMemory → Type 0
EndsAlike (Ok u) (Ok w) = Unit {0}
EndsAlike (Ok u) (Err e) = ⊥
EndsAlike (Err p) (Ok w) = ⊥
EndsAlike (Err p) (Err e) = Unit {0}
