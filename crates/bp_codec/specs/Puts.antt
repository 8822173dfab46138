-- What was done to a list of bytes to which some bytes were to be appended, within a bound on its length.
use Rattle.std.specs.Prelude.{◌≡◌, ℕ, ◌+◌, ◌<◌, ◌≤◌, List, ◌++◌, length, Result, Ok, Err, Bool, true, false}
use Rattle.bp_codec.specs.declared.error.EncodeError.{EncodeError}
use Rattle.bp_codec.specs.declared.error.EncodeError.TheVariants as error
use Rattle.bp_codec.specs.declared.error.PutError.{PutError}
use Rattle.bp_codec.specs.declared.error.PutError.TheVariants.{TooLong, OutOfMemory}

-- something was appended
abbrev pub Extends : List ℕ → List ℕ → Type 0
Extends old new = (more : List ℕ) × (new ≡ old ++ more)

-- why they were not: the list would have passed the bound; or memory ran out
abbrev pub Stops : ℕ → List ℕ → List ℕ → List ℕ → PutError → Type 0
Stops bound bytes old new TooLong = Extends old new × (bound < length old + length bytes)
Stops bound bytes old new OutOfMemory = Extends old new

-- they were appended, and the bound was kept; or they were not
abbrev pub Puts : ℕ → List ℕ → List ℕ → List ℕ → Result (Unit {0}) PutError → Type 0
Puts bound bytes old new (Ok u) = (new ≡ old ++ bytes) × (length old ≤ bound → length new ≤ bound)
Puts bound bytes old new (Err e) = Stops bound bytes old new e

-- whether a length has kept the bound
abbrev pub KeepsBound : ℕ → ℕ → Result (Unit {0}) PutError → Type 0
KeepsBound bound len (Ok u) = len ≤ bound
KeepsBound bound len (Err TooLong) = bound < len
KeepsBound bound len (Err OutOfMemory) = ⊥

-- what a refusal says of a spelling of so many bytes that was to have at most max
abbrev pub Refuses : ℕ → ℕ → EncodeError → Type 0
Refuses max count (error.TooLong limit) = (limit ≡ max) × (max < count)
Refuses max count error.OutOfMemory = Unit {0}

-- what an inner refusal is told as
abbrev pub refusal_of : PutError → Bool → ℕ → EncodeError
refusal_of TooLong true max = error.TooLong max
refusal_of TooLong false max = error.OutOfMemory
refusal_of OutOfMemory is_bounded max = error.OutOfMemory
