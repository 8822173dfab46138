-- What the making of some data answers.
use Rattle.std.specs.Prelude.{◌≡◌, ℕ, ◌<◌, List, length, Result, Ok, Err}
use Rattle.bp_codec.specs.declared.error.EncodeError.{EncodeError}
use Rattle.bp_codec.specs.declared.error.EncodeError.TheVariants as error

-- the data; or that it has more than max bytes
abbrev pub GivesBytes : ℕ → List ℕ → Result (List ℕ) EncodeError → Type 0
GivesBytes max bytes (Ok made) = made ≡ bytes
GivesBytes max bytes (Err (error.TooLong limit)) = (limit ≡ max) × (max < length bytes)
GivesBytes max bytes (Err error.OutOfMemory) = Unit {0}
