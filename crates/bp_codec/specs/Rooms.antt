-- How many bytes are left of the room for some.
use Rattle.std.specs.Prelude.{◌≡◌, ℕ, ◌+◌, ◌<◌, List, length, Option, Some, None}

-- the rest of the room; or there is none for all of the bytes
abbrev pub Leaves : ℕ → List ℕ → Option ℕ → Type 0
Leaves room bytes (Some left) = left + length bytes ≡ room
Leaves room bytes None = room < length bytes
