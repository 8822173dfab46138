-- What stands whole in front of some bytes.
use Rattle.std.specs.Prelude.{◌≡◌, ℕ, ◌≤◌, Option, Some, None, List, length, take, drop}
use Rattle.readers.specs.Reader.{whole}
use Rattle.readers.specs.Keys.{Keyed, key_at}

-- no key stands whole in front, or the one at this place is read there
abbrev pub IsWholeTag : {W : Type 0} → W → List (ℕ × List ℕ) → List ℕ → Option ℕ → Type 0
IsWholeTag w keys s None = (place : ℕ) → Keyed keys place (take 4 s) → ⊥
IsWholeTag w keys s (Some place) = (4 ≤ length s) × (key_at w 4 keys s ≡ whole place (drop 4 s))
