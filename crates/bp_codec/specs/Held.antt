-- The bytes that a reader holds.
use Rattle.std.specs.Prelude.{◌≡◌, ℕ, List, [], ◌∷◌, ◌++◌}

-- a piece stands behind the bytes that were held; where none were, it is not held
abbrev pub IsHeld : List ℕ → List ℕ → List ℕ → Type 0
IsHeld [] piece held = held ≡ []
IsHeld (b ∷ bs) piece held = held ≡ (b ∷ bs) ++ piece
