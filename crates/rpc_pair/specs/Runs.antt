-- Steps one after the other.
use Rattle.std.specs.Prelude.{◌≡◌, List, [], ◌∷◌}

-- the steps of a list lead from one state to another
abbrev pub Leads : {S A : Type 0} → (S → A → S → Type 0) → S → List A → S → Type 0
Leads {S} Step from [] to = from ≡ to
Leads {S} Step from (a ∷ later) to = (mid : S) × Step from a mid × Leads Step mid later to
