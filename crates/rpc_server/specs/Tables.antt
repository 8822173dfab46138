-- The queries that a server keeps, seen by look-ups of their ids.
use Rattle.std.specs.Prelude.{◌≡◌, ℕ, ◌+◌, ℤ, Bool, true, false, List, [], ◌∷◌, length, filter, Option, Some, None, if◌then◌else◌}
use Rattle.std.specs.List.{find}
use Rattle.std.specs.Ordering.{int_eq}
use Rattle.rpc_server.specs.declared.table.Standing.{Standing}
use Rattle.rpc_server.specs.declared.table.Standing.TheVariants.{Nowhere, Open, Stopped}
use Rattle.rpc_server.specs.declared.table.Tracked.{Tracked}

abbrev pub is_query : ℤ → Tracked → Bool
is_query id query = int_eq query.id id

abbrev pub standing_of : Option Tracked → Standing
standing_of None = Nowhere
standing_of (Some query) = query.standing

-- how the query of an id stands
abbrev pub standing : List Tracked → ℤ → Standing
standing queries id = standing_of (find (is_query id) queries)

abbrev pub is_to_answer : Standing → Bool
is_to_answer Nowhere = false
is_to_answer (Open place begun) = true
is_to_answer Stopped = false

-- the place of the entry of an open query
abbrev pub place_in_schema : Standing → Option ℕ
place_in_schema Nowhere = None
place_in_schema (Open place begun) = Some place
place_in_schema Stopped = None

-- a query that is stopped is forgotten
abbrev pub forgotten : Standing → Standing
forgotten Nowhere = Nowhere
forgotten (Open place begun) = Open place begun
forgotten Stopped = Nowhere

-- how many queries are open
abbrev pub unfinished : List Tracked → ℕ
unfinished queries = length (filter (λ query. is_to_answer query.standing) queries)

abbrev pub open_count : Standing → ℕ
open_count s = if is_to_answer s then 1 else 0

-- the query of an id stands so from now on, and all others as before
pub record IsPut (old : List Tracked) (id : ℤ) (s : Standing) (new : List Tracked) : Type 0 where
  pub each : (other : ℤ) → standing new other ≡ (if int_eq other id then s else standing old other)
  pub count : unfinished new + open_count (standing old id) ≡ unfinished old + open_count s

-- no id stands in it twice
abbrev pub HaveApartIds : List Tracked → Type 0
HaveApartIds [] = Unit {0}
HaveApartIds (query ∷ later) = (find (is_query query.id) later ≡ None) × HaveApartIds later
