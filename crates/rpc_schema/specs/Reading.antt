-- What the reading of a schema keeps from line to line.
use Rattle.std.specs.Prelude.{◌≡◌, ℕ, List, [], ◌∷◌, ◌++◌, map, true, false, ◌⊎◌}
use Rattle.std.specs.List.{list_any, Contains}
use Rattle.std.specs.Borrow.{Bor}
use Rattle.std.specs.BTreeSet.{BTreeSet, contains}
use Rattle.std.specs.Ordering.{eq_by_cmp}
use Rattle.rpc_schema.specs.declared.desc.Entry.{Entry}
use Rattle.rpc_schema.specs.declared.desc.Listing.{Listing}
use Rattle.rpc_schema.specs.declared.error.SchemaError.{SchemaError}
use Rattle.rpc_schema.specs.declared.error.SchemaError.TheVariants as error
use Rattle.rpc_schema.specs.Entries.{IsRpcName, IsVersion, IsEntry, listing_of, listing_cmp}
use Rattle.rpc_schema.specs.TextLines.{is_skipped}
use Rattle.rpc_schema.specs.declared.heads.Head.{Head}
use Rattle.rpc_schema.specs.SchemaLines.{IsLineOf, IsLineRefusedAt}

-- the name and version of a head are good
pub record IsHeadGood (h : Head) : Type 0 where
  pub name : IsRpcName h.name
  pub version : IsVersion h.version

-- the bytes of each slice
abbrev pub slices : List (Bor (List ℕ)) → List (List ℕ)
slices parts = map (λ part. part.now) parts

-- the set has the names and versions of the entries
abbrev pub Marks : BTreeSet Listing → List Entry → Type 0
Marks seen es = (l : Listing) → contains listing_cmp seen l ≡ list_any (eq_by_cmp listing_cmp l) (map listing_of es)

-- the entry of a line was added; no earlier one has its name and version
abbrev pub AddsEntry : ℕ → List ℕ → List Entry → List Entry → Type 0
AddsEntry number bytes old new = (e : Entry) × (new ≡ old ++ e ∷ []) × IsEntry e × IsLineOf number e bytes []
    × (Contains (map listing_of old) (listing_of e) → ⊥)

-- the line is that of no entry
abbrev pub RefusesLine : ℕ → List ℕ → SchemaError → Type 0
RefusesLine number bytes (error.BadLine line at) = (line ≡ number) × IsLineRefusedAt bytes at
RefusesLine number bytes (error.Twice line) = ⊥
RefusesLine number bytes error.OutOfMemory = Unit {0}

-- or it is that of one whose name and version an earlier one has
abbrev pub RefusesEntry : ℕ → List ℕ → List Entry → SchemaError → Type 0
RefusesEntry number bytes es (error.BadLine line at) = (line ≡ number) × IsLineRefusedAt bytes at
RefusesEntry number bytes es (error.Twice line) = (line ≡ number) × ((e : Entry) × IsLineOf number e bytes [] × Contains (map listing_of es) (listing_of e))
RefusesEntry number bytes es error.OutOfMemory = Unit {0}

-- one line of the text: it says nothing, or its entry was added
abbrev pub FollowsLine : ℕ → List ℕ → List Entry → List Entry → Type 0
FollowsLine number bytes old new = ((is_skipped bytes ≡ true) × (new ≡ old)) ⊎ ((is_skipped bytes ≡ false) × AddsEntry number bytes old new)

abbrev pub RefusesNext : ℕ → List ℕ → List Entry → SchemaError → Type 0
RefusesNext number bytes es e = (is_skipped bytes ≡ false) × RefusesEntry number bytes es e
