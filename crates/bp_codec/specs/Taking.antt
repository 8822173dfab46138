-- How a step that takes bytes leaves what is open.
use Rattle.std.specs.Prelude.{◌≡◌, ◌≢◌, ℕ, ◌≤◌, List, ◌++◌, length, take, drop, slice_get, Some, Result, Ok, Err}
use Rattle.readers.specs.Reader.{whole, more, bad, mapped}
use Rattle.bp_value.specs.declared.value.Value.{Value}
use Rattle.bp_value.specs.declared.value.Value.TheVariants as val
use Rattle.bp_codec.specs.declared.stop.Stop.{Stop}
use Rattle.bp_codec.specs.declared.stop.Stop.TheVariants as stop
use Rattle.bp_codec.specs.declared.levels.Level.{Level}
use Rattle.bp_codec.specs.declared.levels.Next.TheVariants as next
use Rattle.bp_codec.specs.declared.open.Open.{Open}
use Rattle.bp_codec.specs.declared.plan.Node.{Node}
use Rattle.bp_codec.specs.declared.plan.Node.TheVariants as node
use Rattle.bp_codec.specs.Keeping.{Keeps, Cuts}
use Rattle.bp_codec.specs.Nodes.{ArePlaced}
use Rattle.bp_codec.specs.Plan.{Reading, AreRead, args_in}
use Rattle.bp_codec.specs.Levels.{next_of, reach_of, next_reads, sexp_value, Onward, level_reads}
use Rattle.bp_codec.specs.Opened.{opened, Reaches}

-- a fact for the results after which reading may go on
abbrev pub Unless : {T : Type 0} → Result T Stop → Type 0 → Type 0
Unless (Ok t) P = P
Unless (Err stop.More) P = P
Unless (Err (stop.Bad w)) P = Unit {0}
Unless (Err stop.OutOfMemory) P = Unit {0}

-- A level took values from the bytes s, which leaves u, where what comes next is read by r.
pub record Takes (r : Reading) (old new : Level) (s u : List ℕ) (result : Result (Unit {0}) Stop) : Type 0 where
  pub keeps : (m : ℕ) (reading : ℕ → Reading) (onward : Onward) → next_of old.left ≢ next.Nothing → ((t : List ℕ) → next_reads m reading (next_of old.left) t ≡ r t)
      → Keeps (level_reads m reading old onward) (level_reads m reading new onward) s u result
  pub taken : Cuts s u result
  pub reach : Unless result (reach_of new.left ≤ reach_of old.left)

-- All that is open took bytes of what comes next.
pub record Moves (ns : List Node) (tags : List ℕ) (max : ℕ) (old new : Open) (s u : List ℕ) (result : Result (Unit {0}) Stop) : Type 0 where
  pub keeps : (reading : ℕ → Reading) → AreRead max ns tags reading → Keeps (opened max reading old) (opened max reading new) s u result
  pub taken : Cuts s u result
  pub reaches : Unless result (Reaches (length ns) new)

-- what comes next is read so
abbrev pub IsNext : List Node → List ℕ → ℕ → Open → Reading → Type 0
IsNext ns tags max o r = (next_of o.top.left ≢ next.Nothing)
    × ((reading : ℕ → Reading) → AreRead max ns tags reading → (t : List ℕ) → next_reads max reading (next_of o.top.left) t ≡ r t)

-- a node is what comes next
pub record ComesNext (ns : List Node) (n : Node) (o : Open) : Type 0 where
  pub place : ℕ
  pub next : next_of o.top.left ≡ next.Node place
  pub at : slice_get ns place ≡ Some n

-- a node is read where it comes next
abbrev pub TakesAt : List Node → List ℕ → ℕ → Node → Open → Open → List ℕ → List ℕ → Result (Unit {0}) Stop → Type 0
TakesAt ns tags max n old new s u result = ComesNext ns n old → Reaches (length ns) old → Moves ns tags max old new s u result

abbrev pub TakesNode : ℕ → Node → Open → Open → List ℕ → List ℕ → Result (Unit {0}) Stop → Type 0
TakesNode max n old new s u result = (ns : List Node) (tags : List ℕ) → ArePlaced ns tags → TakesAt ns tags max n old new s u result

-- a polymorphic variant with these tags is read where it comes next
abbrev pub TakesPoly : List Node → List ℕ → ℕ → List ℕ → Open → Open → List ℕ → List ℕ → Result (Unit {0}) Stop → Type 0
TakesPoly ns all first tags old new s u result =
    (max at : ℕ) → tags ≡ take (length tags) (drop at all) → TakesAt ns all max (node.Poly first (length tags) at) old new s u result

-- an S-expression is read where it comes next
abbrev pub TakesSexp : ℕ → ℕ → Open → Open → List ℕ → List ℕ → Result (Unit {0}) Stop → Type 0
TakesSexp max depth old new s u result =
    (ns : List Node) (tags : List ℕ) → IsNext ns tags max old (sexp_value max depth) → Reaches (length ns) old → Moves ns tags max old new s u result

-- what comes next is read on as v reads it
pub record Enters (ns : List Node) (tags : List ℕ) (max : ℕ) (v : (ℕ → Reading) → Reading) (old new : Open) : Type 0 where
  pub same : (reading : ℕ → Reading) (s t : List ℕ) → AreRead max ns tags reading → next_of old.top.left ≢ next.Nothing
      → next_reads max reading (next_of old.top.left) s ≡ v reading t → opened max reading old s ≡ opened max reading new t
  pub reaches : Reaches (length ns) old → Reaches (length ns) new

-- the arguments of the case at a place, which stand at a node, are read on
abbrev pub EntersCase : List Node → List ℕ → ℕ → ℕ → Open → Open → Type 0
EntersCase ns tags args place old new =
    (max : ℕ) → Enters ns tags max (λ reading t. mapped (val.Case place) (args_in reading (slice_get ns args) t)) old new

-- reading up to the whole value
abbrev pub Ends : Reading → Reading → List ℕ → List ℕ → Result Value Stop → Type 0
Ends before after old new (Ok v) = (x : List ℕ) → before (old ++ x) ≡ whole v (new ++ x)
Ends before after old new (Err stop.More) = ((x : List ℕ) → before (old ++ x) ≡ after (new ++ x)) × (after new ≡ more)
Ends before after old new (Err (stop.Bad w)) = (x : List ℕ) → before (old ++ x) ≡ bad (length (new ++ x)) w
Ends before after old new (Err stop.OutOfMemory) = Unit {0}

-- all that is open is read up to the whole value
abbrev pub EndsAll : List Node → List ℕ → ℕ → Open → Open → List ℕ → List ℕ → Result Value Stop → Type 0
EndsAll ns tags max old new s u result =
    (reading : ℕ → Reading) → AreRead max ns tags reading → Ends (opened max reading old) (opened max reading new) s u result
