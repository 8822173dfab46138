-- What is still read by all that is open, and how opening and closing levels leaves it.
use Rattle.std.specs.Prelude.{◌≡◌, ◌≢◌, ℕ, suc, ◌<◌, ◌≤◌, Option, Some, None, List, [], ◌∷◌, ◌++◌, length, slice_get}
use Rattle.std.specs.Vec.{vec_capacity}
use Rattle.readers.specs.Reader.{whole}
use Rattle.bp_value.specs.declared.value.Value.{Value}
use Rattle.bp_codec.specs.Plan.{Reading, AreRead}
use Rattle.bp_codec.specs.Levels.{next_of, advanced, reach_of, state, AllReach}
use Rattle.bp_codec.specs.declared.levels.Left.{Left}
use Rattle.bp_codec.specs.declared.levels.Makes.{Makes}
use Rattle.bp_codec.specs.declared.levels.Makes.TheVariants as made_of
use Rattle.bp_codec.specs.declared.levels.Left.TheVariants as left_of
use Rattle.bp_codec.specs.declared.levels.Next.{Next}
use Rattle.bp_codec.specs.declared.levels.Next.TheVariants as next
use Rattle.bp_codec.specs.declared.plan.Node.{Node}
use Rattle.bp_codec.specs.declared.plan.Node.TheVariants as node
use Rattle.bp_codec.specs.declared.levels.Level.{Level}
use Rattle.bp_codec.specs.declared.open.Open.{Open}

abbrev pub opened : ℕ → (ℕ → Reading) → Open → Reading
opened m reading o s = state m reading o.top o.stack.items s

-- all nodes that are read stand among n
pub record Reaches (n : ℕ) (o : Open) : Type 0 where
  pub top : reach_of o.top.left ≤ n
  pub stack : AllReach n o.stack.items

-- nothing was read: the value of the first node is all that is left
pub record IsRoot (o : Open) : Type 0 where
  pub left : o.top.left ≡ left_of.Items 0 1
  pub makes : o.top.makes ≡ made_of.Alone
  pub values : o.top.values.items ≡ []
  pub stack : o.stack.items ≡ []

-- a level was opened: the one around it waits for the value
pub record Opens (old : Open) (l : Left) (k : Makes) (new : Open) : Type 0 where
  pub left : new.top.left ≡ l
  pub makes : new.top.makes ≡ k
  pub values : new.top.values.items ≡ []
  pub outer : Level
  pub stack : new.stack.items ≡ old.stack.items ++ outer ∷ []
  pub outer_left : outer.left ≡ advanced old.top.left
  pub outer_makes : outer.makes ≡ old.top.makes
  pub outer_values : outer.values.items ≡ old.top.values.items

-- a level that was opened has room for no more values than there are bytes
abbrev pub HasRoom : Open → Open → List ℕ → Type 0
HasRoom old new s = length new.stack.items ≡ suc (length old.stack.items) → vec_capacity new.top.values ≤ length s

-- reading goes on as before
abbrev pub IsSame : Open → Open → Type 0
IsSame old new = (m : ℕ) (reading : ℕ → Reading) (s : List ℕ) → opened m reading old s ≡ opened m reading new s

-- with a value all is read; else something comes next
abbrev pub IsSettled : Open → Open → Option Value → Type 0
IsSettled old new (Some v) = (m : ℕ) (reading : ℕ → Reading) (s : List ℕ) → opened m reading old s ≡ whole v s
IsSettled old new None = IsSame old new × (next_of new.top.left ≢ next.Nothing) × ((n : ℕ) → Reaches n old → Reaches n new)

-- no tuple or record stands at what comes next
abbrev pub IsNoParts : List Node → Next → Type 0
IsNoParts ns next.Nothing = ⊥
IsNoParts ns (next.Node i) = (i < length ns) × ((first count : ℕ) → slice_get ns i ≡ Some (node.Parts first count) → ⊥)
IsNoParts ns (next.Sexp depth) = Unit {0}

-- tuples and records were opened down to what is read next
pub record GoesDown (ns : List Node) (tags : List ℕ) (old new : Open) (n : Next) : Type 0 where
  pub next : next_of new.top.left ≡ n
  pub parts : IsNoParts ns n
  pub reaches : Reaches (length ns) new
  pub same : (m : ℕ) (reading : ℕ → Reading) → AreRead m ns tags reading → (s : List ℕ) → opened m reading old s ≡ opened m reading new s
