-- Where the children of a node stand: within the nodes, and behind it.
use Rattle.std.specs.Prelude.{◌≡◌, ℕ, ◌+◌, ◌<◌, ◌≤◌, Some, List, length, slice_get}
use Rattle.bp_codec.specs.declared.plan.Node.{Node}
use Rattle.bp_codec.specs.declared.plan.Node.TheVariants as node

abbrev pub OptsFit : List Node → Type 0
OptsFit ns = (i j : ℕ) → slice_get ns i ≡ Some (node.Opt j) → (i < j) × (j < length ns)

abbrev pub ListsFit : List Node → Type 0
ListsFit ns = (i j : ℕ) → slice_get ns i ≡ Some (node.List j) → (i < j) × (j < length ns)

-- a tuple or a record has a part
abbrev pub PartsFit : List Node → Type 0
PartsFit ns = (i first count : ℕ) → slice_get ns i ≡ Some (node.Parts first count) → (0 < count) × (i < first) × (first + count ≤ length ns)

-- the arguments of a case; none of another node
abbrev pub first_of : Node → ℕ
first_of (node.Args first count) = first
first_of _ = 0

abbrev pub count_of : Node → ℕ
count_of (node.Args first count) = count
count_of _ = 0

-- each case of a variant is a node of arguments
abbrev pub IsCase : List Node → ℕ → Type 0
IsCase ns i = (n : Node) → slice_get ns i ≡ Some n → n ≡ node.Args (first_of n) (count_of n)

abbrev pub AreCases : List Node → ℕ → ℕ → Type 0
AreCases ns first count = (first + count ≤ length ns) × ((place : ℕ) → place < count → IsCase ns (first + place))

abbrev pub SumsFit : List Node → Type 0
SumsFit ns = (i first count : ℕ) → slice_get ns i ≡ Some (node.Sum first count) → AreCases ns first count

abbrev pub PolysFit : List Node → ℕ → Type 0
PolysFit ns tags = (i first count at : ℕ) → slice_get ns i ≡ Some (node.Poly first count at)
    → (first + count ≤ length ns) × (at + count ≤ tags) × (count ≤ 256) × ((place : ℕ) → place < count → IsCase ns (first + place))

abbrev pub ArgsFit : List Node → Type 0
ArgsFit ns = (i first count : ℕ) → slice_get ns i ≡ Some (node.Args first count) → first + count ≤ length ns

-- all children stand where they may
pub record ArePlaced (ns : List Node) (tags : List ℕ) : Type 0 where
  pub opts : OptsFit ns
  pub lists : ListsFit ns
  pub parts : PartsFit ns
  pub sums : SumsFit ns
  pub polys : PolysFit ns (length tags)
  pub args : ArgsFit ns
