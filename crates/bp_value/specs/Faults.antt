-- When a shape is good, and what is its first fault.
use Rattle.std.specs.Prelude.{◌≡◌, ℕ, ℤ, ◌+◌, ◌<◌, ◌≤◌, List, [], ◌∷◌, ◌++◌, map, ◌⊎◌, Result, Ok, Err, length}
use Rattle.std.specs.List.{All}
use Rattle.bp_value.specs.declared.fault.ShapeFault.{ShapeFault}
use Rattle.bp_value.specs.declared.fault.ShapeFault.TheVariants.{TooDeep, EmptySum, ShortTuple, EmptyFields, TooMany, BadName, SameName, TagClash}
use Rattle.bp_value.specs.Tags.{tag_of}
use Rattle.bp_value.specs.Limits.{deepest_shape, most_members}
use Rattle.bp_value.specs.Names.{IsShapeName, IsFirstBadName, IsDistinct, IsFirstRepeat}
use Rattle.bp_value.specs.Form.{Form, Parts, Cases, unit, bool, char, int, int32, int64, text, opt, listed, tuple, fields, sum, poly, sexp, end, part, end_cases, case}

unfoldable mutual
  -- the nodes of a form with their depths: a node before its children, and children in order
  pub nodes : ℕ → Form → List (ℕ × Form)
  nodes d unit = (d, unit) ∷ []
  nodes d bool = (d, bool) ∷ []
  nodes d char = (d, char) ∷ []
  nodes d int = (d, int) ∷ []
  nodes d int32 = (d, int32) ∷ []
  nodes d int64 = (d, int64) ∷ []
  nodes d text = (d, text) ∷ []
  nodes d (opt f) = (d, opt f) ∷ nodes (d + 1) f
  nodes d (listed f) = (d, listed f) ∷ nodes (d + 1) f
  nodes d (tuple fs) = (d, tuple fs) ∷ part_nodes (d + 1) fs
  nodes d (fields fs) = (d, fields fs) ∷ part_nodes (d + 1) fs
  nodes d (sum cs) = (d, sum cs) ∷ case_nodes (d + 1) cs
  nodes d (poly cs) = (d, poly cs) ∷ case_nodes (d + 1) cs
  nodes d sexp = (d, sexp) ∷ []

  pub part_nodes : ℕ → Parts → List (ℕ × Form)
  part_nodes d end = []
  part_nodes d (part name f fs) = nodes d f ++ part_nodes d fs

  pub case_nodes : ℕ → Cases → List (ℕ × Form)
  case_nodes d end_cases = []
  case_nodes d (case name fs cs) = part_nodes d fs ++ case_nodes d cs

abbrev pub part_names : Parts → List (List ℕ)
part_names end = []
part_names (part name f fs) = name ∷ part_names fs

abbrev pub case_names : Cases → List (List ℕ)
case_names end_cases = []
case_names (case name fs cs) = name ∷ case_names cs

-- how many parts, fields or cases a node has
abbrev pub member_count : Form → ℕ
member_count (tuple fs) = length (part_names fs)
member_count (fields fs) = length (part_names fs)
member_count (sum cs) = length (case_names cs)
member_count (poly cs) = length (case_names cs)
member_count _ = 0

-- the names of its fields or cases
abbrev pub names : Form → List (List ℕ)
names (fields fs) = part_names fs
names (sum cs) = case_names cs
names (poly cs) = case_names cs
names _ = []

abbrev pub tags : Form → List ℤ
tags (poly cs) = map tag_of (case_names cs)
tags _ = []

abbrev pub IsTuple : Form → Type 0
IsTuple (tuple fs) = Unit {0}
IsTuple _ = ⊥

abbrev pub IsRecord : Form → Type 0
IsRecord (fields fs) = Unit {0}
IsRecord _ = ⊥

abbrev pub IsVariant : Form → Type 0
IsVariant (sum cs) = Unit {0}
IsVariant (poly cs) = Unit {0}
IsVariant _ = ⊥

-- the node f at depth d has this fault
abbrev pub HasFault : ℕ → Form → ShapeFault → Type 0
HasFault d f (TooDeep depth) = (depth ≡ d) × (deepest_shape < d)
HasFault d f EmptySum = IsVariant f × (member_count f ≡ 0)
HasFault d f (ShortTuple count) = IsTuple f × (count ≡ member_count f) × (count < 2)
HasFault d f EmptyFields = IsRecord f × (member_count f ≡ 0)
HasFault d f (TooMany count) = (count ≡ member_count f) × (most_members < count)
HasFault d f (BadName place) = IsFirstBadName (names f) place
HasFault d f (SameName first second) = IsFirstRepeat (names f) first second
HasFault d f (TagClash first second) = IsFirstRepeat (tags f) first second

-- the order of the faults of one node
abbrev pub number : ShapeFault → ℕ
number (TooDeep depth) = 1
number EmptySum = 2
number (ShortTuple count) = 3
number EmptyFields = 4
number (TooMany count) = 5
number (BadName place) = 6
number (SameName first second) = 7
number (TagClash first second) = 8

abbrev pub IsFaultless : ℕ × Form → Type 0
IsFaultless node = (x : ShapeFault) → HasFault node.0 node.1 x → ⊥

-- the fault of the node that has the lowest number
abbrev pub IsFaultOf : ℕ × Form → ShapeFault → Type 0
IsFaultOf node x =
    HasFault node.0 node.1 x
    × ((y : ShapeFault) → number y < number x → HasFault node.0 node.1 y → ⊥)

-- the fault of the first node that has one
abbrev pub IsFirstIn : List (ℕ × Form) → ShapeFault → Type 0
IsFirstIn [] x = ⊥
IsFirstIn (node ∷ rest) x = IsFaultOf node x ⊎ (IsFaultless node × IsFirstIn rest x)

-- no node has a fault; the root has depth 1
unfoldable pub IsGood : Form → Type 0
IsGood f = All IsFaultless (nodes 1 f)

unfoldable pub FirstFault : Form → ShapeFault → Type 0
FirstFault f x = IsFirstIn (nodes 1 f) x

-- what an answer says of one node, of one that is not too deep, and of some nodes
abbrev pub TellsNode : ℕ × Form → Result (Unit {0}) ShapeFault → Type 0
TellsNode node (Ok u) = IsFaultless node
TellsNode node (Err x) = IsFaultOf node x

abbrev pub TellsShallow : Form → Result (Unit {0}) ShapeFault → Type 0
TellsShallow f r = (d : ℕ) → d ≤ deepest_shape → TellsNode (d, f) r

abbrev pub TellsNodes : List (ℕ × Form) → Result (Unit {0}) ShapeFault → Type 0
TellsNodes ns (Ok u) = All IsFaultless ns
TellsNodes ns (Err x) = IsFirstIn ns x

-- and of how many members there are, and of their names
abbrev pub TellsCount : ℕ → Result (Unit {0}) ShapeFault → Type 0
TellsCount n (Ok u) = n ≤ most_members
TellsCount n (Err x) = (most_members < n) × (x ≡ TooMany n)

abbrev pub IsFaultOfNames : List (List ℕ) → ShapeFault → Type 0
IsFaultOfNames ns (BadName place) = IsFirstBadName ns place
IsFaultOfNames ns (SameName first second) = All IsShapeName ns × IsFirstRepeat ns first second
IsFaultOfNames ns _ = ⊥

abbrev pub TellsNames : List (List ℕ) → Result (Unit {0}) ShapeFault → Type 0
TellsNames ns (Ok u) = All IsShapeName ns × IsDistinct ns
TellsNames ns (Err x) = IsFaultOfNames ns x
