-- What the nodes of a shape are made of: the node of each, and what its children are made of.
use Rattle.std.specs.Prelude.{◌≡◌, ℕ, List, [], ◌∷◌, ◌++◌, map, length}
use Rattle.std.specs.Int.{w32, cast_unsigned}
use Rattle.bp_num.specs.declared.number.IntKind.TheVariants.{Int63, Int32, Int64}
use Rattle.bp_value.specs.Tags.{tag_of}
use Rattle.bp_value.specs.Form.{Form, Parts, Cases, unit, bool, char, int, int32, int64, text, opt, listed, tuple, fields, sum, poly, sexp, end, part, end_cases, case, form_of, parts}
use Rattle.bp_codec.specs.declared.plan.Node.{Node}
use Rattle.bp_codec.specs.declared.plan.Node.TheVariants as node
use Rattle.bp_codec.specs.declared.plan.making.Source.{Source}
use Rattle.bp_codec.specs.declared.plan.making.Source.TheVariants as source

-- a value of a form, or the arguments of a case
pub data Origin : Type 0 where
  value : Form → Origin
  args : Parts → Origin

abbrev pub origin : Source → Origin
origin (source.Shape shape) = value (form_of shape.now)
origin (source.Args shapes) = args (parts (map form_of shapes.now))

abbrev pub origins : List Source → List Origin
origins sources = map origin sources

-- each part has a node
unfoldable pub part_origins : Parts → List Origin
part_origins end = []
part_origins (part name f fs) = value f ∷ part_origins fs

-- each case has a node, of its arguments
unfoldable pub case_origins : Cases → List Origin
case_origins end_cases = []
case_origins (case name fs cs) = args fs ∷ case_origins cs

-- the tag of each case, as a word
unfoldable pub tag_words : Cases → List ℕ
tag_words end_cases = []
tag_words (case name fs cs) = cast_unsigned w32 (tag_of name) ∷ tag_words cs

unfoldable pub children : Origin → List Origin
children (value (opt f)) = value f ∷ []
children (value (listed f)) = value f ∷ []
children (value (tuple fs)) = part_origins fs
children (value (fields fs)) = part_origins fs
children (value (sum cs)) = case_origins cs
children (value (poly cs)) = case_origins cs
children (args fs) = part_origins fs
children _ = []

unfoldable pub own_tags : Origin → List ℕ
own_tags (value (poly cs)) = tag_words cs
own_tags _ = []

-- the node whose children stand from the place `first` on, and its tags from the place `at` on
unfoldable pub node_at : Origin → ℕ → ℕ → Node
node_at (value unit) first at = node.Unit
node_at (value bool) first at = node.Bool
node_at (value char) first at = node.Char
node_at (value int) first at = node.Int Int63
node_at (value int32) first at = node.Int Int32
node_at (value int64) first at = node.Int Int64
node_at (value text) first at = node.Text
node_at (value (opt f)) first at = node.Opt first
node_at (value (listed f)) first at = node.List first
node_at (value (tuple fs)) first at = node.Parts first (length (part_origins fs))
node_at (value (fields fs)) first at = node.Parts first (length (part_origins fs))
node_at (value (sum cs)) first at = node.Sum first (length (case_origins cs))
node_at (value (poly cs)) first at = node.Poly first (length (case_origins cs)) at
node_at (value sexp) first at = node.Sexp
node_at (args fs) first at = node.Args first (length (part_origins fs))

-- these stand at the end, from the place `first` on
abbrev pub Places : List Origin → List Origin → List Origin → ℕ → Type 0
Places os old new first = (first ≡ length old) × (new ≡ old ++ os)

-- the node n is made of o: what its children are made of comes after all that was to be made before, and its tags after all tags
pub record Expands (o : Origin) (old new : List Origin) (old_tags new_tags : List ℕ) (n : Node) : Type 0 where
  pub made : n ≡ node_at o (length old) (length old_tags)
  pub children_last : new ≡ old ++ children o
  pub tags_last : new_tags ≡ old_tags ++ own_tags o
