-- What decoding says of the bytes.
use Rattle.std.specs.Prelude.{◌≡◌, ℕ, ◌≤◌, List, ◌++◌}
use Rattle.readers.specs.Reader.{Stands, IsProperFront, IsFaultAt}
use Rattle.bp_value.specs.declared.value.Value.{Value}
use Rattle.bp_value.specs.Form.{Form}
use Rattle.bp_grammar.specs.Spells.{Spells}
use Rattle.bp_grammar.specs.Reasons.{FaultWhy}
use Rattle.bp_grammar.specs.Nodes.{node_count}
use Rattle.bp_codec.specs.declared.decoding.Decoded.{Decoded}
use Rattle.bp_codec.specs.declared.decoding.Decoded.TheVariants as decoded

-- a spelling stands in front, or all bytes begin one, or a byte is at fault
abbrev pub IsDecoded : ℕ → Form → List ℕ → Decoded → Type 0
IsDecoded m f s (decoded.Whole v used) = Stands (Spells m f) s v used
IsDecoded m f s decoded.More = IsProperFront (Spells m f) s
IsDecoded m f s (decoded.Bad at why) = IsFaultAt (Spells m f) (FaultWhy m f) s at why

-- no spelling begins another
abbrev pub NoneBegins : ℕ → Form → Type 0
NoneBegins m f = (v w : Value) (t u x y : List ℕ) → Spells m f v t → Spells m f w u → t ++ x ≡ u ++ y → (v ≡ w) × (t ≡ u)

-- each node of the value, tuples and records aside, took a byte
abbrev pub HasNodes : Decoded → Type 0
HasNodes (decoded.Whole v used) = node_count v ≤ used
HasNodes decoded.More = Unit {0}
HasNodes (decoded.Bad at why) = Unit {0}
