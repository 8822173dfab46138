-- The printed bytes of values and of shapes.
use Rattle.std.specs.Prelude.{ℕ, List}
use Rattle.readers.specs.Reader.{Each, IsByte}
use Rattle.bp_value.specs.declared.value.Value.{Value}
use Rattle.bp_value.specs.declared.shape.Shape.{Shape}
use Rattle.bp_value.specs.Form.{Form}
use Rattle.bp_text_grammar.specs.Tokens.{Token, Text, Char}
use Rattle.bp_text_grammar.specs.Printed.{quoted_text, quoted_char, decimal_text}
use Rattle.bp_text_grammar.specs.PrintedValues.{value_text_of}
use Rattle.bp_text_grammar.specs.PrintedShapes.{shape_text_of}

-- what stands in quotes is bytes
abbrev pub IsOfBytes : Token → Type 0
IsOfBytes (Text t) = Each IsByte t
IsOfBytes (Char b) = IsByte b
IsOfBytes _ = Unit {0}

unfoldable pub value_text : Form → Value → List ℕ
value_text f v = value_text_of quoted_text quoted_char decimal_text f v

unfoldable pub shape_text : Shape → List ℕ
shape_text s = shape_text_of quoted_text quoted_char decimal_text s
