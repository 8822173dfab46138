-- What is printed is read back, and a text is of one value or shape.
use Rattle.std.proofs.Common.{◌≡◌, ℕ, List}
use Rattle.readers.specs.Reader.{Any, Is, good, to_end}
use Rattle.readers.proofs.Readers.{each-any}
use Rattle.readers.proofs.Ends.{good_all, good_is, one_value}
use Rattle.bp_value.specs.declared.value.Value.{Value}
use Rattle.bp_value.specs.declared.shape.Shape.{Shape}
use Rattle.bp_value.specs.Form.{Form, form_of}
use Rattle.bp_value.specs.Faults.{IsGood}
use Rattle.bp_value.specs.Fits.{Fits}
use Rattle.bp_text_grammar.specs.Tokens.{Token}
use Rattle.bp_text_grammar.specs.Texts.{IsValueFault}
use Rattle.bp_text_grammar.specs.ValueTexts.{IsValueTokens, AreShort, value_at}
use Rattle.bp_text_grammar.specs.ShapeTexts.{ends_shape, IsShapeTokens, IsShapeFault, shape_at}
use Rattle.bp_text_grammar.specs.PrintedValues.{value_tokens}
use Rattle.bp_text_grammar.specs.PrintedShapes.{shape_tokens}
use Rattle.bp_text_grammar.proofs.RightValues.{right_value}
use Rattle.bp_text_grammar.proofs.RightShapes.{right_shape}
use Rattle.bp_text_grammar.proofs.PrintedValues.{printed_value}
use Rattle.bp_text_grammar.proofs.PrintedGood.{printed_shape}
use Rattle.bp_text_grammar.proofs.ReadFits.{value_fits}

pub value_back : (m : ℕ) (f : Form) (v : Value) → IsGood f → Fits m f v → to_end (value_at f (value_tokens f v)) ≡ good v
value_back m f v is fits = good_all Any Any (IsValueTokens f) IsValueFault (value_at f) (right_value f is) (value_tokens f v) v (printed_value m f v is fits)

pub shape_back : (s : Shape) → IsGood (form_of s) → to_end (shape_at (shape_tokens s)) ≡ good s
shape_back s is = good_all Any (Is ends_shape) IsShapeTokens IsShapeFault shape_at right_shape (shape_tokens s) s (printed_shape s is)

pub value_once : (f : Form) (ts : List Token) (v w : Value) → IsGood f → IsValueTokens f v ts → IsValueTokens f w ts → v ≡ w
value_once f ts v w is l m = one_value Any Any (IsValueTokens f) IsValueFault (value_at f) (right_value f is) v w ts l m

pub shape_once : (ts : List Token) (s u : Shape) → IsShapeTokens s ts → IsShapeTokens u ts → s ≡ u
shape_once ts s u l m = one_value Any (Is ends_shape) IsShapeTokens IsShapeFault shape_at right_shape s u ts l m

-- a value that was read fits, within the number of the tokens and the lengths of the texts among them
pub read_fits : (m : ℕ) (f : Form) (ts : List Token) (v : Value) → IsGood f → to_end (value_at f ts) ≡ good v → AreShort m ts → Fits m f v
read_fits m f ts v is h short =
    value_fits m f v ts (good_is Any Any (IsValueTokens f) IsValueFault (value_at f) (right_value f is) ts v (each-any ts) h) short
