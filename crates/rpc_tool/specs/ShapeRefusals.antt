-- What is written where the word for a shape is refused.
use Rattle.std.specs.Prelude.{ℕ, List, [], ◌∷◌, ◌++◌, codes}
use Rattle.std.specs.Fmt.{decimal}
use Rattle.bp_value.specs.declared.fault.ShapeFault.{ShapeFault}
use Rattle.bp_value.specs.declared.fault.ShapeFault.TheVariants.{TooDeep, EmptySum, ShortTuple, EmptyFields, TooMany, BadName, SameName, TagClash}
use Rattle.bp_text.specs.declared.error.TextError.{TextError}
use Rattle.bp_text.specs.declared.error.TextError.TheVariants as error
use Rattle.rpc_tool.specs.Lines.{line}

-- a word, and a number
abbrev pub with_number : List ℕ → ℕ → List ℕ
with_number word n = word ++ 32 ∷ decimal n

-- what is not good about a shape
abbrev pub shape_fault_text : ShapeFault → List ℕ
shape_fault_text (TooDeep depth) = with_number (codes "too deep") depth
shape_fault_text EmptySum = codes "empty sum"
shape_fault_text (ShortTuple parts) = with_number (codes "short tuple") parts
shape_fault_text EmptyFields = codes "empty fields"
shape_fault_text (TooMany count) = with_number (codes "too many") count
shape_fault_text (BadName place) = with_number (codes "bad name") place
shape_fault_text (SameName first second) = with_number (with_number (codes "same name") first) second
shape_fault_text (TagClash first second) = with_number (with_number (codes "tag clash") first) second

-- why a text is no text of a good shape; nothing, where memory ran out
abbrev pub text_error_text : TextError → List ℕ
text_error_text (error.BadText at) = with_number (codes "bad text at") at
text_error_text (error.Float at) = with_number (codes "float at") at
text_error_text (error.NotGood fault) = codes "not good: " ++ shape_fault_text fault
text_error_text error.OutOfMemory = []

abbrev pub shape_refused : TextError → List ℕ
shape_refused error = line (codes "shape: " ++ text_error_text error)
