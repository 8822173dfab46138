-- What is printed, byte by byte, and what was done to a list of bytes to which some were to be appended.
use Rattle.std.specs.Prelude.{◌≡◌, ℕ, zero, suc, List, [], ◌∷◌, ◌++◌, map, codes, Option, Some, None, Result, Ok, Err}
use Rattle.std.specs.List.{All}
use Rattle.bp_value.specs.declared.memory.OutOfMemory.{OutOfMemory}
use Rattle.bp_value.specs.declared.shape.Case.{Case}
use Rattle.bp_value.specs.declared.shape.Field.{Field}
use Rattle.bp_value.specs.declared.shape.PolyCase.{PolyCase}
use Rattle.bp_value.specs.declared.shape.Shape.{Shape}
use Rattle.bp_value.specs.declared.value.Value.{Value}
use Rattle.bp_value.specs.Form.{Form, Parts}
use Rattle.bp_value.specs.Faults.{nodes, part_nodes, IsFaultless}
use Rattle.bp_value.specs.Fits.{Fits, FitParts}
use Rattle.bp_text_grammar.specs.Texts.{backtick}
use Rattle.bp_text_grammar.specs.Printed.{quoted_text, quoted_char, decimal_text}
use Rattle.bp_text_grammar.specs.PrintedPieces.{Piece, bytes_of}
use Rattle.bp_text_grammar.specs.PrintedShapes.{as_part, factors, shape_printed}
use Rattle.bp_text_grammar.specs.PrintedTexts.{shape_text}

-- the bytes were appended; or where memory ran out some were
abbrev pub Appends : List ℕ → List ℕ → List ℕ → Result (Unit {0}) OutOfMemory → Type 0
Appends bytes old new (Ok u) = new ≡ old ++ bytes
Appends bytes old new (Err e) = (front : List ℕ) × (new ≡ old ++ front)

-- ---- what may be printed

-- a value of the form, and values of the parts, however long their texts and lists are
abbrev pub IsOf : Form → Value → Type 0
IsOf f v = (m : ℕ) × Fits m f v

abbrev pub AreOf : Parts → List Value → Type 0
AreOf fs vs = (m : ℕ) × FitParts m fs vs

-- a form and parts that may stand in a good form
abbrev pub IsGoodInside : Form → Type 0
IsGoodInside f = (d : ℕ) × All IsFaultless (nodes d f)

abbrev pub AreGoodInside : Parts → Type 0
AreGoodInside fs = (d : ℕ) × All IsFaultless (part_nodes d fs)

-- ---- bytes

abbrev pub piece_bytes : List Piece → List ℕ
piece_bytes ps = bytes_of quoted_text quoted_char decimal_text ps

-- what separates the member at a place from the one before it, if there is one
abbrev pub lead : List ℕ → ℕ → List ℕ
lead separator zero = []
lead separator (suc place) = separator

-- a shape where it is a part, and the parts of a tuple or the arguments of a case
abbrev pub part_text : Shape → List ℕ
part_text s = piece_bytes (as_part (shape_printed s))

abbrev pub factors_text : List Shape → List ℕ
factors_text ss = piece_bytes (factors (map shape_printed ss))

-- ---- the members of a shape

abbrev pub field_text : Field → List ℕ
field_text f = f.name ++ (codes ": " ++ shape_text f.shape)

abbrev pub arguments_text : List Shape → List ℕ
arguments_text [] = []
arguments_text (s ∷ ss) = codes " of " ++ factors_text (s ∷ ss)

abbrev pub case_text : Case → List ℕ
case_text c = c.name ++ arguments_text c.args

abbrev pub argument_text : Option Shape → List ℕ
argument_text None = []
argument_text (Some s) = codes " of " ++ shape_text s

abbrev pub poly_text : PolyCase → List ℕ
poly_text c = backtick ∷ (c.name ++ argument_text c.arg)
