-- The printed text of a shape.
use Rattle.std.specs.Prelude.{Option, Some, None, ℕ, ℤ, Bool, true, false, if◌then◌else◌, List, [], ◌∷◌, ◌++◌, codes}
use Rattle.bp_value.specs.declared.shape.Shape.{Shape, fold-Shape}
use Rattle.bp_value.specs.declared.shape.Shape.TheOpen.{Shape-F, Case-F, Field-F, PolyCase-F}
use Rattle.bp_value.specs.declared.shape.Shape.TheOpen as layer
use Rattle.bp_text_grammar.specs.Tokens.{Token, Word, Mark}
use Rattle.bp_text_grammar.specs.Texts.{round_open, round_close, star, colon, semicolon, square_open, square_close, backtick, curly_open, bar, curly_close}
use Rattle.bp_text_grammar.specs.PrintedPieces.{Piece, tight, spaced, after_blank, tokens_of, list_pieces, bytes_of}

-- whether a shape is a tuple, and its pieces without brackets round them
abbrev pub Printed : Type 0
Printed = Bool × List Piece

-- as a part: a tuple stands in round brackets
abbrev pub as_part : Printed → List Piece
as_part p = if p.0 then tight (Mark round_open) ∷ p.1 ++ tight (Mark round_close) ∷ [] else p.1

-- more factors after one, each after a star
abbrev pub more_factors : List Printed → List Piece
more_factors [] = []
more_factors (p ∷ ps) = spaced (Mark star) ∷ after_blank (as_part p) ++ more_factors ps

abbrev pub factors : List Printed → List Piece
factors [] = []
factors (p ∷ ps) = as_part p ++ more_factors ps

-- what follows `of`, if anything does
abbrev pub after_of : List Piece → List Piece
after_of ps = spaced (Word (codes "of")) ∷ after_blank ps

abbrev pub of_arguments : List Printed → List Piece
of_arguments [] = []
of_arguments (p ∷ ps) = after_of (factors (p ∷ ps))

abbrev pub of_argument : Option Printed → List Piece
of_argument None = []
of_argument (Some p) = after_of p.1

abbrev pub base : Token → Printed
base t = (false, tight t ∷ [])

-- the members between brackets; in a variant a bar has a blank on either side
abbrev pub record_pieces : List (List Piece) → List Piece
record_pieces fs = tight (Mark curly_open) ∷ list_pieces (tight (Mark semicolon)) curly_close (λ f. f) fs

abbrev pub variant_pieces : List (List Piece) → List Piece
variant_pieces cs = tight (Mark square_open) ∷ list_pieces (spaced (Mark bar)) square_close (λ c. c) cs

-- ---- one layer of a shape, whose children are printed already

abbrev pub print_shape_step : Shape-F Printed (List Piece) (List Piece) (List Piece) → Printed
print_shape_step layer.Unit = base (Word (codes "unit"))
print_shape_step layer.Bool = base (Word (codes "bool"))
print_shape_step layer.Char = base (Word (codes "char"))
print_shape_step layer.Int = base (Word (codes "int"))
print_shape_step layer.Int32 = base (Word (codes "int32"))
print_shape_step layer.Int64 = base (Word (codes "int64"))
print_shape_step layer.Text = base (Word (codes "string"))
print_shape_step (layer.Opt p) = (false, as_part p ++ spaced (Word (codes "option")) ∷ [])
print_shape_step (layer.List p) = (false, as_part p ++ spaced (Word (codes "list")) ∷ [])
print_shape_step (layer.Tuple ps) = (true, factors ps)
print_shape_step (layer.Fields fs) = (false, record_pieces fs)
print_shape_step (layer.Sum cs) = (false, variant_pieces cs)
print_shape_step (layer.Poly cs) = (false, variant_pieces cs)
print_shape_step layer.Sexp = base (Word (codes "sexp"))

abbrev pub print_case_step : Case-F Printed (List Piece) (List Piece) (List Piece) → List Piece
print_case_step c = tight (Word c.name) ∷ of_arguments c.args

abbrev pub print_field_step : Field-F Printed (List Piece) (List Piece) (List Piece) → List Piece
print_field_step f = tight (Word f.name) ∷ tight (Mark colon) ∷ after_blank f.shape.1

abbrev pub print_poly_step : PolyCase-F Printed (List Piece) (List Piece) (List Piece) → List Piece
print_poly_step c = tight (Mark backtick) ∷ tight (Word c.name) ∷ of_argument c.arg

-- ---- all shapes

unfoldable pub shape_printed : Shape → Printed
shape_printed s = fold-Shape Printed (List Piece) (List Piece) (List Piece) print_shape_step print_case_step print_field_step print_poly_step s

unfoldable pub shape_pieces : Shape → List Piece
shape_pieces s = (shape_printed s).1

-- the tokens of the printed text
unfoldable pub shape_tokens : Shape → List Token
shape_tokens s = tokens_of (shape_pieces s)

-- its bytes, by those of texts and chars in quotes and of decimals, of which it has none
unfoldable pub shape_text_of : (List ℕ → List ℕ) → (ℕ → List ℕ) → (ℤ → List ℕ) → Shape → List ℕ
shape_text_of quoted_text quoted_char decimal_text s = bytes_of quoted_text quoted_char decimal_text (shape_pieces s)
