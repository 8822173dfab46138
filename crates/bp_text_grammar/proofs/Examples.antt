-- Worked examples of both grammars.
use Rattle.std.proofs.Common.{◌≡◌, refl, ap, sym, ◌∙◌, ℕ, ℤ, pos, negsuc, true, false, List, [], ◌∷◌, ◌++◌, codes, Some, None}
use Rattle.readers.specs.Reader.{whole, more, bad, rests, others}
use Rattle.readers.specs.Until.{until}
use Rattle.bp_value.specs.declared.value.Value.TheVariants as val
use Rattle.bp_value.specs.declared.value.Sexp.TheVariants as sx
use Rattle.bp_value.specs.declared.shape.Shape.{Shape}
use Rattle.bp_value.specs.declared.shape.Shape.TheVariants as shp
use Rattle.bp_value.specs.declared.shape.Shape.TheOpen as layer
use Rattle.bp_value.specs.declared.shape.Case.{Case}
use Rattle.bp_value.specs.declared.shape.Field.{Field}
use Rattle.bp_value.specs.declared.shape.PolyCase.{PolyCase}
use Rattle.bp_value.specs.Form.{Form, unit, bool, char, int, int32, text, opt, listed, tuple, fields, sum, poly, sexp, end, part, end_cases, case}
use Rattle.bp_text_grammar.specs.Tokens.{Word, Number, Text, Char, Mark}
use Rattle.bp_text_grammar.specs.Texts.{Float, BadText}
use Rattle.bp_text_grammar.specs.ValueTexts.{sexp_at, value_at, parts_at, more_parts_at, fields_at, more_fields_at, case_at, arguments_at}
use Rattle.bp_text_grammar.specs.ShapeTexts.{base_at, shape_at, whole_shape_at}
use Rattle.bp_text_grammar.specs.ShapeFronts.{shape_front_at}
use Rattle.bp_text_grammar.specs.PrintedPieces.{tight, spaced, after_blank, bytes_of}
use Rattle.bp_text_grammar.specs.PrintedValues.{value_pieces, part_pieces, more_part_pieces, value_text_of}
use Rattle.bp_text_grammar.specs.PrintedShapes.{Printed, as_part, factors, base, record_pieces, variant_pieces, of_argument, of_arguments, shape_printed, shape_pieces, shape_text_of}
use Rattle.bp_text_grammar.proofs.ShapeLayers.{case_printed_is, field_printed_is, poly_printed_is, layer_printed, printed_Opt, printed_List, printed_Tuple, printed_Fields, printed_Sum, printed_Poly}
use Rattle.bp_value.proofs.Layers.{out_present, out_parts, out_num, out_bool}

abbrev pair_form : Form
pair_form = tuple (part [] int (part [] bool end))

-- ---- values that are read

-- `()`
unit_read : value_at unit (Mark 40 ∷ Mark 41 ∷ []) ≡ whole val.Unit []
unfolding value_at
unit_read = refl

-- `true`, and `int`
bool_read : value_at bool (Word (codes "true") ∷ []) ≡ whole (val.Bool true) []
unfolding value_at
bool_read = refl

bool_refused : value_at bool (Word (codes "int") ∷ []) ≡ bad 1 BadText
unfolding value_at
bool_refused = refl

-- `'x'`
char_read : value_at char (Char 120 ∷ []) ≡ whole (val.Char 120) []
unfolding value_at
char_read = refl

-- `-100`, and a number that is one too large for 32 bits
int_read : value_at int (Number (negsuc 99) ∷ []) ≡ whole (val.Num (negsuc 99)) []
unfolding value_at
int_read = refl

int32_refused : value_at int32 (Number (pos 2147483648) ∷ []) ≡ bad 1 BadText
unfolding value_at
int32_refused = refl

-- `some (7, true)`
option_read : value_at (opt pair_form) (Word (codes "some") ∷ Mark 40 ∷ Number (pos 7) ∷ Mark 44 ∷ Word (codes "true") ∷ Mark 41 ∷ [])
    ≡ whole (val.Present (val.Parts (val.Num (pos 7) ∷ val.Bool true ∷ []))) []
unfolding value_at parts_at more_parts_at
option_read = refl

-- `["x"; ""]`, `[1; true]` and `[1; 2`
list_read : value_at (listed text) (Mark 91 ∷ Text (codes "x") ∷ Mark 59 ∷ Text [] ∷ Mark 93 ∷ []) ≡ whole (val.Items (val.Text (codes "x") ∷ val.Text [] ∷ [])) []
unfolding value_at rests
list_read = refl

list_refused : value_at (listed int) (Mark 91 ∷ Number (pos 1) ∷ Mark 59 ∷ Word (codes "true") ∷ Mark 93 ∷ []) ≡ bad 2 BadText
unfolding value_at rests
list_refused = refl

list_cut : value_at (listed int) (Mark 91 ∷ Number (pos 1) ∷ Mark 59 ∷ Number (pos 2) ∷ []) ≡ more
unfolding value_at rests
list_cut = refl

-- `{a = 5; b = []}`
record_value_read : value_at (fields (part (codes "a") int (part (codes "b") (listed text) end)))
    (Mark 123 ∷ Word (codes "a") ∷ Mark 61 ∷ Number (pos 5) ∷ Mark 59 ∷ Word (codes "b") ∷ Mark 61 ∷ Mark 91 ∷ Mark 93 ∷ Mark 125 ∷ [])
    ≡ whole (val.Parts (val.Num (pos 5) ∷ val.Items [] ∷ [])) []
unfolding value_at fields_at more_fields_at rests
record_value_read = refl

-- `B(3, false)` of `[A | B of int * bool]`
case_read : value_at (sum (case (codes "A") end (case (codes "B") (part [] int (part [] bool end)) end_cases)))
    (Word (codes "B") ∷ Mark 40 ∷ Number (pos 3) ∷ Mark 44 ∷ Word (codes "false") ∷ Mark 41 ∷ []) ≡ whole (val.Case 1 (val.Num (pos 3) ∷ val.Bool false ∷ [])) []
unfolding value_at case_at arguments_at more_parts_at
case_read = refl

-- `` `Query((3, false)) `` of `` [`Query of int * bool | `Abort] ``
poly_read : value_at (poly (case (codes "Query") (part [] pair_form end) (case (codes "Abort") end end_cases)))
    (Mark 96 ∷ Word (codes "Query") ∷ Mark 40 ∷ Mark 40 ∷ Number (pos 3) ∷ Mark 44 ∷ Word (codes "false") ∷ Mark 41 ∷ Mark 41 ∷ [])
    ≡ whole (val.Case 0 (val.Parts (val.Num (pos 3) ∷ val.Bool false ∷ []) ∷ [])) []
unfolding value_at case_at arguments_at parts_at more_parts_at
poly_read = refl

-- `("a" ())`
sexp_read : value_at sexp (Mark 40 ∷ Text (codes "a") ∷ Mark 40 ∷ Mark 41 ∷ Mark 41 ∷ []) ≡ whole (val.Sexp (sx.List (sx.Atom (codes "a") ∷ sx.List [] ∷ []))) []
unfolding value_at sexp_at until
sexp_read = refl

-- ---- shapes that are read

-- `int list option`
post_read : shape_at (Word (codes "int") ∷ Word (codes "list") ∷ Word (codes "option") ∷ []) ≡ whole (shp.Opt (shp.List shp.Int)) []
unfolding shape_at base_at others
post_read = refl

-- `int * (bool * unit)`
tuple_read : shape_at (Word (codes "int") ∷ Mark 42 ∷ Mark 40 ∷ Word (codes "bool") ∷ Mark 42 ∷ Word (codes "unit") ∷ Mark 41 ∷ [])
    ≡ whole (shp.Tuple (shp.Int ∷ shp.Tuple (shp.Bool ∷ shp.Unit ∷ []) ∷ [])) []
unfolding shape_at base_at others
tuple_read = refl

-- `(int * float) list`, and `int float`
float_refused : shape_at (Mark 40 ∷ Word (codes "int") ∷ Mark 42 ∷ Word (codes "float") ∷ Mark 41 ∷ Word (codes "list") ∷ []) ≡ bad 3 Float
unfolding shape_at base_at others
float_refused = refl

float_after : whole_shape_at (Word (codes "int") ∷ Word (codes "float") ∷ []) ≡ bad 1 BadText
unfolding shape_at base_at others
float_after = refl

-- `{a: int; float: string list}`
record_read : shape_at (Mark 123 ∷ Word (codes "a") ∷ Mark 58 ∷ Word (codes "int") ∷ Mark 59 ∷ Word (codes "float") ∷ Mark 58 ∷ Word (codes "string") ∷ Word (codes "list") ∷ Mark 125 ∷ [])
    ≡ whole (shp.Fields (record { name = codes "a"; shape = shp.Int } ∷ record { name = codes "float"; shape = shp.List shp.Text } ∷ [])) []
unfolding shape_at base_at others rests
record_read = refl

-- `[of | list of int * (bool * unit)]`
variant_read : shape_at (Mark 91 ∷ Word (codes "of") ∷ Mark 124 ∷ Word (codes "list") ∷ Word (codes "of") ∷ Word (codes "int") ∷ Mark 42 ∷ Mark 40 ∷ Word (codes "bool") ∷ Mark 42 ∷ Word (codes "unit") ∷ Mark 41 ∷ Mark 93 ∷ [])
    ≡ whole (shp.Sum (record { name = codes "of"; args = [] } ∷ record { name = codes "list"; args = shp.Int ∷ shp.Tuple (shp.Bool ∷ shp.Unit ∷ []) ∷ [] } ∷ [])) []
unfolding shape_at base_at others rests
variant_read = refl

-- `` [`Query of int * bool | `Abort] ``
poly_shape_read : shape_at (Mark 91 ∷ Mark 96 ∷ Word (codes "Query") ∷ Word (codes "of") ∷ Word (codes "int") ∷ Mark 42 ∷ Word (codes "bool") ∷ Mark 124 ∷ Mark 96 ∷ Word (codes "Abort") ∷ Mark 93 ∷ [])
    ≡ whole (shp.Poly (record { name = codes "Query"; arg = Some (shp.Tuple (shp.Int ∷ shp.Bool ∷ [])) } ∷ record { name = codes "Abort"; arg = None } ∷ [])) []
unfolding shape_at base_at others rests
poly_shape_read = refl

-- `int list = x` and `int * = x` in a longer line
front_read : shape_front_at (Word (codes "int") ∷ Word (codes "list") ∷ Mark 61 ∷ Word (codes "x") ∷ []) ≡ whole (shp.List shp.Int) (Mark 61 ∷ Word (codes "x") ∷ [])
unfolding shape_front_at shape_at base_at others
front_read = refl

front_refused : shape_front_at (Word (codes "int") ∷ Mark 42 ∷ Mark 61 ∷ Word (codes "x") ∷ []) ≡ bad 2 BadText
unfolding shape_front_at shape_at base_at others
front_refused = refl

-- ---- printed values

-- `some (7, true)`, with texts, chars and numbers written by whatever functions
option_value_written : (quoted_text : List ℕ → List ℕ) (quoted_char : ℕ → List ℕ) (decimal_text : ℤ → List ℕ) → decimal_text (pos 7) ≡ codes "7"
    → value_text_of quoted_text quoted_char decimal_text (opt (tuple (part [] int (part [] bool end)))) (val.Present (val.Parts (val.Num (pos 7) ∷ val.Bool true ∷ [])))
    ≡ codes "some (7, true)"
unfolding value_text_of value_pieces part_pieces more_part_pieces
option_value_written quoted_text quoted_char decimal_text seven =
    rw (out_present (val.Parts (val.Num (pos 7) ∷ val.Bool true ∷ [])), out_parts (val.Num (pos 7) ∷ val.Bool true ∷ []), out_num (pos 7), out_bool true, seven) refl

-- ---- printed shapes

int_printed : shape_printed shp.Int ≡ base (Word (codes "int"))
int_printed = ap shape_printed (sym shp.rolls-Int) ∙ layer_printed layer.Int

bool_printed : shape_printed shp.Bool ≡ base (Word (codes "bool"))
bool_printed = ap shape_printed (sym shp.rolls-Bool) ∙ layer_printed layer.Bool

text_printed : shape_printed shp.Text ≡ base (Word (codes "string"))
text_printed = ap shape_printed (sym shp.rolls-Text) ∙ layer_printed layer.Text

-- the bytes of what is printed: nothing in quotes and no number stands there
abbrev text_of_shape : Shape → List ℕ
text_of_shape s = shape_text_of (λ t. []) (λ b. []) (λ n. []) s

written : (s : Shape) (p : Printed) → shape_printed s ≡ p → text_of_shape s ≡ bytes_of (λ t. []) (λ b. []) (λ n. []) p.1
unfolding shape_text_of shape_pieces
written s p e = ap (λ x. bytes_of (λ t. []) (λ b. []) (λ n. []) x.1) e

abbrev pair : Shape
pair = shp.Tuple (shp.Int ∷ shp.Bool ∷ [])

pair_printed : shape_printed pair ≡ (true, factors (base (Word (codes "int")) ∷ base (Word (codes "bool")) ∷ []))
pair_printed = printed_Tuple (shp.Int ∷ shp.Bool ∷ []) ∙ (λ i. (true, factors (int_printed i ∷ bool_printed i ∷ [])))

option_shape_written : text_of_shape (shp.Opt pair) ≡ codes "(int * bool) option"
option_shape_written = written (shp.Opt pair) _ (printed_Opt pair ∙ (λ i. (false, as_part (pair_printed i) ++ spaced (Word (codes "option")) ∷ [])))

abbrev a_field : Field
a_field = record { name = codes "a"; shape = shp.Int }

abbrev b_field : Field
b_field = record { name = codes "b"; shape = shp.List shp.Text }

record_written : text_of_shape (shp.Fields (a_field ∷ b_field ∷ [])) ≡ codes "{a: int; b: string list}"
record_written =
    written (shp.Fields (a_field ∷ b_field ∷ [])) _ (printed_Fields (a_field ∷ b_field ∷ [])
    ∙ ((λ i. (false, record_pieces (field_printed_is a_field i ∷ field_printed_is b_field i ∷ [])))
    ∙ (λ i. (
      false,
      record_pieces ((tight (Word (codes "a")) ∷ tight (Mark 58) ∷ after_blank (int_printed i).1)
          ∷ (tight (Word (codes "b")) ∷ tight (Mark 58) ∷ after_blank (strings i).1) ∷ []),
    ))))
  where
    strings : shape_printed (shp.List shp.Text) ≡ (false, as_part (base (Word (codes "string"))) ++ spaced (Word (codes "list")) ∷ [])
    strings = printed_List shp.Text ∙ (λ i. (false, as_part (text_printed i) ++ spaced (Word (codes "list")) ∷ []))

abbrev a_case : Case
a_case = record { name = codes "A"; args = [] }

abbrev b_case : Case
b_case = record { name = codes "B"; args = shp.Int ∷ pair ∷ [] }

variant_written : text_of_shape (shp.Sum (a_case ∷ b_case ∷ [])) ≡ codes "[A | B of int * (int * bool)]"
variant_written =
    written (shp.Sum (a_case ∷ b_case ∷ [])) _ (printed_Sum (a_case ∷ b_case ∷ [])
    ∙ ((λ i. (false, variant_pieces (case_printed_is a_case i ∷ case_printed_is b_case i ∷ [])))
    ∙ (λ i. (false, variant_pieces ((tight (Word (codes "A")) ∷ []) ∷ (tight (Word (codes "B")) ∷ of_arguments (int_printed i ∷ pair_printed i ∷ [])) ∷ [])))))

abbrev query : PolyCase
query = record { name = codes "Query"; arg = Some pair }

abbrev abort : PolyCase
abort = record { name = codes "Abort"; arg = None }

poly_written : text_of_shape (shp.Poly (query ∷ abort ∷ [])) ≡ codes "[`Query of int * bool | `Abort]"
poly_written =
    written (shp.Poly (query ∷ abort ∷ [])) _ (printed_Poly (query ∷ abort ∷ [])
    ∙ ((λ i. (false, variant_pieces (poly_printed_is query i ∷ poly_printed_is abort i ∷ [])))
    ∙ (λ i. (
      false,
      variant_pieces ((tight (Mark 96) ∷ tight (Word (codes "Query")) ∷ of_argument (Some (pair_printed i)))
          ∷ (tight (Mark 96) ∷ tight (Word (codes "Abort")) ∷ []) ∷ []),
    ))))
