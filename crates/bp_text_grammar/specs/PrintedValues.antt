-- The printed text of a value. Of a value that does not fit the form it is some list, of which nothing is said.
use Rattle.std.specs.Prelude.{ℕ, ℤ, zero, suc, if◌then◌else◌, List, [], ◌∷◌, ◌++◌, codes}
use Rattle.bp_value.specs.declared.value.Value.{Value, out-Value}
use Rattle.bp_value.specs.declared.value.Value.TheOpen.{Value-F}
use Rattle.bp_value.specs.declared.value.Value.TheOpen as layer
use Rattle.bp_value.specs.declared.value.Sexp.{Sexp, fold-Sexp}
use Rattle.bp_value.specs.declared.value.Sexp.TheOpen.{Sexp-F}
use Rattle.bp_value.specs.declared.value.Sexp.TheOpen as sexp_layer
use Rattle.bp_value.specs.Form.{Form, Parts, Cases, unit, bool, char, int, int32, int64, text, opt, listed, tuple, fields, sum, poly, sexp, end, part, end_cases, case}
use Rattle.bp_text_grammar.specs.Tokens.{Token, Word, Number, Text, Char, Mark}
use Rattle.bp_text_grammar.specs.Texts.{round_open, round_close, comma, semicolon, equals, square_open, square_close, backtick, curly_open, curly_close}
use Rattle.bp_text_grammar.specs.PrintedPieces.{Piece, tight, spaced, after_blank, tokens_of, list_pieces, bytes_of}

-- ---- S-expressions: the items with a blank between them

abbrev pub more_items : List (List Piece) → List Piece
more_items [] = tight (Mark round_close) ∷ []
more_items (s ∷ ss) = after_blank s ++ more_items ss

abbrev pub all_items : List (List Piece) → List Piece
all_items [] = tight (Mark round_close) ∷ []
all_items (s ∷ ss) = s ++ more_items ss

-- one layer, whose items are printed already
abbrev pub print_sexp_step : Sexp-F (List Piece) → List Piece
print_sexp_step (sexp_layer.Atom t) = tight (Text t) ∷ []
print_sexp_step (sexp_layer.List ss) = tight (Mark round_open) ∷ all_items ss

unfoldable pub sexp_pieces : Sexp → List Piece
sexp_pieces s = fold-Sexp (List Piece) print_sexp_step s

-- ---- values, by the layer that a form looks for

abbrev pub bool_pieces : Value-F Value → List Piece
bool_pieces (layer.Bool b) = tight (Word (if b then codes "true" else codes "false")) ∷ []
bool_pieces _ = []

abbrev pub char_pieces : Value-F Value → List Piece
char_pieces (layer.Char b) = tight (Char b) ∷ []
char_pieces _ = []

abbrev pub number_pieces : Value-F Value → List Piece
number_pieces (layer.Num n) = tight (Number n) ∷ []
number_pieces _ = []

abbrev pub text_pieces : Value-F Value → List Piece
text_pieces (layer.Text t) = tight (Text t) ∷ []
text_pieces _ = []

abbrev pub option_pieces : (Value → List Piece) → Value-F Value → List Piece
option_pieces w layer.Absent = tight (Word (codes "none")) ∷ []
option_pieces w (layer.Present v) = tight (Word (codes "some")) ∷ after_blank (w v)
option_pieces w _ = []

abbrev pub items_pieces : (Value → List Piece) → Value-F Value → List Piece
items_pieces w (layer.Items vs) = tight (Mark square_open) ∷ list_pieces (tight (Mark semicolon)) square_close w vs
items_pieces w _ = []

abbrev pub parts_pieces : (List Value → List Piece) → Value-F Value → List Piece
parts_pieces w (layer.Parts vs) = w vs
parts_pieces w _ = []

abbrev pub case_pieces : (ℕ → List ℕ) → (ℕ → List Value → List Piece) → Value-F Value → List Piece
case_pieces name w (layer.Case place vs) = tight (Word (name place)) ∷ w place vs
case_pieces name w _ = []

abbrev pub sexp_value_pieces : Value-F Value → List Piece
sexp_value_pieces (layer.Sexp s) = sexp_pieces s
sexp_value_pieces _ = []

-- the name of the case at a place
abbrev pub name_at : Cases → ℕ → List ℕ
name_at end_cases place = []
name_at (case name fs cs) zero = name
name_at (case name fs cs) (suc place) = name_at cs place

-- what the case at a place has printed: this one at place 0, a later one at the place after it
abbrev pub printed_at : {A : Type 0} → (A → List Piece) → (ℕ → A → List Piece) → ℕ → A → List Piece
printed_at here later zero vs = here vs
printed_at here later (suc place) vs = later place vs

-- the name of a field, and `=` with a blank on either side
abbrev pub labelled : List ℕ → List Piece → List Piece
labelled name ps = tight (Word name) ∷ spaced (Mark equals) ∷ after_blank ps

-- ---- all forms

unfoldable mutual
  pub value_pieces : Form → Value → List Piece
  value_pieces unit v = tight (Mark round_open) ∷ tight (Mark round_close) ∷ []
  value_pieces bool v = bool_pieces (out-Value v)
  value_pieces char v = char_pieces (out-Value v)
  value_pieces int v = number_pieces (out-Value v)
  value_pieces int32 v = number_pieces (out-Value v)
  value_pieces int64 v = number_pieces (out-Value v)
  value_pieces text v = text_pieces (out-Value v)
  value_pieces (opt f) v = option_pieces (value_pieces f) (out-Value v)
  value_pieces (listed f) v = items_pieces (value_pieces f) (out-Value v)
  value_pieces (tuple fs) v = tight (Mark round_open) ∷ parts_pieces (part_pieces fs) (out-Value v)
  value_pieces (fields fs) v = tight (Mark curly_open) ∷ parts_pieces (field_pieces fs) (out-Value v)
  value_pieces (sum cs) v = case_pieces (name_at cs) (argument_pieces_at cs) (out-Value v)
  value_pieces (poly cs) v = tight (Mark backtick) ∷ case_pieces (name_at cs) (argument_pieces_at cs) (out-Value v)
  value_pieces sexp v = sexp_value_pieces (out-Value v)

  -- the parts of a tuple, and `)`
  pub part_pieces : Parts → List Value → List Piece
  part_pieces end vs = tight (Mark round_close) ∷ []
  part_pieces (part name f fs) [] = []
  part_pieces (part name f fs) (v ∷ vs) = value_pieces f v ++ more_part_pieces fs vs

  pub more_part_pieces : Parts → List Value → List Piece
  more_part_pieces end vs = tight (Mark round_close) ∷ []
  more_part_pieces (part name f fs) [] = []
  more_part_pieces (part name f fs) (v ∷ vs) = tight (Mark comma) ∷ after_blank (value_pieces f v) ++ more_part_pieces fs vs

  -- the fields of a record, and `}`
  pub field_pieces : Parts → List Value → List Piece
  field_pieces end vs = tight (Mark curly_close) ∷ []
  field_pieces (part name f fs) [] = []
  field_pieces (part name f fs) (v ∷ vs) = labelled name (value_pieces f v) ++ more_field_pieces fs vs

  pub more_field_pieces : Parts → List Value → List Piece
  more_field_pieces end vs = tight (Mark curly_close) ∷ []
  more_field_pieces (part name f fs) [] = []
  more_field_pieces (part name f fs) (v ∷ vs) =
      tight (Mark semicolon) ∷ after_blank (labelled name (value_pieces f v)) ++ more_field_pieces fs vs

  -- the arguments of the case at a place
  pub argument_pieces_at : Cases → ℕ → List Value → List Piece
  argument_pieces_at end_cases place vs = []
  argument_pieces_at (case name fs cs) place vs = printed_at (argument_pieces fs) (argument_pieces_at cs) place vs

  pub argument_pieces : Parts → List Value → List Piece
  argument_pieces end vs = []
  argument_pieces (part name f fs) [] = []
  argument_pieces (part name f fs) (v ∷ vs) = tight (Mark round_open) ∷ value_pieces f v ++ more_part_pieces fs vs

-- the tokens of the printed text
unfoldable pub value_tokens : Form → Value → List Token
value_tokens f v = tokens_of (value_pieces f v)

-- its bytes, by those of texts and chars in quotes and of decimals
unfoldable pub value_text_of : (List ℕ → List ℕ) → (ℕ → List ℕ) → (ℤ → List ℕ) → Form → Value → List ℕ
value_text_of quoted_text quoted_char decimal_text f v = bytes_of quoted_text quoted_char decimal_text (value_pieces f v)
