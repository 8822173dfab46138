-- The shortest spelling of a value: each number and each length in its shortest form. Of a value that does not fit the form it
-- is some list, of which nothing is said.
use Rattle.std.specs.Prelude.{ℕ, zero, suc, Bool, true, false, List, [], ◌∷◌, ◌++◌, length}
use Rattle.std.specs.List.{flat_map}
use Rattle.bp_num.specs.Forms.{signed_bytes, written_nat, written_int}
use Rattle.bp_value.specs.declared.value.Value.{Value, out-Value}
use Rattle.bp_value.specs.declared.value.Value.TheOpen.{Value-F}
use Rattle.bp_value.specs.declared.value.Value.TheOpen as layer
use Rattle.bp_value.specs.declared.value.Sexp.{Sexp, fold-Sexp}
use Rattle.bp_value.specs.declared.value.Sexp.TheOpen.{Sexp-F}
use Rattle.bp_value.specs.declared.value.Sexp.TheOpen as sexp_layer
use Rattle.bp_value.specs.Tags.{tag_of}
use Rattle.bp_value.specs.Form.{Form, Parts, Cases, unit, bool, char, int, int32, int64, text, opt, listed, tuple, fields, sum, poly, sexp, end, part, end_cases, case}

-- ---- parts of spellings

abbrev pub written_flag : Bool → List ℕ
written_flag false = 0 ∷ []
written_flag true = 1 ∷ []

-- a length, and as many bytes
abbrev pub written_bytes : List ℕ → List ℕ
written_bytes t = written_nat (length t) ++ t

-- a length, and as many spellings
abbrev pub written_list : {A : Type 0} → (A → List ℕ) → List A → List ℕ
written_list w vs = written_nat (length vs) ++ flat_map w vs

-- the tag bytes of the case at a place
abbrev pub written_tag : Cases → ℕ → List ℕ
written_tag end_cases place = []
written_tag (case name fs cs) zero = signed_bytes 4 (tag_of name)
written_tag (case name fs cs) (suc place) = written_tag cs place

-- ---- S-expressions

-- one layer, whose items are spelled already
abbrev pub sexp_step : Sexp-F (List ℕ) → List ℕ
sexp_step (sexp_layer.Atom t) = 0 ∷ written_bytes t
sexp_step (sexp_layer.List ss) = 1 ∷ written_list (λ s. s) ss

unfoldable pub written_sexp : Sexp → List ℕ
written_sexp s = fold-Sexp (List ℕ) sexp_step s

-- ---- values, by the layer that a form looks for

abbrev pub bool_bytes : Value-F Value → List ℕ
bool_bytes (layer.Bool b) = written_flag b
bool_bytes _ = []

abbrev pub char_bytes : Value-F Value → List ℕ
char_bytes (layer.Char b) = b ∷ []
char_bytes _ = []

abbrev pub number_bytes : Value-F Value → List ℕ
number_bytes (layer.Num n) = written_int n
number_bytes _ = []

abbrev pub text_bytes : Value-F Value → List ℕ
text_bytes (layer.Text t) = written_bytes t
text_bytes _ = []

abbrev pub option_bytes : (Value → List ℕ) → Value-F Value → List ℕ
option_bytes w layer.Absent = written_flag false
option_bytes w (layer.Present v) = written_flag true ++ w v
option_bytes w _ = []

abbrev pub list_bytes : (Value → List ℕ) → Value-F Value → List ℕ
list_bytes w (layer.Items vs) = written_list w vs
list_bytes w _ = []

abbrev pub parts_bytes : (List Value → List ℕ) → Value-F Value → List ℕ
parts_bytes w (layer.Parts vs) = w vs
parts_bytes w _ = []

abbrev pub case_bytes : (ℕ → List ℕ) → (ℕ → List Value → List ℕ) → Value-F Value → List ℕ
case_bytes choice w (layer.Case place vs) = choice place ++ w place vs
case_bytes choice w _ = []

abbrev pub sexp_bytes : Value-F Value → List ℕ
sexp_bytes (layer.Sexp s) = written_sexp s
sexp_bytes _ = []

-- what the case at a place has written: this one at place 0, a later one at the place after it
abbrev pub written_at : {A : Type 0} → (A → List ℕ) → (ℕ → A → List ℕ) → ℕ → A → List ℕ
written_at here later zero vs = here vs
written_at here later (suc place) vs = later place vs

-- ---- all forms

unfoldable mutual
  pub written : Form → Value → List ℕ
  written unit v = 0 ∷ []
  written bool v = bool_bytes (out-Value v)
  written char v = char_bytes (out-Value v)
  written int v = number_bytes (out-Value v)
  written int32 v = number_bytes (out-Value v)
  written int64 v = number_bytes (out-Value v)
  written text v = text_bytes (out-Value v)
  written (opt f) v = option_bytes (written f) (out-Value v)
  written (listed f) v = list_bytes (written f) (out-Value v)
  written (tuple fs) v = parts_bytes (written_parts fs) (out-Value v)
  written (fields fs) v = parts_bytes (written_parts fs) (out-Value v)
  written (sum cs) v = case_bytes (λ place. place ∷ []) (written_case cs) (out-Value v)
  written (poly cs) v = case_bytes (written_tag cs) (written_case cs) (out-Value v)
  written sexp v = sexp_bytes (out-Value v)

  -- the parts, in order
  pub written_parts : Parts → List Value → List ℕ
  written_parts end vs = []
  written_parts (part name f fs) [] = []
  written_parts (part name f fs) (v ∷ vs) = written f v ++ written_parts fs vs

  -- the arguments of the case at a place
  pub written_case : Cases → ℕ → List Value → List ℕ
  written_case end_cases place vs = []
  written_case (case name fs cs) place vs = written_at (written_parts fs) (written_case cs) place vs
