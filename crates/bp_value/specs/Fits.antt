-- Which values fit a form, within a limit m on the length of each text and list.
use Rattle.std.specs.Prelude.{◌≡◌, ℕ, zero, suc, ℤ, pos, negsuc, ◌-◌, ◌≤ℤ◌, ◌≤◌, ◌^◌, List, [], ◌∷◌, length, ◌⊎◌}
use Rattle.std.specs.List.{All}
use Rattle.bp_value.specs.declared.value.Value.{Value}
use Rattle.bp_value.specs.declared.value.Value.TheVariants as val
use Rattle.bp_value.specs.declared.value.Sexp.{Sexp}
use Rattle.bp_value.specs.declared.value.Sexp.TheVariants as sx
use Rattle.bp_value.specs.Limits.{deepest_sexp}
use Rattle.bp_value.specs.Form.{Form, Parts, Cases, unit, bool, char, int, int32, int64, text, opt, listed, tuple, fields, sum, poly, sexp, end, part, end_cases, case}

-- v is what `made` makes of something with the property P
abbrev pub IsMade : {A V : Type 0} → (A → V) → (A → Type 0) → V → Type 0
IsMade {A = A} made P v = (a : A) × (v ≡ made a) × P a

abbrev pub Anything : {A : Type 0} → A → Type 0
Anything a = Unit {0}

-- a number of so many bits and a sign: from -2^bits to 2^bits - 1
abbrev pub InRange : ℕ → ℤ → Type 0
InRange bits n = (negsuc (2 ^ bits - 1) ≤ℤ n) × (n ≤ℤ pos (2 ^ bits - 1))

-- an S-expression of at most this depth, each of whose atoms and lists has at most m bytes or items
unfoldable pub FitsSexp : ℕ → ℕ → Sexp → Type 0
FitsSexp m zero s = ⊥
FitsSexp m (suc depth) s =
    IsMade sx.Atom (λ t. length t ≤ m) s
    ⊎ IsMade sx.List (λ ss. (length ss ≤ m) × All (FitsSexp m depth) ss) s

-- what holds of the case at a place: of this one at place 0, of a later one at the place after it
abbrev pub AtPlace : (List Value → Type 0) → (ℕ → List Value → Type 0) → ℕ → List Value → Type 0
AtPlace Here Later zero = Here
AtPlace Here Later (suc place) = Later place

unfoldable mutual
  pub Fits : ℕ → Form → Value → Type 0
  Fits m unit v = v ≡ val.Unit
  Fits m bool v = IsMade val.Bool Anything v
  Fits m char v = IsMade val.Char Anything v
  Fits m int v = IsMade val.Num (InRange 62) v
  Fits m int32 v = IsMade val.Num (InRange 31) v
  Fits m int64 v = IsMade val.Num (InRange 63) v
  Fits m text v = IsMade val.Text (λ t. length t ≤ m) v
  Fits m (opt f) v = (v ≡ val.Absent) ⊎ IsMade val.Present (Fits m f) v
  Fits m (listed f) v = IsMade val.Items (λ vs. (length vs ≤ m) × All (Fits m f) vs) v
  Fits m (tuple fs) v = IsMade val.Parts (FitParts m fs) v
  Fits m (fields fs) v = IsMade val.Parts (FitParts m fs) v
  Fits m (sum cs) v = (place : ℕ) × IsMade (val.Case place) (FitCase m cs place) v
  Fits m (poly cs) v = (place : ℕ) × IsMade (val.Case place) (FitCase m cs place) v
  Fits m sexp v = IsMade val.Sexp (FitsSexp m deepest_sexp) v

  -- the values of the parts, in order
  pub FitParts : ℕ → Parts → List Value → Type 0
  FitParts m end [] = Unit {0}
  FitParts m end (v ∷ vs) = ⊥
  FitParts m (part name f fs) [] = ⊥
  FitParts m (part name f fs) (v ∷ vs) = Fits m f v × FitParts m fs vs

  -- the arguments of the case at a place
  pub FitCase : ℕ → Cases → ℕ → List Value → Type 0
  FitCase m end_cases place vs = ⊥
  FitCase m (case name fs cs) place vs = AtPlace (FitParts m fs) (FitCase m cs) place vs
