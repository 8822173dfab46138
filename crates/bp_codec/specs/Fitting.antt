-- Values that can be written.
use Rattle.std.specs.Prelude.{◌≡◌, ℕ, ◌≤◌, ◌^◌, List, ◌⊎◌}
use Rattle.bp_value.specs.declared.value.Value.{Value}
use Rattle.bp_value.specs.declared.value.Value.TheVariants as val
use Rattle.bp_value.specs.Form.{Form, Parts, Cases, opt, listed, tuple, fields, sum, poly, end, part, end_cases, case}
use Rattle.bp_value.specs.Fits.{Fits, FitParts, IsMade, Anything}
use Rattle.bp_grammar.specs.Spells.{case_count}

-- v fits f within some limit on the length of each text and list
abbrev pub IsFitting : Form → Value → Type 0
IsFitting f v = (m : ℕ) × (m ≤ 2 ^ 30) × Fits m f v

-- v is an option's, or a variant's
abbrev pub IsOption : Value → Type 0
IsOption v = (v ≡ val.Absent) ⊎ IsMade val.Present Anything v

abbrev pub IsAnyCase : Value → Type 0
IsAnyCase v = (place : ℕ) × IsMade (val.Case place) Anything v

-- no variant has more cases than a byte can count
unfoldable mutual
  pub HasBytePlaces : Form → Type 0
  HasBytePlaces (opt f) = HasBytePlaces f
  HasBytePlaces (listed f) = HasBytePlaces f
  HasBytePlaces (tuple fs) = HavePartsBytePlaces fs
  HasBytePlaces (fields fs) = HavePartsBytePlaces fs
  HasBytePlaces (sum cs) = (case_count cs ≤ 256) × HaveCasesBytePlaces cs
  HasBytePlaces (poly cs) = HaveCasesBytePlaces cs
  HasBytePlaces _ = Unit {0}

  pub HavePartsBytePlaces : Parts → Type 0
  HavePartsBytePlaces end = Unit {0}
  HavePartsBytePlaces (part name f fs) = HasBytePlaces f × HavePartsBytePlaces fs

  pub HaveCasesBytePlaces : Cases → Type 0
  HaveCasesBytePlaces end_cases = Unit {0}
  HaveCasesBytePlaces (case name fs cs) = HavePartsBytePlaces fs × HaveCasesBytePlaces cs

-- v can be written as a value of f
pub record IsWritable (f : Form) (v : Value) : Type 0 where
  pub places : HasBytePlaces f
  pub limit : ℕ
  pub low : limit ≤ 2 ^ 30
  pub fits : Fits limit f v

-- and so can vs as the values of parts
pub record AreWritable (fs : Parts) (vs : List Value) : Type 0 where
  pub places : HavePartsBytePlaces fs
  pub limit : ℕ
  pub low : limit ≤ 2 ^ 30
  pub fits : FitParts limit fs vs
