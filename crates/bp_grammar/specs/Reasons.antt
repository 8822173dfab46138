-- Why a byte is at fault: it is the first that no value of a form goes on with, and the part that it stands in gives the reason.
use Rattle.std.specs.Prelude.{ℕ, zero, suc, Bool, true, false, List}
use Rattle.readers.specs.Reader.{NoWhy, ThenWhy, One, OneWhy, CountWhy}
use Rattle.readers.specs.Keys.{Keyed, KeyWhy}
use Rattle.bp_num.specs.Forms.{IsNat}
use Rattle.bp_num.specs.Reads.{IsNatFault, IsIntFault}
use Rattle.bp_num.specs.declared.number.Why.{Why}
use Rattle.bp_num.specs.declared.number.Why.TheVariants.{Byte, Case, Tag}
use Rattle.bp_value.specs.Form.{Form, Parts, Cases, unit, bool, char, int, int32, int64, text, opt, listed, tuple, fields, sum, poly, sexp, end, part, end_cases, case}
use Rattle.bp_grammar.specs.Spells.{unit_of, flag_of, place_of, case_count, keys_of, room, SpellsSexp, Spells}

-- a length, or a byte of a text, which is never at fault
abbrev pub SizedWhy : ℕ → List ℕ → ℕ → Why → Type 0
SizedWhy m p b w = ThenWhy (IsNat m) (IsNatFault m) (λ n. NoWhy) p b w

abbrev pub CountedWhy : {A : Type 0} → ℕ → (A → List ℕ → Type 0) → (List ℕ → ℕ → Why → Type 0) → List ℕ → ℕ → Why → Type 0
CountedWhy m L R p b w = ThenWhy (IsNat m) (IsNatFault m) (CountWhy L R) p b w

abbrev pub FlagWhy : (List ℕ → ℕ → Why → Type 0) → (List ℕ → ℕ → Why → Type 0) → Bool → List ℕ → ℕ → Why → Type 0
FlagWhy R Q false p b w = R p b w
FlagWhy R Q true p b w = Q p b w

abbrev pub PlaceWhy : (List ℕ → ℕ → Why → Type 0) → (ℕ → List ℕ → ℕ → Why → Type 0) → ℕ → List ℕ → ℕ → Why → Type 0
PlaceWhy Here Later zero p b w = Here p b w
PlaceWhy Here Later (suc place) p b w = Later place p b w

unfoldable pub SexpWhy : ℕ → ℕ → List ℕ → ℕ → Why → Type 0
SexpWhy m zero p b w = ⊥
SexpWhy m (suc d) p b w =
    ThenWhy (One flag_of) (OneWhy flag_of Case) (FlagWhy (SizedWhy m) (CountedWhy (room m d) (SpellsSexp m d) (SexpWhy m d))) p b w

unfoldable mutual
  -- the byte b is at fault after the bytes p
  pub FaultWhy : ℕ → Form → List ℕ → ℕ → Why → Type 0
  FaultWhy m unit p b w = OneWhy unit_of Byte p b w
  FaultWhy m bool p b w = OneWhy flag_of Byte p b w
  FaultWhy m char p b w = NoWhy p b w
  FaultWhy m int p b w = IsIntFault p b w
  FaultWhy m int32 p b w = IsIntFault p b w
  FaultWhy m int64 p b w = IsIntFault p b w
  FaultWhy m text p b w = SizedWhy m p b w
  FaultWhy m (opt f) p b w = ThenWhy (One flag_of) (OneWhy flag_of Byte) (FlagWhy NoWhy (FaultWhy m f)) p b w
  FaultWhy m (listed f) p b w = CountedWhy m (Spells m f) (FaultWhy m f) p b w
  FaultWhy m (tuple fs) p b w = PartsWhy m fs p b w
  FaultWhy m (fields fs) p b w = PartsWhy m fs p b w
  FaultWhy m (sum cs) p b w = ThenWhy (One (place_of (case_count cs))) (OneWhy (place_of (case_count cs)) Case) (CaseWhy m cs) p b w
  FaultWhy m (poly cs) p b w = ThenWhy (Keyed (keys_of zero cs)) (KeyWhy 4 Tag) (CaseWhy m cs) p b w
  FaultWhy m sexp p b w = SexpWhy m 128 p b w

  pub PartsWhy : ℕ → Parts → List ℕ → ℕ → Why → Type 0
  PartsWhy m end p b w = NoWhy p b w
  PartsWhy m (part name f fs) p b w = ThenWhy (Spells m f) (FaultWhy m f) (λ v. PartsWhy m fs) p b w

  pub CaseWhy : ℕ → Cases → ℕ → List ℕ → ℕ → Why → Type 0
  CaseWhy m end_cases place p b w = ⊥
  CaseWhy m (case name fs cs) place p b w = PlaceWhy (PartsWhy m fs) (CaseWhy m cs) place p b w
