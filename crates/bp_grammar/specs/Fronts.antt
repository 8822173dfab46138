-- What begins a spelling, part by part. A part is begun only after spellings of the parts before it.
use Rattle.std.specs.Prelude.{◌≡◌, ℕ, zero, suc, Bool, true, false, List, []}
use Rattle.readers.specs.Reader.{Any, Front, ThenFront, One, CountFront, Symbols}
use Rattle.readers.specs.Keys.{Keyed}
use Rattle.bp_num.specs.Forms.{IsNat}
use Rattle.bp_value.specs.Form.{Form, Parts, Cases, unit, bool, char, int, int32, int64, text, opt, listed, tuple, fields, sum, poly, sexp, end, part, end_cases, case}
use Rattle.bp_grammar.specs.Spells.{flag_of, place_of, case_count, keys_of, room, SpellsSexp, Spells}

abbrev pub IsEmpty : List ℕ → Type 0
IsEmpty p = p ≡ []

abbrev pub SizedFront : ℕ → List ℕ → Type 0
SizedFront m p = ThenFront (IsNat m) (Front (IsNat m)) (λ n. Front (Symbols Any n)) p

abbrev pub CountedFront : {A : Type 0} → ℕ → (A → List ℕ → Type 0) → (List ℕ → Type 0) → List ℕ → Type 0
CountedFront m L F p = ThenFront (IsNat m) (Front (IsNat m)) (CountFront L F) p

abbrev pub FlagFront : (List ℕ → Type 0) → (List ℕ → Type 0) → Bool → List ℕ → Type 0
FlagFront F G false p = F p
FlagFront F G true p = G p

abbrev pub PlaceFront : (List ℕ → Type 0) → (ℕ → List ℕ → Type 0) → ℕ → List ℕ → Type 0
PlaceFront Here Later zero p = Here p
PlaceFront Here Later (suc place) p = Later place p

unfoldable pub SexpFronts : ℕ → ℕ → List ℕ → Type 0
SexpFronts m zero p = ⊥
SexpFronts m (suc d) p =
    ThenFront (One flag_of) (Front (One flag_of)) (FlagFront (SizedFront m) (CountedFront (room m d) (SpellsSexp m d) (SexpFronts m d))) p

unfoldable mutual
  pub Fronts : ℕ → Form → List ℕ → Type 0
  Fronts m unit p = Front (Spells m unit) p
  Fronts m bool p = Front (One flag_of) p
  Fronts m char p = Front (Spells m char) p
  Fronts m int p = Front (Spells m int) p
  Fronts m int32 p = Front (Spells m int32) p
  Fronts m int64 p = Front (Spells m int64) p
  Fronts m text p = SizedFront m p
  Fronts m (opt f) p = ThenFront (One flag_of) (Front (One flag_of)) (FlagFront IsEmpty (Fronts m f)) p
  Fronts m (listed f) p = CountedFront m (Spells m f) (Fronts m f) p
  Fronts m (tuple fs) p = PartFronts m fs p
  Fronts m (fields fs) p = PartFronts m fs p
  Fronts m (sum cs) p = ThenFront (One (place_of (case_count cs))) (Front (One (place_of (case_count cs)))) (CaseFronts m cs) p
  Fronts m (poly cs) p = ThenFront (Keyed (keys_of zero cs)) (Front (Keyed (keys_of zero cs))) (CaseFronts m cs) p
  Fronts m sexp p = SexpFronts m 128 p

  pub PartFronts : ℕ → Parts → List ℕ → Type 0
  PartFronts m end p = IsEmpty p
  PartFronts m (part name f fs) p = ThenFront (Spells m f) (Fronts m f) (λ v. PartFronts m fs) p

  pub CaseFronts : ℕ → Cases → ℕ → List ℕ → Type 0
  CaseFronts m end_cases place p = ⊥
  CaseFronts m (case name fs cs) place p = PlaceFront (PartFronts m fs) (CaseFronts m cs) place p
