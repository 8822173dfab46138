-- Which bytes spell which value of a form, with each length of a text or list at most m (bin_prot, "Binary protocol
-- specification"). A relation by cases over the form, without position or state.
use Rattle.std.specs.Prelude.{ℕ, zero, suc, Option, Some, None, Bool, true, false, nat_lt, if◌then◌else◌, List, [], ◌∷◌}
use Rattle.readers.specs.Reader.{Any, Then, Mapped, Done, One, Count, Symbols}
use Rattle.readers.specs.Keys.{Keyed}
use Rattle.bp_num.specs.Forms.{IsNat, IsInt, signed_bytes}
use Rattle.bp_num.specs.declared.number.IntKind.TheVariants.{Int63, Int32, Int64}
use Rattle.bp_value.specs.declared.value.Value.{Value}
use Rattle.bp_value.specs.declared.value.Value.TheVariants as val
use Rattle.bp_value.specs.declared.value.Sexp.{Sexp}
use Rattle.bp_value.specs.declared.value.Sexp.TheVariants as sx
use Rattle.bp_value.specs.Tags.{tag_of}
use Rattle.bp_value.specs.Form.{Form, Parts, Cases, unit, bool, char, int, int32, int64, text, opt, listed, tuple, fields, sum, poly, sexp, end, part, end_cases, case}

-- ---- leaves of one byte

abbrev pub unit_of : ℕ → Option Value
unit_of zero = Some val.Unit
unit_of (suc b) = None

-- a bool, and whether an option has a value or an S-expression is a list
abbrev pub flag_of : ℕ → Option Bool
flag_of zero = Some false
flag_of (suc zero) = Some true
flag_of (suc (suc b)) = None

abbrev pub char_of : ℕ → Option Value
char_of b = Some (val.Char b)

-- the place of one of n cases
abbrev pub place_of : ℕ → ℕ → Option ℕ
place_of n b = if nat_lt b n then Some b else None

abbrev pub case_count : Cases → ℕ
case_count end_cases = zero
case_count (case name fs cs) = suc (case_count cs)

-- the tag bytes of each case, the first at the place n
abbrev pub keys_of : ℕ → Cases → List (ℕ × List ℕ)
keys_of n end_cases = []
keys_of n (case name fs cs) = (n, signed_bytes 4 (tag_of name)) ∷ keys_of (suc n) cs

-- ---- larger parts

-- a length, and as many bytes
abbrev pub Sized : ℕ → List ℕ → List ℕ → Type 0
Sized m t s = Then (IsNat m) (Symbols Any) t s

-- a length, and as many texts
abbrev pub Counted : {A : Type 0} → ℕ → (A → List ℕ → Type 0) → List A → List ℕ → Type 0
Counted m L vs s = Then (IsNat m) (Count L) vs s

-- one of two languages, by a flag
abbrev pub AtFlag : {A : Type 0} → (A → List ℕ → Type 0) → (A → List ℕ → Type 0) → Bool → A → List ℕ → Type 0
AtFlag L M false a s = L a s
AtFlag L M true a s = M a s

-- the language of the case at a place: of this one at place 0, of a later one at the place after it
abbrev pub AtCase : {A : Type 0} → (A → List ℕ → Type 0) → (ℕ → A → List ℕ → Type 0) → ℕ → A → List ℕ → Type 0
AtCase Here Later zero a s = Here a s
AtCase Here Later (suc place) a s = Later place a s

-- ---- S-expressions

-- how many items a list may have whose items may be d deep: none where no item may stand
abbrev pub room : ℕ → ℕ → ℕ
room m zero = zero
room m (suc d) = m

-- an S-expression of depth at most d
unfoldable pub SpellsSexp : ℕ → ℕ → Sexp → List ℕ → Type 0
SpellsSexp m zero x s = ⊥
SpellsSexp m (suc d) x s = Then (One flag_of) (AtFlag (Mapped sx.Atom (Sized m)) (Mapped sx.List (Counted (room m d) (SpellsSexp m d)))) x s

-- ---- all forms

unfoldable mutual
  pub Spells : ℕ → Form → Value → List ℕ → Type 0
  Spells m unit v s = One unit_of v s
  Spells m bool v s = Mapped val.Bool (One flag_of) v s
  Spells m char v s = One char_of v s
  Spells m int v s = Mapped val.Num (IsInt Int63) v s
  Spells m int32 v s = Mapped val.Num (IsInt Int32) v s
  Spells m int64 v s = Mapped val.Num (IsInt Int64) v s
  Spells m text v s = Mapped val.Text (Sized m) v s
  Spells m (opt f) v s = Then (One flag_of) (AtFlag (Done val.Absent) (Mapped val.Present (Spells m f))) v s
  Spells m (listed f) v s = Mapped val.Items (Counted m (Spells m f)) v s
  Spells m (tuple fs) v s = Mapped val.Parts (SpellParts m fs) v s
  Spells m (fields fs) v s = Mapped val.Parts (SpellParts m fs) v s
  Spells m (sum cs) v s = Then (One (place_of (case_count cs))) (λ place. Mapped (val.Case place) (SpellCase m cs place)) v s
  Spells m (poly cs) v s = Then (Keyed (keys_of zero cs)) (λ place. Mapped (val.Case place) (SpellCase m cs place)) v s
  Spells m sexp v s = Mapped val.Sexp (SpellsSexp m 128) v s

  -- the parts, in order
  pub SpellParts : ℕ → Parts → List Value → List ℕ → Type 0
  SpellParts m end vs s = Done [] vs s
  SpellParts m (part name f fs) vs s = Then (Spells m f) (λ v. Mapped (λ ws. v ∷ ws) (SpellParts m fs)) vs s

  -- the arguments of the case at a place
  pub SpellCase : ℕ → Cases → ℕ → List Value → List ℕ → Type 0
  SpellCase m end_cases place vs s = ⊥
  SpellCase m (case name fs cs) place vs s = AtCase (SpellParts m fs) (SpellCase m cs) place vs s
