-- The reading of a value's spelling: a total function of the form and the bytes.
use Rattle.std.specs.Prelude.{ℕ, zero, suc, Bool, true, false, List, [], ◌∷◌}
use Rattle.readers.specs.Reader.{Outcome, whole, more, after, mapped, one, count, symbols}
use Rattle.readers.specs.Keys.{key_at}
use Rattle.bp_num.specs.NumberAt.{nat_at, int_at}
use Rattle.bp_num.specs.declared.number.IntKind.TheVariants.{Int63, Int32, Int64}
use Rattle.bp_num.specs.declared.number.Why.{Why}
use Rattle.bp_num.specs.declared.number.Why.TheVariants.{Byte, Case, Tag}
use Rattle.bp_value.specs.declared.value.Value.{Value}
use Rattle.bp_value.specs.declared.value.Value.TheVariants as val
use Rattle.bp_value.specs.declared.value.Sexp.{Sexp}
use Rattle.bp_value.specs.declared.value.Sexp.TheVariants as sx
use Rattle.bp_value.specs.Form.{Form, Parts, Cases, unit, bool, char, int, int32, int64, text, opt, listed, tuple, fields, sum, poly, sexp, end, part, end_cases, case}
use Rattle.bp_grammar.specs.Spells.{unit_of, flag_of, char_of, place_of, case_count, keys_of, room}

abbrev pub sized_at : ℕ → List ℕ → Outcome ℕ Why (List ℕ)
sized_at m s = after (nat_at m s) symbols

abbrev pub counted_at : {A : Type 0} → ℕ → (List ℕ → Outcome ℕ Why A) → List ℕ → Outcome ℕ Why (List A)
counted_at m r s = after (nat_at m s) (count r)

abbrev pub at_flag : {A : Type 0} → (List ℕ → Outcome ℕ Why A) → (List ℕ → Outcome ℕ Why A) → Bool → List ℕ → Outcome ℕ Why A
at_flag r q false s = r s
at_flag r q true s = q s

abbrev pub at_place : {A : Type 0} → (List ℕ → Outcome ℕ Why A) → (ℕ → List ℕ → Outcome ℕ Why A) → ℕ → List ℕ → Outcome ℕ Why A
at_place here later zero s = here s
at_place here later (suc place) s = later place s

unfoldable pub read_sexp : ℕ → ℕ → List ℕ → Outcome ℕ Why Sexp
read_sexp m zero s = more
read_sexp m (suc d) s =
    after (one flag_of Case s) (at_flag (λ t. mapped sx.Atom (sized_at m t)) (λ t. mapped sx.List (counted_at (room m d) (read_sexp m d) t)))

unfoldable mutual
  pub read : ℕ → Form → List ℕ → Outcome ℕ Why Value
  read m unit s = one unit_of Byte s
  read m bool s = mapped val.Bool (one flag_of Byte s)
  read m char s = one char_of Byte s
  read m int s = mapped val.Num (int_at Int63 s)
  read m int32 s = mapped val.Num (int_at Int32 s)
  read m int64 s = mapped val.Num (int_at Int64 s)
  read m text s = mapped val.Text (sized_at m s)
  read m (opt f) s = after (one flag_of Byte s) (at_flag (λ t. whole val.Absent t) (λ t. mapped val.Present (read m f t)))
  read m (listed f) s = mapped val.Items (counted_at m (read m f) s)
  read m (tuple fs) s = mapped val.Parts (read_parts m fs s)
  read m (fields fs) s = mapped val.Parts (read_parts m fs s)
  read m (sum cs) s = after (one (place_of (case_count cs)) Case s) (λ place t. mapped (val.Case place) (read_case m cs place t))
  read m (poly cs) s = after (key_at Tag 4 (keys_of zero cs) s) (λ place t. mapped (val.Case place) (read_case m cs place t))
  read m sexp s = mapped val.Sexp (read_sexp m 128 s)

  pub read_parts : ℕ → Parts → List ℕ → Outcome ℕ Why (List Value)
  read_parts m end s = whole [] s
  read_parts m (part name f fs) s = after (read m f s) (λ v t. mapped (λ ws. v ∷ ws) (read_parts m fs t))

  pub read_case : ℕ → Cases → ℕ → List ℕ → Outcome ℕ Why (List Value)
  read_case m end_cases place s = more
  read_case m (case name fs cs) place s = at_place (read_parts m fs) (read_case m cs) place s
