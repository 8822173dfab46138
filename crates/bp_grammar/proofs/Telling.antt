-- Each place of a value's bytes has one reason.
use Rattle.std.proofs.Common.{Bool, true, false, ℕ, zero, suc, ◌≤◌, List, [], ◌∷◌, arith}
use Rattle.readers.specs.Reader.{Outcome, IsByte, Any, Front, ReadsIn, Tells, NoWhy, Then, ThenWhy, Mapped, One, OneWhy, Count, CountWhy, Symbols, Done, one}
use Rattle.readers.specs.Keys.{Keyed, KeyWhy, key_at}
use Rattle.readers.proofs.Telling.{tells_then, tells_mapped, tells_none, tells_one, tells_count}
use Rattle.readers.proofs.Keys.{tells_keys}
use Rattle.bp_num.specs.declared.number.IntKind.{IntKind}
use Rattle.bp_num.specs.declared.number.IntKind.TheVariants.{Int63, Int32, Int64}
use Rattle.bp_num.specs.declared.number.Why.{Why}
use Rattle.bp_num.specs.declared.number.Why.TheVariants.{Byte, Case, Tag}
use Rattle.bp_num.specs.Forms.{IsNat, IsInt}
use Rattle.bp_num.specs.Reads.{IsNatFault, IsIntFault}
use Rattle.bp_num.specs.NumberAt.{nat_at}
use Rattle.bp_num.proofs.OneReason.{tells_nat, tells_int}
use Rattle.bp_num.proofs.FromAnswers.{nat_limit}
use Rattle.bp_num.proofs.NatRight.{right_nat}
use Rattle.bp_value.specs.declared.value.Value.TheVariants as val
use Rattle.bp_value.specs.declared.value.Sexp.TheVariants as sx
use Rattle.bp_value.specs.Form.{Form, Parts, Cases, unit, bool, char, int, int32, int64, text, opt, listed, tuple, fields, sum, poly, sexp, end, part, end_cases, case}
use Rattle.bp_grammar.specs.Spells.{unit_of, flag_of, char_of, place_of, case_count, keys_of, Sized, Counted, AtFlag, room, SpellsSexp, Spells, SpellParts, SpellCase}
use Rattle.bp_grammar.specs.Reasons.{SizedWhy, CountedWhy, FlagWhy, SexpWhy, FaultWhy, PartsWhy, CaseWhy}
use Rattle.bp_grammar.specs.Fronts.{SexpFronts, Fronts}
use Rattle.bp_grammar.specs.Reading.{read_sexp, read}
use Rattle.bp_grammar.proofs.Leaves.{flag_in, place_in}
use Rattle.bp_grammar.proofs.Right.{IsRead, ArePartsRead, AreCasesRead, keys_long, tag_in, sexp_in, form_in}

tells_sized : (m : ℕ) → Tells (Sized m) (SizedWhy m)
tells_sized m =
    tells_then IsByte (Front (IsNat m)) (IsNat m) (IsNatFault m) (nat_at m) (Symbols Any) (λ n. NoWhy) (right_nat m) (tells_nat m) (λ n t l. tells_none (Symbols Any n))

tells_counted_by : {A : Type 0} (m : ℕ) (L : A → List ℕ → Type 0) (R : List ℕ → ℕ → Why → Type 0) → ((n : ℕ) → n ≤ m → Tells (Count L n) (CountWhy L R n)) → Tells (Counted m L) (CountedWhy m L R)
tells_counted_by m L R each =
    tells_then IsByte (Front (IsNat m)) (IsNat m) (IsNatFault m) (nat_at m) (Count L) (CountWhy L R) (right_nat m) (tells_nat m) (λ n t l. each n (nat_limit m n t l))

tells_counted : {A : Type 0} (m : ℕ) (F : List ℕ → Type 0) (L : A → List ℕ → Type 0) (R : List ℕ → ℕ → Why → Type 0) (r : List ℕ → Outcome ℕ Why A)
    → ReadsIn IsByte Any F L R r → Tells L R → Tells (Counted m L) (CountedWhy m L R)
tells_counted m F L R r reads tells = tells_counted_by m L R (λ n le. tells_count IsByte F L R r reads.right tells n)

tells_flag : {A : Type 0} (L M : A → List ℕ → Type 0) (R Q : List ℕ → ℕ → Why → Type 0) → Tells L R → Tells M Q → (b : Bool) → Tells (AtFlag L M b) (FlagWhy R Q b)
tells_flag L M R Q left right false = left
tells_flag L M R Q left right true = right

tells_flagged : {A : Type 0} (w : Why) (L M : A → List ℕ → Type 0) (R Q : List ℕ → ℕ → Why → Type 0) → Tells L R → Tells M Q
    → Tells (Then (One flag_of) (AtFlag L M)) (ThenWhy (One flag_of) (OneWhy flag_of w) (FlagWhy R Q))
tells_flagged w L M R Q left right =
    tells_then IsByte (Front (One flag_of)) (One flag_of) (OneWhy flag_of w) (one flag_of w) (AtFlag L M) (FlagWhy R Q) (flag_in w).right (tells_one flag_of w)
    (λ b t l. tells_flag L M R Q left right b)

-- ---- S-expressions

sexp_layer : (m d : ℕ) → Tells (Counted (room m d) (SpellsSexp m d)) (CountedWhy (room m d) (SpellsSexp m d) (SexpWhy m d)) → Tells (SpellsSexp m (suc d)) (SexpWhy m (suc d))
unfolding SpellsSexp SexpWhy
sexp_layer m d items =
    tells_flagged Case (Mapped sx.Atom (Sized m)) (Mapped sx.List (Counted (room m d) (SpellsSexp m d))) (SizedWhy m) (CountedWhy (room m d) (SpellsSexp m d) (SexpWhy m d))
    (tells_mapped sx.Atom (Sized m) (SizedWhy m) (tells_sized m)) (tells_mapped sx.List (Counted (room m d) (SpellsSexp m d)) (CountedWhy (room m d) (SpellsSexp m d) (SexpWhy m d)) items)

tells_sexp : (m d : ℕ) → Tells (SpellsSexp m (suc d)) (SexpWhy m (suc d))
tells_sexp m zero = sexp_layer m 0 (tells_counted_by 0 (SpellsSexp m 0) (SexpWhy m 0) none)
  where
    none : (n : ℕ) → n ≤ 0 → Tells (Count (SpellsSexp m 0) n) (CountWhy (SpellsSexp m 0) (SexpWhy m 0) n)
    none zero le = tells_none (Count (SpellsSexp m 0) 0)
    none (suc n) le = absurd (omega arith)
tells_sexp m (suc d) = sexp_layer m (suc d) (tells_counted m (SexpFronts m (suc d)) (SpellsSexp m (suc d)) (SexpWhy m (suc d)) (read_sexp m (suc d)) (sexp_in m d) (tells_sexp m d))

-- ---- all forms

tells_number : (kind : IntKind) → Tells (Mapped val.Num (IsInt kind)) IsIntFault
tells_number kind = tells_mapped val.Num (IsInt kind) IsIntFault (tells_int kind)

tells_chosen : (m : ℕ) (F : List ℕ → Type 0) (L : ℕ → List ℕ → Type 0) (R : List ℕ → ℕ → Why → Type 0) (r : List ℕ → Outcome ℕ Why ℕ) (cs : Cases)
    → ReadsIn IsByte Any F L R r → Tells L R → ((place : ℕ) (t : List ℕ) → L place t → Tells (SpellCase m cs place) (CaseWhy m cs place))
    → Tells (Then L (λ place. Mapped (val.Case place) (SpellCase m cs place))) (ThenWhy L R (CaseWhy m cs))
tells_chosen m F L R r cs choice tells each =
    tells_then IsByte F L R r (λ place. Mapped (val.Case place) (SpellCase m cs place)) (CaseWhy m cs) choice.right tells
    (λ place t l. tells_mapped (val.Case place) (SpellCase m cs place) (CaseWhy m cs place) (each place t l))

mutual
  unfolding Spells FaultWhy IsRead SpellParts PartsWhy ArePartsRead SpellCase CaseWhy AreCasesRead

  pub tells_form : (m : ℕ) (f : Form) → IsRead f → Tells (Spells m f) (FaultWhy m f)
  tells_form m unit is = tells_one unit_of Byte
  tells_form m bool is = tells_mapped val.Bool (One flag_of) (OneWhy flag_of Byte) (tells_one flag_of Byte)
  tells_form m char is = tells_none (One char_of)
  tells_form m int is = tells_number Int63
  tells_form m int32 is = tells_number Int32
  tells_form m int64 is = tells_number Int64
  tells_form m text is = tells_mapped val.Text (Sized m) (SizedWhy m) (tells_sized m)
  tells_form m (opt f) is =
      tells_flagged Byte (Done val.Absent) (Mapped val.Present (Spells m f)) NoWhy (FaultWhy m f)
      (tells_none (Done val.Absent)) (tells_mapped val.Present (Spells m f) (FaultWhy m f) (tells_form m f is))
  tells_form m (listed f) is =
      tells_mapped val.Items (Counted m (Spells m f)) (CountedWhy m (Spells m f) (FaultWhy m f))
      (tells_counted m (Fronts m f) (Spells m f) (FaultWhy m f) (read m f) (form_in m f is) (tells_form m f is))
  tells_form m (tuple fs) is = tells_mapped val.Parts (SpellParts m fs) (PartsWhy m fs) (tells_parts m fs is)
  tells_form m (fields fs) is = tells_mapped val.Parts (SpellParts m fs) (PartsWhy m fs) (tells_parts m fs is)
  tells_form m (sum cs) is =
      tells_chosen m (Front (One (place_of (case_count cs)))) (One (place_of (case_count cs))) (OneWhy (place_of (case_count cs)) Case) (one (place_of (case_count cs)) Case) cs
      (place_in (case_count cs) Case is.0) (tells_one (place_of (case_count cs)) Case) (λ place t l. tells_case m cs is.1 place)
  tells_form m (poly cs) is =
      tells_chosen m (Front (Keyed (keys_of 0 cs))) (Keyed (keys_of 0 cs)) (KeyWhy 4 Tag) (key_at Tag 4 (keys_of 0 cs)) cs
      (tag_in cs is.0 is.1) (tells_keys IsByte Tag 4 (keys_of 0 cs) (keys_long 0 cs)) (λ place t l. tells_case m cs is.2 place)
  tells_form m sexp is = tells_mapped val.Sexp (SpellsSexp m 128) (SexpWhy m 128) (tells_sexp m 127)

  pub tells_parts : (m : ℕ) (fs : Parts) → ArePartsRead fs → Tells (SpellParts m fs) (PartsWhy m fs)
  tells_parts m end is = tells_none (Done [])
  tells_parts m (part name f fs) is =
      tells_then IsByte (Fronts m f) (Spells m f) (FaultWhy m f) (read m f) (λ v. Mapped (λ ws. v ∷ ws) (SpellParts m fs)) (λ v. PartsWhy m fs)
      (form_in m f is.0).right (tells_form m f is.0) (λ v t l. tells_mapped (λ ws. v ∷ ws) (SpellParts m fs) (PartsWhy m fs) (tells_parts m fs is.1))

  pub tells_case : (m : ℕ) (cs : Cases) → AreCasesRead cs → (place : ℕ) → Tells (SpellCase m cs place) (CaseWhy m cs place)
  tells_case m end_cases is place = record { one = λ p b v w x y. absurd x; silent = λ a t q b w l x. x }
  tells_case m (case name fs cs) is zero = tells_parts m fs is.0
  tells_case m (case name fs cs) is (suc place) = tells_case m cs is.1 place
