-- The reading of each form is right: it reads just the spellings, and refuses at the first fault with its reason.
use Rattle.std.proofs.Common.{◌≡◌, refl, sym, subst, None, false, ℕ, zero, suc, ◌+◌, ◌<◌, ◌≤◌, List, [], ◌∷◌, inl, inr, arith}
use Rattle.readers.specs.Reader.{Outcome, whole, after, mapped, one, Each, IsByte, Any, Front, ReadsIn, NoWhy, Then, ThenWhy, ThenFront, Mapped, One, OneWhy, Done}
use Rattle.readers.specs.Keys.{Keyed, AllLong, AreApart, KeyWhy, key_at}
use Rattle.readers.proofs.Readers.{reads_in, then_in, meets_any, right_mapped}
use Rattle.readers.proofs.Fronts.{mapped_in, same_in, nothing_in}
use Rattle.readers.proofs.Leaves.{right_one}
use Rattle.readers.proofs.Keys.{right_keys}
use Rattle.bp_num.specs.declared.number.IntKind.{IntKind}
use Rattle.bp_num.specs.declared.number.IntKind.TheVariants.{Int63, Int32, Int64}
use Rattle.bp_num.specs.declared.number.Why.{Why}
use Rattle.bp_num.specs.declared.number.Why.TheVariants.{Byte, Case, Tag}
use Rattle.bp_num.specs.Forms.{IsInt, signed_bytes}
use Rattle.bp_num.specs.Reads.{IsIntFault}
use Rattle.bp_num.specs.NumberAt.{int_at}
use Rattle.bp_num.proofs.IntRight.{right_int}
use Rattle.bp_num.proofs.SignedBytes.{length-signed_bytes, are_signed_bytes}
use Rattle.bp_value.specs.declared.value.Value.TheVariants as val
use Rattle.bp_value.specs.declared.value.Sexp.TheVariants as sx
use Rattle.bp_value.specs.Tags.{tag_of}
use Rattle.bp_value.specs.Form.{Form, Parts, Cases, unit, bool, char, int, int32, int64, text, opt, listed, tuple, fields, sum, poly, sexp, end, part, end_cases, case}
use Rattle.bp_grammar.specs.Spells.{unit_of, flag_of, char_of, place_of, case_count, keys_of, Sized, Counted, room, SpellsSexp, Spells, SpellParts, SpellCase}
use Rattle.bp_grammar.specs.Reasons.{SizedWhy, CountedWhy, SexpWhy, FaultWhy, PartsWhy, CaseWhy}
use Rattle.bp_grammar.specs.Fronts.{IsEmpty, SizedFront, CountedFront, SexpFronts, Fronts, PartFronts, CaseFronts}
use Rattle.bp_grammar.specs.Reading.{sized_at, counted_at, read_sexp, read, read_parts, read_case}
use Rattle.bp_grammar.proofs.Leaves.{sized_in, counted_in, uncounted_in, flagged_in, place_in, place_is}

-- ---- which forms can be read

-- a variant has a case, and no two tags are alike
unfoldable mutual
  pub IsRead : Form → Type 0
  IsRead (opt f) = IsRead f
  IsRead (listed f) = IsRead f
  IsRead (tuple fs) = ArePartsRead fs
  IsRead (fields fs) = ArePartsRead fs
  IsRead (sum cs) = (0 < case_count cs) × AreCasesRead cs
  IsRead (poly cs) = (0 < case_count cs) × AreApart (keys_of 0 cs) × AreCasesRead cs
  IsRead _ = Unit {0}

  pub ArePartsRead : Parts → Type 0
  ArePartsRead end = Unit {0}
  ArePartsRead (part name f fs) = IsRead f × ArePartsRead fs

  pub AreCasesRead : Cases → Type 0
  AreCasesRead end_cases = Unit {0}
  AreCasesRead (case name fs cs) = ArePartsRead fs × AreCasesRead cs

-- ---- the tags of cases

pub keys_long : (n : ℕ) (cs : Cases) → AllLong 4 (keys_of n cs)
keys_long n end_cases = tt
keys_long n (case name fs cs) = (length-signed_bytes 4 (tag_of name), keys_long (suc n) cs)

pub keys_bytes : (n : ℕ) (cs : Cases) (p : ℕ) (s : List ℕ) → Keyed (keys_of n cs) p s → Each IsByte s
keys_bytes n end_cases p s k = absurd k
keys_bytes n (case name fs cs) p s (inl x) = subst (λ t. Each IsByte t) (sym x.1) (are_signed_bytes 4 (tag_of name))
keys_bytes n (case name fs cs) p s (inr x) = keys_bytes (suc n) cs p s x

-- a key stands at the place of a case
pub keyed_place : (n : ℕ) (cs : Cases) (p : ℕ) (s : List ℕ) → Keyed (keys_of n cs) p s → (n ≤ p) × (p < n + case_count cs)
keyed_place n end_cases p s k = absurd k
keyed_place n (case name fs cs) p s (inl x) = (omega (arith, x.0), omega (arith, x.0))
keyed_place n (case name fs cs) p s (inr x) = let y = keyed_place (suc n) cs p s x in (omega (arith, y.0), omega (arith, y.1))

pub some_key : (cs : Cases) → 0 < case_count cs → (p : ℕ) × (s : List ℕ) × Keyed (keys_of 0 cs) p s
some_key end_cases some = absurd (omega arith)
some_key (case name fs cs) some = (0, signed_bytes 4 (tag_of name), inl (refl, refl))

pub tag_in : (cs : Cases) → 0 < case_count cs → AreApart (keys_of 0 cs)
    → ReadsIn IsByte Any (Front (Keyed (keys_of 0 cs))) (Keyed (keys_of 0 cs)) (KeyWhy 4 Tag) (key_at Tag 4 (keys_of 0 cs))
tag_in cs some apart =
    let (p, s, k) = some_key cs some in
    reads_in IsByte Any (Keyed (keys_of 0 cs)) (KeyWhy 4 Tag) (key_at Tag 4 (keys_of 0 cs)) (right_keys IsByte Tag 4 (keys_of 0 cs) (keys_long 0 cs) apart (keys_bytes 0 cs) p s k)

-- ---- leaves

unit_in : (m : ℕ) → ReadsIn IsByte Any (Front (Spells m unit)) (Spells m unit) (OneWhy unit_of Byte) (one unit_of Byte)
unfolding Spells
unit_in m = reads_in IsByte Any (One unit_of) (OneWhy unit_of Byte) (one unit_of Byte) (right_one IsByte unit_of Byte 0 val.Unit refl)

bool_in : ReadsIn IsByte Any (Front (One flag_of)) (Mapped val.Bool (One flag_of)) (OneWhy flag_of Byte) (λ s. mapped val.Bool (one flag_of Byte s))
bool_in =
    mapped_in IsByte Any (Front (One flag_of)) val.Bool (One flag_of) (OneWhy flag_of Byte) (one flag_of Byte)
    (reads_in IsByte Any (One flag_of) (OneWhy flag_of Byte) (one flag_of Byte) (right_one IsByte flag_of Byte 0 false refl))

char_in : (m : ℕ) → ReadsIn IsByte Any (Front (Spells m char)) (Spells m char) NoWhy (one char_of Byte)
unfolding Spells
char_in m =
    same_in IsByte Any (Front (One char_of)) (One char_of) (One char_of) (OneWhy char_of Byte) NoWhy (one char_of Byte) (λ v s l. l) (λ v s l. l) never
    (reads_in IsByte Any (One char_of) (OneWhy char_of Byte) (one char_of Byte) (right_one IsByte char_of Byte 0 (val.Char 0) refl))
  where
    never : (p : List ℕ) (b : ℕ) (w : Why) → OneWhy char_of Byte p b w → NoWhy p b w
    never p b w y = let none : char_of b ≡ None = y.1 in cc

number_in : (kind : IntKind) → ReadsIn IsByte Any (Front (Mapped val.Num (IsInt kind))) (Mapped val.Num (IsInt kind)) IsIntFault (λ s. mapped val.Num (int_at kind s))
number_in kind =
    reads_in IsByte Any (Mapped val.Num (IsInt kind)) IsIntFault (λ s. mapped val.Num (int_at kind s))
    (right_mapped IsByte Any val.Num (IsInt kind) IsIntFault (int_at kind) (right_int kind))

text_in : (m : ℕ) → ReadsIn IsByte Any (SizedFront m) (Mapped val.Text (Sized m)) (SizedWhy m) (λ s. mapped val.Text (sized_at m s))
text_in m = mapped_in IsByte Any (SizedFront m) val.Text (Sized m) (SizedWhy m) (sized_at m) (sized_in m)

-- ---- S-expressions

-- an atom or a list whose items are read rightly
sexp_layer : (m d : ℕ) → ReadsIn IsByte Any (CountedFront (room m d) (SpellsSexp m d) (SexpFronts m d)) (Counted (room m d) (SpellsSexp m d)) (CountedWhy (room m d) (SpellsSexp m d) (SexpWhy m d)) (counted_at (room m d) (read_sexp m d))
    → ReadsIn IsByte Any (SexpFronts m (suc d)) (SpellsSexp m (suc d)) (SexpWhy m (suc d)) (read_sexp m (suc d))
unfolding SexpFronts SpellsSexp SexpWhy read_sexp
sexp_layer m d items =
    flagged_in Case (SizedFront m) (CountedFront (room m d) (SpellsSexp m d) (SexpFronts m d)) (Mapped sx.Atom (Sized m)) (Mapped sx.List (Counted (room m d) (SpellsSexp m d)))
    (SizedWhy m) (CountedWhy (room m d) (SpellsSexp m d) (SexpWhy m d)) (λ t. mapped sx.Atom (sized_at m t)) (λ t. mapped sx.List (counted_at (room m d) (read_sexp m d) t))
    (mapped_in IsByte Any (SizedFront m) sx.Atom (Sized m) (SizedWhy m) (sized_at m) (sized_in m))
    (mapped_in IsByte Any (CountedFront (room m d) (SpellsSexp m d) (SexpFronts m d)) sx.List (Counted (room m d) (SpellsSexp m d))
    (CountedWhy (room m d) (SpellsSexp m d) (SexpWhy m d)) (counted_at (room m d) (read_sexp m d)) items)

pub sexp_in : (m d : ℕ) → ReadsIn IsByte Any (SexpFronts m (suc d)) (SpellsSexp m (suc d)) (SexpWhy m (suc d)) (read_sexp m (suc d))
sexp_in m zero = sexp_layer m 0 (uncounted_in (SexpFronts m 0) (SpellsSexp m 0) (SexpWhy m 0) (read_sexp m 0))
sexp_in m (suc d) = sexp_layer m (suc d) (counted_in m (SexpFronts m (suc d)) (SpellsSexp m (suc d)) (SexpWhy m (suc d)) (read_sexp m (suc d)) (sexp_in m d))

-- ---- a choice and what it lets follow

module _ (m : ℕ) (F : List ℕ → Type 0) (L : ℕ → List ℕ → Type 0) (R : List ℕ → ℕ → Why → Type 0) (r : List ℕ → Outcome ℕ Why ℕ) (cs : Cases)
    (choice : ReadsIn IsByte Any F L R r) (within : (place : ℕ) (t : List ℕ) → L place t → place < case_count cs) where
  pub chosen_in : ((place : ℕ) → place < case_count cs → ReadsIn IsByte Any (CaseFronts m cs place) (SpellCase m cs place) (CaseWhy m cs place) (read_case m cs place))
      → ReadsIn IsByte Any (ThenFront L F (CaseFronts m cs)) (Then L (λ place. Mapped (val.Case place) (SpellCase m cs place))) (ThenWhy L R (CaseWhy m cs)) (λ s. after (r s) (λ place t. mapped (val.Case place) (read_case m cs place t)))
  chosen_in each =
      then_in IsByte Any Any F L R r (CaseFronts m cs) (λ place. Mapped (val.Case place) (SpellCase m cs place)) (CaseWhy m cs) (λ place t. mapped (val.Case place) (read_case m cs place t))
      choice
      (λ place t l. mapped_in IsByte Any (CaseFronts m cs place) (val.Case place) (SpellCase m cs place) (CaseWhy m cs place) (read_case m cs place) (each place (within place t l)))
      (λ place t l. meets_any Any (CaseFronts m cs) (λ k. Mapped (val.Case k) (SpellCase m cs k)) place)

pub place_within : (n place : ℕ) (t : List ℕ) → One (place_of n) place t → place < n
place_within n place t (b, cut, e) = (place_is n b place e).1

pub key_within : (cs : Cases) (place : ℕ) (t : List ℕ) → Keyed (keys_of 0 cs) place t → place < case_count cs
key_within cs place t k = let y = keyed_place 0 cs place t k in omega (arith, y.1)

-- ---- all forms

mutual
  unfolding Spells FaultWhy Fronts read IsRead SpellParts PartsWhy PartFronts read_parts ArePartsRead SpellCase CaseWhy CaseFronts read_case AreCasesRead

  pub form_in : (m : ℕ) (f : Form) → IsRead f → ReadsIn IsByte Any (Fronts m f) (Spells m f) (FaultWhy m f) (read m f)
  form_in m unit is = unit_in m
  form_in m bool is = bool_in
  form_in m char is = char_in m
  form_in m int is = number_in Int63
  form_in m int32 is = number_in Int32
  form_in m int64 is = number_in Int64
  form_in m text is = text_in m
  form_in m (opt f) is =
      flagged_in Byte IsEmpty (Fronts m f) (Done val.Absent) (Mapped val.Present (Spells m f)) NoWhy (FaultWhy m f) (λ t. whole val.Absent t) (λ t. mapped val.Present (read m f t))
      (nothing_in IsByte val.Absent NoWhy) (mapped_in IsByte Any (Fronts m f) val.Present (Spells m f) (FaultWhy m f) (read m f) (form_in m f is))
  form_in m (listed f) is =
      mapped_in IsByte Any (CountedFront m (Spells m f) (Fronts m f)) val.Items (Counted m (Spells m f)) (CountedWhy m (Spells m f) (FaultWhy m f)) (counted_at m (read m f))
      (counted_in m (Fronts m f) (Spells m f) (FaultWhy m f) (read m f) (form_in m f is))
  form_in m (tuple fs) is = mapped_in IsByte Any (PartFronts m fs) val.Parts (SpellParts m fs) (PartsWhy m fs) (read_parts m fs) (parts_in m fs is)
  form_in m (fields fs) is = mapped_in IsByte Any (PartFronts m fs) val.Parts (SpellParts m fs) (PartsWhy m fs) (read_parts m fs) (parts_in m fs is)
  form_in m (sum cs) is =
      chosen_in m (Front (One (place_of (case_count cs)))) (One (place_of (case_count cs))) (OneWhy (place_of (case_count cs)) Case) (one (place_of (case_count cs)) Case) cs
      (place_in (case_count cs) Case is.0) (place_within (case_count cs)) (λ place lt. case_in m cs is.1 place lt)
  form_in m (poly cs) is =
      chosen_in m (Front (Keyed (keys_of 0 cs))) (Keyed (keys_of 0 cs)) (KeyWhy 4 Tag) (key_at Tag 4 (keys_of 0 cs)) cs
      (tag_in cs is.0 is.1) (key_within cs) (λ place lt. case_in m cs is.2 place lt)
  form_in m sexp is = mapped_in IsByte Any (SexpFronts m 128) val.Sexp (SpellsSexp m 128) (SexpWhy m 128) (read_sexp m 128) (sexp_in m 127)

  pub parts_in : (m : ℕ) (fs : Parts) → ArePartsRead fs → ReadsIn IsByte Any (PartFronts m fs) (SpellParts m fs) (PartsWhy m fs) (read_parts m fs)
  parts_in m end is = nothing_in IsByte [] NoWhy
  parts_in m (part name f fs) is =
      then_in IsByte Any Any (Fronts m f) (Spells m f) (FaultWhy m f) (read m f) (λ v. PartFronts m fs) (λ v. Mapped (λ ws. v ∷ ws) (SpellParts m fs)) (λ v. PartsWhy m fs) (λ v t. mapped (λ ws. v ∷ ws) (read_parts m fs t))
      (form_in m f is.0)
      (λ v t l. mapped_in IsByte Any (PartFronts m fs) (λ ws. v ∷ ws) (SpellParts m fs) (PartsWhy m fs) (read_parts m fs) (parts_in m fs is.1))
      (λ v t l. meets_any Any (λ u. PartFronts m fs) (λ u. Mapped (λ ws. u ∷ ws) (SpellParts m fs)) v)

  pub case_in : (m : ℕ) (cs : Cases) → AreCasesRead cs → (place : ℕ) → place < case_count cs
      → ReadsIn IsByte Any (CaseFronts m cs place) (SpellCase m cs place) (CaseWhy m cs place) (read_case m cs place)
  case_in m end_cases is place lt = absurd (omega arith)
  case_in m (case name fs cs) is zero lt = parts_in m fs is.0
  case_in m (case name fs cs) is (suc place) lt = case_in m cs is.1 place (omega arith)
