-- Each form that can be read has a spelling.
use Rattle.std.proofs.Common.{refl, false, ℕ, zero, suc, ◌<◌, List, [], ◌∷◌, ◌++◌, inl, arith, lit<}
use Rattle.readers.specs.Reader.{Any, Then, Mapped, Done, One, Count, Symbols}
use Rattle.readers.specs.Keys.{Keyed}
use Rattle.readers.proofs.Runs.{padding, padded}
use Rattle.bp_num.specs.declared.number.IntKind.{IntKind}
use Rattle.bp_num.specs.declared.number.IntKind.TheVariants.{Int63, Int32, Int64}
use Rattle.bp_num.specs.Forms.{IsNat, IsInt}
use Rattle.bp_value.specs.declared.value.Value.TheVariants as val
use Rattle.bp_value.specs.declared.value.Sexp.TheVariants as sx
use Rattle.bp_value.specs.Form.{Form, Parts, Cases, unit, bool, char, int, int32, int64, text, opt, listed, tuple, fields, sum, poly, sexp, end, part, end_cases, case}
use Rattle.bp_grammar.specs.Spells.{flag_of, place_of, case_count, keys_of, Sized, Counted, AtFlag, room, SpellsSexp, Spells, SpellParts, SpellCase}
use Rattle.bp_grammar.proofs.Leaves.{place_some}
use Rattle.bp_grammar.proofs.Right.{IsRead, ArePartsRead, AreCasesRead, keyed_place, some_key}

-- a language has a text
abbrev pub HasText : {A : Type 0} → (A → List ℕ → Type 0) → Type 0
HasText {A = A} L = (a : A) × (s : List ℕ) × L a s

then_text : {A B : Type 0} (L : A → List ℕ → Type 0) (M : A → B → List ℕ → Type 0) (a : A) (t : List ℕ) → L a t → HasText (M a) → HasText (Then L M)
then_text L M a t l (b, u, m) = (b, t ++ u, (a, t, u, refl, l, m))

pub mapped_text : {A B : Type 0} (g : A → B) (L : A → List ℕ → Type 0) → HasText L → HasText (Mapped g L)
mapped_text g L (a, s, l) = (g a, s, (a, refl, l))

zero_nat : (m : ℕ) → IsNat m 0 (0 ∷ [])
zero_nat m = inl (lit< tt, omega arith, refl)

pub counted_text : {A : Type 0} (m : ℕ) (L : A → List ℕ → Type 0) → HasText (Counted m L)
counted_text m L = then_text (IsNat m) (Count L) 0 (0 ∷ []) (zero_nat m) ([], [], (refl, refl))

pub sized_text : (m : ℕ) → HasText (Sized m)
sized_text m = then_text (IsNat m) (Symbols Any) 0 (0 ∷ []) (zero_nat m) ([], [], (refl, refl, tt))

pub symbols_text : (n : ℕ) → HasText (Symbols Any n)
symbols_text n = let p = padded Any 0 tt n in (padding 0 n, padding 0 n, (refl, p.0, p.1))

pub count_text : {A : Type 0} (L : A → List ℕ → Type 0) → HasText L → (n : ℕ) → HasText (Count L n)
count_text L has zero = ([], [], (refl, refl))
count_text L (a, s, l) (suc n) =
    then_text L (λ v. Mapped (λ us. v ∷ us) (Count L n)) a s l (mapped_text (λ us. a ∷ us) (Count L n) (count_text L (a, s, l) n))

pub sexp_text : (m d : ℕ) → HasText (SpellsSexp m (suc d))
unfolding SpellsSexp
sexp_text m d =
    then_text (One flag_of) (AtFlag (Mapped sx.Atom (Sized m)) (Mapped sx.List (Counted (room m d) (SpellsSexp m d)))) false (0 ∷ []) (0, refl, refl)
    (mapped_text sx.Atom (Sized m) (sized_text m))

zero_int : (kind : IntKind) → HasText (Mapped val.Num (IsInt kind))
zero_int Int63 = (val.Num _, 0 ∷ [], (_, refl, (lit< tt, inl (0, lit< tt, refl, refl))))
zero_int Int32 = (val.Num _, 0 ∷ [], (_, refl, (lit< tt, inl (0, lit< tt, refl, refl))))
zero_int Int64 = (val.Num _, 0 ∷ [], (_, refl, (lit< tt, inl (0, lit< tt, refl, refl))))

mutual
  unfolding Spells IsRead SpellParts ArePartsRead SpellCase AreCasesRead

  pub form_text : (m : ℕ) (f : Form) → IsRead f → HasText (Spells m f)
  form_text m unit is = (val.Unit, 0 ∷ [], (0, refl, refl))
  form_text m bool is = mapped_text val.Bool (One flag_of) (false, 0 ∷ [], (0, refl, refl))
  form_text m char is = (val.Char 0, 0 ∷ [], (0, refl, refl))
  form_text m int is = zero_int Int63
  form_text m int32 is = zero_int Int32
  form_text m int64 is = zero_int Int64
  form_text m text is = mapped_text val.Text (Sized m) (sized_text m)
  form_text m (opt f) is =
      then_text (One flag_of) (AtFlag (Done val.Absent) (Mapped val.Present (Spells m f))) false (0 ∷ []) (0, refl, refl) (val.Absent, [], (refl, refl))
  form_text m (listed f) is = mapped_text val.Items (Counted m (Spells m f)) (counted_text m (Spells m f))
  form_text m (tuple fs) is = mapped_text val.Parts (SpellParts m fs) (parts_text m fs is)
  form_text m (fields fs) is = mapped_text val.Parts (SpellParts m fs) (parts_text m fs is)
  form_text m (sum cs) is =
      then_text (One (place_of (case_count cs))) (λ place. Mapped (val.Case place) (SpellCase m cs place)) 0 (0 ∷ []) (0, refl, place_some (case_count cs) 0 is.0)
      (mapped_text (val.Case 0) (SpellCase m cs 0) (case_text m cs is.1 0 is.0))
  form_text m (poly cs) is =
      let (p, s, k) = some_key cs is.0 in
      let within = keyed_place 0 cs p s k in
      then_text (Keyed (keys_of 0 cs)) (λ place. Mapped (val.Case place) (SpellCase m cs place)) p s k
      (mapped_text (val.Case p) (SpellCase m cs p) (case_text m cs is.2 p (omega (arith, within.1))))
  form_text m sexp is = mapped_text val.Sexp (SpellsSexp m 128) (sexp_text m 127)

  pub parts_text : (m : ℕ) (fs : Parts) → ArePartsRead fs → HasText (SpellParts m fs)
  parts_text m end is = ([], [], (refl, refl))
  parts_text m (part name f fs) is =
      let (v, t, l) = form_text m f is.0 in
      then_text (Spells m f) (λ u. Mapped (λ ws. u ∷ ws) (SpellParts m fs)) v t l (mapped_text (λ ws. v ∷ ws) (SpellParts m fs) (parts_text m fs is.1))

  pub case_text : (m : ℕ) (cs : Cases) → AreCasesRead cs → (place : ℕ) → place < case_count cs → HasText (SpellCase m cs place)
  case_text m end_cases is place lt = absurd (omega arith)
  case_text m (case name fs cs) is zero lt = parts_text m fs is.0
  case_text m (case name fs cs) is (suc place) lt = case_text m cs is.1 place (omega arith)
