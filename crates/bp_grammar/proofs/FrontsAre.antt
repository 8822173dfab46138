-- What begins a spelling, part by part, is what begins a spelling.
use Rattle.std.proofs.Common.{◌≡◌, refl, Bool, true, false, ℕ, zero, suc, ◌<◌, ◌≤◌, List, [], ◌∷◌, inl, inr, arith}
use Rattle.readers.specs.Reader.{IsByte, Any, Front, Right, Then, ThenFront, Mapped, Done, One, Count, CountFront, Symbols}
use Rattle.readers.specs.Keys.{Keyed}
use Rattle.readers.proofs.Readers.{then_front, front_then, right_fronts}
use Rattle.bp_num.specs.Forms.{IsNat}
use Rattle.bp_num.proofs.FromAnswers.{nat_limit}
use Rattle.bp_value.specs.declared.value.Value.TheVariants as val
use Rattle.bp_value.specs.declared.value.Sexp.TheVariants as sx
use Rattle.bp_value.specs.Form.{Form, Parts, Cases, unit, bool, char, int, int32, int64, text, opt, listed, tuple, fields, sum, poly, sexp, end, part, end_cases, case}
use Rattle.bp_value.specs.Faults.{IsGood}
use Rattle.bp_grammar.specs.Spells.{flag_of, place_of, case_count, keys_of, Sized, Counted, AtFlag, room, SpellsSexp, Spells, SpellParts, SpellCase}
use Rattle.bp_grammar.specs.Reasons.{FaultWhy}
use Rattle.bp_grammar.specs.Fronts.{IsEmpty, SizedFront, CountedFront, FlagFront, SexpFronts, Fronts, PartFronts, CaseFronts}
use Rattle.bp_grammar.specs.Reading.{read}
use Rattle.bp_grammar.proofs.Right.{IsRead, ArePartsRead, AreCasesRead, place_within, key_within, form_in}
use Rattle.bp_grammar.proofs.Starts.{HasText, mapped_text, symbols_text, count_text, counted_text, sized_text, sexp_text, form_text, parts_text, case_text}
use Rattle.bp_grammar.proofs.Good.{good_read}

-- F are just the lists that begin a text
abbrev pub AreJust : {A : Type 0} → (List ℕ → Type 0) → (A → List ℕ → Type 0) → Type 0
AreJust F L = (p : List ℕ) → (F p → Front L p) × (Front L p → F p)

-- ---- of what is put together

just_front : {A : Type 0} (L : A → List ℕ → Type 0) → AreJust (Front L) L
just_front L p = (λ f. f, λ f. f)

just_mapped : {A B : Type 0} (g : A → B) (F : List ℕ → Type 0) (L : A → List ℕ → Type 0) → AreJust F L → AreJust F (Mapped g L)
just_mapped g F L just p = (
  λ f. let (a, x, l) = (just p).0 f in (g a, x, (a, refl, l)),
  λ (b, x, (a, e, l)). (just p).1 (a, x, l),
)

just_nothing : {A : Type 0} (a : A) → AreJust IsEmpty (Done a)
just_nothing {A = A} a p = (λ e. (a, [], rw e (refl, refl)), out p)
  where
    out : (p : List ℕ) → Front (Done a) p → p ≡ []
    out [] f = refl
    out (b ∷ p) (c, x, (e, nil)) = absurd cc

just_then : {A B : Type 0} (F : List ℕ → Type 0) (L : A → List ℕ → Type 0) (G : A → List ℕ → Type 0) (M : A → B → List ℕ → Type 0)
    → AreJust F L → ((a : A) (t : List ℕ) → L a t → AreJust (G a) (M a)) → ((a : A) (t : List ℕ) → L a t → HasText (M a)) → AreJust (ThenFront L F G) (Then L M)
just_then {A = A} {B = B} F L G M first second has p = (λ f. then_front L M has p (into f), λ f. out (front_then L M p f))
  where
    into : ThenFront L F G p → ThenFront L (Front L) (λ a. Front (M a)) p
    into (inl f) = inl ((first p).0 f)
    into (inr (a, t, q, cut, l, g)) = inr (a, t, q, cut, l, (second a t l q).0 g)

    out : ThenFront L (Front L) (λ a. Front (M a)) p → ThenFront L F G p
    out (inl f) = inl ((first p).1 f)
    out (inr (a, t, q, cut, l, g)) = inr (a, t, q, cut, l, (second a t l q).1 g)

just_count : {A : Type 0} (F : List ℕ → Type 0) (L : A → List ℕ → Type 0) → AreJust F L → HasText L → (n : ℕ) → AreJust (CountFront L F n) (Count L n)
just_count F L just has zero = just_nothing []
just_count F L just has (suc n) =
    just_then F L (λ v. CountFront L F n) (λ v. Mapped (λ us. v ∷ us) (Count L n)) just
    (λ v t l. just_mapped (λ us. v ∷ us) (CountFront L F n) (Count L n) (just_count F L just has n))
    (λ v t l. mapped_text (λ us. v ∷ us) (Count L n) (count_text L has n))

-- a length, and what it lets follow
just_counted : {A : Type 0} (m : ℕ) (F : List ℕ → Type 0) (L : A → List ℕ → Type 0) → AreJust F L → HasText L → AreJust (CountedFront m L F) (Counted m L)
just_counted m F L just has =
    just_then (Front (IsNat m)) (IsNat m) (CountFront L F) (Count L) (just_front (IsNat m)) (λ n t l. just_count F L just has n) (λ n t l. count_text L has n)

just_uncounted : {A : Type 0} (F : List ℕ → Type 0) (L : A → List ℕ → Type 0) → AreJust (CountedFront 0 L F) (Counted 0 L)
just_uncounted F L =
    just_then (Front (IsNat 0)) (IsNat 0) (CountFront L F) (Count L) (just_front (IsNat 0)) (λ n t l. none n (nat_limit 0 n t l)) (λ n t l. some n (nat_limit 0 n t l))
  where
    none : (n : ℕ) → n ≤ 0 → AreJust (CountFront L F n) (Count L n)
    none zero le = just_nothing []
    none (suc n) le = absurd (omega arith)

    some : (n : ℕ) → n ≤ 0 → HasText (Count L n)
    some zero le = ([], [], (refl, refl))
    some (suc n) le = absurd (omega arith)

just_sized : (m : ℕ) → AreJust (SizedFront m) (Sized m)
just_sized m =
    just_then (Front (IsNat m)) (IsNat m) (λ n. Front (Symbols Any n)) (Symbols Any) (just_front (IsNat m)) (λ n t l. just_front (Symbols Any n)) (λ n t l. symbols_text n)

just_flagged : {A : Type 0} (F G : List ℕ → Type 0) (L M : A → List ℕ → Type 0) → AreJust F L → AreJust G M → HasText L → HasText M
    → AreJust (ThenFront (One flag_of) (Front (One flag_of)) (FlagFront F G)) (Then (One flag_of) (AtFlag L M))
just_flagged {A = A} F G L M left right some_left some_right =
    just_then (Front (One flag_of)) (One flag_of) (FlagFront F G) (AtFlag L M) (just_front (One flag_of)) (λ b t l. which b) (λ b t l. some b)
  where
    which : (b : Bool) → AreJust (FlagFront F G b) (AtFlag L M b)
    which false = left
    which true = right

    some : (b : Bool) → HasText (AtFlag L M b)
    some false = some_left
    some true = some_right

-- ---- S-expressions

sexp_layer : (m d : ℕ) → AreJust (CountedFront (room m d) (SpellsSexp m d) (SexpFronts m d)) (Counted (room m d) (SpellsSexp m d)) → AreJust (SexpFronts m (suc d)) (SpellsSexp m (suc d))
unfolding SexpFronts SpellsSexp
sexp_layer m d items =
    just_flagged (SizedFront m) (CountedFront (room m d) (SpellsSexp m d) (SexpFronts m d)) (Mapped sx.Atom (Sized m)) (Mapped sx.List (Counted (room m d) (SpellsSexp m d)))
    (just_mapped sx.Atom (SizedFront m) (Sized m) (just_sized m))
    (just_mapped sx.List (CountedFront (room m d) (SpellsSexp m d) (SexpFronts m d)) (Counted (room m d) (SpellsSexp m d)) items)
    (mapped_text sx.Atom (Sized m) (sized_text m)) (mapped_text sx.List (Counted (room m d) (SpellsSexp m d)) (counted_text (room m d) (SpellsSexp m d)))

just_sexp : (m d : ℕ) → AreJust (SexpFronts m (suc d)) (SpellsSexp m (suc d))
just_sexp m zero = sexp_layer m 0 (just_uncounted (SexpFronts m 0) (SpellsSexp m 0))
just_sexp m (suc d) = sexp_layer m (suc d) (just_counted m (SexpFronts m (suc d)) (SpellsSexp m (suc d)) (just_sexp m d) (sexp_text m d))

-- ---- all forms

just_chosen : (m : ℕ) (L : ℕ → List ℕ → Type 0) (cs : Cases) → ((place : ℕ) (t : List ℕ) → L place t → AreJust (CaseFronts m cs place) (SpellCase m cs place))
    → ((place : ℕ) (t : List ℕ) → L place t → HasText (SpellCase m cs place))
    → AreJust (ThenFront L (Front L) (CaseFronts m cs)) (Then L (λ place. Mapped (val.Case place) (SpellCase m cs place)))
just_chosen m L cs each has =
    just_then (Front L) L (CaseFronts m cs) (λ place. Mapped (val.Case place) (SpellCase m cs place)) (just_front L)
    (λ place t l. just_mapped (val.Case place) (CaseFronts m cs place) (SpellCase m cs place) (each place t l))
    (λ place t l. mapped_text (val.Case place) (SpellCase m cs place) (has place t l))

mutual
  unfolding Spells Fronts IsRead SpellParts PartFronts ArePartsRead SpellCase CaseFronts AreCasesRead

  pub fronts_are : (m : ℕ) (f : Form) → IsRead f → AreJust (Fronts m f) (Spells m f)
  fronts_are m unit is = just_front (Spells m unit)
  fronts_are m bool is = just_mapped val.Bool (Front (One flag_of)) (One flag_of) (just_front (One flag_of))
  fronts_are m char is = just_front (Spells m char)
  fronts_are m int is = just_front (Spells m int)
  fronts_are m int32 is = just_front (Spells m int32)
  fronts_are m int64 is = just_front (Spells m int64)
  fronts_are m text is = just_mapped val.Text (SizedFront m) (Sized m) (just_sized m)
  fronts_are m (opt f) is =
      just_flagged IsEmpty (Fronts m f) (Done val.Absent) (Mapped val.Present (Spells m f)) (just_nothing val.Absent)
      (just_mapped val.Present (Fronts m f) (Spells m f) (fronts_are m f is)) (val.Absent, [], (refl, refl)) (mapped_text val.Present (Spells m f) (form_text m f is))
  fronts_are m (listed f) is =
      just_mapped val.Items (CountedFront m (Spells m f) (Fronts m f)) (Counted m (Spells m f))
      (just_counted m (Fronts m f) (Spells m f) (fronts_are m f is) (form_text m f is))
  fronts_are m (tuple fs) is = just_mapped val.Parts (PartFronts m fs) (SpellParts m fs) (part_fronts_are m fs is)
  fronts_are m (fields fs) is = just_mapped val.Parts (PartFronts m fs) (SpellParts m fs) (part_fronts_are m fs is)
  fronts_are m (sum cs) is =
      just_chosen m (One (place_of (case_count cs))) cs (λ place t l. case_fronts_are m cs is.1 place (place_within (case_count cs) place t l))
      (λ place t l. case_text m cs is.1 place (place_within (case_count cs) place t l))
  fronts_are m (poly cs) is =
      just_chosen m (Keyed (keys_of 0 cs)) cs (λ place t l. case_fronts_are m cs is.2 place (key_within cs place t l))
      (λ place t l. case_text m cs is.2 place (key_within cs place t l))
  fronts_are m sexp is = just_mapped val.Sexp (SexpFronts m 128) (SpellsSexp m 128) (just_sexp m 127)

  part_fronts_are : (m : ℕ) (fs : Parts) → ArePartsRead fs → AreJust (PartFronts m fs) (SpellParts m fs)
  part_fronts_are m end is = just_nothing []
  part_fronts_are m (part name f fs) is =
      just_then (Fronts m f) (Spells m f) (λ v. PartFronts m fs) (λ v. Mapped (λ ws. v ∷ ws) (SpellParts m fs)) (fronts_are m f is.0)
      (λ v t l. just_mapped (λ ws. v ∷ ws) (PartFronts m fs) (SpellParts m fs) (part_fronts_are m fs is.1))
      (λ v t l. mapped_text (λ ws. v ∷ ws) (SpellParts m fs) (parts_text m fs is.1))

  case_fronts_are : (m : ℕ) (cs : Cases) → AreCasesRead cs → (place : ℕ) → place < case_count cs → AreJust (CaseFronts m cs place) (SpellCase m cs place)
  case_fronts_are m end_cases is place lt = absurd (omega arith)
  case_fronts_are m (case name fs cs) is zero lt = part_fronts_are m fs is.0
  case_fronts_are m (case name fs cs) is (suc place) lt = case_fronts_are m cs is.1 place (omega arith)

-- ---- the reading of a good form is right, whatever begins its spellings

pub right_good : (m : ℕ) (f : Form) → IsGood f → Right IsByte Any (Spells m f) (FaultWhy m f) (read m f)
right_good m f good =
    let is : IsRead f = good_read f good in
    right_fronts IsByte Any (Fronts m f) (Front (Spells m f)) (Spells m f) (FaultWhy m f) (read m f)
    (λ p. (fronts_are m f is p).0) (λ p. (fronts_are m f is p).1) (form_in m f is).right
