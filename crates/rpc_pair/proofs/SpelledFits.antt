-- A value that is spelled fits its form, within the limit of the spelling.
use Rattle.std.proofs.Common.{◌≡◌, refl, ap, subst, true, false, ℕ, ℤ, pos, negsuc, zero, suc, ◌^◌, ◌<◌, ◌≤◌, List, length, inl, inr, arith}
use Rattle.std.specs.List.{All}
use Rattle.std.proofs.lemmas.Int.{ints}
use Rattle.std.proofs.lemmas.List.Elements.{All-nil, All-cons}
use Rattle.readers.specs.Reader.{Mapped, One, Count}
use Rattle.bp_num.specs.declared.number.IntKind.{IntKind}
use Rattle.bp_num.specs.declared.number.IntKind.TheVariants.{Int63, Int32, Int64}
use Rattle.bp_num.specs.Forms.{IsInt, extent, limit_of}
use Rattle.bp_num.proofs.FromAnswers.{nat_limit}
use Rattle.bp_value.specs.declared.value.Value.{Value}
use Rattle.bp_value.specs.declared.value.Value.TheVariants as val
use Rattle.bp_value.specs.declared.value.Sexp.{Sexp}
use Rattle.bp_value.specs.Form.{Form, Parts, Cases, unit, bool, char, int, int32, int64, text, opt, listed, tuple, fields, sum, poly, sexp, end, part, end_cases, case}
use Rattle.bp_value.specs.Limits.{deepest_sexp}
use Rattle.bp_value.specs.Fits.{IsMade, InRange, FitsSexp, Fits, FitParts, FitCase}
use Rattle.bp_value.proofs.Fitted.{range_is}
use Rattle.bp_grammar.specs.Spells.{unit_of, Sized, Counted, room, SpellsSexp, Spells, SpellParts, SpellCase}

-- ---- leaves

unit_fits : (v : Value) (s : List ℕ) → One unit_of v s → v ≡ val.Unit
unit_fits v s (zero, cut, e) = cc
unit_fits v s (suc b, cut, e) = absurd cc

ranged : (bits : ℕ) (n : ℤ) → extent n < 2 ^ bits → InRange bits n
ranged bits (pos k) lt = (range_is bits (pos k)).1 (omega (arith, ints))
ranged bits (negsuc k) lt = (range_is bits (negsuc k)).1 (omega (arith, ints))

number_fits : (kind : IntKind) (bits : ℕ) (v : Value) (s : List ℕ) → limit_of kind ≡ 2 ^ bits → Mapped val.Num (IsInt kind) v s
    → IsMade val.Num (InRange bits) v
number_fits kind bits v s is (n, made, l) = (n, made, ranged bits n (subst (λ h. extent n < h) is l.0))

bytes_fit : (m : ℕ) (t s : List ℕ) → Sized m t s → length t ≤ m
bytes_fit m t s (n, x, u, cut, nat, (same, len, each)) =
    let long : length t ≡ length u = ap length same in
    let le : n ≤ m = nat_limit m n x nat in
    omega arith

-- ---- lists

module _ {A : Type 0} (L : A → List ℕ → Type 0) (F : A → Type 0) (each : (a : A) (s : List ℕ) → L a s → F a) where
  count_fits : (n : ℕ) (vs : List A) (s : List ℕ) → Count L n vs s → (length vs ≡ n) × All F vs
  count_fits zero vs s (none, empty) = rw none (refl, All-nil F)
  count_fits (suc n) vs s (v, t, u, cut, l, (ws, is, rest)) =
      let (long, all) = count_fits n ws u rest in
      rw is (ap suc long, All-cons F v ws (each v t l) all)

  list_fits : (m : ℕ) (vs : List A) (s : List ℕ) → Counted m L vs s → (length vs ≤ m) × All F vs
  list_fits m vs s (n, x, u, cut, nat, items) =
      let (long, all) = count_fits n vs u items in
      let le : n ≤ m = nat_limit m n x nat in
      (omega (arith, long), all)

-- ---- S-expressions

room_most : (m d : ℕ) → room m d ≤ m
room_most m zero = omega arith
room_most m (suc d) = omega arith

sexp_fits : (m d : ℕ) (x : Sexp) (s : List ℕ) → SpellsSexp m d x s → FitsSexp m d x
unfolding SpellsSexp FitsSexp
sexp_fits m zero x s l = absurd l
sexp_fits m (suc d) x s (false, t, u, cut, flag, (a, is, l)) = inl (a, is, bytes_fit m a u l)
sexp_fits m (suc d) x s (true, t, u, cut, flag, (ss, is, l)) =
    let (few, all) = list_fits (SpellsSexp m d) (FitsSexp m d) (sexp_fits m d) (room m d) ss u l in
    let most : room m d ≤ m = room_most m d in
    inr (ss, is, (omega arith, all))

-- ---- all forms

mutual
  unfolding Fits Spells FitParts SpellParts FitCase SpellCase

  pub spelled_fits : (m : ℕ) (f : Form) (v : Value) (s : List ℕ) → Spells m f v s → Fits m f v
  spelled_fits m unit v s l = unit_fits v s l
  spelled_fits m bool v s (b, is, l) = (b, is, tt)
  spelled_fits m char v s (b, cut, e) = (b, cc, tt)
  spelled_fits m int v s l = number_fits Int63 62 v s refl l
  spelled_fits m int32 v s l = number_fits Int32 31 v s refl l
  spelled_fits m int64 v s l = number_fits Int64 63 v s refl l
  spelled_fits m text v s (t, is, l) = (t, is, bytes_fit m t s l)
  spelled_fits m (opt f) v s (false, t, u, cut, flag, (is, none)) = inl is
  spelled_fits m (opt f) v s (true, t, u, cut, flag, (x, is, l)) = inr (x, is, spelled_fits m f x u l)
  spelled_fits m (listed f) v s (vs, is, l) = (vs, is, list_fits (Spells m f) (Fits m f) (spelled_fits m f) m vs s l)
  spelled_fits m (tuple fs) v s (vs, is, l) = (vs, is, spelled_parts_fit m fs vs s l)
  spelled_fits m (fields fs) v s (vs, is, l) = (vs, is, spelled_parts_fit m fs vs s l)
  spelled_fits m (sum cs) v s (place, t, u, cut, choice, (vs, is, l)) = (place, (vs, is, spelled_case_fits m cs place vs u l))
  spelled_fits m (poly cs) v s (place, t, u, cut, key, (vs, is, l)) = (place, (vs, is, spelled_case_fits m cs place vs u l))
  spelled_fits m sexp v s (x, is, l) = (x, is, sexp_fits m deepest_sexp x s l)

  spelled_parts_fit : (m : ℕ) (fs : Parts) (vs : List Value) (s : List ℕ) → SpellParts m fs vs s → FitParts m fs vs
  spelled_parts_fit m end vs s (none, empty) = rw none tt
  spelled_parts_fit m (part name f fs) vs s (v, t, u, cut, l, (ws, is, rest)) = rw is (spelled_fits m f v t l, spelled_parts_fit m fs ws u rest)

  spelled_case_fits : (m : ℕ) (cs : Cases) (place : ℕ) (vs : List Value) (s : List ℕ) → SpellCase m cs place vs s → FitCase m cs place vs
  spelled_case_fits m end_cases place vs s l = absurd l
  spelled_case_fits m (case name fs cs) zero vs s l = spelled_parts_fit m fs vs s l
  spelled_case_fits m (case name fs cs) (suc place) vs s l = spelled_case_fits m cs place vs s l
