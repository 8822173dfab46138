-- A value that fits, one layer at a time: its content fits, and the other way round.
use Rattle.std.proofs.Common.{◌≡◌, ℕ, ℤ, pos, negsuc, zero, suc, ◌-◌, ◌^◌, ◌<◌, ◌≤◌, ◌≤ℤ◌, Bool, ◌↔◌, inl, inr, List, [], ◌∷◌, length, slice_get, Some, None, refl, sym, subst, arith}
use lib.Signed.{mag}
use Rattle.std.specs.List.{All}
use Rattle.std.proofs.lemmas.Int.{ints}
use Rattle.std.proofs.lemmas.Nat.{pow_pos}
use Rattle.bp_value.specs.declared.value.Sexp.{Sexp}
use Rattle.bp_value.specs.declared.value.Sexp.TheVariants as sx
use Rattle.bp_value.specs.declared.value.Value.{Value}
use Rattle.bp_value.specs.declared.value.Value.TheVariants as val
use Rattle.bp_value.specs.Form.{Form, Parts, Cases, unit, bool, char, int, int32, int64, text, opt, listed, tuple, fields, sum, poly, sexp, named_parts, cases, argument}
use Rattle.bp_value.specs.Limits.{deepest_sexp}
use Rattle.bp_value.specs.Fits.{Fits, FitParts, FitCase, FitsSexp, IsMade, InRange}
use Rattle.bp_value.proofs.Layers.{atom_is, list_is, atom_no_list, num_is, text_is, present_is, present_there, items_is, parts_is, case_place, case_is, sexp_is}

-- what is made of one thing alone
made_is : {A V : Type 0} (made : A → V) → ((x y : A) → made x ≡ made y → x ≡ y)
    → (P : A → Type 0) (a : A)
    → (IsMade made P (made a) ↔ P a)
made_is made alike P a = (λ m. subst P (alike m.0 a (sym m.1)) m.2, λ p. (a, refl, p))

-- a number of so many bits and a sign is nearer to 0, or to -1, than the power of these bits
pub range_is : (bits : ℕ) (n : ℤ) → (InRange bits n ↔ (mag n < 2 ^ bits))
range_is bits (pos k) = (
  λ h. let some : 0 < 2 ^ bits =
      pow_pos bits in let up : pos k ≤ℤ pos (2 ^ bits - 1) = h.1 in omega (arith, ints),
  λ lt. (omega (arith, ints), omega (arith, ints)),
)
range_is bits (negsuc k) = (
  λ h. let some : 0 < 2 ^ bits =
      pow_pos bits in let low : negsuc (2 ^ bits - 1) ≤ℤ negsuc k = h.0 in omega (arith, ints),
  λ lt. (omega (arith, ints), omega (arith, ints)),
)

-- ---- values

pub fit_unit : (m : ℕ) → Fits m unit val.Unit
unfolding Fits
fit_unit m = refl

pub fit_bool : (m : ℕ) (b : Bool) → Fits m bool (val.Bool b)
unfolding Fits
fit_bool m b = (b, refl, tt)

pub fit_char : (m b : ℕ) → Fits m char (val.Char b)
unfolding Fits
fit_char m b = (b, refl, tt)

pub fit_int : (m : ℕ) (n : ℤ) → (Fits m int (val.Num n) ↔ InRange 62 n)
unfolding Fits
fit_int m n = made_is val.Num num_is (InRange 62) n

pub fit_int32 : (m : ℕ) (n : ℤ) → (Fits m int32 (val.Num n) ↔ InRange 31 n)
unfolding Fits
fit_int32 m n = made_is val.Num num_is (InRange 31) n

pub fit_int64 : (m : ℕ) (n : ℤ) → (Fits m int64 (val.Num n) ↔ InRange 63 n)
unfolding Fits
fit_int64 m n = made_is val.Num num_is (InRange 63) n

pub fit_text : (m : ℕ) (t : List ℕ) → (Fits m text (val.Text t) ↔ (length t ≤ m))
unfolding Fits
fit_text m t = made_is val.Text text_is (λ s. length s ≤ m) t

pub fit_absent : (m : ℕ) (f : Form) → Fits m (opt f) val.Absent
unfolding Fits
fit_absent m f = inl refl

pub fit_present : (m : ℕ) (f : Form) (v : Value) → (Fits m (opt f) (val.Present v) ↔ Fits m f v)
unfolding Fits
fit_present m f v = (
  λ h. elim h [
    | inl e ↦ absurd (present_there v e)
    | inr some ↦ (made_is val.Present present_is (Fits m f) v).0 some
  ],
  λ h. inr (v, refl, h),
)

pub fit_items : (m : ℕ) (f : Form) (vs : List Value)
    → (Fits m (listed f) (val.Items vs) ↔ ((length vs ≤ m) × All (Fits m f) vs))
unfolding Fits
fit_items m f vs = made_is val.Items items_is (λ ws. (length ws ≤ m) × All (Fits m f) ws) vs

pub fit_tuple : (m : ℕ) (fs : Parts) (vs : List Value)
    → (Fits m (tuple fs) (val.Parts vs) ↔ FitParts m fs vs)
unfolding Fits
fit_tuple m fs vs = made_is val.Parts parts_is (FitParts m fs) vs

pub fit_fields : (m : ℕ) (fs : Parts) (vs : List Value)
    → (Fits m (fields fs) (val.Parts vs) ↔ FitParts m fs vs)
unfolding Fits
fit_fields m fs vs = made_is val.Parts parts_is (FitParts m fs) vs

-- a case at a place, by what holds of a case at a place
case_made : (P : ℕ → List Value → Type 0) (p : ℕ) (vs : List Value)
    → (((q : ℕ) × IsMade (val.Case q) (P q) (val.Case p vs)) ↔ P p vs)
case_made P p vs = (
  λ f. subst (λ q. P q vs) (case_place f.0 p f.1.0 vs (sym f.1.1))
      (subst (P f.0) (case_is f.0 p f.1.0 vs (sym f.1.1)) f.1.2),
  λ h. (p, (vs, refl, h)),
)

pub fit_sum : (m : ℕ) (cs : Cases) (p : ℕ) (vs : List Value)
    → (Fits m (sum cs) (val.Case p vs) ↔ FitCase m cs p vs)
unfolding Fits
fit_sum m cs p vs = case_made (FitCase m cs) p vs

pub fit_poly : (m : ℕ) (cs : Cases) (p : ℕ) (vs : List Value)
    → (Fits m (poly cs) (val.Case p vs) ↔ FitCase m cs p vs)
unfolding Fits
fit_poly m cs p vs = case_made (FitCase m cs) p vs

pub fit_sexp : (m : ℕ) (s : Sexp) → (Fits m sexp (val.Sexp s) ↔ FitsSexp m deepest_sexp s)
unfolding Fits
fit_sexp m s = made_is val.Sexp sexp_is (FitsSexp m deepest_sexp) s

-- the part at a place
pub fit_part_at : (m i : ℕ) (ps : List (List ℕ × Form)) (p : List ℕ × Form) (vs : List Value)
    (v : Value) → slice_get ps i ≡ Some p
    → slice_get vs i ≡ Some v → FitParts m (named_parts ps) vs → Fits m p.1 v
unfolding FitParts
fit_part_at m i [] p vs v e h f = absurd cc
fit_part_at m i (q ∷ ps) p [] v e h f = absurd cc
fit_part_at m zero (q ∷ ps) p (w ∷ vs) v e h f =
    let a : q ≡ p = cc in let b : w ≡ v = cc in
    subst (λ x. Fits m x.1 v) a (subst (Fits m q.1) b f.0)
fit_part_at m (suc i) (q ∷ ps) p (w ∷ vs) v e h f = fit_part_at m i ps p vs v e h f.1

-- no argument, and one
pub fit_no_argument : (m : ℕ) (vs : List Value) → (FitParts m (argument None) vs ↔ (vs ≡ []))
unfolding FitParts
fit_no_argument m [] = (λ f. refl, λ e. tt)
fit_no_argument m (v ∷ vs) = (λ f. absurd f, λ e. absurd cc)

pub fit_argument : (m : ℕ) (f : Form) (vs : List Value)
    → (FitParts m (argument (Some f)) vs ↔ ((v : Value) × (vs ≡ v ∷ []) × Fits m f v))
unfolding FitParts
fit_argument m f [] = (λ h. absurd h, λ h. let e : [] ≡ h.0 ∷ [] = h.1 in absurd cc)
fit_argument m f (v ∷ []) =
    (λ h. (v, refl, h.0), λ h. (let e : h.0 ≡ v = cc in subst (Fits m f) e h.2, tt))
fit_argument m f (v ∷ w ∷ vs) =
    (λ h. absurd h.1, λ h. let e : v ∷ w ∷ vs ≡ h.0 ∷ [] = h.1 in absurd cc)

-- a case stands at its place
pub fit_case_within : (m p : ℕ) (cs : List (List ℕ × Parts)) (vs : List Value)
    → FitCase m (cases cs) p vs → p < length cs
unfolding FitCase
fit_case_within m p [] vs f = absurd f
fit_case_within m zero (c ∷ cs) vs f = omega arith
fit_case_within m (suc p) (c ∷ cs) vs f =
    let next : p < length cs = fit_case_within m p cs vs f in omega arith

-- ---- S-expressions, within a depth

pub fit_no_depth : (m : ℕ) (s : Sexp) → FitsSexp m 0 s → ⊥
unfolding FitsSexp
fit_no_depth m s f = f

pub fit_atom : (m d : ℕ) (t : List ℕ) → (FitsSexp m (suc d) (sx.Atom t) ↔ (length t ≤ m))
unfolding FitsSexp
fit_atom m d t = (
  λ h. elim h [
    | inl atom ↦ (made_is sx.Atom atom_is (λ s. length s ≤ m) t).0 atom
    | inr list ↦ absurd (atom_no_list t list.0 list.1)
  ],
  λ h. inl (t, refl, h),
)

pub fit_list : (m d : ℕ) (ss : List Sexp)
    → (FitsSexp m (suc d) (sx.List ss) ↔ ((length ss ≤ m) × All (FitsSexp m d) ss))
unfolding FitsSexp
fit_list m d ss = (
  λ h. elim h [
    | inl atom ↦ absurd (atom_no_list atom.0 ss (sym atom.1))
    | inr list ↦ (made_is sx.List list_is (λ us. (length us ≤ m) × All (FitsSexp m d) us) ss).0 list
  ],
  λ h. inr (ss, refl, h),
)
