-- What an answer on a part says of the whole.
use Rattle.std.proofs.Common.{◌≡◌, ℕ, zero, suc, ◌+◌, ◌<◌, ◌≤◌, Bool, true, false, IsTrue, ◌↔◌, ◌⊎◌, inl, inr, List, [], ◌∷◌, map, length, take, drop, get_or, slice_get, Option, Some, None, refl, sym, ap, ◌∙◌, subst, arith}
use lib.Dec.{leb, eqb}
use Rattle.std.specs.List.{All}
use Rattle.std.specs.Option.{option_map}
use Rattle.std.proofs.lemmas.Bool.{le-leb, leb-true, eqb-true, ne_eqb, true≢false}
use Rattle.std.proofs.lemmas.List.{take_all, length-map}
use Rattle.std.proofs.lemmas.Option.{slice_get-map, slice_get_within, get_or_from_slice_get}
use Rattle.std.proofs.lemmas.List.Elements.{All-more, All-get_or}
use Rattle.bp_value.specs.declared.value.Sexp.{Sexp}
use Rattle.bp_value.specs.declared.value.Sexp.TheVariants as sx
use Rattle.bp_value.specs.declared.value.Value.{Value}
use Rattle.bp_value.specs.declared.value.Value.TheVariants as val
use Rattle.bp_value.specs.declared.shape.Shape.{Shape}
use Rattle.bp_value.specs.Form.{form_of, Form, Parts, named_parts, cases, argument}
use Rattle.bp_value.proofs.Layers.{atom_is, list_is, atom_no_list, present_is, present_there, case_place, case_is}
use Rattle.bp_value.specs.Fits.{FitsSexp, Fits, FitParts, FitCase, IsMade}

module _ {X : Type 0} (P : X → Type 0) (xs : List X) (i : ℕ) where
  pub all_done : length xs ≤ i → All P (take i xs) → All P xs
  all_done h all = let e : take i xs ≡ xs = take_all i xs h in subst (All P) e all

  pub all_more : (x : X) (b : Bool) → i < length xs → x ≡ get_or xs i x → All P (take i xs)
      → (IsTrue b ↔ P x) → b ≡ true → All P (take (i + 1) xs)
  all_more x b lt e all fits is = All-more P xs i x lt all (subst P e (fits.0 is))

  pub all_more_at : (x : X) (b : Bool) → slice_get xs i ≡ Some x → All P (take i xs)
      → (IsTrue b ↔ P x) → b ≡ true → All P (take (i + 1) xs)
  all_more_at x b at_x all fits is =
      all_more x b (slice_get_within xs i x at_x)
      (sym (get_or_from_slice_get xs i x x at_x)) all fits is

  pub not_all : (x : X) (b : Bool) → i < length xs → x ≡ get_or xs i x → (IsTrue b ↔ P x)
      → b ≡ false → All P xs → ⊥
  not_all x b lt e fits is all =
      true≢false (sym (fits.1 (subst P (sym e) (All-get_or P xs i x lt all))) ∙ is)

-- ---- one layer of a value

module _ {A V : Type 0} (made : A → V) (alike : (x y : A) → made x ≡ made y → x ≡ y)
    (P : A → Type 0) (v : V) where
  pub made_so : (a : A) (b : Bool) → v ≡ made a → (IsTrue b ↔ P a) → (IsTrue b ↔ IsMade made P v)
  made_so a b is h = (λ t. (a, is, h.0 t), λ m. h.1 (subst P (alike m.0 a (sym m.1 ∙ is)) m.2))

pub not_made : {A V : Type 0} (made : A → V) (P : A → Type 0) (v : V) → ((a : A) → v ≡ made a → ⊥)
    → (IsTrue false ↔ IsMade made P v)
not_made made P v other = (λ t. absurd (true≢false (sym t)), λ m. absurd (other m.0 m.1))

-- a length within the limit, and one above it
pub within : {X : Type 0} (P : List X → Type 0) (xs : List X) (n m : ℕ) (b : Bool) → n ≡ length xs
    → n ≤ m → (IsTrue b ↔ P xs) → (IsTrue b ↔ ((length xs ≤ m) × P xs))
within P xs n m b e le h = (λ t. (omega arith, h.0 t), λ p. h.1 p.1)

pub above : {X : Type 0} (P : List X → Type 0) (xs : List X) (n m : ℕ) → n ≡ length xs → m < n
    → (IsTrue (leb n m) ↔ ((length xs ≤ m) × P xs))
above P xs n m e lt = (
  λ t. absurd (let le : n ≤ m = leb-true n m t in omega arith),
  λ p. absurd (let le : length xs ≤ m = p.0 in omega arith),
)

-- ---- S-expressions

pub sexp_none : (m d : ℕ) (s : Sexp) → d ≡ 0 → (IsTrue false ↔ FitsSexp m d s)
unfolding FitsSexp
sexp_none m d s e = rw e (λ t. absurd (true≢false (sym t)), λ p. absurd p)

pub sexp_atom : (m d e n : ℕ) (t : List ℕ) (s : Sexp) → d ≡ suc e → s ≡ sx.Atom t → n ≡ length t
    → (IsTrue (leb n m) ↔ FitsSexp m d s)
unfolding FitsSexp
sexp_atom m d e n t s deep is len = rw (deep, is, len) (
  λ b. inl (t, refl, leb-true (length t) m b),
  λ f. elim f [
    | inl x ↦ le-leb (length t) m (let le : length x.0 ≤ m = x.2 in
        let same : t ≡ x.0 = atom_is t x.0 x.1 in rw same le)
    | inr x ↦ absurd (atom_no_list t x.0 x.1)
  ],
)

module _ (m d e : ℕ) (ss : List Sexp) (s : Sexp) (b : Bool) (deep : d ≡ suc e)
    (is : s ≡ sx.List ss) where
  pub sexp_list : (IsTrue b ↔ ((length ss ≤ m) × All (FitsSexp m e) ss))
      → (IsTrue b ↔ FitsSexp m d s)
  unfolding FitsSexp
  sexp_list all = rw (deep, is) (
    λ t. inr (ss, refl, all.0 t),
    λ f. elim f [
      | inl x ↦ absurd (atom_no_list x.0 ss (sym x.1))
      | inr x ↦ all.1 (subst (λ us. (length us ≤ m) × All (FitsSexp m e) us)
          (sym (list_is ss x.0 x.1)) x.2)
    ],
  )

-- ---- values

module _ (P : Value → Type 0) (v : Value) where
  pub absent_fits : v ≡ val.Absent → (IsTrue true ↔ ((v ≡ val.Absent) ⊎ IsMade val.Present P v))
  absent_fits is = (λ t. inl is, λ f. refl)

  pub present_fits : (x : Value) (b : Bool) → v ≡ val.Present x → (IsTrue b ↔ P x)
      → (IsTrue b ↔ ((v ≡ val.Absent) ⊎ IsMade val.Present P v))
  present_fits x b is h = let made = made_so val.Present present_is P v x b is h in (
    λ t. inr (made.0 t),
    λ f. elim f [ inl e ↦ absurd (present_there x (sym is ∙ e)) | inr m ↦ made.1 m ],
  )

  pub no_option : (v ≡ val.Absent → ⊥) → ((x : Value) → v ≡ val.Present x → ⊥)
      → (IsTrue false ↔ ((v ≡ val.Absent) ⊎ IsMade val.Present P v))
  no_option absent present = (
    λ t. absurd (true≢false (sym t)),
    λ f. elim f [
      | inl e ↦ absurd (absent e)
      | inr m ↦ absurd (present m.0 m.1)
    ],
  )

module _ (P : ℕ → List Value → Type 0) (v : Value) where
  pub case_fits : (p : ℕ) (vs : List Value) (b : Bool) → v ≡ val.Case p vs → (IsTrue b ↔ P p vs)
      → (IsTrue b ↔ ((q : ℕ) × IsMade (val.Case q) (P q) v))
  case_fits p vs b is h = (
    λ t. (p, (vs, is, h.0 t)),
    λ f. let e : val.Case f.0 f.1.0 ≡ val.Case p vs = sym f.1.1 ∙ is in
        h.1 (subst (λ q. P q vs) (case_place f.0 p f.1.0 vs e)
        (subst (P f.0) (case_is f.0 p f.1.0 vs e) f.1.2)),
  )

  pub no_case : ((p : ℕ) (vs : List Value) → v ≡ val.Case p vs → ⊥)
      → (IsTrue false ↔ ((q : ℕ) × IsMade (val.Case q) (P q) v))
  no_case other = (λ t. absurd (true≢false (sym t)), λ f. absurd (other f.0 f.1.0 f.1.1))

-- ---- parts and cases

some_is : {A : Type 0} (x y : A) → Some x ≡ Some y → x ≡ y
some_is x y e = cc

pub parts_length : (m : ℕ) (ps : List (List ℕ × Form)) (vs : List Value)
    → FitParts m (named_parts ps) vs → length ps ≡ length vs
unfolding FitParts
parts_length m [] [] f = refl
parts_length m [] (v ∷ vs) f = absurd f
parts_length m (p ∷ ps) [] f = absurd f
parts_length m (p ∷ ps) (v ∷ vs) f = ap suc (parts_length m ps vs f.1)

pub parts_done : (m i : ℕ) (ps : List (List ℕ × Form)) (vs : List Value) → length ps ≡ length vs
    → length ps ≤ i → FitParts m (named_parts (drop i ps)) (drop i vs)
unfolding FitParts
parts_done m zero [] [] e h = tt
parts_done m zero [] (v ∷ vs) e h = absurd (omega arith)
parts_done m zero (p ∷ ps) vs e h = absurd (omega arith)
parts_done m (suc i) [] [] e h = tt
parts_done m (suc i) [] (v ∷ vs) e h = absurd (omega arith)
parts_done m (suc i) (p ∷ ps) [] e h = absurd (omega arith)
parts_done m (suc i) (p ∷ ps) (v ∷ vs) e h = parts_done m i ps vs (omega arith) (omega arith)

pub parts_step : (m i : ℕ) (ps : List (List ℕ × Form)) (vs : List Value) (p : List ℕ × Form)
    (v : Value) → slice_get ps i ≡ Some p → slice_get vs i ≡ Some v
    → (FitParts m (named_parts (drop i ps)) (drop i vs)
    ↔ (Fits m p.1 v × FitParts m (named_parts (drop (suc i) ps)) (drop (suc i) vs)))
unfolding FitParts
parts_step m zero [] vs p v e f = absurd cc
parts_step m zero (q ∷ ps) [] p v e f = absurd cc
parts_step m zero (q ∷ ps) (w ∷ vs) p v e f =
    let a = some_is q p e in let b = some_is w v f in rw (a, b) (λ h. h, λ h. h)
parts_step m (suc i) [] vs p v e f = absurd cc
parts_step m (suc i) (q ∷ ps) [] p v e f = absurd cc
parts_step m (suc i) (q ∷ ps) (w ∷ vs) p v e f = parts_step m i ps vs p v e f

-- the case at a place, where there is one, and where there is none
pub case_at : (m p : ℕ) (cs : List (List ℕ × Parts)) (c : List ℕ × Parts) (vs : List Value)
    → slice_get cs p ≡ Some c
    → (FitCase m (cases cs) p vs ↔ FitParts m c.1 vs)
unfolding FitCase
case_at m p [] c vs e = absurd cc
case_at m zero (d ∷ cs) c vs e = let a = some_is d c e in rw a (λ h. h, λ h. h)
case_at m (suc p) (d ∷ cs) c vs e = case_at m p cs c vs e

pub no_case_at : (m p : ℕ) (cs : List (List ℕ × Parts)) (vs : List Value) → slice_get cs p ≡ None
    → FitCase m (cases cs) p vs → ⊥
unfolding FitCase
no_case_at m p [] vs e f = f
no_case_at m zero (d ∷ cs) vs e f = absurd cc
no_case_at m (suc p) (d ∷ cs) vs e f = no_case_at m p cs vs e f

pub case_here : (m p : ℕ) (cs : List (List ℕ × Parts)) (c : List ℕ × Parts) (vs : List Value)
    (b : Bool) → slice_get cs p ≡ Some c
    → (IsTrue b ↔ FitParts m c.1 vs) → (IsTrue b ↔ FitCase m (cases cs) p vs)
case_here m p cs c vs b e h =
    let at = case_at m p cs c vs e in (λ t. at.1 (h.0 t), λ f. h.1 (at.0 f))

pub case_nowhere : (m p : ℕ) (cs : List (List ℕ × Parts)) (vs : List Value) → slice_get cs p ≡ None
    → (IsTrue false ↔ FitCase m (cases cs) p vs)
case_nowhere m p cs vs e =
    (λ t. absurd (true≢false (sym t)), λ f. absurd (no_case_at m p cs vs e f))

-- ---- a loop over parts, of which `Left i` says that those from i on fit

module _ (m : ℕ) {X : Type 0} (g : X → List ℕ × Form) (xs : List X) (vs : List Value) where
  abbrev pub Left : ℕ → Type 0
  Left i = FitParts m (named_parts (drop i (map g xs))) (drop i vs)

  abbrev pub Whole : Type 0
  Whole = FitParts m (named_parts (map g xs)) vs

  pub lengths_differ : (length xs ≡ length vs → ⊥) → (IsTrue false ↔ Whole)
  lengths_differ other = (
    λ t. absurd (true≢false (sym t)),
    λ f. absurd (other (sym (length-map xs g) ∙ parts_length m (map g xs) vs f)),
  )

  module _ (i : ℕ) (whole : Left i ↔ Whole) where
    pub no_more : length xs ≡ length vs → length xs ≤ i → (IsTrue true ↔ Whole)
    no_more same past = (
      λ t. whole.0 (parts_done m i (map g xs) vs (length-map xs g ∙ same)
          (rw (length-map xs g) past)),
      λ f. refl,
    )

    module _ (x : X) (v : Value) (b : Bool) (at_x : slice_get xs i ≡ Some x)
        (at_v : slice_get vs i ≡ Some v) (fits : IsTrue b ↔ Fits m (g x).1 v) where
      step : Left i ↔ (Fits m (g x).1 v × Left (suc i))
      step =
          parts_step m i (map g xs) vs (g x) v
          (slice_get-map g xs i ∙ ap (option_map g) at_x) at_v

      pub goes_on : b ≡ true → (Left (suc i) ↔ Whole)
      goes_on is = (λ l. whole.0 (step.1 (fits.0 is, l)), λ f. (step.0 (whole.1 f)).1)

      pub stops : b ≡ false → (IsTrue false ↔ Whole)
      stops is = (
        λ t. absurd (true≢false (sym t)),
        λ f. absurd (true≢false (sym (fits.1 (step.0 (whole.1 f)).0) ∙ is)),
      )

-- ---- the argument of a case of a polymorphic variant

pub no_argument : (m : ℕ) (a : Option Shape) (vs : List Value) (b : Bool) → a ≡ None
    → b ≡ eqb (length vs) 0 → (IsTrue b ↔ FitParts m (argument (option_map form_of a)) vs)
unfolding FitParts
no_argument m a [] b is e = rw is (λ t. tt, λ f. e)
no_argument m a (v ∷ vs) b is e =
    rw is (
      λ t. absurd (let same : suc (length vs) ≡ 0 = eqb-true _ _ (sym e ∙ t) in omega arith),
      λ f. absurd f,
    )

module _ (m : ℕ) (a : Option Shape) (s : Shape) (is : a ≡ Some s) where
  pub one_argument : (vs : List Value) (v : Value) (b : Bool) → length vs ≡ 1 → v ≡ get_or vs 0 v
      → (IsTrue b ↔ Fits m (form_of s) v)
      → (IsTrue b ↔ FitParts m (argument (option_map form_of a)) vs)
  unfolding FitParts
  one_argument [] v b len e h = absurd (omega arith)
  one_argument (w ∷ u ∷ us) v b len e h = absurd (omega arith)
  one_argument (w ∷ []) v b len e h =
      rw is (
        λ t. (subst (λ x. Fits m (form_of s) x) e (h.0 t), tt),
        λ f. h.1 (subst (λ x. Fits m (form_of s) x) (sym e) f.0),
      )

  pub no_one : (vs : List Value) (b : Bool) → b ≡ eqb (length vs) 1 → (length vs ≡ 1 → ⊥)
      → (IsTrue b ↔ FitParts m (argument (option_map form_of a)) vs)
  unfolding FitParts
  no_one [] b none other =
      rw is (λ t. absurd (true≢false (sym t ∙ none ∙ ne_eqb _ _ other)), λ f. absurd f)
  no_one (w ∷ u ∷ us) b none other =
      rw is (λ t. absurd (true≢false (sym t ∙ none ∙ ne_eqb _ _ other)), λ f. absurd f.1)
  no_one (w ∷ []) b none other = absurd (other refl)
