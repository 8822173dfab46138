-- The shortest spelling of a value that fits is a spelling, and no spelling of it is shorter.
use Rattle.std.proofs.Common.{◌≡◌, refl, sym, ap, ◌∙◌, subst, Option, Some, Bool, true, false, ℕ, zero, suc, ℤ, pos, negsuc, ◌+◌, ◌^◌, ◌<◌, ◌≤◌, List, [], ◌∷◌, ◌++◌, length, map, inl, inr, arith, length-append, lit<}
use Rattle.std.specs.List.{All, flat_map}
use Rattle.std.proofs.lemmas.List.{length-map}
use Rattle.std.proofs.lemmas.List.Folds.{flat_map-map}
use Rattle.std.proofs.lemmas.List.Elements.{All-head, All-tail}
use Rattle.std.proofs.lemmas.Int.{ints}
use Rattle.readers.specs.Reader.{Each, Any, Then, Mapped, Done, One, Count}
use Rattle.readers.specs.Keys.{Keyed}
use Rattle.bp_num.specs.declared.number.IntKind.{IntKind}
use Rattle.bp_num.specs.declared.number.IntKind.TheVariants.{Int63, Int32, Int64}
use Rattle.bp_num.specs.Forms.{IsInt, limit_of, extent, written_nat, written_int}
use Rattle.bp_num.proofs.Shortest.{nat_form, nat_shortest, int_form, int_shortest}
use Rattle.bp_value.specs.declared.value.Value.{Value, out-Value}
use Rattle.bp_value.specs.declared.value.Value.TheVariants as val
use Rattle.bp_value.specs.declared.value.Sexp.{Sexp, fold-roll-Sexp}
use Rattle.bp_value.specs.declared.value.Sexp.TheVariants as sx
use Rattle.bp_value.specs.declared.value.Sexp.TheOpen as sexp_layer
use Rattle.bp_value.specs.Form.{Form, Parts, Cases, unit, bool, char, int, int32, int64, text, opt, listed, tuple, fields, sum, poly, sexp, end, part, end_cases, case}
use Rattle.bp_value.specs.Fits.{InRange, FitsSexp, Fits, FitParts, FitCase}
use Rattle.bp_value.proofs.Layers.{out_absent, out_bool, out_char, out_num, out_text, out_sexp, out_present, out_items, out_parts, out_case}
use Rattle.bp_grammar.specs.Spells.{unit_of, flag_of, place_of, case_count, keys_of, Sized, Counted, AtFlag, room, SpellsSexp, Spells, SpellParts, SpellCase}
use Rattle.bp_grammar.specs.Written.{written_flag, written_bytes, written_list, written_tag, number_bytes, sexp_step, written_sexp, written, written_parts, written_case}
use Rattle.bp_grammar.proofs.Leaves.{place_some}
use Rattle.bp_grammar.proofs.Right.{keyed_place}

-- ---- one layer of a spelling

pub written_sexp-Atom : (t : List ℕ) → written_sexp (sx.Atom t) ≡ 0 ∷ written_bytes t
unfolding written_sexp
written_sexp-Atom t = ap written_sexp (sym (sx.rolls-Atom t)) ∙ fold-roll-Sexp (List ℕ) sexp_step (sexp_layer.Atom t)

list_of_written : {A : Type 0} (w : A → List ℕ) (vs : List A) → written_list (λ s. s) (map w vs) ≡ written_list w vs
list_of_written w vs = rw (length-map vs w, flat_map-map (λ s. s) w vs)

pub written_sexp-List : (ss : List Sexp) → written_sexp (sx.List ss) ≡ 1 ∷ written_list written_sexp ss
unfolding written_sexp
written_sexp-List ss =
    ap written_sexp (sym (sx.rolls-List ss)) ∙ (fold-roll-Sexp (List ℕ) sexp_step (sexp_layer.List ss) ∙ ap (λ s. 1 ∷ s) (list_of_written written_sexp ss))

-- ---- parts that are spelled

number_fits : (bits : ℕ) (n : ℤ) → 0 < 2 ^ bits → InRange bits n → extent n < 2 ^ bits
number_fits bits (pos n) some within = omega (arith, ints)
number_fits bits (negsuc n) some within = omega (arith, ints)

each_byte : (t : List ℕ) → Each Any t
each_byte [] = tt
each_byte (b ∷ t) = (tt, each_byte t)

spells_bytes : (m : ℕ) (t : List ℕ) → m < 2 ^ 64 → length t ≤ m → Sized m t (written_bytes t)
spells_bytes m t small le = (length t, written_nat (length t), t, refl, nat_form m (length t) le (omega arith), (refl, refl, each_byte t))

-- as many spellings as there are values
spells_count : {A : Type 0} (L : A → List ℕ → Type 0) (w : A → List ℕ) (F : A → Type 0) → ((a : A) → F a → L a (w a))
    → (vs : List A) → All F vs → Count L (length vs) vs (flat_map w vs)
spells_count L w F each [] all = (refl, refl)
spells_count L w F each (v ∷ vs) all =
    (v, w v, flat_map w vs, refl, each v (All-head F v vs all), (vs, refl, spells_count L w F each vs (All-tail F v vs all)))

spells_list : {A : Type 0} (m : ℕ) (L : A → List ℕ → Type 0) (w : A → List ℕ) (F : A → Type 0) → ((a : A) → F a → L a (w a))
    → (vs : List A) → m < 2 ^ 64 → length vs ≤ m → All F vs → Counted m L vs (written_list w vs)
spells_list m L w F each vs small le all =
    (length vs, written_nat (length vs), flat_map w vs, refl, nat_form m (length vs) le (omega arith), spells_count L w F each vs all)

spells_flag : (b : Bool) → One flag_of b (written_flag b)
spells_flag false = (0, refl, refl)
spells_flag true = (1, refl, refl)

-- a flag, and what it chooses
flagged : {A : Type 0} (L M : A → List ℕ → Type 0) (b : Bool) (a : A) (s : List ℕ) → AtFlag L M b a s → Then (One flag_of) (AtFlag L M) a (written_flag b ++ s)
flagged L M b a s l = (b, written_flag b, s, refl, spells_flag b, l)

-- ---- S-expressions

-- where no item may be, there is none
in_room : (m d : ℕ) (ss : List Sexp) → length ss ≤ m → All (FitsSexp m d) ss → length ss ≤ room m d
unfolding FitsSexp
in_room m zero [] le all = omega arith
in_room m zero (s ∷ ss) le all = absurd (All-head (FitsSexp m zero) s ss all)
in_room m (suc d) ss le all = le

room_small : (m d : ℕ) → m < 2 ^ 64 → room m d < 2 ^ 64
room_small m zero small = lit< tt
room_small m (suc d) small = small

spells_sexp : (m d : ℕ) (s : Sexp) → m < 2 ^ 64 → FitsSexp m d s → SpellsSexp m d s (written_sexp s)
unfolding FitsSexp SpellsSexp
spells_sexp m zero s small fits = absurd fits
spells_sexp m (suc d) s small (inl (t, is, le)) =
    rw (is, written_sexp-Atom t)
    (flagged (Mapped sx.Atom (Sized m)) (Mapped sx.List (Counted (room m d) (SpellsSexp m d))) false (sx.Atom t) (written_bytes t) (t, refl, spells_bytes m t small le))
spells_sexp m (suc d) s small (inr (ss, is, (le, all))) =
    rw (is, written_sexp-List ss)
    (flagged (Mapped sx.Atom (Sized m)) (Mapped sx.List (Counted (room m d) (SpellsSexp m d))) true (sx.List ss) (written_list written_sexp ss)
    (ss, refl, spells_list (room m d) (SpellsSexp m d) written_sexp (FitsSexp m d) (λ x f. spells_sexp m d x small f) ss (room_small m d small) (in_room m d ss le all) all))

-- ---- all forms

spells_number : (kind : IntKind) (n : ℤ) → extent n < limit_of kind → Mapped val.Num (IsInt kind) (val.Num n) (written_int n)
spells_number kind n fits = (n, refl, int_form kind n fits)

-- the tag of a case is its key
keyed : (n : ℕ) (cs : Cases) (place : ℕ) → place < case_count cs → Keyed (keys_of n cs) (n + place) (written_tag cs place)
keyed n end_cases place lt = absurd (omega arith)
keyed n (case name fs cs) zero lt = inl (omega arith, refl)
keyed n (case name fs cs) (suc place) lt = inr (subst (λ k. Keyed (keys_of (suc n) cs) k (written_tag cs place)) (omega arith) (keyed (suc n) cs place (omega arith)))

mutual
  unfolding Fits Spells written FitParts SpellParts written_parts FitCase SpellCase written_case

  -- a value that fits is spelled
  pub written_spells : (m : ℕ) (f : Form) (v : Value) → m < 2 ^ 64 → Fits m f v → Spells m f v (written f v)
  written_spells m unit v small fits = (0, refl, ap Some (sym fits))
  written_spells m bool v small (b, is, x) = rw (is, out_bool b) (b, refl, spells_flag b)
  written_spells m char v small (b, is, x) = rw (is, out_char b) (b, refl, refl)
  written_spells m int v small (n, is, x) = rw (is, out_num n) (spells_number Int63 n (number_fits 62 n (lit< tt) x))
  written_spells m int32 v small (n, is, x) = rw (is, out_num n) (spells_number Int32 n (number_fits 31 n (lit< tt) x))
  written_spells m int64 v small (n, is, x) = rw (is, out_num n) (spells_number Int64 n (number_fits 63 n (lit< tt) x))
  written_spells m text v small (t, is, le) = rw (is, out_text t) (t, refl, spells_bytes m t small le)
  written_spells m (opt f) v small (inl is) =
      rw (is, out_absent) (flagged (Done val.Absent) (Mapped val.Present (Spells m f)) false val.Absent [] (refl, refl))
  written_spells m (opt f) v small (inr (x, is, fits)) =
      rw (is, out_present x) (flagged (Done val.Absent) (Mapped val.Present (Spells m f)) true (val.Present x) (written f x) (x, refl, written_spells m f x small fits))
  written_spells m (listed f) v small (vs, is, (le, all)) =
      rw (is, out_items vs) (vs, refl, spells_list m (Spells m f) (written f) (Fits m f) (λ x fits. written_spells m f x small fits) vs small le all)
  written_spells m (tuple fs) v small (vs, is, fits) = rw (is, out_parts vs) (vs, refl, parts_spell m fs vs small fits)
  written_spells m (fields fs) v small (vs, is, fits) = rw (is, out_parts vs) (vs, refl, parts_spell m fs vs small fits)
  written_spells m (sum cs) v small (place, (vs, is, fits)) =
      let (lt, spelled) = case_spells m cs place vs small fits in
      rw (is, out_case place vs) (place, place ∷ [], written_case cs place vs, refl, (place, refl, place_some (case_count cs) place lt), (vs, refl, spelled))
  written_spells m (poly cs) v small (place, (vs, is, fits)) =
      let (lt, spelled) = case_spells m cs place vs small fits in
      let key : Keyed (keys_of 0 cs) place (written_tag cs place) = subst (λ k. Keyed (keys_of 0 cs) k (written_tag cs place)) (omega arith) (keyed 0 cs place lt) in
      rw (is, out_case place vs) (place, written_tag cs place, written_case cs place vs, refl, key, (vs, refl, spelled))
  written_spells m sexp v small (s, is, fits) = rw (is, out_sexp s) (s, refl, spells_sexp m 128 s small fits)

  parts_spell : (m : ℕ) (fs : Parts) (vs : List Value) → m < 2 ^ 64 → FitParts m fs vs → SpellParts m fs vs (written_parts fs vs)
  parts_spell m end [] small fits = (refl, refl)
  parts_spell m end (v ∷ vs) small fits = absurd fits
  parts_spell m (part name f fs) [] small fits = absurd fits
  parts_spell m (part name f fs) (v ∷ vs) small fits =
      (v, written f v, written_parts fs vs, refl, written_spells m f v small fits.0, (vs, refl, parts_spell m fs vs small fits.1))

  case_spells : (m : ℕ) (cs : Cases) (place : ℕ) (vs : List Value) → m < 2 ^ 64 → FitCase m cs place vs
      → (place < case_count cs) × SpellCase m cs place vs (written_case cs place vs)
  case_spells m end_cases place vs small fits = absurd fits
  case_spells m (case name fs cs) zero vs small fits = (omega arith, parts_spell m fs vs small fits)
  case_spells m (case name fs cs) (suc place) vs small fits = let (lt, spelled) = case_spells m cs place vs small fits in (omega arith, spelled)

-- ---- no spelling is shorter

abbrev NoneShorter : {A : Type 0} → (A → List ℕ → Type 0) → (A → List ℕ) → Type 0
NoneShorter {A = A} L w = (a : A) (s : List ℕ) → L a s → length (w a) ≤ length s

joined : (a b t u s : List ℕ) → s ≡ t ++ u → length a ≤ length t → length b ≤ length u → length (a ++ b) ≤ length s
joined a b t u s cut first second = rw (cut, length-append a b, length-append t u) (omega arith)

bytes_shortest : (m : ℕ) → NoneShorter (Sized m) written_bytes
bytes_shortest m t s (n, x, u, cut, nat, (same, len, each)) =
    let long : length t ≡ n = ap length same ∙ len in
    joined (written_nat (length t)) t x u s cut (rw long (nat_shortest m n x nat)) (rw same (omega arith))

count_shortest : {A : Type 0} (L : A → List ℕ → Type 0) (w : A → List ℕ) → NoneShorter L w → (n : ℕ) (vs : List A) (s : List ℕ) → Count L n vs s
    → (length vs ≡ n) × (length (flat_map w vs) ≤ length s)
count_shortest L w each zero vs s (none, empty) = rw (none, empty) (refl, omega arith)
count_shortest L w each (suc n) vs s (v, t, u, cut, l, (ws, is, rest)) =
    let (long, le) = count_shortest L w each n ws u rest in
    rw is (ap suc long, joined (w v) (flat_map w ws) t u s cut (each v t l) le)

list_shortest : {A : Type 0} (m : ℕ) (L : A → List ℕ → Type 0) (w : A → List ℕ) → NoneShorter L w → NoneShorter (Counted m L) (written_list w)
list_shortest m L w each vs s (n, x, u, cut, nat, items) =
    let (long, le) = count_shortest L w each n vs u items in
    joined (written_nat (length vs)) (flat_map w vs) x u s cut (rw long (nat_shortest m n x nat)) le

one_shortest : {A : Type 0} (h : ℕ → Option A) (a : A) (b : ℕ) (s : List ℕ) → One h a s → length (b ∷ []) ≤ length s
one_shortest h a b s (c, is, e) = rw is (omega arith)

flag_shortest : NoneShorter (One flag_of) written_flag
flag_shortest false s l = one_shortest flag_of false 0 s l
flag_shortest true s l = one_shortest flag_of true 1 s l

flagged_shortest : {A : Type 0} (L M : A → List ℕ → Type 0) (b : Bool) (a : A) (w t u s : List ℕ) → s ≡ t ++ u → One flag_of b t → length w ≤ length u
    → length (written_flag b ++ w) ≤ length s
flagged_shortest L M b a w t u s cut flag le = joined (written_flag b) w t u s cut (flag_shortest b t flag) le

sexp_shortest : (m d : ℕ) → NoneShorter (SpellsSexp m d) written_sexp
unfolding SpellsSexp
sexp_shortest m zero x s l = absurd l
sexp_shortest m (suc d) x s (false, t, u, cut, flag, (a, is, l)) =
    rw (is, written_sexp-Atom a) (joined (written_flag false) (written_bytes a) t u s cut (flag_shortest false t flag) (bytes_shortest m a u l))
sexp_shortest m (suc d) x s (true, t, u, cut, flag, (ss, is, l)) =
    rw (is, written_sexp-List ss)
    (joined (written_flag true) (written_list written_sexp ss) t u s cut (flag_shortest true t flag)
    (list_shortest (room m d) (SpellsSexp m d) written_sexp (sexp_shortest m d) ss u l))

tag_shortest : (n : ℕ) (cs : Cases) (place : ℕ) (s : List ℕ) → Keyed (keys_of n cs) (n + place) s → length (written_tag cs place) ≤ length s
tag_shortest n end_cases place s k = absurd k
tag_shortest n (case name fs cs) zero s (inl x) = rw x.1 (omega arith)
tag_shortest n (case name fs cs) (suc place) s (inl x) = absurd (omega (arith, x.0))
tag_shortest n (case name fs cs) zero s (inr x) = absurd (let y = keyed_place (suc n) cs (n + 0) s x in omega (arith, y.0))
tag_shortest n (case name fs cs) (suc place) s (inr x) =
    tag_shortest (suc n) cs place s (subst (λ k. Keyed (keys_of (suc n) cs) k s) (omega arith) x)

number_shortest : (kind : IntKind) (v : Value) (s : List ℕ) → Mapped val.Num (IsInt kind) v s → length (number_bytes (out-Value v)) ≤ length s
number_shortest kind v s (n, is, l) = rw (is, out_num n) (int_shortest kind n s l)

mutual
  unfolding Spells written SpellParts written_parts SpellCase written_case

  -- no spelling of a value is shorter
  pub written_shortest : (m : ℕ) (f : Form) (v : Value) (s : List ℕ) → Spells m f v s → length (written f v) ≤ length s
  written_shortest m unit v s l = one_shortest unit_of v 0 s l
  written_shortest m bool v s (b, is, l) = rw (is, out_bool b) (flag_shortest b s l)
  written_shortest m char v s (b, cut, e) = let is : v ≡ val.Char b = cc in rw (is, out_char b, cut) (omega arith)
  written_shortest m int v s l = number_shortest Int63 v s l
  written_shortest m int32 v s l = number_shortest Int32 v s l
  written_shortest m int64 v s l = number_shortest Int64 v s l
  written_shortest m text v s (t, is, l) = rw (is, out_text t) (bytes_shortest m t s l)
  written_shortest m (opt f) v s (false, t, u, cut, flag, (is, none)) =
      rw (is, out_absent, cut, length-append t u) (let le = flag_shortest false t flag in omega arith)
  written_shortest m (opt f) v s (true, t, u, cut, flag, (x, is, l)) =
      rw (is, out_present x) (joined (written_flag true) (written f x) t u s cut (flag_shortest true t flag) (written_shortest m f x u l))
  written_shortest m (listed f) v s (vs, is, l) = rw (is, out_items vs) (list_shortest m (Spells m f) (written f) (written_shortest m f) vs s l)
  written_shortest m (tuple fs) v s (vs, is, l) = rw (is, out_parts vs) (parts_shortest m fs vs s l)
  written_shortest m (fields fs) v s (vs, is, l) = rw (is, out_parts vs) (parts_shortest m fs vs s l)
  written_shortest m (sum cs) v s (place, t, u, cut, choice, (vs, is, l)) =
      rw (is, out_case place vs)
      (joined (place ∷ []) (written_case cs place vs) t u s cut (one_shortest (place_of (case_count cs)) place place t choice) (case_shortest m cs place vs u l))
  written_shortest m (poly cs) v s (place, t, u, cut, key, (vs, is, l)) =
      rw (is, out_case place vs)
      (joined (written_tag cs place) (written_case cs place vs) t u s cut
      (tag_shortest 0 cs place t (subst (λ k. Keyed (keys_of 0 cs) k t) (omega arith) key)) (case_shortest m cs place vs u l))
  written_shortest m sexp v s (x, is, l) = rw (is, out_sexp x) (sexp_shortest m 128 x s l)

  parts_shortest : (m : ℕ) (fs : Parts) (vs : List Value) (s : List ℕ) → SpellParts m fs vs s → length (written_parts fs vs) ≤ length s
  parts_shortest m end vs s l = omega arith
  parts_shortest m (part name f fs) vs s (v, t, u, cut, l, (ws, is, rest)) =
      rw is (joined (written f v) (written_parts fs ws) t u s cut (written_shortest m f v t l) (parts_shortest m fs ws u rest))

  case_shortest : (m : ℕ) (cs : Cases) (place : ℕ) (vs : List Value) (s : List ℕ) → SpellCase m cs place vs s → length (written_case cs place vs) ≤ length s
  case_shortest m end_cases place vs s l = absurd l
  case_shortest m (case name fs cs) zero vs s l = parts_shortest m fs vs s l
  case_shortest m (case name fs cs) (suc place) vs s l = case_shortest m cs place vs s l
