-- A value that fits a form, however long its texts and lists are, fits it within the length of its shortest spelling.
use Rattle.std.proofs.Common.{◌≡◌, refl, ℕ, zero, suc, ℤ, pos, negsuc, ◌+◌, ◌≤◌, ◌^◌, Bool, true, false, if◌then◌else◌, List, [], ◌∷◌, ◌++◌, length, length-append, inl, inr, arith}
use Rattle.std.specs.Prelude.{nat_lt}
use Rattle.std.specs.List.{All, flat_map}
use Rattle.std.proofs.lemmas.List.Elements.{All-nil, All-cons, All-head, All-tail}
use Rattle.bp_num.specs.Forms.{extent, little_endian, signed_bytes, written_nat, wide_int, written_int}
use Rattle.bp_num.proofs.SignedBytes.{length-signed_bytes}
use Rattle.bp_value.specs.declared.value.Value.{Value}
use Rattle.bp_value.specs.declared.value.Value.TheVariants as val
use Rattle.bp_value.specs.declared.value.Sexp.{Sexp}
use Rattle.bp_value.specs.Form.{Form, Parts, Cases, unit, bool, char, int, int32, int64, text, opt, listed, tuple, fields, sum, poly, sexp, end, part, end_cases, case}
use Rattle.bp_value.specs.Limits.{deepest_sexp}
use Rattle.bp_value.specs.Tags.{tag_of}
use Rattle.bp_value.specs.Fits.{FitsSexp, Fits, FitParts, FitCase}
use Rattle.bp_value.proofs.Layers.{out_absent, out_bool, out_char, out_num, out_text, out_present, out_items, out_parts, out_case, out_sexp}
use Rattle.bp_grammar.specs.Written.{written_flag, written_tag, written_sexp, written, written_parts, written_case}
use Rattle.bp_grammar.proofs.Written.{written_sexp-Atom, written_sexp-List}
use Rattle.bp_grammar.proofs.SomeBytes.{HasPart, IsFull, ArePartsFull, AreCasesFull}
use Rattle.rpc_schema.specs.Entries.{IsAnyOf}
use Rattle.rpc_talk.proofs.Lengths.{text_long, present_long, items_long, tuple_long, fields_long, sum_long, poly_long, sexp_long, atom_long, list_long, part_long, parts_long}

-- ---- each value has a byte

abbrev HasByte : List ℕ → Type 0
HasByte s = 1 ≤ length s

either_byte : (b : Bool) (s t : List ℕ) → HasByte s → HasByte t → HasByte (if b then s else t)
either_byte true s t first second = first
either_byte false s t first second = second

joined_byte : (s t : List ℕ) → HasByte s → HasByte (s ++ t)
joined_byte s t some = rw (length-append s t) (omega arith)

nat_byte : (n : ℕ) → HasByte (written_nat n)
nat_byte n =
    either_byte (nat_lt n 128) (n ∷ []) _ (omega arith)
    (either_byte (nat_lt n (2 ^ 16)) (254 ∷ little_endian 2 n) _ (omega arith)
    (either_byte (nat_lt n (2 ^ 32)) (253 ∷ little_endian 4 n) (252 ∷ little_endian 8 n) (omega arith) (omega arith)))

wide_byte : (n : ℤ) → HasByte (wide_int n)
wide_byte n =
    either_byte (nat_lt (extent n) (2 ^ 15)) (254 ∷ signed_bytes 2 n) _ (omega arith)
    (either_byte (nat_lt (extent n) (2 ^ 31)) (253 ∷ signed_bytes 4 n) (252 ∷ signed_bytes 8 n) (omega arith) (omega arith))

int_byte : (n : ℤ) → HasByte (written_int n)
int_byte (pos n) = either_byte (nat_lt n 128) (n ∷ []) (wide_int (pos n)) (omega arith) (wide_byte (pos n))
int_byte (negsuc n) =
    either_byte (nat_lt n 128) (255 ∷ signed_bytes 1 (negsuc n)) (wide_int (negsuc n)) (omega arith) (wide_byte (negsuc n))

flag_byte : (b : Bool) → HasByte (written_flag b)
flag_byte false = omega arith
flag_byte true = omega arith

tag_byte : (k : ℕ) (cs : Cases) (place : ℕ) (vs : List Value) → FitCase k cs place vs → HasByte (written_tag cs place)
unfolding FitCase
tag_byte k end_cases place vs fits = absurd fits
tag_byte k (case name fs cs) zero vs fits = rw (length-signed_bytes 4 (tag_of name)) (omega arith)
tag_byte k (case name fs cs) (suc place) vs fits = tag_byte k cs place vs fits

sexp_byte : (k d : ℕ) (x : Sexp) → FitsSexp k d x → HasByte (written_sexp x)
unfolding FitsSexp
sexp_byte k zero x fits = absurd fits
sexp_byte k (suc d) x (inl (t, is, le)) = rw (is, written_sexp-Atom t) (omega arith)
sexp_byte k (suc d) x (inr (xs, is, both)) = rw (is, written_sexp-List xs) (omega arith)

mutual
  unfolding Fits IsFull written FitParts ArePartsFull written_parts

  form_byte : (k : ℕ) (f : Form) (v : Value) → IsFull f → Fits k f v → HasByte (written f v)
  form_byte k unit v is fits = omega arith
  form_byte k bool v is (b, e, x) = rw (e, out_bool b) (flag_byte b)
  form_byte k char v is (b, e, x) = rw (e, out_char b) (omega arith)
  form_byte k int v is (n, e, x) = rw (e, out_num n) (int_byte n)
  form_byte k int32 v is (n, e, x) = rw (e, out_num n) (int_byte n)
  form_byte k int64 v is (n, e, x) = rw (e, out_num n) (int_byte n)
  form_byte k text v is (t, e, x) = rw (e, out_text t) (joined_byte (written_nat (length t)) t (nat_byte (length t)))
  form_byte k (opt f) v is (inl e) = rw (e, out_absent) (flag_byte false)
  form_byte k (opt f) v is (inr (x, e, fits)) = rw (e, out_present x) (joined_byte (written_flag true) (written f x) (flag_byte true))
  form_byte k (listed f) v is (vs, e, x) =
      rw (e, out_items vs) (joined_byte (written_nat (length vs)) (flat_map (written f) vs) (nat_byte (length vs)))
  form_byte k (tuple fs) v is (vs, e, fits) = rw (e, out_parts vs) (parts_byte k fs vs is.0 is.1 fits)
  form_byte k (fields fs) v is (vs, e, fits) = rw (e, out_parts vs) (parts_byte k fs vs is.0 is.1 fits)
  form_byte k (sum cs) v is (place, (vs, e, fits)) = rw (e, out_case place vs) (omega arith)
  form_byte k (poly cs) v is (place, (vs, e, fits)) =
      rw (e, out_case place vs) (joined_byte (written_tag cs place) (written_case cs place vs) (tag_byte k cs place vs fits))
  form_byte k sexp v is (x, e, fits) = rw (e, out_sexp x) (sexp_byte k deepest_sexp x fits)

  parts_byte : (k : ℕ) (fs : Parts) (vs : List Value) → HasPart fs → ArePartsFull fs → FitParts k fs vs → HasByte (written_parts fs vs)
  parts_byte k end vs some is fits = absurd some
  parts_byte k (part name f fs) [] some is fits = absurd fits
  parts_byte k (part name f fs) (v ∷ vs) some is fits = joined_byte (written f v) (written_parts fs vs) (form_byte k f v is.0 fits.0)

-- ---- lists

module _ {A : Type 0} (w : A → List ℕ) (F G : A → Type 0) (m : ℕ) (byte : (a : A) → F a → HasByte (w a))
    (short : (a : A) → F a → length (w a) ≤ m → G a) where
  all_short : (xs : List A) → All F xs → length (flat_map w xs) ≤ m → (length xs ≤ length (flat_map w xs)) × All G xs
  all_short [] all le = (omega arith, All-nil G)
  all_short (a ∷ xs) all le =
      let fits = All-head F a xs all in
      let long : length (flat_map w (a ∷ xs)) ≡ length (w a) + length (flat_map w xs) = length-append (w a) (flat_map w xs) in
      let some : 1 ≤ length (w a) = byte a fits in
      let (few, others) = all_short xs (All-tail F a xs all) (omega (arith, long)) in
      (omega (arith, long), All-cons G a xs (short a fits (omega (arith, long))) others)

-- ---- all forms

short_sexp : (k m d : ℕ) (x : Sexp) → FitsSexp k d x → length (written_sexp x) ≤ m → FitsSexp m d x
unfolding FitsSexp
short_sexp k m zero x fits le = absurd fits
short_sexp k m (suc d) x (inl (t, is, less)) le = let long = atom_long x t is in inl (t, is, omega (arith, long))
short_sexp k m (suc d) x (inr (xs, is, (less, all))) le =
    let long = list_long x xs is in
    let (few, fit)
    = all_short written_sexp (FitsSexp k d) (FitsSexp m d) m (sexp_byte k d) (short_sexp k m d) xs all (omega (arith, long)) in
    inr (xs, is, (omega (arith, long), fit))

mutual
  unfolding Fits IsFull FitParts ArePartsFull FitCase AreCasesFull written_case

  pub short_fits : (k m : ℕ) (f : Form) (v : Value) → IsFull f → Fits k f v → length (written f v) ≤ m → Fits m f v
  short_fits k m unit v is fits le = fits
  short_fits k m bool v is fits le = fits
  short_fits k m char v is fits le = fits
  short_fits k m int v is fits le = fits
  short_fits k m int32 v is fits le = fits
  short_fits k m int64 v is fits le = fits
  short_fits k m text v is (t, e, less) le = let long = text_long v t e in (t, e, omega (arith, long))
  short_fits k m (opt f) v is (inl e) le = inl e
  short_fits k m (opt f) v is (inr (x, e, fits)) le =
      let long = present_long f v x e in
      inr (x, e, short_fits k m f x is fits (omega (arith, long)))
  short_fits k m (listed f) v is (vs, e, (less, all)) le =
      let long = items_long f v vs e in
      let (few, fit)
      = all_short (written f) (Fits k f) (Fits m f) m (λ x fits. form_byte k f x is fits)
      (λ x fits few. short_fits k m f x is fits few) vs all (omega (arith, long)) in
      (vs, e, (omega (arith, long), fit))
  short_fits k m (tuple fs) v is (vs, e, fits) le =
      let long = tuple_long fs v vs e in
      (vs, e, short_parts k m fs vs is.1 fits (omega (arith, long)))
  short_fits k m (fields fs) v is (vs, e, fits) le =
      let long = fields_long fs v vs e in
      (vs, e, short_parts k m fs vs is.1 fits (omega (arith, long)))
  short_fits k m (sum cs) v is (place, (vs, e, fits)) le =
      let long = sum_long cs v place vs e in
      (place, (vs, e, short_case k m cs place vs is fits (omega (arith, long))))
  short_fits k m (poly cs) v is (place, (vs, e, fits)) le =
      let long = poly_long cs v place vs e in
      (place, (vs, e, short_case k m cs place vs is fits (omega (arith, long))))
  short_fits k m sexp v is (x, e, fits) le = let long = sexp_long v x e in (x, e, short_sexp k m deepest_sexp x fits (omega (arith, long)))

  short_parts : (k m : ℕ) (fs : Parts) (vs : List Value) → ArePartsFull fs → FitParts k fs vs → length (written_parts fs vs) ≤ m
      → FitParts m fs vs
  short_parts k m end [] is fits le = tt
  short_parts k m end (v ∷ vs) is fits le = absurd fits
  short_parts k m (part name f fs) [] is fits le = absurd fits
  short_parts k m (part name f fs) (v ∷ vs) is fits le =
      let first = part_long name f fs v vs in
      let rest = parts_long name f fs v vs in
      (short_fits k m f v is.0 fits.0 (omega (arith, first)), short_parts k m fs vs is.1 fits.1 (omega (arith, rest)))

  short_case : (k m : ℕ) (cs : Cases) (place : ℕ) (vs : List Value) → AreCasesFull cs → FitCase k cs place vs
      → length (written_case cs place vs) ≤ m → FitCase m cs place vs
  short_case k m end_cases place vs is fits le = absurd fits
  short_case k m (case name fs cs) zero vs is fits le = short_parts k m fs vs is.0 fits le
  short_case k m (case name fs cs) (suc place) vs is fits le = short_case k m cs place vs is.1 fits le

-- ---- lists

-- a list whose items fit, each at a limit of its own
pub short_items : (m : ℕ) (f : Form) (vs : List Value) → IsFull f → All (IsAnyOf f) vs → length (written (listed f) (val.Items vs)) ≤ m
    → Fits m (listed f) (val.Items vs)
unfolding Fits
short_items m f vs is all le =
    let long = items_long f (val.Items vs) vs refl in
    let (few, fit)
    = all_short (written f) (IsAnyOf f) (Fits m f) m (λ x p. form_byte p.0 f x is p.1)
    (λ x p short. short_fits p.0 m f x is p.1 short) vs all (omega (arith, long)) in
    (vs, refl, (omega (arith, long), fit))
