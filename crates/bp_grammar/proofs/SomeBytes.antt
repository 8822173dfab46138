-- Each value of a form takes a byte at least, where each tuple and record of the form has a part.
use Rattle.std.proofs.Common.{refl, ℕ, suc, ◌+◌, ◌≤◌, List, ◌∷◌, length, lit<, arith}
use Rattle.readers.specs.Reader.{Then, Mapped, Done, One, Count}
use Rattle.readers.specs.Keys.{Keyed}
use Rattle.bp_num.specs.declared.number.IntKind.{IntKind}
use Rattle.bp_num.specs.declared.number.IntKind.TheVariants.{Int63, Int32, Int64}
use Rattle.bp_num.specs.Forms.{IsNat, IsInt}
use Rattle.bp_value.specs.declared.fault.ShapeFault.TheVariants.{ShortTuple, EmptyFields}
use Rattle.bp_value.specs.declared.value.Sexp.{Sexp}
use Rattle.bp_value.specs.declared.value.Value.{Value}
use Rattle.bp_value.specs.declared.value.Value.TheVariants as val
use Rattle.bp_value.specs.Form.{Form, Parts, Cases, unit, bool, char, int, int32, int64, text, opt, listed, tuple, fields, sum, poly, sexp, end, part, end_cases, case}
use Rattle.bp_value.specs.Faults.{nodes, part_nodes, case_nodes, IsGood}
use Rattle.bp_value.proofs.Good.{AreGood, good_root, good_node, good_opt, good_listed, good_tuple, good_fields, good_sum, good_poly, good_part, good_case}
use Rattle.bp_grammar.specs.Spells.{unit_of, flag_of, char_of, place_of, case_count, keys_of, Sized, Counted, AtFlag, SpellsSexp, Spells, SpellParts, SpellCase}
use Rattle.bp_grammar.specs.Nodes.{sexp_node_count}
use Rattle.bp_grammar.proofs.Right.{keys_long}
use Rattle.bp_grammar.proofs.Covers.{Covers, covers_mapped, covers_then, covers_less, covers_symbol, covers_key, covers_nat, covers_int, covers_sized, covers_each}
use Rattle.bp_grammar.proofs.Nodes.{sexp_covers}

-- ---- which forms have no value of no bytes

abbrev pub HasPart : Parts → Type 0
HasPart end = ⊥
HasPart (part name f fs) = Unit {0}

-- each tuple and record has a part
unfoldable mutual
  pub IsFull : Form → Type 0
  IsFull (opt f) = IsFull f
  IsFull (listed f) = IsFull f
  IsFull (tuple fs) = HasPart fs × ArePartsFull fs
  IsFull (fields fs) = HasPart fs × ArePartsFull fs
  IsFull (sum cs) = AreCasesFull cs
  IsFull (poly cs) = AreCasesFull cs
  IsFull _ = Unit {0}

  pub ArePartsFull : Parts → Type 0
  ArePartsFull end = Unit {0}
  ArePartsFull (part name f fs) = IsFull f × ArePartsFull fs

  pub AreCasesFull : Cases → Type 0
  AreCasesFull end_cases = Unit {0}
  AreCasesFull (case name fs cs) = ArePartsFull fs × AreCasesFull cs

-- ---- good forms are such

tuple_part : (d : ℕ) (fs : Parts) → AreGood (nodes d (tuple fs)) → HasPart fs
tuple_part d end good = good_node d (tuple end) good (ShortTuple 0) (tt, refl, lit< tt)
tuple_part d (part name f fs) good = tt

record_part : (d : ℕ) (fs : Parts) → AreGood (nodes d (fields fs)) → HasPart fs
record_part d end good = good_node d (fields end) good EmptyFields (tt, refl)
record_part d (part name f fs) good = tt

mutual
  unfolding IsFull ArePartsFull AreCasesFull

  full_node : (d : ℕ) (f : Form) → AreGood (nodes d f) → IsFull f
  full_node d unit good = tt
  full_node d bool good = tt
  full_node d char good = tt
  full_node d int good = tt
  full_node d int32 good = tt
  full_node d int64 good = tt
  full_node d text good = tt
  full_node d (opt f) good = full_node (d + 1) f (good_opt d f good)
  full_node d (listed f) good = full_node (d + 1) f (good_listed d f good)
  full_node d (tuple fs) good = (tuple_part d fs good, full_parts (d + 1) fs (good_tuple d fs good))
  full_node d (fields fs) good = (record_part d fs good, full_parts (d + 1) fs (good_fields d fs good))
  full_node d (sum cs) good = full_cases (d + 1) cs (good_sum d cs good)
  full_node d (poly cs) good = full_cases (d + 1) cs (good_poly d cs good)
  full_node d sexp good = tt

  full_parts : (d : ℕ) (fs : Parts) → AreGood (part_nodes d fs) → ArePartsFull fs
  full_parts d end good = tt
  full_parts d (part name f fs) good = let both = good_part d name f fs good in (full_node d f both.0, full_parts d fs both.1)

  full_cases : (d : ℕ) (cs : Cases) → AreGood (case_nodes d cs) → AreCasesFull cs
  full_cases d end_cases good = tt
  full_cases d (case name fs cs) good = let both = good_case d name fs cs good in (full_parts d fs both.0, full_cases d cs both.1)

pub good_full : (f : Form) → IsGood f → IsFull f
good_full f good = full_node 1 f (good_root f good)

-- ---- a byte at least

abbrev HasBytes : {A : Type 0} → (A → List ℕ → Type 0) → Type 0
HasBytes L = Covers 0 (λ a. 1) L

mapped_bytes : {A B : Type 0} (g : A → B) (L : A → List ℕ → Type 0) → HasBytes L → HasBytes (Mapped g L)
mapped_bytes g L bytes = covers_mapped 0 (λ b. 1) (λ a. 1) g L (λ a. omega arith) bytes

-- the first of two has a byte
then_bytes : {A B : Type 0} (L : A → List ℕ → Type 0) (M : A → B → List ℕ → Type 0) → HasBytes L → HasBytes (Then L M)
then_bytes L M bytes = covers_then 1 (λ b. 1) L M bytes (λ a b s l. omega arith)

number_bytes : (kind : IntKind) → HasBytes (Mapped val.Num (IsInt kind))
number_bytes kind = mapped_bytes val.Num (IsInt kind) (covers_int kind)

sexp_bytes : (m d : ℕ) → HasBytes (SpellsSexp m d)
sexp_bytes m d = covers_less 0 (λ x. 1) (λ x. suc (sexp_node_count x)) (SpellsSexp m d) (λ x. omega arith) (sexp_covers m d)

mutual
  unfolding Spells IsFull SpellParts ArePartsFull

  bytes_of_form : (m : ℕ) (f : Form) → IsFull f → HasBytes (Spells m f)
  bytes_of_form m unit is = covers_symbol unit_of
  bytes_of_form m bool is = mapped_bytes val.Bool (One flag_of) (covers_symbol flag_of)
  bytes_of_form m char is = covers_symbol char_of
  bytes_of_form m int is = number_bytes Int63
  bytes_of_form m int32 is = number_bytes Int32
  bytes_of_form m int64 is = number_bytes Int64
  bytes_of_form m text is = mapped_bytes val.Text (Sized m) (covers_sized m)
  bytes_of_form m (opt f) is = then_bytes (One flag_of) (AtFlag (Done val.Absent) (Mapped val.Present (Spells m f))) (covers_symbol flag_of)
  bytes_of_form m (listed f) is = mapped_bytes val.Items (Counted m (Spells m f)) (then_bytes (IsNat m) (Count (Spells m f)) (covers_nat m))
  bytes_of_form m (tuple fs) is = mapped_bytes val.Parts (SpellParts m fs) (bytes_of_parts m fs is.0 is.1)
  bytes_of_form m (fields fs) is = mapped_bytes val.Parts (SpellParts m fs) (bytes_of_parts m fs is.0 is.1)
  bytes_of_form m (sum cs) is = then_bytes (One (place_of (case_count cs))) (λ place. Mapped (val.Case place) (SpellCase m cs place)) (covers_symbol (place_of (case_count cs)))
  bytes_of_form m (poly cs) is =
      then_bytes (Keyed (keys_of 0 cs)) (λ place. Mapped (val.Case place) (SpellCase m cs place))
      (covers_less 0 (λ place. 1) (λ place. 4) (Keyed (keys_of 0 cs)) (λ place. omega arith) (covers_key 4 (keys_of 0 cs) (keys_long 0 cs)))
  bytes_of_form m sexp is = mapped_bytes val.Sexp (SpellsSexp m 128) (sexp_bytes m 128)

  bytes_of_parts : (m : ℕ) (fs : Parts) → HasPart fs → ArePartsFull fs → HasBytes (SpellParts m fs)
  bytes_of_parts m end some is = absurd some
  bytes_of_parts m (part name f fs) some is = then_bytes (Spells m f) (λ v. Mapped (λ ws. v ∷ ws) (SpellParts m fs)) (bytes_of_form m f is.0)

pub spelling_some : (m : ℕ) (f : Form) (v : Value) (s : List ℕ) → IsFull f → Spells m f v s → 1 ≤ length s
spelling_some m f v s is l = let long : 1 ≤ 0 + length s = bytes_of_form m f is v s l in omega arith

-- n values have n bytes or more
pub items_spelled : (m : ℕ) (f : Form) (n : ℕ) (vs : List Value) (s : List ℕ) → IsFull f → Count (Spells m f) n vs s → n ≤ length s
items_spelled m f n vs s is l = let long : n ≤ 0 + length s = covers_each (Spells m f) (bytes_of_form m f is) n vs s l in omega arith

pub sexps_spelled : (m d n : ℕ) (xs : List Sexp) (s : List ℕ) → Count (SpellsSexp m d) n xs s → n ≤ length s
sexps_spelled m d n xs s l = let long : n ≤ 0 + length s = covers_each (SpellsSexp m d) (sexp_bytes m d) n xs s l in omega arith
