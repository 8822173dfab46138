-- What was read of a value stays read, and what was at fault stays at fault, whatever follows.
use Rattle.std.proofs.Common.{Bool, true, false, ℕ, zero, suc, List, [], ◌∷◌}
use Rattle.readers.specs.Reader.{Outcome, Grows, whole, after, mapped, one, count, symbols}
use Rattle.readers.specs.Keys.{key_at}
use Rattle.readers.proofs.Growing.{grows_after, grows_mapped, grows_whole, grows_more, grows_one, grows_count, grows_symbols}
use Rattle.readers.proofs.Keys.{grows_keys}
use Rattle.bp_num.specs.declared.number.IntKind.TheVariants.{Int63, Int32, Int64}
use Rattle.bp_num.specs.declared.number.Why.{Why}
use Rattle.bp_num.specs.declared.number.Why.TheVariants.{Byte, Case, Tag}
use Rattle.bp_num.specs.NumberAt.{nat_at, int_at}
use Rattle.bp_num.proofs.Growth.{grows_nat, grows_int}
use Rattle.bp_value.specs.declared.value.Value.{Value}
use Rattle.bp_value.specs.declared.value.Value.TheVariants as val
use Rattle.bp_value.specs.declared.value.Sexp.{Sexp}
use Rattle.bp_value.specs.declared.value.Sexp.TheVariants as sx
use Rattle.bp_value.specs.Form.{Form, Parts, Cases, unit, bool, char, int, int32, int64, text, opt, listed, tuple, fields, sum, poly, sexp, end, part, end_cases, case}
use Rattle.bp_grammar.specs.Spells.{unit_of, flag_of, char_of, place_of, case_count, keys_of, room}
use Rattle.bp_grammar.specs.Reading.{sized_at, counted_at, at_flag, read_sexp, read, read_parts, read_case}

pub grows_sized : (m : ℕ) → Grows (sized_at m)
grows_sized m = grows_after (nat_at m) symbols (grows_nat m) (grows_symbols Why)

pub grows_counted : {A : Type 0} (m : ℕ) (r : List ℕ → Outcome ℕ Why A) → Grows r → Grows (counted_at m r)
grows_counted m r grows = grows_after (nat_at m) (count r) (grows_nat m) (grows_count r grows)

grows_flag : {A : Type 0} (r q : List ℕ → Outcome ℕ Why A) → Grows r → Grows q → (b : Bool) → Grows (at_flag r q b)
grows_flag r q left right false = left
grows_flag r q left right true = right

grows_flagged : {A : Type 0} (w : Why) (r q : List ℕ → Outcome ℕ Why A) → Grows r → Grows q → Grows (λ s. after (one flag_of w s) (at_flag r q))
grows_flagged w r q left right = grows_after (one flag_of w) (at_flag r q) (grows_one flag_of w) (grows_flag r q left right)

pub grows_sexp : (m d : ℕ) → Grows (read_sexp m d)
unfolding read_sexp
grows_sexp m zero = grows_more Why Sexp
grows_sexp m (suc d) =
    grows_flagged Case (λ t. mapped sx.Atom (sized_at m t)) (λ t. mapped sx.List (counted_at (room m d) (read_sexp m d) t))
    (grows_mapped sx.Atom (sized_at m) (grows_sized m)) (grows_mapped sx.List (counted_at (room m d) (read_sexp m d)) (grows_counted (room m d) (read_sexp m d) (grows_sexp m d)))

-- a choice, and the case that it chooses
grows_chosen : (m : ℕ) (r : List ℕ → Outcome ℕ Why ℕ) (cs : Cases) → Grows r → ((place : ℕ) → Grows (read_case m cs place))
    → Grows (λ s. after (r s) (λ place t. mapped (val.Case place) (read_case m cs place t)))
grows_chosen m r cs choice each =
    grows_after r (λ place t. mapped (val.Case place) (read_case m cs place t)) choice (λ place. grows_mapped (val.Case place) (read_case m cs place) (each place))

mutual
  unfolding read read_parts read_case

  pub grows_form : (m : ℕ) (f : Form) → Grows (read m f)
  grows_form m unit = grows_one unit_of Byte
  grows_form m bool = grows_mapped val.Bool (one flag_of Byte) (grows_one flag_of Byte)
  grows_form m char = grows_one char_of Byte
  grows_form m int = grows_mapped val.Num (int_at Int63) (grows_int Int63)
  grows_form m int32 = grows_mapped val.Num (int_at Int32) (grows_int Int32)
  grows_form m int64 = grows_mapped val.Num (int_at Int64) (grows_int Int64)
  grows_form m text = grows_mapped val.Text (sized_at m) (grows_sized m)
  grows_form m (opt f) =
      grows_flagged Byte (λ t. whole val.Absent t) (λ t. mapped val.Present (read m f t)) (grows_whole val.Absent) (grows_mapped val.Present (read m f) (grows_form m f))
  grows_form m (listed f) = grows_mapped val.Items (counted_at m (read m f)) (grows_counted m (read m f) (grows_form m f))
  grows_form m (tuple fs) = grows_mapped val.Parts (read_parts m fs) (grows_parts m fs)
  grows_form m (fields fs) = grows_mapped val.Parts (read_parts m fs) (grows_parts m fs)
  grows_form m (sum cs) = grows_chosen m (one (place_of (case_count cs)) Case) cs (grows_one (place_of (case_count cs)) Case) (grows_case m cs)
  grows_form m (poly cs) = grows_chosen m (key_at Tag 4 (keys_of 0 cs)) cs (grows_keys Tag 4 (keys_of 0 cs)) (grows_case m cs)
  grows_form m sexp = grows_mapped val.Sexp (read_sexp m 128) (grows_sexp m 128)

  pub grows_parts : (m : ℕ) (fs : Parts) → Grows (read_parts m fs)
  grows_parts m end = grows_whole []
  grows_parts m (part name f fs) =
      grows_after (read m f) (λ v t. mapped (λ ws. v ∷ ws) (read_parts m fs t)) (grows_form m f) (λ v. grows_mapped (λ ws. v ∷ ws) (read_parts m fs) (grows_parts m fs))

  pub grows_case : (m : ℕ) (cs : Cases) (place : ℕ) → Grows (read_case m cs place)
  grows_case m end_cases place = grows_more Why (List Value)
  grows_case m (case name fs cs) zero = grows_parts m fs
  grows_case m (case name fs cs) (suc place) = grows_case m cs place
