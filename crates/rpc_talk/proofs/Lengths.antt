-- No part of a value has a longer spelling than the value, and no text is longer than its spelling.
use Rattle.std.proofs.Common.{◌≡◌, ℕ, ◌≤◌, true, List, [], ◌∷◌, ◌++◌, length, length-append, arith}
use Rattle.std.specs.List.{flat_map}
use Rattle.bp_num.specs.Forms.{written_nat}
use Rattle.bp_value.specs.declared.value.Value.{Value}
use Rattle.bp_value.specs.declared.value.Value.TheVariants as val
use Rattle.bp_value.specs.declared.value.Sexp.{Sexp}
use Rattle.bp_value.specs.declared.value.Sexp.TheVariants as sx
use Rattle.bp_value.specs.Form.{Form, Parts, Cases, text, opt, listed, tuple, fields, sum, poly, sexp, part, case}
use Rattle.bp_value.proofs.Layers.{out_text, out_present, out_items, out_parts, out_case, out_sexp}
use Rattle.bp_grammar.specs.Written.{written_flag, written_tag, written_sexp, written, written_parts, written_case}
use Rattle.bp_grammar.proofs.Written.{written_sexp-Atom, written_sexp-List}

-- the last of two is no longer than both
last_long : (a b : List ℕ) → length b ≤ length (a ++ b)
last_long a b = rw (length-append a b) (omega arith)

first_long : (a b : List ℕ) → length a ≤ length (a ++ b)
first_long a b = rw (length-append a b) (omega arith)

-- ---- layers

pub text_long : (v : Value) (t : List ℕ) → v ≡ val.Text t → length t ≤ length (written text v)
unfolding written
text_long v t is = rw (is, out_text t) (last_long (written_nat (length t)) t)

pub present_long : (f : Form) (v x : Value) → v ≡ val.Present x → length (written f x) ≤ length (written (opt f) v)
unfolding written
present_long f v x is = rw (is, out_present x) (last_long (written_flag true) (written f x))

pub items_long : (f : Form) (v : Value) (vs : List Value) → v ≡ val.Items vs
    → length (flat_map (written f) vs) ≤ length (written (listed f) v)
unfolding written
items_long f v vs is = rw (is, out_items vs) (last_long (written_nat (length vs)) (flat_map (written f) vs))

pub tuple_long : (fs : Parts) (v : Value) (vs : List Value) → v ≡ val.Parts vs
    → length (written_parts fs vs) ≤ length (written (tuple fs) v)
unfolding written
tuple_long fs v vs is = rw (is, out_parts vs) (omega arith)

pub fields_long : (fs : Parts) (v : Value) (vs : List Value) → v ≡ val.Parts vs
    → length (written_parts fs vs) ≤ length (written (fields fs) v)
unfolding written
fields_long fs v vs is = rw (is, out_parts vs) (omega arith)

pub sum_long : (cs : Cases) (v : Value) (place : ℕ) (vs : List Value) → v ≡ val.Case place vs
    → length (written_case cs place vs) ≤ length (written (sum cs) v)
unfolding written
sum_long cs v place vs is = rw (is, out_case place vs) (last_long (place ∷ []) (written_case cs place vs))

pub poly_long : (cs : Cases) (v : Value) (place : ℕ) (vs : List Value) → v ≡ val.Case place vs
    → length (written_case cs place vs) ≤ length (written (poly cs) v)
unfolding written
poly_long cs v place vs is = rw (is, out_case place vs) (last_long (written_tag cs place) (written_case cs place vs))

pub sexp_long : (v : Value) (x : Sexp) → v ≡ val.Sexp x → length (written_sexp x) ≤ length (written sexp v)
unfolding written
sexp_long v x is = rw (is, out_sexp x) (omega arith)

pub atom_long : (x : Sexp) (t : List ℕ) → x ≡ sx.Atom t → length t ≤ length (written_sexp x)
atom_long x t is = rw (is, written_sexp-Atom t) (last_long (0 ∷ written_nat (length t)) t)

pub list_long : (x : Sexp) (xs : List Sexp) → x ≡ sx.List xs → length (flat_map written_sexp xs) ≤ length (written_sexp x)
list_long x xs is = rw (is, written_sexp-List xs) (last_long (1 ∷ written_nat (length xs)) (flat_map written_sexp xs))

-- ---- parts

pub part_long : (name : List ℕ) (f : Form) (fs : Parts) (v : Value) (vs : List Value)
    → length (written f v) ≤ length (written_parts (part name f fs) (v ∷ vs))
unfolding written_parts
part_long name f fs v vs = first_long (written f v) (written_parts fs vs)

pub parts_long : (name : List ℕ) (f : Form) (fs : Parts) (v : Value) (vs : List Value)
    → length (written_parts fs vs) ≤ length (written_parts (part name f fs) (v ∷ vs))
unfolding written_parts
parts_long name f fs v vs = last_long (written f v) (written_parts fs vs)

-- ---- the arguments of a case

pub zero_long : (name : List ℕ) (fs : Parts) (cs : Cases) (v : Value) (vs : List Value) → v ≡ val.Case 0 vs
    → length (written_parts fs vs) ≤ length (written (sum (case name fs cs)) v)
unfolding written_case
zero_long name fs cs v vs is = sum_long (case name fs cs) v 0 vs is

pub one_long : (first name : List ℕ) (es fs : Parts) (cs : Cases) (v : Value) (vs : List Value) → v ≡ val.Case 1 vs
    → length (written_parts fs vs) ≤ length (written (sum (case first es (case name fs cs))) v)
unfolding written_case
one_long first name es fs cs v vs is = sum_long (case first es (case name fs cs)) v 1 vs is

pub two_long : (first second name : List ℕ) (ds es fs : Parts) (cs : Cases) (v : Value) (vs : List Value) → v ≡ val.Case 2 vs
    → length (written_parts fs vs) ≤ length (written (sum (case first ds (case second es (case name fs cs)))) v)
unfolding written_case
two_long first second name ds es fs cs v vs is = sum_long (case first ds (case second es (case name fs cs))) v 2 vs is

pub tag_long : (name : List ℕ) (fs : Parts) (cs : Cases) (v : Value) (vs : List Value) → v ≡ val.Case 0 vs
    → length (written_parts fs vs) ≤ length (written (poly (case name fs cs)) v)
unfolding written_case
tag_long name fs cs v vs is = poly_long (case name fs cs) v 0 vs is
