-- The nodes of a value, those of tuples and records aside, are at most as many as the bytes of its spelling.
use Rattle.std.proofs.Common.{◌≡◌, ◌∙◌, ap, subst, Some, ℕ, zero, suc, ◌+◌, ◌≤◌, List, [], length, arith}
use Rattle.std.specs.List.{sum_by}
use Rattle.std.proofs.lemmas.List.Sums.{sum-map}
use Rattle.readers.specs.Reader.{Then, Mapped, Done, One}
use Rattle.readers.specs.Keys.{Keyed}
use Rattle.bp_num.specs.declared.number.IntKind.{IntKind}
use Rattle.bp_num.specs.declared.number.IntKind.TheVariants.{Int63, Int32, Int64}
use Rattle.bp_num.specs.Forms.{IsInt}
use Rattle.bp_value.specs.declared.value.Value.{Value}
use Rattle.bp_value.specs.declared.value.Value.TheVariants as val
use Rattle.bp_value.specs.declared.value.Sexp.{Sexp}
use Rattle.bp_value.specs.declared.value.Sexp.TheVariants as sx
use Rattle.bp_value.specs.Form.{Form, Parts, Cases, unit, bool, char, int, int32, int64, text, opt, listed, tuple, fields, sum, poly, sexp, end, part, end_cases, case}
use Rattle.bp_grammar.specs.Spells.{unit_of, flag_of, char_of, place_of, case_count, keys_of, Sized, Counted, room, SpellsSexp, Spells, SpellParts, SpellCase}
use Rattle.bp_grammar.specs.Nodes.{sexp_node_count, node_count}
use Rattle.bp_grammar.proofs.NodeCounts.{sexp_node_count-atom, sexp_node_count-list, node_count-unit, node_count-bool, node_count-char, node_count-num, node_count-text, node_count-absent, node_count-present, node_count-items, node_count-parts, node_count-case, node_count-sexp}
use Rattle.bp_grammar.proofs.Right.{keys_long}
use Rattle.bp_grammar.proofs.Covers.{Covers, covers_mapped, covers_then, covers_cons, covers_done, covers_less, covers_one, covers_symbol, covers_key, covers_int, covers_sized, covers_counted, covers_flagged}

-- the nodes of all of some values
abbrev pub all_nodes : List Value → ℕ
all_nodes vs = sum_by node_count vs

-- ---- S-expressions

nodes_of_list : (xs : List Sexp) → sexp_node_count (sx.List xs) ≡ suc (sum_by sexp_node_count xs)
nodes_of_list xs = sexp_node_count-list xs ∙ ap suc (sum-map sexp_node_count xs)

-- an S-expression has more bytes than nodes, so that its value has enough too
pub sexp_covers : (m d : ℕ) → Covers 0 (λ x. suc (sexp_node_count x)) (SpellsSexp m d)
unfolding SpellsSexp
sexp_covers m zero = λ x s l. absurd l
sexp_covers m (suc d) =
    covers_flagged (λ x. suc (sexp_node_count x)) (Mapped sx.Atom (Sized m)) (Mapped sx.List (Counted (room m d) (SpellsSexp m d)))
    (covers_mapped 1 (λ x. suc (sexp_node_count x)) (λ t. 1) sx.Atom (Sized m) (λ t. omega (arith, sexp_node_count-atom t)) (covers_sized m))
    (covers_mapped 1 (λ x. suc (sexp_node_count x)) (λ xs. suc (sum_by sexp_node_count xs)) sx.List (Counted (room m d) (SpellsSexp m d)) (λ xs. omega (arith, nodes_of_list xs))
    (covers_counted (room m d) sexp_node_count (SpellsSexp m d) (covers_less 0 sexp_node_count (λ x. suc (sexp_node_count x)) (SpellsSexp m d) (λ x. omega arith) (sexp_covers m d))))

-- ---- all forms

nodes_of_items : (vs : List Value) → node_count (val.Items vs) ≡ suc (all_nodes vs)
nodes_of_items vs = node_count-items vs ∙ ap suc (sum-map node_count vs)

nodes_of_parts : (vs : List Value) → node_count (val.Parts vs) ≡ all_nodes vs
nodes_of_parts vs = node_count-parts vs ∙ sum-map node_count vs

nodes_of_case : (place : ℕ) (vs : List Value) → node_count (val.Case place vs) ≡ suc (all_nodes vs)
nodes_of_case place vs = node_count-case place vs ∙ ap suc (sum-map node_count vs)

-- the one node of a unit and of a char
nodes_of_unit : (b : ℕ) (v : Value) → unit_of b ≡ Some v → node_count v ≤ 1
nodes_of_unit zero v e = let same : val.Unit ≡ v = cc in subst (λ w. node_count w ≤ 1) same (omega (arith, node_count-unit))
nodes_of_unit (suc b) v e = absurd cc

nodes_of_char : (b : ℕ) (v : Value) → char_of b ≡ Some v → node_count v ≤ 1
nodes_of_char b v e = let same : val.Char b ≡ v = cc in subst (λ w. node_count w ≤ 1) same (omega (arith, node_count-char b))

number_covers : (kind : IntKind) → Covers 0 node_count (Mapped val.Num (IsInt kind))
number_covers kind = covers_mapped 0 node_count (λ n. 1) val.Num (IsInt kind) (λ n. omega (arith, node_count-num n)) (covers_int kind)

-- of a tuple or record
whole_covers : (m : ℕ) (fs : Parts) → Covers 0 all_nodes (SpellParts m fs) → Covers 0 node_count (Mapped val.Parts (SpellParts m fs))
whole_covers m fs covers = covers_mapped 0 node_count all_nodes val.Parts (SpellParts m fs) (λ vs. omega (arith, nodes_of_parts vs)) covers

-- a choice of a byte or more, and the case that it chooses
chosen_covers : (m : ℕ) (L : ℕ → List ℕ → Type 0) (cs : Cases) → Covers 0 (λ place. 1) L → ((place : ℕ) → Covers 0 all_nodes (SpellCase m cs place))
    → Covers 0 node_count (Then L (λ place. Mapped (val.Case place) (SpellCase m cs place)))
chosen_covers m L cs choice each =
    covers_then 1 node_count L (λ place. Mapped (val.Case place) (SpellCase m cs place)) choice
    (λ place. covers_mapped 1 node_count all_nodes (val.Case place) (SpellCase m cs place) (λ vs. omega (arith, nodes_of_case place vs)) (each place))

mutual
  unfolding Spells SpellParts SpellCase

  pub form_covers : (m : ℕ) (f : Form) → Covers 0 node_count (Spells m f)
  form_covers m unit = covers_one node_count unit_of nodes_of_unit
  form_covers m bool = covers_mapped 0 node_count (λ b. 1) val.Bool (One flag_of) (λ b. omega (arith, node_count-bool b)) (covers_symbol flag_of)
  form_covers m char = covers_one node_count char_of nodes_of_char
  form_covers m int = number_covers Int63
  form_covers m int32 = number_covers Int32
  form_covers m int64 = number_covers Int64
  form_covers m text = covers_mapped 0 node_count (λ t. 1) val.Text (Sized m) (λ t. omega (arith, node_count-text t)) (covers_sized m)
  form_covers m (opt f) =
      covers_flagged node_count (Done val.Absent) (Mapped val.Present (Spells m f)) (covers_done 1 node_count val.Absent (omega (arith, node_count-absent)))
      (covers_mapped 1 node_count node_count val.Present (Spells m f) (λ v. omega (arith, node_count-present v)) (form_covers m f))
  form_covers m (listed f) =
      covers_mapped 0 node_count (λ vs. suc (all_nodes vs)) val.Items (Counted m (Spells m f)) (λ vs. omega (arith, nodes_of_items vs)) (covers_counted m node_count (Spells m f) (form_covers m f))
  form_covers m (tuple fs) = whole_covers m fs (parts_covers m fs)
  form_covers m (fields fs) = whole_covers m fs (parts_covers m fs)
  form_covers m (sum cs) = chosen_covers m (One (place_of (case_count cs))) cs (covers_symbol (place_of (case_count cs))) (case_covers m cs)
  form_covers m (poly cs) =
      chosen_covers m (Keyed (keys_of 0 cs)) cs (covers_less 0 (λ place. 1) (λ place. 4) (Keyed (keys_of 0 cs)) (λ place. omega arith) (covers_key 4 (keys_of 0 cs) (keys_long 0 cs)))
      (case_covers m cs)
  form_covers m sexp =
      covers_mapped 0 node_count (λ x. suc (sexp_node_count x)) val.Sexp (SpellsSexp m 128) (λ x. omega (arith, node_count-sexp x)) (sexp_covers m 128)

  pub parts_covers : (m : ℕ) (fs : Parts) → Covers 0 all_nodes (SpellParts m fs)
  parts_covers m end = covers_done 0 all_nodes [] (omega arith)
  parts_covers m (part name f fs) = covers_cons node_count (Spells m f) (SpellParts m fs) (form_covers m f) (parts_covers m fs)

  pub case_covers : (m : ℕ) (cs : Cases) (place : ℕ) → Covers 0 all_nodes (SpellCase m cs place)
  case_covers m end_cases place = λ vs s l. absurd l
  case_covers m (case name fs cs) zero = parts_covers m fs
  case_covers m (case name fs cs) (suc place) = case_covers m cs place

pub nodes_spelled : (m : ℕ) (f : Form) (v : Value) (s : List ℕ) → Spells m f v s → node_count v ≤ length s
nodes_spelled m f v s l = let le : node_count v ≤ 0 + length s = form_covers m f v s l in omega arith
