-- The nodes of each value, one layer at a time.
use Rattle.std.proofs.Common.{◌≡◌, ℕ, ℤ, suc, Bool, List, map, sym, ap, ◌∙◌}
use Rattle.std.specs.List.{sum}
use Rattle.bp_value.specs.declared.value.Sexp.{Sexp, fold-roll-Sexp}
use Rattle.bp_value.specs.declared.value.Sexp.TheFolds.{map-Sexp}
use Rattle.bp_value.specs.declared.value.Sexp.TheViews.{roll-Sexp}
use Rattle.bp_value.specs.declared.value.Sexp.TheVariants as sx
use Rattle.bp_value.specs.declared.value.Sexp.TheOpen as sexp_layer
use Rattle.bp_value.specs.declared.value.Value.{Value, fold-roll-Value}
use Rattle.bp_value.specs.declared.value.Value.TheFolds.{map-Value}
use Rattle.bp_value.specs.declared.value.Value.TheViews.{roll-Value}
use Rattle.bp_value.specs.declared.value.Value.TheVariants as val
use Rattle.bp_value.specs.declared.value.Value.TheOpen as layer
use Rattle.bp_grammar.specs.Nodes.{sexp_node_step, sexp_node_count, node_step, node_count}

-- ---- S-expressions

sexp_rolled : (d : sexp_layer.Sexp-F Sexp) → sexp_node_count (roll-Sexp d) ≡ sexp_node_step (map-Sexp Sexp ℕ sexp_node_count d)
unfolding sexp_node_count
sexp_rolled d = fold-roll-Sexp ℕ sexp_node_step d

pub sexp_node_count-atom : (t : List ℕ) → sexp_node_count (sx.Atom t) ≡ 1
sexp_node_count-atom t = ap sexp_node_count (sym (sx.rolls-Atom t)) ∙ sexp_rolled (sexp_layer.Atom t)

pub sexp_node_count-list : (xs : List Sexp) → sexp_node_count (sx.List xs) ≡ suc (sum (map sexp_node_count xs))
sexp_node_count-list xs = ap sexp_node_count (sym (sx.rolls-List xs)) ∙ sexp_rolled (sexp_layer.List xs)

-- ---- values

rolled : (d : layer.Value-F Value) → node_count (roll-Value d) ≡ node_step (map-Value Value ℕ node_count d)
unfolding node_count
rolled d = fold-roll-Value ℕ node_step d

pub node_count-unit : node_count val.Unit ≡ 1
node_count-unit = ap node_count (sym val.rolls-Unit) ∙ rolled layer.Unit

pub node_count-bool : (b : Bool) → node_count (val.Bool b) ≡ 1
node_count-bool b = ap node_count (sym (val.rolls-Bool b)) ∙ rolled (layer.Bool b)

pub node_count-char : (b : ℕ) → node_count (val.Char b) ≡ 1
node_count-char b = ap node_count (sym (val.rolls-Char b)) ∙ rolled (layer.Char b)

pub node_count-num : (n : ℤ) → node_count (val.Num n) ≡ 1
node_count-num n = ap node_count (sym (val.rolls-Num n)) ∙ rolled (layer.Num n)

pub node_count-text : (t : List ℕ) → node_count (val.Text t) ≡ 1
node_count-text t = ap node_count (sym (val.rolls-Text t)) ∙ rolled (layer.Text t)

pub node_count-absent : node_count val.Absent ≡ 1
node_count-absent = ap node_count (sym val.rolls-Absent) ∙ rolled layer.Absent

pub node_count-present : (v : Value) → node_count (val.Present v) ≡ suc (node_count v)
node_count-present v = ap node_count (sym (val.rolls-Present v)) ∙ rolled (layer.Present v)

pub node_count-items : (vs : List Value) → node_count (val.Items vs) ≡ suc (sum (map node_count vs))
node_count-items vs = ap node_count (sym (val.rolls-Items vs)) ∙ rolled (layer.Items vs)

pub node_count-parts : (vs : List Value) → node_count (val.Parts vs) ≡ sum (map node_count vs)
node_count-parts vs = ap node_count (sym (val.rolls-Parts vs)) ∙ rolled (layer.Parts vs)

pub node_count-case : (place : ℕ) (vs : List Value) → node_count (val.Case place vs) ≡ suc (sum (map node_count vs))
node_count-case place vs = ap node_count (sym (val.rolls-Case place vs)) ∙ rolled (layer.Case place vs)

pub node_count-sexp : (x : Sexp) → node_count (val.Sexp x) ≡ suc (sexp_node_count x)
node_count-sexp x = ap node_count (sym (val.rolls-Sexp x)) ∙ rolled (layer.Sexp x)
