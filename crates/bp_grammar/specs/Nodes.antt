-- How many nodes a value has, those of tuples and records aside.
use Rattle.std.specs.Prelude.{ℕ, suc, sum}
use Rattle.bp_value.specs.declared.value.Sexp.{Sexp, fold-Sexp}
use Rattle.bp_value.specs.declared.value.Sexp.TheOpen.{Sexp-F}
use Rattle.bp_value.specs.declared.value.Sexp.TheOpen as sexp_layer
use Rattle.bp_value.specs.declared.value.Value.{Value, fold-Value}
use Rattle.bp_value.specs.declared.value.Value.TheOpen.{Value-F}
use Rattle.bp_value.specs.declared.value.Value.TheOpen as layer

-- one layer of an S-expression, whose items are counted already
abbrev pub sexp_node_step : Sexp-F ℕ → ℕ
sexp_node_step (sexp_layer.Atom t) = 1
sexp_node_step (sexp_layer.List ns) = suc (sum ns)

-- the atoms and lists of an S-expression
unfoldable pub sexp_node_count : Sexp → ℕ
sexp_node_count x = fold-Sexp ℕ sexp_node_step x

-- one layer of a value, whose children are counted already: a tuple or record is no node of its own
abbrev pub node_step : Value-F ℕ → ℕ
node_step layer.Unit = 1
node_step (layer.Bool b) = 1
node_step (layer.Char b) = 1
node_step (layer.Num n) = 1
node_step (layer.Text t) = 1
node_step layer.Absent = 1
node_step (layer.Present n) = suc n
node_step (layer.Items ns) = suc (sum ns)
node_step (layer.Parts ns) = sum ns
node_step (layer.Case place ns) = suc (sum ns)
node_step (layer.Sexp x) = suc (sexp_node_count x)

-- the nodes of a value that stand for bytes of their own: all but tuples and records
unfoldable pub node_count : Value → ℕ
node_count v = fold-Value ℕ node_step v
