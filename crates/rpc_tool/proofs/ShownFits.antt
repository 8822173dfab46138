-- A value that some bytes spell is of its form.
use Rattle.std.specs.Prelude.{ℕ, List}
use Rattle.bp_value.specs.declared.value.Value.{Value}
use Rattle.bp_value.specs.Form.{Form}
use Rattle.bp_text.specs.Printing.{IsOf}
use Rattle.rpc_pair.proofs.SpelledFits.{spelled_fits}
use Rattle.rpc_tool.specs.Spelled.{IsSpelled}
use Rattle.rpc_tool.specs.ValueCommands.{longest_shown}
use Rattle.rpc_tool.specs.declared.spelled.Spelled.TheVariants as spelled

pub spelled_value_fits : (f : Form) (input : List ℕ) (v : Value) (count : ℕ) → IsSpelled f input (spelled.Value v count) → IsOf f v
spelled_value_fits f input v count (bytes, hex, spells, long) = (longest_shown, spelled_fits longest_shown f v bytes spells)
