-- What the bytes of a hex text spell.
use Rattle.std.specs.Prelude.{◌≡◌, ℕ, List, length}
use Rattle.bp_value.specs.Form.{Form}
use Rattle.bp_grammar.specs.Spells.{Spells}
use Rattle.rpc_tool.specs.HexTexts.{IsHexText}
use Rattle.rpc_tool.specs.ValueCommands.{longest_shown, IsShowRefusal}
use Rattle.rpc_tool.specs.declared.spelled.Spelled.{Spelled}
use Rattle.rpc_tool.specs.declared.spelled.Spelled.TheVariants as spelled

-- a value with the number of its bytes, or the line about an input that is refused
abbrev pub IsSpelled : Form → List ℕ → Spelled → Type 0
IsSpelled f input (spelled.Value v count) = (bytes : List ℕ) × IsHexText bytes input × Spells longest_shown f v bytes × (count ≡ length bytes)
IsSpelled f input (spelled.Refused text) = IsShowRefusal f input text.items
