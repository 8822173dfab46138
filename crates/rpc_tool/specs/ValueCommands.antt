-- What `show` and `write` have to write.
use Rattle.std.specs.Prelude.{◌≡◌, ℕ, nat_eq, if◌then◌else◌, List, [], ◌∷◌, ◌++◌, length, codes, ◌⊎◌}
use Rattle.std.specs.Fmt.{decimal}
use Rattle.hex.specs.Hex.{encode_lower}
use Rattle.bp_value.specs.declared.value.Value.{Value}
use Rattle.bp_value.specs.Form.{Form}
use Rattle.bp_grammar.specs.Spells.{Spells}
use Rattle.bp_grammar.specs.Written.{written}
use Rattle.bp_text_grammar.specs.PrintedTexts.{value_text}
use Rattle.bp_text_grammar.specs.WholeTexts.{IsValueText, IsValueRefused}
use Rattle.rpc_msg.specs.declared.fault.MsgFault.{MsgFault}
use Rattle.rpc_msg.specs.Bodies.{IsMsgFault}
use Rattle.rpc_msg.specs.Limits.{usual_limits}
use Rattle.rpc_report.specs.Texts.{fault_text}
use Rattle.rpc_tool.specs.Lines.{line}
use Rattle.rpc_tool.specs.HexTexts.{IsHexText, IsBadHex}

-- the most bytes of a text and items of a list in a value that is shown
abbrev pub longest_shown : ℕ
longest_shown = usual_limits.max_message

-- ---- the input

-- hex that is refused
abbrev pub hex_refused : ℕ → List ℕ
hex_refused at = line (codes "input: bad hex at " ++ decimal at)

abbrev pub IsHexRefusal : List ℕ → List ℕ → Type 0
IsHexRefusal input text = (at : ℕ) × IsBadHex input at × (text ≡ hex_refused at)

-- a text that is read: the input without the line end that it may have
abbrev pub without_line_end : List ℕ → List ℕ
without_line_end [] = []
without_line_end (b ∷ []) = if nat_eq b 10 then [] else b ∷ []
without_line_end (b ∷ c ∷ s) = b ∷ without_line_end (c ∷ s)

-- ---- show

-- a value's text, and how many bytes spell it
abbrev pub shown_text : Form → Value → ℕ → List ℕ
shown_text f v count = line (value_text f v) ++ line (decimal count ++ codes " bytes")

-- the input is hex of a spelling of a value
abbrev pub IsShown : Form → List ℕ → List ℕ → Type 0
IsShown f input text = (v : Value) × (bytes : List ℕ) × IsHexText bytes input × Spells longest_shown f v bytes
    × (text ≡ shown_text f v (length bytes))

-- it is no hex, or hex of no spelling
abbrev pub IsShowRefusal : Form → List ℕ → List ℕ → Type 0
IsShowRefusal f input text =
    IsHexRefusal input text
    ⊎ ((bytes : List ℕ) × (fault : MsgFault) × IsHexText bytes input × IsMsgFault longest_shown f bytes fault × (text ≡ line (fault_text fault)))

-- ---- write

-- the input is a text of a value, and its shortest spelling is written as hex
abbrev pub IsWrittenOut : Form → List ℕ → List ℕ → Type 0
IsWrittenOut f input text = (v : Value) × IsValueText f v (without_line_end input) × (text ≡ line (encode_lower (written f v)))

abbrev pub value_refused : ℕ → List ℕ
value_refused at = line (codes "value: bad text at " ++ decimal at)

abbrev pub IsWriteRefusal : Form → List ℕ → List ℕ → Type 0
IsWriteRefusal f input text = (at : ℕ) × IsValueRefused f (without_line_end input) at × (text ≡ value_refused at)
