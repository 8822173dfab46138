-- The value that a text is of a form, within a limit.
use Rattle.std.specs.Prelude.{ℕ, List, Option, Some, None}
use Rattle.bp_value.specs.declared.value.Value.{Value}
use Rattle.bp_value.specs.Fits.{Fits}
use Rattle.bp_value.specs.Form.{Form}
use Rattle.bp_text_grammar.specs.WholeTexts.{IsValueText}

abbrev pub IsValueWithin : ℕ → Form → List ℕ → Option Value → Type 0
IsValueWithin m form text None = (v : Value) → IsValueText form v text → Fits m form v → ⊥
IsValueWithin m form text (Some v) = IsValueText form v text × Fits m form v
