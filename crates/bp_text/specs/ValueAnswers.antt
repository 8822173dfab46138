-- What the reading of the text of a value answers.
use Rattle.std.specs.Prelude.{◌≡◌, ℕ, ◌-◌, List, Result, Ok, Err}
use Rattle.bp_value.specs.declared.value.Value.{Value}
use Rattle.bp_value.specs.Form.{Form}
use Rattle.bp_text_grammar.specs.WholeTexts.{IsValueRefused}
use Rattle.bp_text.specs.declared.error.TextError.{TextError}
use Rattle.bp_text.specs.declared.error.TextError.TheVariants as error
use Rattle.bp_text.specs.declared.halt.Halt.{Halt}
use Rattle.bp_text.specs.declared.halt.Halt.TheVariants as halt

-- this value is given, if memory does not run out
abbrev pub GivesValue : Value → Result Value TextError → Type 0
GivesValue v (Ok w) = w ≡ v
GivesValue v (Err error.OutOfMemory) = Unit {0}
GivesValue v (Err e) = ⊥

-- the text is refused at its place, if memory does not run out
abbrev pub RefusesValue : Form → List ℕ → TextError → Type 0
RefusesValue f s (error.BadText at) = IsValueRefused f s at
RefusesValue f s (error.Float at) = ⊥
RefusesValue f s (error.NotGood fault) = ⊥
RefusesValue f s error.OutOfMemory = Unit {0}

-- where a text of len bytes is refused, of which so many are left at the first token that is not taken
abbrev pub refused_by : Halt → ℕ → ℕ → TextError
refused_by halt.More len left = error.BadText len
refused_by halt.Bad len left = error.BadText (len - left)
refused_by halt.Float len left = error.Float (len - left)
refused_by halt.OutOfMemory len left = error.OutOfMemory
