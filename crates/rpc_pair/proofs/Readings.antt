-- A text that was read, and a value within the limit.
use Rattle.std.proofs.Common.{◌≡◌, sym, subst, ℕ, List}
use Rattle.std.specs.Prelude.{Option, Some, None, MatchOption}
use Rattle.bp_value.specs.Fits.{Fits}
use Rattle.bp_value.specs.Form.{Form}
use Rattle.bp_value.specs.declared.value.Value.{Value}
use Rattle.bp_text_grammar.specs.WholeTexts.{IsValueText}
use Rattle.rpc_pair.specs.Texts.{IsValueWithin}

pub read_within : (m : ℕ) (f : Form) (text : List ℕ) (v : Value) (kept : Option Value) → IsValueText f v text → ((w : Value) → IsValueText f w text → v ≡ w)
    → MatchOption kept (Fits m f v → ⊥) (λ k. (k ≡ v) × Fits m f v) → IsValueWithin m f text kept
read_within m f text v None is only long = λ w reads fits. long (subst (Fits m f) (sym (only w reads)) fits)
read_within m f text v (Some k) is only (same, fits) = (subst (λ x. IsValueText f x text) (sym same) is, subst (Fits m f) (sym same) fits)
