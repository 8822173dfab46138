-- Leaves that are read in one go.
use Rattle.std.specs.Prelude.{◌≡◌, ℕ, ◌<◌, List, Result}
use Rattle.readers.specs.Reader.{mapped, one}
use Rattle.bp_num.specs.NumberAt.{int_at}
use Rattle.bp_num.specs.declared.number.IntKind.{IntKind}
use Rattle.bp_num.specs.declared.number.Why.TheVariants.{Byte}
use Rattle.bp_value.specs.declared.value.Value.{Value}
use Rattle.bp_value.specs.declared.value.Value.TheVariants as val
use Rattle.bp_grammar.specs.Spells.{flag_of}
use Rattle.bp_grammar.specs.Reading.{sized_at}
use Rattle.bp_codec.specs.declared.stop.Stop.{Stop}
use Rattle.bp_codec.specs.declared.levels.Left.TheVariants as left
use Rattle.bp_codec.specs.declared.levels.Makes.{Makes}
use Rattle.bp_codec.specs.Keeping.{Keeps}
use Rattle.bp_codec.specs.Plan.{Reading}
use Rattle.bp_codec.specs.Levels.{Onward, fills}

abbrev pub bool_value : Reading
bool_value s = mapped val.Bool (one flag_of Byte s)

abbrev pub number_value : IntKind → Reading
number_value kind s = mapped val.Num (int_at kind s)

abbrev pub text_value : ℕ → Reading
text_value max s = mapped val.Text (sized_at max s)

-- items that r reads were taken: so many are left, after these values
abbrev pub TakesItems : Reading → ℕ → List Value → ℕ → List Value → List ℕ → List ℕ → Result (Unit {0}) Stop → Type 0
TakesItems r n front left_n values s u result =
    (m : ℕ) (reading : ℕ → Reading) (node : ℕ) (k : Makes) (onward : Onward) → 0 < n → ((t : List ℕ) → reading node t ≡ r t)
    → Keeps (fills m reading (left.Items node n) k front onward) (fills m reading (left.Items node left_n) k values onward) s u result
