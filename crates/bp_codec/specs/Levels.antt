-- What is still read by what is open: of each level, of the levels that wait for a value, and of all.
use Rattle.std.specs.Prelude.{◌≡◌, ℕ, zero, suc, ◌+◌, ◌≤◌, List, [], ◌∷◌, ◌++◌, map, slice_get, Some}
use Rattle.readers.specs.Reader.{Outcome, whole, more, after, mapped, count}
use Rattle.bp_num.specs.declared.number.Why.{Why}
use Rattle.bp_value.specs.declared.value.Value.{Value, out-Value}
use Rattle.bp_value.specs.declared.value.Value.TheVariants as val
use Rattle.bp_value.specs.declared.value.Value.TheOpen.{Value-F}
use Rattle.bp_value.specs.declared.value.Value.TheOpen as layer
use Rattle.bp_value.specs.declared.value.Sexp.{Sexp}
use Rattle.bp_value.specs.declared.value.Sexp.TheVariants as sx
use Rattle.bp_grammar.specs.Reading.{read_sexp}
use Rattle.bp_codec.specs.Plan.{Reading, parts_at}
use Rattle.bp_codec.specs.declared.levels.Left.{Left}
use Rattle.bp_codec.specs.declared.levels.Left.TheVariants as left
use Rattle.bp_codec.specs.declared.levels.Makes.{Makes}
use Rattle.bp_codec.specs.declared.levels.Makes.TheVariants as makes
use Rattle.bp_codec.specs.declared.levels.Next.{Next}
use Rattle.bp_codec.specs.declared.levels.Next.TheVariants as next
use Rattle.bp_codec.specs.declared.levels.Level.{Level}

-- ---- one level

abbrev pub next_of : Left → Next
next_of (left.Items node zero) = next.Nothing
next_of (left.Items node (suc n)) = next.Node node
next_of (left.Parts first zero) = next.Nothing
next_of (left.Parts first (suc n)) = next.Node first
next_of (left.Sexps depth zero) = next.Nothing
next_of (left.Sexps depth (suc n)) = next.Sexp depth

abbrev pub advanced : Left → Left
advanced (left.Items node zero) = left.Items node zero
advanced (left.Items node (suc n)) = left.Items node n
advanced (left.Parts first zero) = left.Parts first zero
advanced (left.Parts first (suc n)) = left.Parts (suc first) n
advanced (left.Sexps depth zero) = left.Sexps depth zero
advanced (left.Sexps depth (suc n)) = left.Sexps depth n

-- the nodes that a level reads stand before this place
abbrev pub reach_of : Left → ℕ
reach_of (left.Items node n) = suc node
reach_of (left.Parts first n) = first + n
reach_of (left.Sexps depth n) = zero

-- the last value; a unit where there is none
abbrev pub last_of : List Value → Value
last_of [] = val.Unit
last_of (v ∷ []) = v
last_of (v ∷ w ∷ vs) = last_of (w ∷ vs)

abbrev pub sexp_in : Value-F Value → Sexp
sexp_in (layer.Sexp x) = x
sexp_in _ = sx.Atom []

-- the S-expression of a value; an empty atom where it has none
abbrev pub sexp_of : Value → Sexp
sexp_of v = sexp_in (out-Value v)

-- what is made of all values of a level
abbrev pub made : Makes → List Value → Value
made makes.Alone vs = last_of vs
made makes.Present vs = val.Present (last_of vs)
made makes.Items vs = val.Items vs
made makes.Parts vs = val.Parts vs
made (makes.Case place) vs = val.Case place vs
made makes.Sexp vs = val.Sexp (sx.List (map sexp_of vs))

-- a level after it took a value
pub record FillsOne (old : Level) (v : Value) (new : Level) : Type 0 where
  pub left : new.left ≡ advanced old.left
  pub makes : new.makes ≡ old.makes
  pub values : new.values.items ≡ old.values.items ++ v ∷ []

-- ---- what is read

abbrev pub sexp_value : ℕ → ℕ → Reading
sexp_value m depth s = mapped val.Sexp (read_sexp m depth s)

-- what is read next
abbrev pub next_reads : ℕ → (ℕ → Reading) → Next → Reading
next_reads m reading next.Nothing s = more
next_reads m reading (next.Node i) s = reading i s
next_reads m reading (next.Sexp depth) s = sexp_value m depth s

-- all values that are left
abbrev pub left_at : ℕ → (ℕ → Reading) → Left → List ℕ → Outcome ℕ Why (List Value)
left_at m reading (left.Items node n) s = count (reading node) n s
left_at m reading (left.Parts first n) s = parts_at reading first n s
left_at m reading (left.Sexps depth n) s = count (sexp_value m depth) n s

-- how reading goes on after a value
abbrev pub Onward : Type 0
Onward = Value → Reading

-- what is left of a level, after the values `front`; the value that is made goes on
unfoldable pub fills : ℕ → (ℕ → Reading) → Left → Makes → List Value → Onward → Reading
fills m reading l makes front onward s = after (left_at m reading l s) (λ vs. onward (made makes (front ++ vs)))

abbrev pub level_reads : ℕ → (ℕ → Reading) → Level → Onward → Reading
level_reads m reading l onward s = fills m reading l.left l.makes l.values.items onward s

-- levels that wait for a value, the innermost last
unfoldable pub waits : ℕ → (ℕ → Reading) → Onward → List Level → Onward
waits m reading onward [] = onward
waits m reading onward (l ∷ ls) = waits m reading (λ v s. fills m reading l.left l.makes (l.values.items ++ v ∷ []) onward s) ls

-- all that is open: the innermost level, and those that wait
abbrev pub state : ℕ → (ℕ → Reading) → Level → List Level → Reading
state m reading top stack s = level_reads m reading top (waits m reading (λ v t. whole v t) stack) s

-- the nodes that open levels read stand among n
abbrev pub AllReach : ℕ → List Level → Type 0
AllReach n stack = (k : ℕ) (l : Level) → slice_get stack k ≡ Some l → reach_of l.left ≤ n
