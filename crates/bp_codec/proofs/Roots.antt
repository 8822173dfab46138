-- At the root nothing was read: the first node reads all.
use Rattle.std.proofs.Common.{◌≡◌, refl, sym, ap, ◌∙◌, subst, ℕ, zero, ◌<◌, ◌≤◌, List, [], ◌∷◌, ◌++◌, slice_get, Some, arith}
use Rattle.readers.specs.Reader.{Outcome, whole, more, bad, after, mapped, count}
use Rattle.bp_num.specs.declared.number.Why.{Why}
use Rattle.bp_value.specs.declared.value.Value.{Value}
use Rattle.bp_codec.specs.declared.levels.Left.{Left}
use Rattle.bp_codec.specs.declared.levels.Left.TheVariants as left
use Rattle.bp_codec.specs.declared.levels.Level.{Level}
use Rattle.bp_codec.specs.declared.levels.Makes.{Makes}
use Rattle.bp_codec.specs.declared.levels.Makes.TheVariants as makes
use Rattle.bp_codec.specs.declared.open.Open.{Open}
use Rattle.bp_codec.specs.Plan.{Reading}
use Rattle.bp_codec.specs.Levels.{fills, waits, made, reach_of, Onward}
use Rattle.bp_codec.specs.Opened.{opened, Reaches, IsRoot}
use Rattle.bp_codec.proofs.Opening.{ends}

-- the one value of a level goes on as itself
one_left : (r : Reading) (o : Outcome ℕ Why Value)
    → after (after o (λ v u. mapped (λ us. v ∷ us) (count r zero u))) (λ vs. ends (made makes.Alone ([] ++ vs))) ≡ o
one_left r (whole v u) = refl
one_left r more = refl
one_left r (bad n w) = refl

root_fills : (m : ℕ) (reading : ℕ → Reading) (s : List ℕ) → fills m reading (left.Items 0 1) makes.Alone [] ends s ≡ reading 0 s
unfolding fills
root_fills m reading s = one_left (reading 0) (reading 0 s)

none_wait : (m : ℕ) (reading : ℕ → Reading) → waits m reading ends [] ≡ ends
unfolding waits
none_wait m reading = refl

pub root_reads : (m : ℕ) (reading : ℕ → Reading) (o : Open) (s : List ℕ) → IsRoot o → opened m reading o s ≡ reading 0 s
root_reads m reading o s root =
    ap (λ (x : Left). fills m reading x o.top.makes o.top.values.items (waits m reading ends o.stack.items) s) root.left
    ∙ (ap (λ (x : Makes). fills m reading (left.Items 0 1) x o.top.values.items (waits m reading ends o.stack.items) s) root.makes
    ∙ (ap (λ (x : List Value). fills m reading (left.Items 0 1) makes.Alone x (waits m reading ends o.stack.items) s) root.values
    ∙ (ap (λ (x : List Level). fills m reading (left.Items 0 1) makes.Alone [] (waits m reading ends x) s) root.stack
    ∙ (ap (λ (x : Onward). fills m reading (left.Items 0 1) makes.Alone [] x s) (none_wait m reading) ∙ root_fills m reading s))))

pub root_reaches : (n : ℕ) (o : Open) → 0 < n → IsRoot o → Reaches n o
root_reaches n o some root = record {
  top = subst (λ (x : Left). reach_of x ≤ n) (sym root.left) (omega arith);
  stack = λ k l e. none k l (subst (λ (x : List Level). slice_get x k ≡ Some l) root.stack e);
}
  where
    none : (k : ℕ) (l : Level) → slice_get [] k ≡ Some l → reach_of l.left ≤ n
    none k l e = absurd cc
