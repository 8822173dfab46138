-- Opening a tuple or a record goes on to its first part.
use Rattle.std.proofs.Common.{◌≡◌, refl, sym, ap, ◌∙◌, ℕ, zero, suc, ◌<◌, List, length, get_or, slice_get, Some, arith}
use Rattle.std.proofs.lemmas.Option.{slice_get-get_or}
use Rattle.readers.specs.Reader.{Outcome, whole, more, bad, after, mapped}
use Rattle.bp_num.specs.declared.number.Why.{Why}
use Rattle.bp_value.specs.declared.value.Value.TheVariants as val
use Rattle.bp_codec.specs.Plan.{Reading, parts_at, node_reads, AreRead}
use Rattle.bp_codec.specs.Levels.{next_of, reach_of, next_reads}
use Rattle.bp_codec.specs.Opened.{opened, Opens}
use Rattle.bp_codec.specs.declared.levels.Left.{Left}
use Rattle.bp_codec.specs.declared.levels.Left.TheVariants as left
use Rattle.bp_codec.specs.declared.levels.Makes.TheVariants as makes
use Rattle.bp_codec.specs.declared.levels.Next.{Next}
use Rattle.bp_codec.specs.declared.levels.Next.TheVariants as next
use Rattle.bp_codec.specs.declared.open.Open.{Open}
use Rattle.bp_codec.specs.declared.plan.Node.{Node}
use Rattle.bp_codec.specs.declared.plan.Node.TheVariants as node
use Rattle.bp_codec.proofs.Opening.{begun}

pub mapped_is : {A B : Type 0} (g : A → B) (o : Outcome ℕ Why A) → mapped g o ≡ after o (λ a u. whole (g a) u)
mapped_is g (whole a u) = refl
mapped_is g more = refl
mapped_is g (bad n w) = refl

-- what comes next, where the nodes read what they say
pub next_is : (m : ℕ) (ns : List Node) (tags : List ℕ) (reading : ℕ → Reading) (i : ℕ) (n : Node) (l : Next)
    → AreRead m ns tags reading → slice_get ns i ≡ Some n → l ≡ next.Node i → (s : List ℕ) → next_reads m reading l s ≡ node_reads m ns tags reading n s
next_is m ns tags reading i n l reads at stands s = ap (λ x. next_reads m reading x s) stands ∙ ap (λ (r : Reading). r s) (reads i n at)

pub first_part : (first n : ℕ) → 0 < n → next_of (left.Parts first n) ≡ next.Node first
first_part first zero some = absurd (omega arith)
first_part first (suc n) some = refl

module _ (ns : List Node) (tags : List ℕ) (i first n : ℕ) (old new : Open) (at : slice_get ns i ≡ Some (node.Parts first n))
    (stands : next_of old.top.left ≡ next.Node i) (begins : Opens old (left.Parts first n) makes.Parts new) where
  pub descends : (m : ℕ) (reading : ℕ → Reading) → AreRead m ns tags reading → (s : List ℕ) → opened m reading old s ≡ opened m reading new s
  unfolding node_reads
  descends m reading reads s =
      begun old (left.Parts first n) makes.Parts new begins m reading s s (λ e. let clash : next.Node i ≡ next.Nothing = sym stands ∙ e in cc)
      (next_is m ns tags reading i (node.Parts first n) (next_of old.top.left) reads at stands s ∙ mapped_is val.Parts (parts_at reading first n s))

-- the node that stands at a place, as code reads it
pub node_at : (ns : List Node) (i : ℕ) (d n : Node) → i < length ns → d ≡ get_or ns i d → d ≡ n → slice_get ns i ≡ Some n
node_at ns i d n lt is same = slice_get-get_or ns i d lt ∙ ap (λ x. Some x) (sym is ∙ same)

-- what comes next stands within reach
pub next_within : (l : Left) (i : ℕ) → next_of l ≡ next.Node i → i < reach_of l
next_within (left.Items j zero) i e = absurd cc
next_within (left.Items j (suc n)) i e = let same : j ≡ i = cc in omega arith
next_within (left.Parts first zero) i e = absurd cc
next_within (left.Parts first (suc n)) i e = let same : first ≡ i = cc in omega arith
next_within (left.Sexps depth zero) i e = absurd cc
next_within (left.Sexps depth (suc n)) i e = absurd cc
