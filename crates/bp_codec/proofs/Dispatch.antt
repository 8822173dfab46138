-- What the arms of a turn say of all that is open.
use Rattle.std.proofs.Common.{◌≡◌, ◌≢◌, refl, sym, ap, ◌∙◌, subst, ℕ, ◌≤◌, List, length, get_or, Result, Ok, Err, arith}
use Rattle.readers.specs.Reader.{more}
use Rattle.bp_codec.specs.declared.stop.Stop.{Stop}
use Rattle.bp_codec.specs.declared.stop.Stop.TheVariants as stop
use Rattle.bp_codec.specs.declared.levels.Level.{Level}
use Rattle.bp_codec.specs.declared.levels.Next.{Next}
use Rattle.bp_codec.specs.declared.levels.Next.TheVariants as next
use Rattle.bp_codec.specs.declared.open.Open.{Open}
use Rattle.bp_codec.specs.declared.plan.Node.{Node}
use Rattle.bp_codec.specs.declared.plan.Node.TheVariants as node
use Rattle.bp_codec.specs.Plan.{Reading, node_reads}
use Rattle.bp_codec.specs.Levels.{next_of, reach_of, next_reads, waits, sexp_value}
use Rattle.bp_codec.specs.Opened.{Reaches, IsNoParts}
use Rattle.bp_codec.specs.Taking.{Takes, Moves, ComesNext, IsNext, Unless}
use Rattle.bp_codec.proofs.Opening.{ends}
use Rattle.bp_codec.proofs.Descending.{next_is, node_at}
use Rattle.bp_codec.proofs.Moving.{next_stops}

-- what comes next is no end
pub comes_some : (ns : List Node) (n : Node) (o : Open) → ComesNext ns n o → next_of o.top.left ≢ next.Nothing
comes_some ns n o comes e = let clash : next.Node comes.place ≡ next.Nothing = sym comes.next ∙ e in cc

-- a node that stands at a place, as code reads it
pub comes_next : (ns : List Node) (o : Open) (x : Next) (i : ℕ) (d n : Node) → next_of o.top.left ≡ x → x ≡ next.Node i → IsNoParts ns x → d ≡ get_or ns i d → d ≡ n → ComesNext ns n o
comes_next ns o x i d n stands is none reads same =
    let parts : IsNoParts ns (next.Node i) = subst (IsNoParts ns) is none in
    record { place = i; next = stands ∙ is; at = node_at ns i d n parts.0 reads same }

-- a leaf was taken by the innermost level
pub leaf_moves : (r : Reading) (ns : List Node) (tags : List ℕ) (max : ℕ) (n : Node) (old : Open) (top : Level) (s u : List ℕ) (result : Result (Unit {0}) Stop)
    → ((reading : ℕ → Reading) (t : List ℕ) → node_reads max ns tags reading n t ≡ r t) → ComesNext ns n old → Reaches (length ns) old → Takes r old.top top s u result
    → Moves ns tags max old (record { top = top; stack = old.stack }) s u result
leaf_moves r ns tags max n old top s u result is comes reach takes = record {
  keeps = λ reading are. takes.keeps max reading (waits max reading ends old.stack.items) (comes_some ns n old comes)
      (λ t. next_is max ns tags reading comes.place n (next_of old.top.left) are comes.at comes.next t ∙ is reading t);
  taken = takes.taken;
  reaches = all result takes.reach;
}
  where
    reaches : reach_of top.left ≤ reach_of old.top.left → Reaches (length ns) (record { top = top; stack = old.stack })
    reaches le = let under : reach_of old.top.left ≤ length ns = reach.top in record { top = omega arith; stack = reach.stack }

    all : (result : Result (Unit {0}) Stop) → Unless result (reach_of top.left ≤ reach_of old.top.left) → Unless result (Reaches (length ns) (record { top = top; stack = old.stack }))
    all (Ok t) le = reaches le
    all (Err stop.More) le = reaches le
    all (Err (stop.Bad w)) le = tt
    all (Err stop.OutOfMemory) le = tt

-- an S-expression comes next
pub sexp_next : (ns : List Node) (tags : List ℕ) (max : ℕ) (o : Open) (depth : ℕ) → next_of o.top.left ≡ next.Sexp depth → IsNext ns tags max o (sexp_value max depth)
sexp_next ns tags max o depth is = (λ e. let clash : next.Sexp depth ≡ next.Nothing = sym is ∙ e in cc, λ reading are t. ap (λ x. next_reads max reading x t) is)

pub sexp_node : (ns : List Node) (tags : List ℕ) (max : ℕ) (o : Open) → ComesNext ns node.Sexp o → IsNext ns tags max o (sexp_value max 128)
unfolding node_reads
sexp_node ns tags max o comes = (comes_some ns node.Sexp o comes, λ reading are t. next_is max ns tags reading comes.place node.Sexp (next_of o.top.left) are comes.at comes.next t)

-- the arguments of a case are no value: more is wanted for ever
pub args_stop : (ns : List Node) (tags : List ℕ) (max : ℕ) (first n : ℕ) (o : Open) (s : List ℕ) → ComesNext ns (node.Args first n) o → Reaches (length ns) o → Moves ns tags max o o s s (Err stop.More)
unfolding node_reads
args_stop ns tags max first n o s comes reach =
    next_stops {A = ℕ} (λ t. more) (λ t x. tt) (λ reading k t. more) ns tags max o s s (comes_some ns (node.Args first n) o comes)
    (λ reading are t. next_is max ns tags reading comes.place (node.Args first n) (next_of o.top.left) are comes.at comes.next t) reach stop.More (refl, refl)
