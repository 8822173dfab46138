use Rattle.std.proofs.Common.{◌≡◌, refl, ap, ◌∙◌, ℕ, zero, suc, ◌-◌, ◌≤◌, List, Option, Some, None, arith}
use Rattle.std.specs.Option.{SomeIff}
use Rattle.readers.specs.Reader.{more, after}
use Rattle.bp_value.specs.declared.value.Value.TheVariants as val
use Rattle.bp_value.specs.declared.value.Sexp.TheVariants as sx
use Rattle.bp_grammar.specs.Reading.{read_sexp}
use Rattle.bp_codec.specs.declared.levels.Left.TheVariants as left
use Rattle.bp_codec.specs.declared.levels.Makes.TheVariants as makes
use Rattle.bp_codec.specs.declared.sexps.SexpHead.TheVariants as head
use Rattle.bp_codec.specs.declared.stop.Stop.TheVariants as stop
use Rattle.bp_codec.specs.Plan.{Reading, AreRead}
use Rattle.bp_codec.specs.Levels.{next_of, next_reads, sexp_value}
use Rattle.bp_codec.specs.Sexps.{sexp_head_at, sexp_onward}
use Rattle.bp_codec.specs.declared.open.Open.{Open}
use Rattle.bp_codec.specs.declared.plan.Node.{Node}
use Rattle.bp_codec.specs.Taking.{IsNext}
use Rattle.bp_codec.proofs.Moving.{next_stops, next_puts, next_begins}
use Rattle.bp_codec.proofs.NodeSteps.{sexp_is, grows_sexp_head, sexps_made}
use Rattle.bp_codec.proofs.open.Open.take_sexp.Goals as goal

-- a depth of which one can be taken
one_more : (o : Option ℕ) (n d : ℕ) → SomeIff o (1 ≤ n) (n - 1) → o ≡ Some d → n ≡ suc d
one_more (Some x) n d is e = let same : x ≡ d = cc in omega (arith, is.0, is.1)
one_more None n d is e = absurd cc

no_more : (o : Option ℕ) (n : ℕ) → SomeIff o (1 ≤ n) (n - 1) → ((x : ℕ) → o ≡ Some x → ⊥) → n ≡ 0
no_more (Some x) n is other = absurd (other x refl)
no_more None zero is other = refl
no_more None (suc n) is other = absurd (is (omega arith))

module _ (ns : List Node) (tags : List ℕ) (max depth d : ℕ) (old : Open) (deep : depth ≡ suc d) (isnext : IsNext ns tags max old (sexp_value max depth)) where
  head_reads : (reading : ℕ → Reading) → AreRead max ns tags reading → (t : List ℕ) → next_reads max reading (next_of old.top.left) t ≡ after (sexp_head_at max d t) (sexp_onward max d)
  head_reads reading are t = isnext.1 reading are t ∙ (ap (λ k. sexp_value max k t) deep ∙ sexp_is max d t)

-- no S-expression is so deep
pub returns-in_default-clause-moves : goal.returns-in_default-clause-moves
unfolding read_sexp
returns-in_default-clause-moves c = λ ns tags isnext reach.
    let none : c.args.depth ≡ 0 = no_more c.checked_sub.result c.args.depth c.checked_sub.ensures c.in_default.not-Some in
    next_stops {A = ℕ} (λ t. more) (λ s x. tt) (λ reading n t. more) ns tags c.args.max c.args.self.now c.args.rest.now.now c.args.rest.now.now isnext.0
    (λ reading are t. isnext.1 reading are t ∙ ap (λ k. sexp_value c.args.max k t) none) reach stop.More (refl, refl)

pub returns-in-Ok-Atom-clause-moves : goal.returns-in-Ok-Atom-clause-moves
returns-in-Ok-Atom-clause-moves c = λ ns tags isnext reach.
    let max = c.args.max in
    let d = c.in-Some.depth in
    let deep : c.args.depth ≡ suc d = one_more c.checked_sub.result c.args.depth d c.checked_sub.ensures c.in-Some.is in
    next_puts (sexp_head_at max d) (grows_sexp_head max d) (λ reading. sexp_onward max d) ns tags max c.args.self.now c.args.rest.now.now c.sexp_head.new.rest.now isnext.0
    (head_reads ns tags max c.args.depth d c.args.self.now deep isnext) reach (head.Atom c.in-Ok-Atom.text) (val.Sexp (sx.Atom c.in-Ok-Atom.text)) c.put.new.self c.put.result
    (rw c.in-Ok-Atom.field-0-is at c.in-Ok-Atom.ensures) (λ reading t. refl) c.put.ensures.ok c.put.ensures.only

pub returns-in-Ok-List-clause-moves : goal.returns-in-Ok-List-clause-moves
returns-in-Ok-List-clause-moves c = λ ns tags isnext reach.
    let max = c.args.max in
    let d = c.in-Some.depth in
    let n = c.in-Ok-List.count in
    let deep : c.args.depth ≡ suc d = one_more c.checked_sub.result c.args.depth d c.checked_sub.ensures c.in-Some.is in
    next_begins (sexp_head_at max d) (grows_sexp_head max d) (λ reading. sexp_onward max d) ns tags max c.args.self.now c.args.rest.now.now c.sexp_head.new.rest.now isnext.0
    (head_reads ns tags max c.args.depth d c.args.self.now deep isnext) reach (head.List n) (left.Sexps d n) makes.Sexp c.begin.new.self c.begin.result
    (rw c.in-Ok-List.field-0-is at c.in-Ok-List.ensures) (omega arith) (λ reading t are. sexps_made max d n reading t) c.begin.ensures.ok c.begin.ensures.only

pub returns-in-Err-clause-moves : goal.returns-in-Err-clause-moves
returns-in-Err-clause-moves c = λ ns tags isnext reach.
    let max = c.args.max in
    let d = c.in-Some.depth in
    let deep : c.args.depth ≡ suc d = one_more c.checked_sub.result c.args.depth d c.checked_sub.ensures c.in-Some.is in
    next_stops (sexp_head_at max d) (grows_sexp_head max d) (λ reading. sexp_onward max d) ns tags max c.args.self.now c.args.rest.now.now c.sexp_head.new.rest.now isnext.0
    (head_reads ns tags max c.args.depth d c.args.self.now deep isnext) reach c.in-Err.stop c.in-Err.ensures
