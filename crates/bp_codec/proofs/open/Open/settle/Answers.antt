use Rattle.std.proofs.Common.{◌≡◌, sym, ap, ◌∙◌, ◌++◌, ◌∷◌, []}
use Rattle.readers.specs.Reader.{whole}
use Rattle.bp_value.specs.declared.value.Value.{Value}
use Rattle.bp_codec.specs.Levels.{made}
use Rattle.bp_codec.specs.declared.levels.Level.{Level}
use Rattle.bp_codec.specs.declared.open.Open.{Open}
use Rattle.bp_codec.proofs.Opening.{closed, all_closed, closed_reaches, none_left}
use Rattle.bp_codec.proofs.open.Open.settle.Goals as goal

-- no level waits: the value is whole
pub returns-in_default-pop-clause-ok : goal.returns-in_default-pop-clause-ok
returns-in_default-pop-clause-ok c = λ m reading s.
    let old = c.levels.self in
    let none : old.stack.items ≡ [] = none_left c.pop.result _ old.stack.items c.pop.new.self.items c.pop.ensures.variant c.in_default-pop.not-Some c.pop.ensures.items c.pop.ensures.rest in
    let value : c.in_ok-value.field-0 ≡ made old.top.makes old.top.values.items =
    c.in_ok-value.ensures.ok ∙ ap (made old.top.makes) (ap (λ v. v.items) c.replace-values.ensures.value) in
    c.levels.invariant.0 m reading s ∙ (all_closed m reading old s (sym c.next.ensures ∙ c.in-Nothing.is) none ∙ ap (λ (v : Value). whole v s) (sym value))

-- the level around takes the value
pub levels-preserved : goal.levels-preserved
levels-preserved c =
    let old = c.levels.self in
    let new : Open = record { top = record c.replace-makes.new.dest { values = c.push.new.self }; stack = c.pop.new.self } in
    let outer = c.in-Some.outer in
    let stack : old.stack.items ≡ c.pop.new.self.items ++ outer ∷ [] = rw c.in-Some.is at c.pop.ensures.items in
    let is_outer = c.replace-makes.ensures.after in
    let value : c.in_ok-value-2.value ≡ made old.top.makes old.top.values.items =
    c.in_ok-value-2.ensures.ok ∙ ap (λ (l : Level). made l.makes l.values.items) c.replace-makes.ensures.value in
    let vs : c.push.new.self.items ≡ outer.values.items ++ made old.top.makes old.top.values.items ∷ [] =
    c.in_ok-push.ensures.items ∙ (ap (λ (l : Level). l.values.items ++ c.in_ok-value-2.value ∷ []) is_outer ∙ ap (λ v. outer.values.items ++ v ∷ []) value) in
    let left = ap (λ (l : Level). l.left) is_outer in
    let makes = ap (λ (l : Level). l.makes) is_outer in (
      λ m reading s. c.levels.invariant.0 m reading s ∙ closed m reading old new outer (sym c.next.ensures ∙ c.in-Nothing.is) stack left makes vs s,
      λ n r. closed_reaches n old new outer stack left (c.levels.invariant.1 n r),
    )
