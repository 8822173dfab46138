use Rattle.std.proofs.Common.{refl, sym, ap, ◌∙◌, subst, ◌+◌, drop, Err}
use Rattle.std.proofs.lemmas.List.{take_rest}
use Rattle.bp_value.specs.Form.{form_of}
use Rattle.bp_value.specs.Faults.{IsGood}
use Rattle.bp_text_grammar.specs.WholeTexts.{IsShapeFront}
use Rattle.bp_text.specs.TextAnswers.{IsFrontReadAs}
use Rattle.bp_text.proofs.FrontOnce.{front_once, moved_given, moved_refused}
use Rattle.bp_text.proofs.shape_fronts.read_shape_front.Goals as goal

pub returns-in-Ok-check-clause-only : goal.returns-in-Ok-check-clause-only
returns-in-Ok-check-clause-only c = λ shape end stands good.
    let (used, place, front) = stands in
    let found = subst (λ s. IsShapeFront s c.in-Ok.shape c.in-Ok.used) (take_rest c.args.text.now c.args.from) c.in-Ok.ensures in
    let (same, ends) = front_once (drop c.args.from c.args.text.now) c.in-Ok.shape shape c.in-Ok.used used found front in
    ap (λ x. (x, c.args.from + c.in-Ok.used)) same ∙ ap (λ k. (shape, k)) (ap (λ k. c.args.from + k) ends ∙ sym place)

pub returns-in-Err-check-clause-only : goal.returns-in-Err-check-clause-only
returns-in-Err-check-clause-only c = λ shape end stands good.
    let (used, place, front) = stands in
    let found = subst (λ s. IsShapeFront s c.in-Ok.shape c.in-Ok.used) (take_rest c.args.text.now c.args.from) c.in-Ok.ensures in
    let (same, ends) = front_once (drop c.args.from c.args.text.now) c.in-Ok.shape shape c.in-Ok.used used found front in
    let passed = c.in-Err-check.ensures.good.1 (subst (λ s. IsGood (form_of s)) (sym same) good) in
    absurd cc

pub returns-in-Err-check-clause-refused : goal.returns-in-Err-check-clause-refused
returns-in-Err-check-clause-refused c =
    let found = subst (λ s. IsShapeFront s c.in-Ok.shape c.in-Ok.used) (take_rest c.args.text.now c.args.from) c.in-Ok.ensures in
    (c.in-Ok.shape, c.args.from + c.in-Ok.used, (c.in-Ok.used, refl, found), (c.in-Err-check.ensures.fault c.in-Err-check.fault).0 refl)

pub returns-in-Err-clause-only : goal.returns-in-Err-clause-only
returns-in-Err-clause-only c = λ shape end stands good.
    let (used, place, front) = stands in
    let none = subst (λ s. IsFrontReadAs s (Err c.in-Err.error)) (take_rest c.args.text.now c.args.from) c.in-Err.ensures in
    rw c.moved.ensures (moved_given c.args.text.now c.args.from c.in-Err.error shape used (shape, end) none front)

pub returns-in-Err-clause-refused : goal.returns-in-Err-clause-refused
returns-in-Err-clause-refused c =
    let none = subst (λ s. IsFrontReadAs s (Err c.in-Err.error)) (take_rest c.args.text.now c.args.from) c.in-Err.ensures in
    rw c.moved.ensures (moved_refused c.args.text.now c.args.from c.in-Err.error none)
