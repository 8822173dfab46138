-- One element more, behind a mark if it is not the first.
use Rattle.std.proofs.Common.{sym, ap, ◌∙◌, List, ◌∷◌, ◌++◌, ℕ, codes}
use Rattle.std.specs.Prelude.{vec_items}
use Rattle.std.specs.Fmt.{decimal}
use Rattle.rpc_pair.proofs.MarkedElements.{mark_first, mark_next}
use Rattle.rpc_pair.proofs.generating.texts.each_text.Goals as goal
use Rattle.rpc_pair.proofs.generating.texts.each_text.Goals.{then-element-gt0+in_ok-extend_from_slice, else-element-gt0}

pub loop-element-preserved : goal.loop-element-preserved
loop-element-preserved c =
    elim c.if-element-gt0.branch [
      | then-element-gt0+in_ok-extend_from_slice w ↦
          c.in_ok-put_natural.ensures.ok
          ∙ (ap (λ (t : List ℕ). t ++ decimal c.loop-element.element)
          (ap vec_items w.text-is ∙ (w.in_ok-extend_from_slice.ensures.items ∙ ap (λ (t : List ℕ). t ++ codes "; ") c.loop-element.invariant))
          ∙ ap (λ (t : List ℕ). 91 ∷ t) (sym (mark_next c.loop-element.element w.if-element-gt0.true)))
      | else-element-gt0 w ↦
          c.in_ok-put_natural.ensures.ok
          ∙ (ap (λ (t : List ℕ). t ++ decimal c.loop-element.element) (ap vec_items w.text-is ∙ c.loop-element.invariant)
          ∙ ap (λ (t : List ℕ). 91 ∷ t) (sym (mark_first c.loop-element.element w.if-element-gt0.false)))
    ]
