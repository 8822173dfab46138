use Rattle.bp_text_grammar.specs.ShapeTexts.{shape_at}
use Rattle.bp_text.proofs.shapes.shape.Goals as goal

pub returns : goal.returns
unfolding shape_at
returns c = c.product.ensures
