-- By the variant.
use Rattle.std.proofs.Common.{sym, ap, ◌∙◌}
use Rattle.bp_text_grammar.specs.PrintedShapes.{shape_printed}
use Rattle.bp_text_grammar.proofs.ShapeLayers.{printed_Tuple}
use Rattle.bp_text.proofs.ShapeBytes.{tuple_only}
use Rattle.bp_text.proofs.printed_shapes.is_tuple.Goals as goal

pub returns-in-Tuple : goal.returns-in-Tuple
returns-in-Tuple c = sym (ap (λ s. (shape_printed s).0) c.in-Tuple.is ∙ ap (λ p. p.0) (printed_Tuple _))

pub returns-in_default : goal.returns-in_default
returns-in_default c = sym (tuple_only c.args.shape.now (λ ss e. c.in_default.not-Tuple ss e))
