use Rattle.std.proofs.Common.{◌≡◌, sym, subst}
use Rattle.bp_value.proofs.Good.{good_root}
use Rattle.bp_text_grammar.specs.PrintedTexts.{shape_text}
use Rattle.bp_text_grammar.specs.WholeTexts.{IsShapeText}
use Rattle.bp_text_grammar.proofs.PrintedLaws.{printed_shape_reads}
use Rattle.bp_text.proofs.printed_shapes.print_shape.Goals as goal

pub append_shape-requires : goal.append_shape-requires
append_shape-requires c = (1, good_root _ c.requires)

pub returns-clause-reads : goal.returns-clause-reads
returns-clause-reads c =
    let s = c.args.shape.now in
    let same : c.append_shape.new.out.items ≡ shape_text s = rw c.new-text.ensures.items at c.in_ok-append_shape.ensures in
    subst (IsShapeText s) (sym same) (printed_shape_reads s c.requires)
