use Rattle.std.proofs.Common.{◌≡◌, sym, subst}
use Rattle.readers.specs.Reader.{Each, IsByte}
use Rattle.bp_value.specs.Form.{form_of}
use Rattle.bp_text_grammar.specs.PrintedTexts.{value_text}
use Rattle.bp_text_grammar.specs.WholeTexts.{IsValueText}
use Rattle.bp_text_grammar.proofs.PrintedLaws.{printed_value_is}
use Rattle.bp_text.proofs.printed_values.print_value.Goals as goal

pub returns-clause-reads : goal.returns-clause-reads
returns-clause-reads c =
    let f = form_of c.args.shape.now in
    let v = c.args.value.now in
    let same : c.append_value.new.out.items ≡ value_text f v = rw c.new-text.ensures.items at c.in_ok-append_value.ensures in
    let bytes : Each IsByte (value_text f v) = subst (Each IsByte) same (rw c.deref.ensures.value at c.known.ensures) in
    λ good. subst (IsValueText f v) (sym same) (printed_value_is c.requires.0 f v good c.requires.1 bytes)
