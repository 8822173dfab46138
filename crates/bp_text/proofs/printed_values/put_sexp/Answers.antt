-- The text of a value that is an S-expression is that of its pieces.
use Rattle.std.proofs.Common.{refl}
use Rattle.bp_value.specs.declared.value.Value.TheVariants as val
use Rattle.bp_text.proofs.ValueBytes.{text_sexp}
use Rattle.bp_text.proofs.printed_values.put_sexp.Goals as goal

pub returns-in-Ok-clause-ok : goal.returns-in-Ok-clause-ok
returns-in-Ok-clause-ok c = let s = c.args.sexp.now in rw (text_sexp (val.Sexp s) s refl) (rw c.in-Ok.is at c.append_sexp.ensures)
