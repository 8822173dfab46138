use Rattle.bp_grammar.specs.Reading.{read}
use Rattle.bp_value.proofs.Forms.{form_of-Sexp}
use Rattle.bp_value.specs.Form as form
use Rattle.bp_value.specs.declared.value.Value.TheVariants as val
use Rattle.rpc_msg.proofs.Bodies.{sexp_good, sexp_value}
use Rattle.rpc_msg.proofs.Halting.{takes_err}
use Rattle.rpc_msg.proofs.errors.sexp_at.Goals as goal

pub value_at-requires-clause-good : goal.value_at-requires-clause-good
value_at-requires-clause-good c = rw form_of-Sexp sexp_good

pub returns-in_err-sexp : goal.returns-in_err-sexp
returns-in_err-sexp c =
    takes_err (λ x. val.Sexp x) (read c.args.max_len form.sexp) c.args.rest.now.now c.value_at.new.rest.now c.from_residual.result c.in_err-sexp.field-0.0
    c.from_residual.ensures.1 (rw form_of-Sexp at c.in_err-sexp.ensures)

pub unreachable-requires : goal.unreachable-requires
unreachable-requires c =
    let (x, is) = sexp_value c.args.max_len c.args.rest.now.now c.value_at.new.rest.now c.in_ok-sexp.field-0 (rw form_of-Sexp at c.in_ok-sexp.ensures) in
    c.in_default.not-Sexp x is

pub returns : goal.returns
returns c = rw (c.in-Sexp.is, form_of-Sexp) at c.in_ok-sexp.ensures
