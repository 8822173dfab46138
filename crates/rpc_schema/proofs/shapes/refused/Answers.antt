-- A shape that is not good is refused at its first byte.
use Rattle.std.proofs.Common.{subst}
use Rattle.bp_text.specs.TextAnswers.{RefusesFront}
use Rattle.rpc_schema.proofs.GoodLines.{not_good_refused}
use Rattle.rpc_schema.proofs.shapes.refused.Goals as goal

pub returns-in-NotGood : goal.returns-in-NotGood
returns-in-NotGood c =
    not_good_refused c.args.line.now _ c.in-NotGood.field-0 (subst (RefusesFront c.args.line.now 0) c.in-NotGood.is c.requires) c.skip_blanks.ensures
