use Rattle.std.proofs.Common.{refl, sym, subst, w64, FitsSigned, arith}
use Rattle.bp_num.proofs.FromAnswers.{int_more}
use Rattle.bp_codec.proofs.HeadSteps.{number_done, number_bad, number_short}
use Rattle.bp_codec.proofs.Ranges.{number_fits, number_back}
use Rattle.bp_codec.proofs.heads.number_at.Goals as goal

pub returns-clause-gives : goal.returns-clause-gives
returns-clause-gives c = number_short c.args.kind c.from.result c.args.rest.now.now c.in-len1-up.len_at_least c.from.ensures (omega arith)

pub returns-in-Done-clause-gives : goal.returns-in-Done-clause-gives
returns-in-Done-clause-gives c = number_done c.args.kind c.args.rest.now.now c.in-Done.value c.in-Done.used c.in-Done.ensures.told

pub returns-in-Done-clause-fits : goal.returns-in-Done-clause-fits
returns-in-Done-clause-fits c =
    let fits : FitsSigned w64 c.in-Done.value = number_fits c.args.kind c.in-Done.value _ c.in-Done.ensures.told.1 in
    subst (FitsSigned w64) (sym (number_back c.in-Done.value fits)) fits

pub returns-in-More-clause-gives : goal.returns-in-More-clause-gives
returns-in-More-clause-gives c = (int_more c.args.kind c.args.rest.now.now c.known.ensures c.in-More.ensures.told, refl)

pub returns-in-Bad-clause-gives : goal.returns-in-Bad-clause-gives
returns-in-Bad-clause-gives c = number_bad c.args.kind c.args.rest.now.now c.in-Bad.at c.in-Bad.why c.known.ensures c.in-Bad.ensures.told
