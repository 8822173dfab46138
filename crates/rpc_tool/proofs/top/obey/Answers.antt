use Rattle.std.proofs.Common.{arith, ◌∙◌, sym, refl}
use Rattle.std.specs.Prelude.{Ok}
use Rattle.bp_base.proofs.Telling.{Gains-nil}
use Rattle.rpc_tool.specs.declared.status.Status.TheVariants as outcome
use Rattle.rpc_tool.proofs.Answering.{not_too_long, whole_came, stopped}
use Rattle.rpc_tool.proofs.top.obey.Goals as goal

pub returns-in-Ok-clause-means : goal.returns-in-Ok-clause-means
returns-in-Ok-clause-means g c = λ words named.
    let came = c.in-Ok.ensures.came in
    let status = c.perform.result in
    record {
      named = Ok c.args.command.now;
      is_named = named;
      status = status;
      coded = refl;
      bytes = came.0;
      came = came.1;
      too_long = (
        λ long. absurd (not_too_long status c.perform.ensures.through long),
        λ long. absurd (omega (arith, came.2.1)),
      );
      whole = λ whole. whole_came _ _ _ came.2.0 c.in-Ok.ensures.whole;
      ended = λ whole. (c.in-Ok.ensures.ended, c.in-Ok.ensures.at_end);
      said = rw (sym (c.deref.ensures.value ∙ came.2.0)) c.perform.ensures.said;
    }

pub returns-in-Err-ReadFault-clause-means : goal.returns-in-Err-ReadFault-clause-means
returns-in-Err-ReadFault-clause-means g c = λ words named.
    let came = c.in-Err-ReadFault.ensures.came in
    let answer = rw c.in-Err-ReadFault.field-0-is at came.2 in
    stopped _ _ _ _ _ words (Ok c.args.command.now) outcome.ReadFault came.0 named came.1
    (λ is. cc, λ long. absurd (omega (arith, answer, long)))
    (λ whole. whole) (refl, Gains-nil g.O.Sink.put c.args.out.now)

pub returns-in-Err-TooLong-clause-means : goal.returns-in-Err-TooLong-clause-means
returns-in-Err-TooLong-clause-means g c = λ words named.
    let came = c.in-Err-TooLong.ensures.came in
    let answer = rw c.in-Err-TooLong.field-0-is at came.2 in
    stopped _ _ _ _ _ words (Ok c.args.command.now) outcome.TooLong came.0 named came.1
    (λ is. answer.1, λ long. refl)
    (λ whole. whole) (refl, Gains-nil g.O.Sink.put c.args.out.now)

pub returns-in-Err-OutOfMemory-clause-means : goal.returns-in-Err-OutOfMemory-clause-means
returns-in-Err-OutOfMemory-clause-means g c = λ words named.
    let came = c.in-Err-OutOfMemory.ensures.came in
    let answer = rw c.in-Err-OutOfMemory.field-0-is at came.2 in
    stopped _ _ _ _ _ words (Ok c.args.command.now) outcome.OutOfMemory came.0 named came.1
    (λ is. cc, λ long. absurd (omega (arith, answer, long)))
    (λ whole. whole) (tt, Gains-nil g.O.Sink.put c.args.out.now)
