use Rattle.std.proofs.Common.{refl, inr, ◌∙◌}
use Rattle.rpc_tool.proofs.Answering.{written_front}
use Rattle.bp_base.specs.Told.{Gains}
use Rattle.rpc_tool.proofs.top.answer.Goals as goal

pub returns-in-Failed-clause-answered : goal.returns-in-Failed-clause-answered
returns-in-Failed-clause-answered g c =
    let Writes = Gains g.O.Sink.put c.args.out.now c.finish.new.self in
    inr (refl, written_front Writes _ (c.in-Failed.ensures.kept ∙ c.in-Ok.ensures.ok))
