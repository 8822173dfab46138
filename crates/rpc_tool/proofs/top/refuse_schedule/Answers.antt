use Rattle.std.proofs.Common.{inl}
use Rattle.rpc_tool.proofs.top.refuse_schedule.Goals as goal

pub returns-in-Ok-clause-answered : goal.returns-in-Ok-clause-answered
returns-in-Ok-clause-answered g c =
    inl (
      c.in-Ok.ensures.0,
      rw (c.deref.ensures.value, c.in-Ok.ensures.1, c.new-line.ensures.items)
          at c.answer.ensures.answered,
    )
