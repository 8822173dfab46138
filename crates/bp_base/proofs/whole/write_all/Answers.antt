use Rattle.std.proofs.Common.{arith, ◌∙◌}
use Rattle.bp_base.proofs.Runs.{Gains_written}
use Rattle.bp_base.proofs.whole.write_all.Goals as goal

pub writes-preserved : goal.writes-preserved
writes-preserved g c = record {
  taken = Gains_written g.K.Sink.put c.args.sink.now c.writes.sink c.write.new.self
      c.args.piece.now c.writes.written c.in-Bytes.count
      c.writes.invariant.taken c.in-Bytes.ensures.taken;
  steady = c.in-Bytes.ensures.faults.steady (λ is. cc) ∙ c.writes.invariant.steady;
  within = omega (arith, c.writes.invariant.within, c.in-Bytes.ensures.fits);
}
