use Rattle.std.proofs.Common.{Some, min, length, sym, ap}
use Rattle.bp_base.specs.Faults.{last_count}
use Rattle.bp_base.proofs.Giving.{bytes_before_start, bytes_from_start}
use Rattle.bp_base.proofs.pieces.Pieces.new.Goals as goal

pub invariant_of-result : goal.invariant_of-result
invariant_of-result c = record {
  counted = ap (λ l. min (length l) last_count) (sym (bytes_before_start c.args.pieces.items));
}

pub returns-clause-given : goal.returns-clause-given
returns-clause-given c = ap Some (bytes_before_start c.args.pieces.items)

pub returns-clause-left : goal.returns-clause-left
returns-clause-left c = ap Some (bytes_from_start c.args.pieces.items)
