use Rattle.std.proofs.Common.{length, arith}
use Rattle.bp_num.proofs.Payloads.{bytes_are, payload_past, payload_cut}
use Rattle.bp_num.proofs.reading.read_cut.Goals as goal

pub returns-then-low-max : goal.returns-then-low-max
returns-then-low-max c = λ width short.
    payload_past width c.args.max c.args.payload.now (length c.args.payload.now) c.read_uint-low.result
    (bytes_are c.args.payload.now c.type_inv.payload) (omega arith) c.read_uint-low.ensures
    c.passing_place.result c.if-low-max.true c.passing_place.ensures.below c.passing_place.ensures.above

pub returns-else-low-max : goal.returns-else-low-max
returns-else-low-max c = λ width short.
    payload_cut width c.args.max c.args.payload.now (length c.args.payload.now) c.read_uint-low.result
    (bytes_are c.args.payload.now c.type_inv.payload) (omega arith) c.read_uint-low.ensures
    c.if-low-max.false short
