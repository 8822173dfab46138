use Rattle.std.proofs.Common.{to_z, w64, arith}
use Rattle.std.proofs.lemmas.Int.{ints}
use Rattle.bp_num.proofs.Payloads.{bytes_are, payload_past, payload_full}
use Rattle.bp_num.proofs.reading.read_payload.Goals as goal

pub returns-then-low-max : goal.returns-then-low-max
returns-then-low-max c =
    payload_past c.args.width c.args.max c.args.payload.now c.args.width c.read_uint-low.result
    (bytes_are c.args.payload.now c.type_inv.payload) (omega arith) c.read_uint-low.ensures
    c.passing_place.result c.if-low-max.true c.passing_place.ensures.below c.passing_place.ensures.above

pub returns-else-low-max : goal.returns-else-low-max
returns-else-low-max c =
    payload_full c.args.width c.args.max c.args.payload.now c.args.width c.read_uint-low.result
    (bytes_are c.args.payload.now c.type_inv.payload) (omega arith) c.read_uint-low.ensures
    c.if-low-max.false (omega arith) (to_z w64 c.read_uint-low.result) (omega (arith, ints))
