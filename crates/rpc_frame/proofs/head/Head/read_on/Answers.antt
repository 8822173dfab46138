use Rattle.std.proofs.Common.{◌≡◌, sym, ap, ◌∙◌, subst, ℕ, ◌+◌, ◌*◌, ◌^◌, ◌<◌, ◌≤◌, List, ◌∷◌, [], ◌++◌, length, take, get_or, append_assoc, arith, mul-le-mul}
use Rattle.bp_num.specs.Forms.{little_endian}
use Rattle.bp_num.specs.Reads.{low_first}
use Rattle.bp_num.proofs.Bytes.{number_of_bytes}
use Rattle.rpc_frame.proofs.HeadSteps.{byte_is, number_here, number_next, low_top, bytes_top, scale_few}
use Rattle.rpc_frame.proofs.head.Head.read_on.Goals as goal

pub pow-requires : goal.pow-requires
pow-requires c = omega (arith, scale_few c.bytes.seen (omega arith))

pub overflow_mul-part : goal.overflow_mul-part
overflow_mul-part c =
    let byte : c.from.result < 256 = byte_is c.args.piece.now c.bytes.used c.from.result c.type_inv.piece c.from.ensures in
    let scale : c.pow.result ≤ 256 ^ 7 = subst (λ n. n ≤ 256 ^ 7) (sym c.pow.ensures) (scale_few c.bytes.seen (omega arith)) in
    let all : c.from.result * c.pow.result ≤ 255 * 256 ^ 7 = mul-le-mul {n₂ = 255} (omega arith) scale in
    omega arith

pub returns-then-part-max : goal.returns-then-part-max
returns-then-part-max c = (
  omega arith,
  omega arith,
  subst (λ n. n ≤ c.args.max) (sym (number_here c.bytes.seen c.bytes.low c.args.self.seen c.args.self.low c.bytes.used c.from.result c.pow.result c.args.piece.now c.bytes.invariant.small (byte_is c.args.piece.now c.bytes.used c.from.result c.type_inv.piece c.from.ensures) c.pow.ensures c.from.ensures (omega arith) c.bytes.invariant.bytes)) c.bytes.invariant.fits,
  subst (λ n. c.args.max < n) (sym (number_next c.bytes.seen c.bytes.low c.args.self.seen c.args.self.low c.bytes.used c.from.result c.pow.result c.args.piece.now c.bytes.invariant.small (byte_is c.args.piece.now c.bytes.used c.from.result c.type_inv.piece c.from.ensures) c.pow.ensures c.from.ensures (omega arith) c.bytes.invariant.bytes)) (omega arith),
)

pub bytes-preserved : goal.bytes-preserved
bytes-preserved c = record {
  within = omega arith;
  few = omega arith;
  count = omega arith;
  fits = omega arith;
  small = low_top c.bytes.seen c.bytes.low c.args.self.seen c.args.self.low c.bytes.used c.from.result c.pow.result c.args.piece.now c.bytes.invariant.small (byte_is c.args.piece.now c.bytes.used c.from.result c.type_inv.piece c.from.ensures) c.pow.ensures c.from.ensures (omega arith) c.bytes.invariant.bytes;
  bytes = bytes_top c.bytes.seen c.bytes.low c.args.self.seen c.args.self.low c.bytes.used c.from.result c.pow.result c.args.piece.now c.bytes.invariant.small (byte_is c.args.piece.now c.bytes.used c.from.result c.type_inv.piece c.from.ensures) c.pow.ensures c.from.ensures (omega arith) c.bytes.invariant.bytes;
}
