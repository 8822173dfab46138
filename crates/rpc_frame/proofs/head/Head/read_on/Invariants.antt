use Rattle.std.proofs.Common.{◌≡◌, ◌+◌, ◌-◌, ◌^◌, ◌<◌, ◌≤◌, ◌++◌, length, take}
use Rattle.bp_num.specs.Forms.{little_endian}
use Rattle.rpc_frame.proofs.head.Head.read_on.Given as goal

-- the bytes that were taken stand behind those before
abbrev pub invariant-bytes : goal.invariant-bytes
invariant-bytes l = record {
  within : l.used ≤ length l.piece;
  few : l.seen ≤ 8;
  count : l.seen ≡ l.fn.self.seen + l.used;
  fits : l.low ≤ l.max;
  small : l.low < 256 ^ l.seen;
  bytes : little_endian l.seen l.low ≡ little_endian l.fn.self.seen l.fn.self.low ++ take l.used l.piece;
}

abbrev pub decreases-bytes : goal.decreases-bytes
decreases-bytes l = 8 - l.seen
