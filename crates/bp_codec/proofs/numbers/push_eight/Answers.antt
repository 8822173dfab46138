use Rattle.std.proofs.Common.{rules, append_assoc}
use Rattle.bp_codec.proofs.numbers.push_eight.Goals as goal

pub returns : goal.returns
returns c =
    rw (
      c.push_reserved-9.ensures.items,
      c.push_reserved-8.ensures.items,
      c.push_reserved-7.ensures.items,
      c.push_reserved-6.ensures.items,
      c.push_reserved-5.ensures.items,
      c.push_reserved-4.ensures.items,
      c.push_reserved-3.ensures.items,
      c.push_reserved-2.ensures.items,
      c.push_reserved.ensures.items,
    ) (simp append_assoc (rw c.to_le_bytes.ensures (search rules)))
