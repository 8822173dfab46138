use Rattle.std.proofs.Common.{rules, refl, ◌≡◌, sym, ◌∙◌, ◌++◌, length, take, drop}
use Rattle.rpc_pair.specs.Kept.{most_piece}
use Rattle.rpc_pair.proofs.Pairing.{still_pair, still_room}
use Rattle.rpc_pair.proofs.pair.Pair.put_all.Goals as goal

pub invariant_of-self : goal.invariant_of-self
invariant_of-self g c =
    let here = c.self.inside.buffer in
    still_pair c.self.inside.book c.put_out.new.end c.self.inside.server c.self.inside.server c.self.inside.limits here.items _ c.self.invariant c.put_out.ensures.keeps refl
    (still_room here.len most_piece c.put_out.new.buffer here.items here.ok.0 c.self.invariant.room (search rules))

pub invariant_of-self-in_err-server : goal.invariant_of-self-in_err-server
invariant_of-self-in_err-server g c =
    let here = c.self.inside.buffer in
    let mid = take here.len (c.put_out.new.buffer ++ drop (length c.put_out.new.buffer) here.items) in
    let first : length mid ≡ most_piece = still_room here.len most_piece c.put_out.new.buffer here.items here.ok.0 c.self.invariant.room (search rules) in
    still_pair c.self.inside.book c.put_out.new.end c.self.inside.server c.put_out-2.new.end c.self.inside.limits here.items _ c.self.invariant c.put_out.ensures.keeps c.put_out-2.ensures.keeps
    (still_room here.len most_piece c.put_out-2.new.buffer mid (here.ok.0 ∙ (c.self.invariant.room ∙ sym first)) first (search rules))
