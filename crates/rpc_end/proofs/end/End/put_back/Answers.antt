use Rattle.std.proofs.Common.{sym, subst}
use Rattle.rpc_end.specs.Ends.{EndState}
use Rattle.rpc_end.specs.Taking.{CanPutBack}
use Rattle.rpc_end.proofs.Keeping.{kept_back}
use Rattle.rpc_end.proofs.end.End.put_back.Goals as goal

pub invariant_of-self : goal.invariant_of-self
invariant_of-self c =
    let can = subst (λ (e : EndState). CanPutBack e c.args.body c.args.used) (sym c.self.view_is) c.requires in
    kept_back c.self.inside.max c.self.inside.reader c.undo.new.self c.args.body c.args.used c.args.place c.self.inside.start c.self.inside.greeted c.self.inside.cause
    c.self.invariant can.short can.some can.within c.undo.ensures
