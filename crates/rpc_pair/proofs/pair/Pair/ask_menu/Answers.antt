use Rattle.std.proofs.Common.{sym, subst}
use Rattle.rpc_pair.specs.Kept.{IsOwn}
use Rattle.rpc_pair.proofs.Owning.{menu_own}
use Rattle.rpc_pair.proofs.pair.Pair.ask_menu.Goals as goal

pub call-requires-clause-own : goal.call-requires-clause-own
call-requires-clause-own c = subst IsOwn (sym c.in_ok-desc.ensures) menu_own
