use Rattle.bp_value.proofs.Forms.{form_of-Unit}
use Rattle.rpc_schema.proofs.GoodLines.{good_unit}
use Rattle.rpc_server.proofs.asking.asks_menu.Goals as goal

pub plain_asks-requires-clause-good : goal.plain_asks-requires-clause-good
plain_asks-requires-clause-good c = good_unit

pub returns : goal.returns
returns c = rw form_of-Unit at c.plain_asks.ensures
