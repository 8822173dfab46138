-- What the code's answer to what data asks stands for.
use Rattle.std.specs.Prelude.{Bool, true, false, Option, Some, None}
use Rattle.rpc_msg.specs.declared.data.StreamQuery.{StreamQuery}
use Rattle.rpc_msg.specs.declared.data.StreamQuery.TheVariants as stream
use Rattle.rpc_server.specs.declared.asking.Asked.{Asked}
use Rattle.rpc_server.specs.declared.asking.Asked.TheVariants as asked
use Rattle.rpc_talk.specs.Asks.{Asks, Calls, Aborts, Unclear}

abbrev pub asks_of : Asked → Asks
asks_of (asked.Calls v) = Calls v
asks_of asked.Aborts = Aborts
asks_of asked.Unclear = Unclear

-- the data of a stream's query is an abort
abbrev pub is_end : Option StreamQuery → Bool
is_end None = false
is_end (Some (stream.Query text)) = false
is_end (Some stream.Abort) = true
