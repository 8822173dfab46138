-- How many nodes the values have that a client keeps of its calls.
use Rattle.std.specs.Prelude.{ℕ, ◌+◌, List, Option, Some, None}
use Rattle.std.specs.List.{sum_by}
use Rattle.bp_grammar.specs.Nodes.{sexp_node_count, node_count}
use Rattle.rpc_msg.specs.declared.message.RpcError.{RpcError}
use Rattle.rpc_msg.specs.declared.message.RpcError.TheVariants as error
use Rattle.rpc_msg.specs.declared.shared.Ending.{Ending}
use Rattle.rpc_msg.specs.declared.shared.Ending.TheVariants as ending
use Rattle.rpc_msg.specs.declared.shared.Part.{Part}
use Rattle.rpc_msg.specs.declared.shared.Part.TheVariants as part
use Rattle.rpc_client.specs.Rows.{Row}

-- the nodes of the S-expression that an error has
abbrev pub error_nodes : RpcError → ℕ
error_nodes (error.BinIo s) = sexp_node_count s
error_nodes error.ConnectionClosed = 0
error_nodes (error.WriteError s) = sexp_node_count s
error_nodes (error.Uncaught s) = sexp_node_count s
error_nodes (error.Unimplemented tag version) = 0
error_nodes (error.UnknownId id) = 0

abbrev pub stream_part_nodes : Part → ℕ
stream_part_nodes (part.First v) = node_count v
stream_part_nodes (part.Item v) = node_count v

abbrev pub ending_nodes : Ending → ℕ
ending_nodes (ending.Reply v) = node_count v
ending_nodes (ending.Failed e) = error_nodes e
ending_nodes (ending.BadReply why) = 0
ending_nodes (ending.Declined v) = node_count v
ending_nodes ending.Eof = 0
ending_nodes ending.Aborted = 0
ending_nodes ending.Sent = 0
ending_nodes ending.Closed = 0

-- of an ending, if there is one
abbrev pub nodes_at_end : Option Ending → ℕ
nodes_at_end None = 0
nodes_at_end (Some e) = ending_nodes e

-- of the parts of a call that were not taken, and of its ending
abbrev pub row_nodes : Row → ℕ
row_nodes row = sum_by stream_part_nodes row.waiting + nodes_at_end row.ending

-- of all calls
abbrev pub kept_count : List Row → ℕ
kept_count rows = sum_by row_nodes rows
