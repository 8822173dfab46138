use Rattle.std.proofs.Common.{◌-◌, ◌≤◌, length, take}
use Rattle.bp_value.specs.Form.{form_of}
use Rattle.bp_codec.specs.Fed.{HasFed}
use Rattle.rpc_tool.specs.ValueCommands.{longest_shown}
use Rattle.rpc_tool.proofs.spelled.decoded.Given as goal

abbrev pub invariant-pieces : goal.invariant-pieces
invariant-pieces l = record {
  within : l.start ≤ length l.bytes;
  fed : HasFed longest_shown (form_of l.shape) (take l.start l.bytes) l.reader;
}

abbrev pub decreases-pieces : goal.decreases-pieces
decreases-pieces l = length l.bytes - l.start
