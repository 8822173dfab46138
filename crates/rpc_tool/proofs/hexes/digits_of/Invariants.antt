-- What was taken are the digits of the front of the text.
use Rattle.std.proofs.Common.{take}
use Rattle.rpc_tool.proofs.HexDigits.{Taken}
use Rattle.rpc_tool.proofs.hexes.digits_of.Given as goal

abbrev pub invariant-bytes : goal.invariant-bytes
invariant-bytes l = Taken l.digits.items (take l.at l.text)
