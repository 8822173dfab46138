-- Which messages have spellings, however long their texts and lists are: their numbers have 63 bits, and their S-expressions are not too deep.
use Rattle.std.specs.Prelude.{ℕ}
use Rattle.bp_value.specs.declared.value.Sexp.{Sexp}
use Rattle.bp_value.specs.Limits.{deepest_sexp}
use Rattle.bp_value.specs.Fits.{InRange, FitsSexp}
use Rattle.rpc_msg.specs.declared.message.Answer.{Answer}
use Rattle.rpc_msg.specs.declared.message.Answer.TheVariants as answer
use Rattle.rpc_msg.specs.declared.message.RpcError.{RpcError}
use Rattle.rpc_msg.specs.declared.message.RpcError.TheVariants as error
use Rattle.rpc_msg.specs.declared.message.Message.{Message}
use Rattle.rpc_msg.specs.declared.message.Message.TheVariants as message

-- of at most the depth that is read
abbrev pub IsShallow : Sexp → Type 0
IsShallow s = (k : ℕ) × FitsSexp k deepest_sexp s

abbrev pub IsSpellableError : RpcError → Type 0
IsSpellableError (error.BinIo s) = IsShallow s
IsSpellableError error.ConnectionClosed = Unit {0}
IsSpellableError (error.WriteError s) = IsShallow s
IsSpellableError (error.Uncaught s) = IsShallow s
IsSpellableError (error.Unimplemented tag version) = InRange 62 version
IsSpellableError (error.UnknownId id) = InRange 62 id

abbrev pub IsSpellableAnswer : Answer → Type 0
IsSpellableAnswer (answer.Ok body) = Unit {0}
IsSpellableAnswer (answer.Error e) = IsSpellableError e

abbrev pub IsSpellable : Message → Type 0
IsSpellable message.Heartbeat = Unit {0}
IsSpellable (message.Query q) = InRange 62 q.version × InRange 62 q.id
IsSpellable (message.Response r) = InRange 62 r.id × IsSpellableAnswer r.result
