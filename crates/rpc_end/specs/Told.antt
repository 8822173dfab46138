-- What a reader answers, by what a body reads as and why it reads as nothing.
use Rattle.std.specs.Prelude.{◌≡◌, Option, Some, None, Result, Ok, Err}
use Rattle.rpc_msg.specs.declared.fault.MsgFault.{MsgFault}
use Rattle.rpc_msg.specs.declared.fault.MsgError.{MsgError}
use Rattle.rpc_msg.specs.declared.fault.MsgError.TheVariants as error

abbrev pub IsTold : {A : Type 0} → Option A → Option MsgFault → Result A MsgError → Type 0
IsTold told why (Ok a) = told ≡ Some a
IsTold told why (Err (error.Fault fault)) = (told ≡ None) × (why ≡ Some fault)
IsTold told why (Err error.OutOfMemory) = Unit {0}
