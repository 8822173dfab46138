-- What the readers of headers and messages answer, as functions of bodies.
use Rattle.std.proofs.Common.{◌≡◌, ℕ, ℤ, pos, true, List}
use Rattle.std.specs.Prelude.{Result, Ok, Err}
use Rattle.std.specs.List.{list_any, Any}
use Rattle.std.specs.Ordering.{int_eq}
use Rattle.std.proofs.lemmas.Bool.Decides.{Decides-int_eq}
use Rattle.std.proofs.lemmas.List.Folds.{Any-from_list_any, list_any-from_Any}
use Rattle.readers.specs.Reader.{Each, IsByte}
use Rattle.rpc_msg.specs.declared.fault.MsgError.{MsgError}
use Rattle.rpc_msg.specs.declared.fault.MsgError.TheVariants as error
use Rattle.rpc_msg.specs.declared.message.Header.{Header}
use Rattle.rpc_msg.specs.declared.message.Message.{Message}
use Rattle.rpc_msg.specs.Bodies.{IsBodyRead}
use Rattle.rpc_msg.specs.Forms.{header_form, message_form}
use Rattle.rpc_msg.specs.Values.{header_value, message_value}
use Rattle.rpc_msg.proofs.Readable.{header_read, message_read}
use Rattle.rpc_log.specs.Readings.{fault_in, header_in, message_in}
use Rattle.rpc_log.proofs.Told.{no_header, no_message, spelled_header, spelled_message, told_fault}
use Rattle.rpc_end.specs.Told.{IsTold}

pub told_message : (m : ℕ) (body : List ℕ) → Each IsByte body → (result : Result Message MsgError) → IsBodyRead message_value m message_form body result
    → IsTold (message_in m body) (fault_in m message_form body) result
told_message m body vs (Ok a) spelled = spelled_message m body a spelled
told_message m body vs (Err (error.Fault why)) is = (no_message m body why vs is, told_fault m message_form message_read body why vs is)
told_message m body vs (Err error.OutOfMemory) free = tt

pub told_header : (m : ℕ) (body : List ℕ) → Each IsByte body → (result : Result Header MsgError) → IsBodyRead header_value m header_form body result
    → IsTold (header_in m body) (fault_in m header_form body) result
told_header m body vs (Ok header) spelled = spelled_header m body header spelled
told_header m body vs (Err (error.Fault why)) is = (no_header m body why vs is, told_fault m header_form header_read body why vs is)
told_header m body vs (Err error.OutOfMemory) free = tt

-- ---- versions

-- 1 is among some versions just where the test of it says so
pub one_there : (versions : List ℤ) → Any (λ v. v ≡ pos 1) versions → list_any (λ v. int_eq v (pos 1)) versions ≡ true
one_there versions any = list_any-from_Any (λ v. int_eq v (pos 1)) versions (any_more versions any)
  where
    any_more : (vs : List ℤ) → Any (λ v. v ≡ pos 1) vs → Any (λ v. int_eq v (pos 1) ≡ true) vs
    any_more vs (i, v, lt, here, is) = (i, v, lt, here, (Decides-int_eq v (pos 1)).1 is)

pub there_one : (versions : List ℤ) → list_any (λ v. int_eq v (pos 1)) versions ≡ true → Any (λ v. v ≡ pos 1) versions
there_one versions e =
    let (i, v, lt, here, is) = Any-from_list_any (λ v. int_eq v (pos 1)) versions e in
    (i, v, lt, here, (Decides-int_eq v (pos 1)).0 is)
