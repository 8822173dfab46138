-- The texts of errors, faults and causes of closes. Every number is decimal.
use Rattle.std.specs.Prelude.{ℕ, ℤ, List, ◌++◌, codes}
use Rattle.std.specs.Fmt.{decimal}
use Rattle.bp_num.specs.declared.number.Why.{Why}
use Rattle.bp_num.specs.declared.number.Why.TheVariants as why
use Rattle.bp_value.specs.declared.value.Sexp.{Sexp}
use Rattle.bp_value.specs.declared.value.Value.TheVariants as val
use Rattle.bp_value.specs.Form.{sexp}
use Rattle.bp_text_grammar.specs.Printed.{decimal_text, quoted_text}
use Rattle.bp_text_grammar.specs.PrintedTexts.{value_text}
use Rattle.rpc_msg.specs.declared.fault.MsgFault.{MsgFault}
use Rattle.rpc_msg.specs.declared.fault.MsgFault.TheVariants as fault
use Rattle.rpc_msg.specs.declared.message.RpcError.{RpcError}
use Rattle.rpc_msg.specs.declared.message.RpcError.TheVariants as error
use Rattle.rpc_msg.specs.declared.shared.CloseCause.{CloseCause}
use Rattle.rpc_msg.specs.declared.shared.CloseCause.TheVariants as cause

-- ---- errors

abbrev pub told_text : Sexp → List ℕ
told_text s = value_text sexp (val.Sexp s)

-- the name and the version that no procedure has
abbrev pub unimplemented_text : List ℕ → ℤ → List ℕ
unimplemented_text tag version = codes "unimplemented " ++ (quoted_text tag ++ (codes " " ++ decimal_text version))

abbrev pub error_text : RpcError → List ℕ
error_text (error.BinIo s) = codes "bin_io " ++ told_text s
error_text error.ConnectionClosed = codes "connection_closed"
error_text (error.WriteError s) = codes "write_error " ++ told_text s
error_text (error.Uncaught s) = codes "uncaught " ++ told_text s
error_text (error.Unimplemented tag version) = unimplemented_text tag version
error_text (error.UnknownId id) = codes "unknown_id " ++ decimal_text id

-- ---- faults

abbrev pub why_word : Why → List ℕ
why_word why.Code = codes "code"
why_word why.Sign = codes "sign"
why_word why.Range = codes "range"
why_word why.Length = codes "length"
why_word why.Byte = codes "byte"
why_word why.Case = codes "case"
why_word why.Tag = codes "tag"

abbrev pub fault_text : MsgFault → List ℕ
fault_text (fault.Bad at w) = codes "refused at " ++ (decimal at ++ (codes ": " ++ why_word w))
fault_text (fault.Cut at) = codes "cut at " ++ decimal at
fault_text (fault.Trailing at) = codes "trailing at " ++ decimal at

-- ---- causes

abbrev pub stream_text : ℤ → MsgFault → List ℕ
stream_text id f = codes "stream " ++ (decimal_text id ++ (codes " " ++ fault_text f))

-- the moments when the other end was last heard, and when it was late
abbrev pub late_text : ℕ → ℕ → List ℕ
late_text last now = codes "late " ++ (decimal last ++ (codes " " ++ decimal now))

abbrev pub cause_text : CloseCause → List ℕ
cause_text (cause.BadFrame at) = codes "frame too long at " ++ decimal at
cause_text (cause.BadHeader f) = codes "header " ++ fault_text f
cause_text cause.NoCommonProtocol = codes "no common protocol"
cause_text (cause.BadMessage f) = codes "message " ++ fault_text f
cause_text (cause.UnknownId id) = codes "unknown id " ++ decimal_text id
cause_text (cause.BadStreamData id f) = stream_text id f
cause_text (cause.DuplicateQuery id) = codes "duplicate query " ++ decimal_text id
cause_text (cause.TooManyOpen count) = codes "too many open " ++ decimal count
cause_text (cause.Late last now) = late_text last now
cause_text cause.EndOfInput = codes "end of input"
cause_text cause.ClosedHere = codes "closed here"
cause_text cause.LinkFault = codes "link fault"
cause_text (cause.JournalFull got) = codes "journal full " ++ decimal got
cause_text cause.OutOfMemory = codes "out of memory"
