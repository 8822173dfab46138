-- What the reading of a whole body says of it.
use Rattle.std.specs.Prelude.{◌≡◌, ℕ, ℤ, ◌+◌, ◌<◌, List, ◌++◌, length, Result, Ok, Err, ◌⊎◌}
use Rattle.readers.specs.Reader.{Stands, IsProperFront, IsFaultAt}
use Rattle.bp_value.specs.declared.value.Value.{Value}
use Rattle.bp_value.specs.Form.{Form}
use Rattle.bp_grammar.specs.Spells.{Spells}
use Rattle.bp_grammar.specs.Reasons.{FaultWhy}
use Rattle.rpc_msg.specs.declared.fault.MsgFault.{MsgFault}
use Rattle.rpc_msg.specs.declared.fault.MsgFault.TheVariants as fault
use Rattle.rpc_msg.specs.declared.fault.MsgError.{MsgError}
use Rattle.rpc_msg.specs.declared.fault.MsgError.TheVariants as error
use Rattle.rpc_msg.specs.declared.data.StreamPart.{StreamPart}
use Rattle.rpc_msg.specs.declared.data.StreamPart.TheVariants as stream
use Rattle.rpc_msg.specs.declared.data.First.{First}
use Rattle.rpc_msg.specs.Forms.{first_form, part_form}
use Rattle.rpc_msg.specs.Values.{first_value, item_value, eof_value}

-- the body is no spelling of a form within the limit m: a byte is at fault, or it ends too early, or too late
abbrev pub IsMsgFault : ℕ → Form → List ℕ → MsgFault → Type 0
IsMsgFault m f body (fault.Bad at why) = IsFaultAt (Spells m f) (FaultWhy m f) body at why
IsMsgFault m f body (fault.Cut at) = (at ≡ length body) × IsProperFront (Spells m f) body
IsMsgFault m f body (fault.Trailing at) = ((v : Value) × Stands (Spells m f) body v at) × (at < length body)

-- what is read of a body: something that L has for it, or the fault that F has
abbrev pub IsBody : {A : Type 0} → (A → List ℕ → Type 0) → (List ℕ → MsgFault → Type 0) → List ℕ → Result A MsgError → Type 0
IsBody L F body (Ok a) = L a body
IsBody L F body (Err (error.Fault why)) = F body why
IsBody L F body (Err error.OutOfMemory) = Unit {0}

-- what is read of the spelling of a value of a form; g says which value it is
abbrev pub IsBodyRead : {A : Type 0} → (A → Value) → ℕ → Form → List ℕ → Result A MsgError → Type 0
IsBodyRead g m f body result = IsBody (λ a. Spells m f (g a)) (IsMsgFault m f) body result

-- ---- the data of streams

-- a first answer, whatever the number that is not used
abbrev pub IsFirst : ℕ → Form → Form → First → List ℕ → Type 0
IsFirst m begun declined first body = (unused : ℤ) × Spells m (first_form begun declined) (first_value unused first) body

-- the end of a stream, or an item: its spelling is the text of the part
abbrev pub IsStreamPart : ℕ → Form → StreamPart → List ℕ → Type 0
IsStreamPart m item (stream.Item v) body = (text : List ℕ) × Spells m part_form (item_value text) body × Spells m item v text
IsStreamPart m item stream.Eof body = Spells m part_form eof_value body

-- n bytes stand before
abbrev pub behind : ℕ → MsgFault → MsgFault
behind n (fault.Bad at why) = fault.Bad (n + at) why
behind n (fault.Cut at) = fault.Cut (n + at)
behind n (fault.Trailing at) = fault.Trailing (n + at)

abbrev pub place_of_fault : MsgFault → ℕ
place_of_fault (fault.Bad at why) = at
place_of_fault (fault.Cut at) = at
place_of_fault (fault.Trailing at) = at

-- the part is at fault or, where it is an item, the text that spells it, which ends the body
abbrev pub IsPartFault : ℕ → Form → List ℕ → MsgFault → Type 0
IsPartFault m item body why =
    IsMsgFault m part_form body why
    ⊎ ((front : List ℕ) × (text : List ℕ) × (inner : MsgFault) × (body ≡ front ++ text) × Spells m part_form (item_value text) body
    × IsMsgFault m item text inner × (why ≡ behind (length front) inner))
