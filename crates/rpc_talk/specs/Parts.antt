-- What the answers to a call make of it: its parts, and how they leave it.
use Rattle.std.specs.Prelude.{ℕ, Bool, true, false, List, [], ◌∷◌, take, Option, Some, None}
use Rattle.rpc_msg.specs.declared.message.Answer.{Answer}
use Rattle.rpc_msg.specs.declared.shared.Part.{Part}
use Rattle.rpc_msg.specs.declared.shared.Part.TheVariants as part
use Rattle.rpc_msg.specs.declared.shared.Ending.{Ending}
use Rattle.rpc_msg.specs.declared.shared.Ending.TheVariants as ending
use Rattle.rpc_schema.specs.declared.desc.Kind.{Kind}
use Rattle.rpc_schema.specs.declared.desc.Kind.TheVariants.{Plain, OneWay, Pipe, State}
use Rattle.rpc_schema.specs.declared.desc.RpcDesc.{RpcDesc}
use Rattle.rpc_talk.specs.Said.{Said, Reply, Begun, Declined, Item, Eof, Unreadable, Failed, says_in}

-- a call goes on, it has its ending, or a stream's answer is not what it has to be
pub data Fate : Type 0 where
  Goes_on : Fate
  Ends : Ending → Fate
  Broken : Fate

pub record CallParts : Type 0 where
  pub parts : List Part
  pub mark : Fate

abbrev pub no_parts : Fate → CallParts
no_parts mark = record { parts = []; mark = mark }

abbrev pub after_part : Part → CallParts → CallParts
after_part p rest = record { parts = p ∷ rest.parts; mark = rest.mark }

-- a stream that has begun
abbrev pub later_parts : List Said → CallParts
later_parts [] = no_parts Goes_on
later_parts (Failed e ∷ _) = no_parts (Ends (ending.Failed e))
later_parts (Item v ∷ says) = after_part (part.Item v) (later_parts says)
later_parts (Eof ∷ _) = no_parts (Ends ending.Eof)
later_parts (Reply v ∷ _) = no_parts Broken
later_parts (Begun v ∷ _) = no_parts Broken
later_parts (Declined v ∷ _) = no_parts Broken
later_parts (Unreadable why ∷ _) = no_parts Broken

-- a stream from its first answer on
abbrev pub stream_parts : List Said → CallParts
stream_parts [] = no_parts Goes_on
stream_parts (Failed e ∷ _) = no_parts (Ends (ending.Failed e))
stream_parts (Begun v ∷ says) = after_part (part.First v) (later_parts says)
stream_parts (Declined v ∷ _) = no_parts (Ends (ending.Declined v))
stream_parts (Reply v ∷ _) = no_parts Broken
stream_parts (Item v ∷ _) = no_parts Broken
stream_parts (Eof ∷ _) = no_parts Broken
stream_parts (Unreadable why ∷ _) = no_parts Broken

-- the ending that the one answer of a plain procedure gives; only the first three are read of one
abbrev pub plain_ending : Said → Fate
plain_ending (Failed e) = Ends (ending.Failed e)
plain_ending (Reply v) = Ends (ending.Reply v)
plain_ending (Unreadable why) = Ends (ending.BadReply why)
plain_ending (Begun v) = Broken
plain_ending (Declined v) = Broken
plain_ending (Item v) = Broken
plain_ending Eof = Broken

abbrev pub plain_parts : List Said → CallParts
plain_parts [] = no_parts Goes_on
plain_parts (said ∷ _) = no_parts (plain_ending said)

abbrev pub kind_parts : Kind → List Said → CallParts
kind_parts Plain says = plain_parts says
kind_parts OneWay says = no_parts (Ends ending.Sent)
kind_parts Pipe says = stream_parts says
kind_parts State says = stream_parts says

-- the parts and the mark of a call, by the answers to it
abbrev pub parts_of : ℕ → RpcDesc → List Answer → CallParts
parts_of m d answers = kind_parts d.kind (says_in m d answers)

-- ---- marks and kinds

abbrev pub goes_on : Fate → Bool
goes_on Goes_on = true
goes_on (Ends e) = false
goes_on Broken = false

abbrev pub is_broken : Fate → Bool
is_broken Goes_on = false
is_broken (Ends e) = false
is_broken Broken = true

abbrev pub is_ended : Fate → Bool
is_ended Goes_on = false
is_ended (Ends e) = true
is_ended Broken = false

abbrev pub is_stream : Kind → Bool
is_stream Plain = false
is_stream OneWay = false
is_stream Pipe = true
is_stream State = true

abbrev pub takes_reply : Kind → Bool
takes_reply Plain = true
takes_reply OneWay = false
takes_reply Pipe = false
takes_reply State = false

-- an answer to a call of this kind is waited for
abbrev pub is_tracked : Kind → Bool
is_tracked Plain = true
is_tracked OneWay = false
is_tracked Pipe = true
is_tracked State = true

-- ---- what a call holds

pub record Held : Type 0 where
  pub parts : List Part
  pub ending : Option Ending

-- a call without an ending of its own ends when its connection is closed
abbrev pub unless_closed : Bool → Option Ending
unless_closed true = Some ending.Closed
unless_closed false = None

abbrev pub ending_of : Fate → Bool → Option Ending
ending_of (Ends e) closed = Some e
ending_of Goes_on closed = unless_closed closed
ending_of Broken closed = unless_closed closed

-- behind an abort no part counts, and the ending is that it was aborted
abbrev pub cut_parts : Option ℕ → List Part → List Part
cut_parts None ps = ps
cut_parts (Some c) ps = take c ps

abbrev pub cut_ending : Option ℕ → Fate → Bool → Option Ending
cut_ending None mark closed = ending_of mark closed
cut_ending (Some c) mark closed = Some ending.Aborted

-- by the parts of its answers, how many there were when it was aborted, and whether its connection is closed
abbrev pub held_by : CallParts → Option ℕ → Bool → Held
held_by p cut closed = record { parts = cut_parts cut p.parts; ending = cut_ending cut p.mark closed }
