-- What one more answer adds to the parts of a call.
use Rattle.std.specs.Prelude.{List, [], ◌∷◌, ◌++◌}
use Rattle.rpc_msg.specs.declared.message.Answer.{Answer}
use Rattle.rpc_msg.specs.declared.shared.Ending.TheVariants as ending
use Rattle.rpc_schema.specs.declared.desc.Kind.{Kind}
use Rattle.rpc_schema.specs.declared.desc.Kind.TheVariants.{Plain, OneWay, Pipe, State}
use Rattle.rpc_talk.specs.Said.{Said}
use Rattle.rpc_talk.specs.Parts.{CallParts, Ends, no_parts, later_parts, stream_parts, plain_parts}

-- parts, and what follows them
abbrev pub with_more : CallParts → CallParts → CallParts
with_more p q = record { parts = p.parts ++ q.parts; mark = q.mark }

-- of a stream, behind the answers before
abbrev pub stream_adds : List Answer → Said → CallParts
stream_adds [] said = stream_parts (said ∷ [])
stream_adds (b ∷ before) said = later_parts (said ∷ [])

-- of a call that goes on
abbrev pub adds : Kind → List Answer → Said → CallParts
adds Plain before said = plain_parts (said ∷ [])
adds OneWay before said = no_parts (Ends ending.Sent)
adds Pipe before said = stream_adds before said
adds State before said = stream_adds before said
