-- What a server does with a message. How a query stands is how the last query of its id did before it came.
use Rattle.std.specs.Prelude.{ℕ, ℤ, Bool, true, false, ◌&&◌, nat_le, List, slice_get, Option, Some, None, if◌then◌else◌}
use Rattle.std.specs.Str.{bytes_eq}
use Rattle.std.specs.Ordering.{int_eq}
use Rattle.bp_value.specs.declared.value.Value.{Value}
use Rattle.rpc_msg.specs.declared.message.Answer.{Answer}
use Rattle.rpc_msg.specs.declared.message.Answer.TheVariants as answer
use Rattle.rpc_msg.specs.declared.message.Message.{Message}
use Rattle.rpc_msg.specs.declared.message.Message.TheVariants as message
use Rattle.rpc_msg.specs.declared.message.Query.{Query}
use Rattle.rpc_msg.specs.declared.shared.CloseCause.{CloseCause}
use Rattle.rpc_msg.specs.declared.shared.CloseCause.TheVariants as cause
use Rattle.rpc_msg.specs.declared.shared.Limits.{Limits}
use Rattle.rpc_schema.specs.declared.desc.Entry.{Entry}
use Rattle.rpc_schema.specs.declared.desc.Kind.{Kind}
use Rattle.rpc_schema.specs.declared.desc.Kind.TheVariants.{Plain, OneWay, Pipe, State}
use Rattle.rpc_talk.specs.Acts.{Owner, Menu, Nobody, Line, owner, unimplemented, cannot_read, response, fitting}
use Rattle.rpc_talk.specs.Asks.{Asks, Calls, Aborts, Unclear, asks_in, is_abort, asks_menu}
use Rattle.rpc_talk.specs.Parts.{is_stream, is_tracked}
use Rattle.rpc_server.specs.declared.hearing.Heard.{Heard}
use Rattle.rpc_server.specs.declared.hearing.Heard.TheVariants as heard
use Rattle.rpc_server.specs.Rules.{Rules}
use Rattle.rpc_server.specs.declared.table.Standing.{Standing}
use Rattle.rpc_server.specs.declared.table.Standing.TheVariants.{Nowhere, Open, Stopped}

-- what it says by itself: an answer, or that it is too long
abbrev pub by_itself : Rules → ℤ → Answer → Heard
by_itself r id a = heard.Answered (response id (fitting r.limits.max_message id a))

-- ---- a query whose id is open

-- the same name and version
abbrev pub is_named_by : Query → Entry → Bool
is_named_by q e = bytes_eq e.desc.name q.tag && int_eq e.desc.version q.version

abbrev pub aborts : ℕ → Query → Entry → Bool
aborts m q e = is_stream e.desc.kind && is_named_by q e && is_abort (asks_in m e.desc q.body)

abbrev pub aborts_some : ℕ → Query → Option Entry → Bool
aborts_some m q None = false
aborts_some m q (Some e) = aborts m q e

-- an abort stops a stream that has begun; nothing else may have the id
abbrev pub heard_open : Bool → Bool → ℤ → Heard
heard_open true begun id = if begun then heard.Stopped else heard.Ignored
heard_open false begun id = heard.Faulty (cause.DuplicateQuery id)

-- ---- a query that is new

abbrev pub heard_menu : Rules → ℤ → Asks → Heard
heard_menu r id (Calls v) = by_itself r id (answer.Ok r.menu)
heard_menu r id Aborts = by_itself r id cannot_read
heard_menu r id Unclear = by_itself r id cannot_read

-- one more query is to be answered, where so many are open
abbrev pub heard_call : Rules → ℕ → ℕ → Value → Heard
heard_call r count place v =
    if nat_le r.limits.max_open count then heard.Faulty (cause.TooManyOpen r.limits.max_open) else heard.Asked place v

-- a query to the entry at the place
abbrev pub heard_asks : Bool → Rules → ℕ → ℤ → ℕ → Asks → Heard
heard_asks tracked r count id place Aborts = heard.Ignored
heard_asks true r count id place (Calls v) = heard_call r count place v
heard_asks false r count id place (Calls v) = heard.Noted place v
heard_asks true r count id place Unclear = by_itself r id cannot_read
heard_asks false r count id place Unclear = heard.Ignored

abbrev pub heard_some : Rules → ℕ → Query → ℕ → Option Entry → Heard
heard_some r count q place None = by_itself r q.id (unimplemented q.tag q.version)
heard_some r count q place (Some e) = heard_asks (is_tracked e.desc.kind) r count q.id place (asks_in r.limits.max_message e.desc q.body)

abbrev pub heard_by : Rules → ℕ → Query → Owner → Heard
heard_by r count q Menu = heard_menu r q.id (asks_menu r.limits.max_message q.body)
heard_by r count q Nobody = by_itself r q.id (unimplemented q.tag q.version)
heard_by r count q (Line place) = heard_some r count q place (slice_get r.entries place)

abbrev pub heard_new : Rules → ℕ → Query → Heard
heard_new r count q = heard_by r count q (owner r.entries q.tag q.version)

-- ---- any message

abbrev pub heard_query : Rules → Standing → ℕ → Query → Heard
heard_query r (Open place begun) count q = heard_open (aborts_some r.limits.max_message q (slice_get r.entries place)) begun q.id
heard_query r Nowhere count q = heard_new r count q
heard_query r Stopped count q = heard_new r count q
