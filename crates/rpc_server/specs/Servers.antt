-- What is seen of a server, and what it does with the bytes that come.
use Rattle.std.specs.Prelude.{◌≡◌, ℕ, ◌≤◌, ℤ, Bool, true, false, List, [], Option, Some, None, Result, Ok, Err, slice_get}
use Rattle.bp_grammar.specs.Written.{written}
use Rattle.rpc_msg.specs.Forms.{part_form}
use Rattle.rpc_msg.specs.Values.{eof_value}
use Rattle.rpc_msg.specs.declared.message.Answer.TheVariants as answer
use Rattle.rpc_msg.specs.declared.message.Message.{Message}
use Rattle.rpc_msg.specs.declared.message.Message.TheVariants as message
use Rattle.rpc_msg.specs.declared.message.Query.{Query}
use Rattle.rpc_msg.specs.declared.shared.CloseCause.{CloseCause}
use Rattle.rpc_msg.specs.declared.shared.CloseCause.TheVariants as cause
use Rattle.rpc_msg.specs.declared.shared.FeedError.{FeedError}
use Rattle.rpc_msg.specs.declared.shared.FeedError.TheVariants as feed
use Rattle.rpc_msg.specs.declared.shared.Limits.{Limits}
use Rattle.rpc_schema.specs.declared.desc.Entry.{Entry}
use Rattle.rpc_end.specs.Ends.{EndState, first_end, said, heard, closed_by}
use Rattle.rpc_end.specs.Taking.{IsNextOf}
use Rattle.rpc_end.specs.declared.end.Next.{Next}
use Rattle.rpc_end.specs.declared.end.Next.TheVariants as next
use Rattle.rpc_talk.specs.Acts.{response}
use Rattle.rpc_talk.specs.Parts.{is_stream, is_tracked}
use Rattle.rpc_server.specs.Hearing.{heard_query}
use Rattle.rpc_server.specs.Rules.{Rules, IsMenuData}
use Rattle.rpc_server.specs.Tables.{forgotten, standing, unfinished, IsPut}
use Rattle.rpc_server.specs.declared.arrival.Arrival.{Arrival}
use Rattle.rpc_server.specs.declared.arrival.Arrival.TheVariants as arrival
use Rattle.rpc_server.specs.declared.arrival.ServerFed.{ServerFed}
use Rattle.rpc_server.specs.declared.hearing.Heard.{Heard}
use Rattle.rpc_server.specs.declared.hearing.Heard.TheVariants as does
use Rattle.rpc_server.specs.declared.table.Standing.{Standing}
use Rattle.rpc_server.specs.declared.table.Standing.TheVariants.{Nowhere, Open, Stopped}
use Rattle.rpc_server.specs.declared.table.Tracked.{Tracked}

-- the queries that it keeps are seen by look-ups alone
pub record ServerState : Type 0 where
  pub rules : Rules
  pub table : List Tracked
  pub link : EndState

abbrev pub with_end : ServerState → EndState → ServerState
with_end s link = record s { link = link }

-- a new server: the menu is that of its schema
pub record IsNew (entries : List Entry) (limits : Limits) (now : ℕ) (s : ServerState) : Type 0 where
  pub limits_are : s.rules.limits ≡ limits
  pub entries_are : s.rules.entries ≡ entries
  pub menu_is : IsMenuData entries s.rules.menu
  pub table_is : s.table ≡ []
  pub link_is : s.link ≡ first_end limits now

-- ---- what every server keeps

-- the entry whose query is open has answers, and is a stream's where it has begun
pub record IsOpenTo (e : Entry) (begun : Bool) : Type 0 where
  pub tracked : is_tracked e.desc.kind ≡ true
  pub stream : begun ≡ true → is_stream e.desc.kind ≡ true

abbrev pub IsStanding : List Entry → Standing → Type 0
IsStanding entries Nowhere = Unit {0}
IsStanding entries (Open place begun) = (e : Entry) × (slice_get entries place ≡ Some e) × IsOpenTo e begun
IsStanding entries Stopped = Unit {0}

pub record IsServer (rules : Rules) (table : List Tracked) (link : EndState) : Type 0 where
  pub same_limit : link.max ≡ rules.limits.max_message
  pub few : unfinished table ≤ rules.limits.max_open
  pub stands : (id : ℤ) → IsStanding rules.entries (standing table id)

-- ---- what is done with a query

abbrev pub eof_to : ℤ → Message
eof_to id = response id (answer.Ok (written part_form eof_value))

-- what goes out
abbrev pub after_said : EndState → ℤ → Heard → EndState
after_said link id does.Ignored = link
after_said link id (does.Answered a) = said link a
after_said link id (does.Asked place v) = link
after_said link id (does.Noted place v) = link
after_said link id does.Stopped = said link (eof_to id)
after_said link id (does.Faulty why) = link

-- how the query of the id stands
abbrev pub after_heard : Standing → Heard → Standing
after_heard s does.Ignored = forgotten s
after_heard s (does.Answered a) = forgotten s
after_heard s (does.Asked place v) = Open place false
after_heard s (does.Noted place v) = forgotten s
after_heard s does.Stopped = Stopped
after_heard s (does.Faulty why) = s

-- what is told, or why the server closes
abbrev pub told : ℤ → Heard → Result (Option Arrival) CloseCause
told id does.Ignored = Ok None
told id (does.Answered a) = Ok None
told id (does.Asked place v) = Ok (Some (arrival.Asked id place v))
told id (does.Noted place v) = Ok (Some (arrival.Noted id place v))
told id does.Stopped = Ok (Some (arrival.Stopped id))
told id (does.Faulty why) = Err why

-- the id stands as it has to, and nothing else changed but the link
pub record IsHeard (old : ServerState) (id : ℤ) (h : Heard) (new : ServerState) : Type 0 where
  pub rules : new.rules ≡ old.rules
  pub table : IsPut old.table id (after_heard (standing old.table id) h) new.table

-- what the server does with a query as it stands
abbrev pub query_heard : ServerState → Query → Heard
query_heard s q = heard_query s.rules (standing s.table q.id) (unfinished s.table) q

-- ---- what is done with a message

-- it was heard, and may close the server
abbrev pub settled : EndState → ℕ → Result (Option Arrival) CloseCause → EndState
settled link now (Ok a) = heard link now
settled link now (Err why) = closed_by (heard link now) why

-- a message came, behind which the link is so
abbrev pub Does : ServerState → ℕ → EndState → Message → Result (Option Arrival) CloseCause → ServerState → Type 0
Does old now link message.Heartbeat result new = (result ≡ Ok None) × (new ≡ with_end old (settled link now result))
Does old now link (message.Response r) result new =
    (result ≡ Err (cause.UnknownId r.id)) × (new ≡ with_end old (settled link now result))
Does old now link (message.Query q) result new =
    (result ≡ told q.id (query_heard old q)) × IsHeard old q.id (query_heard old q) new
    × (new.link ≡ settled (after_said link q.id (query_heard old q)) now result)

-- so many bytes were taken up to the end of a message
abbrev pub Hears : ServerState → ℕ → ℕ → Message → EndState → Result ServerFed FeedError → ServerState → Type 0
Hears old now used a link (Ok fed) new = (fed.used ≡ used) × Does old now link a (Ok fed.arrival) new
Hears old now used a link (Err (feed.Closed why)) new = Does old now link a (Err why) new
Hears old now used a link (Err feed.OutOfMemory) new = new ≡ old

abbrev pub DoesAsTaken : ServerState → ℕ → Result Next FeedError → EndState → Result ServerFed FeedError → ServerState → Type 0
DoesAsTaken old now (Ok (next.Part used)) link result new = (result ≡ Ok (record { used = used; arrival = None })) × (new ≡ with_end old link)
DoesAsTaken old now (Ok (next.Message got)) link result new = Hears old now got.used got.message link result new
DoesAsTaken old now (Err why) link result new = (result ≡ Err why) × (new ≡ with_end old link)

-- what the link takes of a piece, and what the server does with it
abbrev pub IsServerFed : ServerState → List ℕ → ℕ → Result ServerFed FeedError → ServerState → Type 0
IsServerFed old piece now result new =
    (taken : Result Next FeedError) × (link : EndState) × IsNextOf old.link piece now taken link × DoesAsTaken old now taken link result new
