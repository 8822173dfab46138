-- What is done to the queries that are kept, and to the link.
use Rattle.std.specs.Prelude.{◌≡◌, ℕ, ℤ, true, false, List, Option, Some, None, Result, Ok, Err, slice_get}
use Rattle.rpc_end.specs.Ends.{EndState, said}
use Rattle.rpc_msg.specs.declared.message.Answer.{Answer}
use Rattle.rpc_msg.specs.declared.shared.FeedError.{FeedError}
use Rattle.rpc_msg.specs.declared.shared.FeedError.TheVariants as feed
use Rattle.rpc_talk.specs.Acts.{response, is_short}
use Rattle.rpc_msg.specs.declared.message.Message.{Message}
use Rattle.rpc_msg.specs.declared.message.Message.TheVariants as message
use Rattle.rpc_msg.specs.declared.shared.CloseCause.{CloseCause}
use Rattle.rpc_msg.specs.declared.shared.CloseCause.TheVariants as cause
use Rattle.rpc_schema.specs.declared.desc.Entry.{Entry}
use Rattle.rpc_talk.specs.Acts.{Act}
use Rattle.rpc_server.specs.Acting.{act_refusal, place_at, RespondsTo}
use Rattle.rpc_server.specs.Servers.{ServerState, IsHeard, query_heard, after_said, after_heard, told}
use Rattle.rpc_server.specs.Tables.{standing, IsPut}
use Rattle.rpc_server.specs.declared.arrival.Arrival.{Arrival}
use Rattle.rpc_server.specs.declared.error.ActError.{ActError}
use Rattle.rpc_server.specs.declared.error.ActError.TheVariants as refused
use Rattle.rpc_server.specs.declared.hearing.Heard.{Heard}
use Rattle.rpc_server.specs.declared.table.Standing.{Standing}
use Rattle.rpc_server.specs.declared.table.Tracked.{Tracked}

-- what was to be done with a query was done
pub record IsFollowed (table : List Tracked) (link : EndState) (id : ℤ) (h : Heard) (table' : List Tracked) (link' : EndState) : Type 0 where
  pub put : IsPut table id (after_heard (standing table id) h) table'
  pub link_is : link' ≡ after_said link id h

abbrev pub DoesAsHeard : List Tracked → EndState → ℤ → Heard → Result (Option Arrival) FeedError → List Tracked → EndState → Type 0
DoesAsHeard table link id h (Ok a) table' link' = (told id h ≡ Ok a) × IsFollowed table link id h table' link'
DoesAsHeard table link id h (Err (feed.Closed why)) table' link' = (told id h ≡ Err why) × IsFollowed table link id h table' link'
DoesAsHeard table link id h (Err feed.OutOfMemory) table' link' = (table' ≡ table) × (link' ≡ link)

-- an answer goes out, or it is too long
abbrev pub Sends : ℕ → List Tracked → EndState → ℤ → Answer → Standing → Result (Unit {0}) ActError → List Tracked → EndState → Type 0
Sends m table link id a s (Ok u) table' link' = (is_short m (response id a) ≡ true) × IsPut table id s table' × (link' ≡ said link (response id a))
Sends m table link id a s (Err (refused.TooLong max)) table' link' =
    (is_short m (response id a) ≡ false) × (max ≡ m) × (table' ≡ table) × (link' ≡ link)
Sends m table link id a s (Err refused.OutOfMemory) table' link' = (table' ≡ table) × (link' ≡ link)
Sends m table link id a s (Err refused.Closed) table' link' = ⊥
Sends m table link id a s (Err refused.NoSuch) table' link' = ⊥
Sends m table link id a s (Err refused.Stopped) table' link' = ⊥
Sends m table link id a s (Err refused.WrongKind) table' link' = ⊥
Sends m table link id a s (Err refused.AlreadyBegun) table' link' = ⊥
Sends m table link id a s (Err refused.NotBegun) table' link' = ⊥
Sends m table link id a s (Err refused.BadValue) table' link' = ⊥

-- ---- a message, before the link counts it as heard

abbrev pub Did : ServerState → Message → Result (Option Arrival) CloseCause → ServerState → Type 0
Did old message.Heartbeat r new = (r ≡ Ok None) × (new ≡ old)
Did old (message.Response a) r new = (r ≡ Err (cause.UnknownId a.id)) × (new ≡ old)
Did old (message.Query q) r new =
    (r ≡ told q.id (query_heard old q)) × IsHeard old q.id (query_heard old q) new × (new.link ≡ after_said old.link q.id (query_heard old q))

abbrev pub Deals : ServerState → Message → Result (Option Arrival) FeedError → ServerState → Type 0
Deals old a (Ok arrival) new = Did old a (Ok arrival) new
Deals old a (Err (feed.Closed why)) new = Did old a (Err why) new
Deals old a (Err feed.OutOfMemory) new = new ≡ old

-- ---- an act on a query to the entry at the place

pub record IsPlaceOf (s : ServerState) (id : ℤ) (place : ℕ) (what : Act) : Type 0 where
  pub at : place_at s id ≡ Some place
  pub free : act_refusal s id what ≡ None

abbrev pub AnswersAt : ServerState → ℕ → ℤ → Act → Result (Unit {0}) ActError → ServerState → Type 0
AnswersAt old place id what result new = (e : Entry) → slice_get old.rules.entries place ≡ Some e → RespondsTo old place e.desc id what result new

-- where an act may be done, or why not
abbrev pub Admits : ServerState → ℤ → Act → Result ℕ ActError → Type 0
Admits s id what (Ok place) = IsPlaceOf s id place what
Admits s id what (Err why) = act_refusal s id what ≡ Some why
