-- What a feed answers and leaves, by the steps that it takes.
use Rattle.std.proofs.Common.{◌≡◌, refl, sym, ap, ◌∙◌, subst, ℕ, ℤ, true, List}
use Rattle.std.specs.Prelude.{Option, Some, None, Result, Ok, Err}
use Rattle.rpc_end.specs.Ends.{EndState, heard, shut, shut_by, closed_by, holding}
use Rattle.rpc_end.specs.Taking.{IsNextOf, GivesMessage, CanPutBack, taken_back}
use Rattle.rpc_end.specs.declared.end.Got.{Got}
use Rattle.rpc_end.specs.declared.end.Next.{Next}
use Rattle.rpc_end.specs.declared.end.Next.TheVariants as next
use Rattle.rpc_msg.specs.declared.message.Message.{Message}
use Rattle.rpc_msg.specs.declared.message.Message.TheVariants as message
use Rattle.rpc_msg.specs.declared.message.Query.{Query}
use Rattle.rpc_msg.specs.declared.shared.CloseCause.{CloseCause}
use Rattle.rpc_msg.specs.declared.shared.FeedError.{FeedError}
use Rattle.rpc_msg.specs.declared.shared.FeedError.TheVariants as feed
use Rattle.rpc_server.specs.Doing.{Did, Deals, DoesAsHeard, IsFollowed}
use Rattle.rpc_server.specs.Rules.{Rules}
use Rattle.rpc_server.specs.Servers.{ServerState, with_end, query_heard, IsHeard, IsServer, after_said, after_heard, told, settled, Does, Hears, IsServerFed}
use Rattle.rpc_server.specs.Tables.{standing, unfinished, IsPut}
use Rattle.rpc_server.specs.declared.arrival.Arrival.{Arrival}
use Rattle.rpc_server.specs.declared.arrival.ServerFed.{ServerFed}
use Rattle.rpc_server.specs.declared.hearing.Heard.{Heard}
use Rattle.rpc_server.specs.declared.hearing.Heard.TheVariants as does
use Rattle.rpc_server.specs.declared.table.Tracked.{Tracked}
use Rattle.rpc_server.proofs.Serving.{server_heard, same_server, same_state}

-- ---- what is said changes the output alone

pub said_greeted : (link : EndState) (id : ℤ) (h : Heard) → (after_said link id h).greeted ≡ link.greeted
said_greeted link id does.Ignored = refl
said_greeted link id (does.Answered a) = refl
said_greeted link id (does.Asked place v) = refl
said_greeted link id (does.Noted place v) = refl
said_greeted link id does.Stopped = refl
said_greeted link id (does.Faulty why) = refl

said_cause : (link : EndState) (id : ℤ) (h : Heard) → (after_said link id h).cause ≡ link.cause
said_cause link id does.Ignored = refl
said_cause link id (does.Answered a) = refl
said_cause link id (does.Asked place v) = refl
said_cause link id (does.Noted place v) = refl
said_cause link id does.Stopped = refl
said_cause link id (does.Faulty why) = refl

pub did_greeted : (old new : ServerState) (a : Message) (r : Result (Option Arrival) CloseCause) → Did old a r new → new.link.greeted ≡ old.link.greeted
did_greeted old new message.Heartbeat r did = ap (λ (s : ServerState). s.link.greeted) did.1
did_greeted old new (message.Response a) r did = ap (λ (s : ServerState). s.link.greeted) did.1
did_greeted old new (message.Query q) r did =
    ap (λ (l : EndState). l.greeted) did.2 ∙ said_greeted old.link q.id (query_heard old q)

pub did_cause : (old new : ServerState) (a : Message) (r : Result (Option Arrival) CloseCause) → Did old a r new → new.link.cause ≡ old.link.cause
did_cause old new message.Heartbeat r did = ap (λ (s : ServerState). s.link.cause) did.1
did_cause old new (message.Response a) r did = ap (λ (s : ServerState). s.link.cause) did.1
did_cause old new (message.Query q) r did = ap (λ (l : EndState). l.cause) did.2 ∙ said_cause old.link q.id (query_heard old q)

-- ---- a query, with what the server is made of

done_by : (old : ServerState) (q : Query) (h : Heard) (r : Result (Option Arrival) CloseCause) (table : List Tracked) (link : EndState) → h ≡ query_heard old q
    → r ≡ told q.id h → IsFollowed old.table old.link q.id h table link → Did old (message.Query q) r (record { rules = old.rules; table = table; link = link })
done_by old q h r table link is tells done = (
  tells ∙ ap (told q.id) is,
  record { rules = refl; table = subst (λ x. IsPut old.table q.id (after_heard (standing old.table q.id) x) table) is done.put },
  done.link_is ∙ ap (after_said old.link q.id) is,
)

pub followed : (old : ServerState) (q : Query) (h : Heard) (result : Result (Option Arrival) FeedError) (table : List Tracked) (link : EndState)
    → h ≡ query_heard old q → DoesAsHeard old.table old.link q.id h result table link
    → Deals old (message.Query q) result (record { rules = old.rules; table = table; link = link })
followed old q h (Ok a) table link is (tells, done) = done_by old q h (Ok a) table link is (sym tells) done
followed old q h (Err (feed.Closed why)) table link is (tells, done) = done_by old q h (Err why) table link is (sym tells) done
followed old q h (Err feed.OutOfMemory) table link is (kept, left) = same_state old table link kept left

pub server_followed : (old : ServerState) (q : Query) (h : Heard) (result : Result (Option Arrival) FeedError) (table : List Tracked) (link : EndState)
    → IsServer old.rules old.table old.link → h ≡ query_heard old q → DoesAsHeard old.table old.link q.id h result table link → IsServer old.rules table link
server_followed old q h (Ok a) table link kept is (tells, done) =
    server_heard old.rules old.table table old.link link q.id q h kept is done.put done.link_is
server_followed old q h (Err (feed.Closed why)) table link kept is (tells, done) =
    server_heard old.rules old.table table old.link link q.id q h kept is done.put done.link_is
server_followed old q h (Err feed.OutOfMemory) table link kept is (same, left) = same_server old.rules kept same left

-- ---- the link counts the message as heard

pub settles : (old done : ServerState) (now : ℕ) (link : EndState) (a : Message) (r : Result (Option Arrival) CloseCause) → Did (with_end old link) a r done
    → Does old now link a r (with_end done (settled done.link now r))
settles old done now link message.Heartbeat r did =
    (did.0, ap (λ (s : ServerState). with_end s (settled s.link now r)) did.1)
settles old done now link (message.Response a) r did =
    (did.0, ap (λ (s : ServerState). with_end s (settled s.link now r)) did.1)
settles old done now link (message.Query q) r did =
    (did.0, record { rules = did.1.rules; table = did.1.table }, ap (λ l. settled l now r) did.2)

-- closing an end that is not closed
pub shut_open : (e : EndState) (now : ℕ) (why : CloseCause) → e.cause ≡ None → shut (heard e now) why ≡ closed_by (heard e now) why
shut_open e now why none = ap (shut_by (heard e now) why) none

-- ---- a feed

abbrev made : Rules → List Tracked → EndState → ServerState
made r table link = record { rules = r; table = table; link = link }

pub fed_part : (r : Rules) (table : List Tracked) (old link : EndState) (piece : List ℕ) (now : ℕ) (taken : Result Next FeedError) (n : Next) (used : ℕ)
    → taken ≡ Ok n → n ≡ next.Part used → IsNextOf old piece now taken link
    → IsServerFed (made r table old) piece now (Ok (record { used = used; arrival = None })) (made r table link)
fed_part r table old link piece now taken n used is part takes =
    (Ok (next.Part used), link, subst (λ t. IsNextOf old piece now t link) (is ∙ ap (λ m. Ok m) part) takes, (refl, refl))

pub fed_err : (r : Rules) (table : List Tracked) (old link : EndState) (piece : List ℕ) (now : ℕ) (taken : Result Next FeedError) (why : FeedError)
    → taken ≡ Err why → IsNextOf old piece now taken link → IsServerFed (made r table old) piece now (Err why) (made r table link)
fed_err r table old link piece now taken why is takes =
    (Err why, link, subst (λ t. IsNextOf old piece now t link) is takes, (refl, refl))

pub fed_message : (old new : ServerState) (link : EndState) (piece : List ℕ) (now : ℕ) (taken : Result Next FeedError) (n : Next) (got : Got)
    (result : Result ServerFed FeedError) → taken ≡ Ok n → n ≡ next.Message got → IsNextOf old.link piece now taken link
    → Hears old now got.used got.message link result new → IsServerFed old piece now result new
fed_message old new link piece now taken n got result is message takes hears =
    (Ok (next.Message got), link, subst (λ t. IsNextOf old.link piece now t link) (is ∙ ap (λ m. Ok m) message) takes, hears)

pub next_message : (old link : EndState) (piece : List ℕ) (now : ℕ) (taken : Result Next FeedError) (n : Next) (got : Got) → taken ≡ Ok n → n ≡ next.Message got
    → IsNextOf old piece now taken link → (old.cause ≡ None) × GivesMessage old piece got link
next_message old link piece now taken n got is message takes = subst (λ t. IsNextOf old piece now t link) (is ∙ ap (λ m. Ok m) message) takes

-- an end that gave a message has read a header, and is not closed
pub given_greeted : (old link : EndState) (piece : List ℕ) (got : Got) → GivesMessage old piece got link → link.greeted ≡ true
given_greeted old link piece got m = ap (λ (l : EndState). l.greeted) m.new_is ∙ m.greeted

pub given_open : (old link : EndState) (piece : List ℕ) (got : Got) → GivesMessage old piece got link → link.cause ≡ None
given_open old link piece got m = m.can_back.going

-- what was dealt with, where a message was given
dealt_ok : (mid done : ServerState) (a : Message) (result : Result (Option Arrival) FeedError) (arrival : Option Arrival) → result ≡ Ok arrival
    → Deals mid a result done → Did mid a (Ok arrival) done
dealt_ok mid done a result arrival is deals = subst (λ r. Deals mid a r done) is deals

dealt_err : (mid done : ServerState) (a : Message) (result : Result (Option Arrival) FeedError) (x : FeedError) (why : CloseCause) → result ≡ Err x
    → x ≡ feed.Closed why → Deals mid a result done → Did mid a (Err why) done
dealt_err mid done a result x why is closed deals = subst (λ r. Deals mid a r done) (is ∙ ap (λ y. Err y) closed) deals

dealt_none : (mid done : ServerState) (a : Message) (result : Result (Option Arrival) FeedError) (x : FeedError) → result ≡ Err x → x ≡ feed.OutOfMemory
    → Deals mid a result done → done ≡ mid
dealt_none mid done a result x is none deals = subst (λ r. Deals mid a r done) (is ∙ ap (λ y. Err y) none) deals

module _ (r r2 : Rules) (table table2 : List Tracked) (old link link2 : EndState) (piece : List ℕ) (now : ℕ) (taken : Result Next FeedError) (n : Next) (got : Got)
    (result : Result (Option Arrival) FeedError) (done : ServerState) (is : taken ≡ Ok n) (message : n ≡ next.Message got)
    (takes : IsNextOf old piece now taken link) (deals : Deals (made r table link) got.message result done) (same : made r2 table2 link2 ≡ done) where
  given : GivesMessage old piece got link
  given = (next_message old link piece now taken n got is message takes).1

  pub ready_ok : (arrival : Option Arrival) → result ≡ Ok arrival → link2.greeted ≡ true
  ready_ok arrival ok =
      ap (λ (s : ServerState). s.link.greeted) same
      ∙ (did_greeted (made r table link) done got.message (Ok arrival) (dealt_ok (made r table link) done got.message result arrival ok deals)
      ∙ given_greeted old link piece got given)

  pub ready_err : (x : FeedError) (why : CloseCause) → result ≡ Err x → x ≡ feed.Closed why → link2.greeted ≡ true
  ready_err x why err closed =
      ap (λ (s : ServerState). s.link.greeted) same
      ∙ (did_greeted (made r table link) done got.message (Err why) (dealt_err (made r table link) done got.message result x why err closed deals)
      ∙ given_greeted old link piece got given)

  pub fed_ok : (arrival : Option Arrival) (used : ℕ) (link3 : EndState) → result ≡ Ok arrival → used ≡ got.used → link3 ≡ heard link2 now
      → IsServerFed (made r table old) piece now (Ok (record { used = used; arrival = arrival })) (made r2 table2 link3)
  fed_ok arrival used link3 ok count after =
      let did = subst (Did (made r table link) got.message (Ok arrival)) (sym same) (dealt_ok (made r table link) done got.message result arrival ok deals) in
      fed_message (made r table old) (made r2 table2 link3) link piece now taken n got (Ok (record { used = used; arrival = arrival })) is message takes (
        count,
        subst (λ l. Does (made r table old) now link got.message (Ok arrival) (made r2 table2 l)) (sym after)
            (settles (made r table old) (made r2 table2 link2) now link got.message (Ok arrival) did),
      )

  pub fed_closed : (x : FeedError) (why : CloseCause) (link3 link4 : EndState) → result ≡ Err x → x ≡ feed.Closed why → link3 ≡ heard link2 now → link4 ≡ shut link3 why
      → IsServerFed (made r table old) piece now (Err (feed.Closed why)) (made r2 table2 link4)
  fed_closed x why link3 link4 err closed after shuts =
      let told = dealt_err (made r table link) done got.message result x why err closed deals in
      let did = subst (Did (made r table link) got.message (Err why)) (sym same) told in
      let none : link2.cause ≡ None = did_cause (made r table link) (made r2 table2 link2) got.message (Err why) did ∙ given_open old link piece got given in
      let ends : link4 ≡ closed_by (heard link2 now) why = shuts ∙ (ap (λ l. shut l why) after ∙ shut_open link2 now why none) in
      fed_message (made r table old) (made r2 table2 link4) link piece now taken n got (Err (feed.Closed why)) is message takes
      (subst (λ l. Does (made r table old) now link got.message (Err why) (made r2 table2 l)) (sym ends)
      (settles (made r table old) (made r2 table2 link2) now link got.message (Err why) did))

  -- want of memory leaves all as it was
  pub fed_none : (x : FeedError) (link3 : EndState) → result ≡ Err x → x ≡ feed.OutOfMemory → link3 ≡ taken_back link2 got
      → IsServerFed (made r table old) piece now (Err feed.OutOfMemory) (made r2 table2 link3)
  fed_none x link3 err none back =
      let stays : made r2 table2 link2 ≡ made r table link = same ∙ dealt_none (made r table link) done got.message result x err none deals in
      let was : link3 ≡ old = back ∙ (ap (λ (s : ServerState). taken_back s.link got) stays ∙ given.back) in
      fed_message (made r table old) (made r2 table2 link3) link piece now taken n got (Err feed.OutOfMemory) is message takes
      (ap (made r2 table2) was ∙ ap (λ (s : ServerState). made s.rules s.table old) stays)

  pub undo_ready : (x : FeedError) → result ≡ Err x → x ≡ feed.OutOfMemory → CanPutBack link2 got.body got.used
  undo_ready x err none =
      let stays : made r2 table2 link2 ≡ made r table link = same ∙ dealt_none (made r table link) done got.message result x err none deals in
      subst (λ l. CanPutBack l got.body got.used) (sym (ap (λ (s : ServerState). s.link) stays)) given.can_back
