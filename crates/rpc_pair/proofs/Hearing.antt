-- A query that a server hears as the talk does leaves it standing for the talk.
use Rattle.std.proofs.Common.{◌≡◌, refl, sym, ap, ◌∙◌, subst, ℕ, ◌+◌, ℤ, false, List, [], ◌∷◌, ◌++◌}
use Rattle.std.specs.Prelude.{Option, Result, Ok}
use Rattle.std.specs.Ordering.{int_eq}
use Rattle.rpc_msg.specs.declared.message.Message.{Message}
use Rattle.rpc_msg.specs.declared.message.Message.TheVariants as message
use Rattle.rpc_msg.specs.declared.message.Query.{Query}
use Rattle.rpc_msg.specs.declared.shared.CloseCause.{CloseCause}
use Rattle.rpc_end.specs.Ends.{EndState, heard, said}
use Rattle.rpc_meeting.specs.Talks.{Common, Talk, find_query, open_queries}
use Rattle.rpc_server.specs.Hearing.{heard_query}
use Rattle.rpc_server.specs.Servers.{ServerState, Does, after_heard, after_said, eof_to, query_heard, settled, told}
use Rattle.rpc_server.specs.Tables.{IsPut, open_count, standing, unfinished}
use Rattle.rpc_server.specs.declared.arrival.Arrival.{Arrival}
use Rattle.rpc_server.specs.declared.hearing.Heard.{Heard}
use Rattle.rpc_server.specs.declared.hearing.Heard.TheVariants as does
use Rattle.rpc_pair.specs.Rules.{rules_of}
use Rattle.rpc_pair.specs.Stands.{HearsAlong, ServerStands, all_said, standing_as}
use Rattle.rpc_pair.proofs.Tables.{stands_put}

-- ---- what goes out

-- what a server says to a query, by what it does with it
abbrev pub says_by : ℤ → Heard → List Message
says_by id does.Ignored = []
says_by id (does.Answered a) = a ∷ []
says_by id (does.Asked place v) = []
says_by id (does.Noted place v) = []
says_by id does.Stopped = eof_to id ∷ []
says_by id (does.Faulty why) = []

said_as : (e : EndState) (id : ℤ) (h : Heard) → after_said e id h ≡ all_said e (says_by id h)
said_as e id does.Ignored = refl
said_as e id (does.Answered a) = refl
said_as e id (does.Asked place v) = refl
said_as e id (does.Noted place v) = refl
said_as e id does.Stopped = refl
said_as e id (does.Faulty why) = refl

-- it is one whether a message counts as heard before or behind that
heard_said : (e : EndState) (now : ℕ) (log : List Message) → heard (all_said e log) now ≡ all_said (heard e now) log
heard_said e now [] = refl
heard_said e now (a ∷ log) = heard_said (said e a) now log

module _ (r : Common) (s : ServerState) (t : Talk) (stands : ServerStands r s t) where
  -- what a server does with a query, by the talk
  pub query_is : (q : Query) → query_heard s q ≡ heard_query (rules_of r) (standing_as r (find_query q.id t.queries)) (open_queries t.queries) q
  query_is q =
      ap (λ x. heard_query x (standing s.table q.id) (unfinished s.table) q) stands.rules
      ∙ (ap (λ x. heard_query (rules_of r) x (unfinished s.table) q) (stands.table q.id)
      ∙ ap (λ n. heard_query (rules_of r) (standing_as r (find_query q.id t.queries)) n q) stands.count)

  module _ (now : ℕ) (link : EndState) (q : Query) (result : Result (Option Arrival) CloseCause) (new : ServerState) (did : Does s now link (message.Query q) result new)
      (h : Heard) (is : query_heard s q ≡ h) (to : Talk) where
    -- A query that does to the server what the talk does: the id stands so, all others as before, and as many are open. The server goes along.
    pub hears_query : (arrival : Option Arrival) → told q.id h ≡ Ok arrival → after_heard (standing s.table q.id) h ≡ standing_as r (find_query q.id to.queries)
        → ((other : ℤ) → int_eq q.id other ≡ false → find_query other to.queries ≡ find_query other t.queries)
        → open_queries to.queries + open_count (standing s.table q.id) ≡ open_queries t.queries + open_count (after_heard (standing s.table q.id) h)
        → to.downs ≡ t.downs ++ says_by q.id h → HearsAlong r link now t to result new
    hears_query arrival tells own others count downs =
        let put : IsPut s.table q.id (after_heard (standing s.table q.id) h) new.table
        = subst (λ x. IsPut s.table q.id (after_heard (standing s.table q.id) x) new.table) is did.1.table in
        let result_is : result ≡ Ok arrival = did.0 ∙ (ap (told q.id) is ∙ tells) in
        let link_is : new.link ≡ all_said (heard link now) (says_by q.id h)
        = did.2 ∙ (ap (settled (after_said link q.id (query_heard s q)) now) result_is
        ∙ (ap (λ x. heard (after_said link q.id x) now) is
        ∙ (ap (λ l. heard l now) (said_as link q.id h) ∙ heard_said link now (says_by q.id h)))) in
        subst (λ x. HearsAlong r link now t to x new) (sym result_is) (record {
          stands = stands_put r s new t to q.id (after_heard (standing s.table q.id) h) stands did.1.rules put own others count;
          more = says_by q.id h;
          downs = downs;
          said = link_is;
        })
