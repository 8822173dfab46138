-- What the bytes that a client got make of its calls.
use Rattle.std.specs.Prelude.{◌≡◌, ◌≢◌, ℕ, ◌+◌, ◌*◌, ◌<◌, ◌≤◌, ◌^◌, ℤ, pos, Bool, true, false, List, [], ◌∷◌, ◌++◌, length, map, take, drop, Option, Some, None, Result, Ok, Err, ◌⊎◌}
use Rattle.std.specs.List.{count_by}
use Rattle.readers.specs.Reader.{Each, IsByte}
use Rattle.std.specs.Option.{is_some, option_copied}
use Rattle.rpc_msg.specs.declared.message.Answer.{Answer}
use Rattle.rpc_msg.specs.declared.message.Message.{Message}
use Rattle.rpc_msg.specs.declared.shared.Ending.{Ending}
use Rattle.rpc_msg.specs.declared.shared.Part.{Part}
use Rattle.rpc_msg.specs.declared.shared.FeedError.{FeedError}
use Rattle.rpc_msg.specs.declared.shared.FeedError.TheVariants as feed
use Rattle.rpc_log.specs.Logs.{log_of, responses_of}
use Rattle.rpc_msg.specs.declared.shared.Received.{Received}
use Rattle.rpc_talk.specs.Causes.{cause_of}
use Rattle.rpc_talk.specs.Parts.{Fate, Goes_on, Ends, Broken, CallParts, cut_parts, cut_ending, is_tracked, parts_of, Held}
use Rattle.rpc_talk.specs.Welcome.{Call, accepted, held}
use Rattle.rpc_end.specs.Ends.{is_closed}
use Rattle.rpc_end.specs.Taken.{HasTaken}
use Rattle.rpc_client.specs.declared.entry.Phase.{Phase}
use Rattle.rpc_client.specs.declared.entry.Phase.TheVariants as phase
use Rattle.rpc_client.specs.declared.entry.Took.{Took}
use Rattle.rpc_client.specs.declared.entry.Took.TheVariants as took
use Rattle.rpc_client.specs.Rows.{Row, took_of, IsCallable}
use Rattle.rpc_client.specs.Tables.{find_row, is_answered, is_unanswered}
use Rattle.rpc_client.specs.Clients.{ClientState}

-- ---- one call

-- an ending that was handed out is gone
abbrev pub ending_kept : Bool → Option Ending → Option Ending
ending_kept true e = None
ending_kept false e = e

abbrev pub IsCutWithin : Option ℕ → List Part → Type 0
IsCutWithin None ps = Unit {0}
IsCutWithin (Some c) ps = c ≤ length ps

-- a row has what these parts make of the call, without what was taken
pub record Holds (p : CallParts) (closed : Bool) (row : Row) : Type 0 where
  pub waiting : row.waiting ≡ drop row.taken (cut_parts row.cut p.parts)
  pub taken : row.taken ≤ length (cut_parts row.cut p.parts)
  pub ending : row.ending ≡ ending_kept row.handed (cut_ending row.cut p.mark false)
  pub handed : row.handed ≡ true → is_some (cut_ending row.cut p.mark closed) ≡ true
  pub over : row.handed ≡ true → row.waiting ≡ []
  pub cut : IsCutWithin row.cut p.parts

-- how far its answers have come
abbrev pub IsAt : Phase → CallParts → Type 0
IsAt phase.First p = (p.mark ≡ Goes_on) × (p.parts ≡ [])
IsAt phase.Begun p = (p.mark ≡ Goes_on) × ((first : Part) × (rest : List Part) × (p.parts ≡ first ∷ rest))
IsAt phase.Done p = (e : Ending) × (p.mark ≡ Ends e)

abbrev pub IsPhase : Bool → Phase → CallParts → Type 0
IsPhase true phase p = IsAt phase p
IsPhase false phase p = Unit {0}

-- a row is what these answers make of the call
pub record IsKept (m : ℕ) (closed : Bool) (answers : List Answer) (row : Row) : Type 0 where
  pub holds : Holds (parts_of m row.desc answers) closed row
  pub phase : IsPhase (is_tracked row.desc.kind) row.phase (parts_of m row.desc answers)

-- ---- all calls

abbrev pub row_call : Row → Call
row_call row = record { id = row.id; desc = row.desc }

abbrev pub row_calls : List Row → List Call
row_calls rows = map row_call rows

-- a call that is answered has an even id, one that is not an odd one, of so many each
abbrev pub IsNumberedBy : Bool → ℕ → ℕ → ℤ → Type 0
IsNumberedBy true answered unanswered id = (k : ℕ) × (k < answered) × (id ≡ pos (2 * k))
IsNumberedBy false answered unanswered id = (k : ℕ) × (k < unanswered) × (id ≡ pos (2 * k + 1))

-- no two have the same id
abbrev pub HaveOwnIds : List Row → Type 0
HaveOwnIds [] = Unit {0}
HaveOwnIds (row ∷ rows) = Each (λ other. other.id ≢ row.id) rows × HaveOwnIds rows

-- the calls of a client: each has its number, an id of its own, and a procedure that can be called
pub record AreCalls (rows : List Row) : Type 0 where
  pub callable : Each (λ row. IsCallable row.desc) rows
  pub each : Each (λ row. IsNumberedBy (is_tracked row.desc.kind) (count_by is_answered rows) (count_by is_unanswered rows) row.id) rows
  pub apart : HaveOwnIds rows

-- the messages that a client accepts of the bytes that it got
abbrev pub accepted_of : ℕ → List Row → List ℕ → List Message
accepted_of m rows got = accepted m (row_calls rows) (log_of m got)

-- a client that is not closed accepted all that came, and has taken these bytes
pub record IsGoing (c : ClientState) (got : List ℕ) : Type 0 where
  pub bodies : List (List ℕ)
  pub log : List Message
  pub took : HasTaken c.link got bodies log
  pub all : accepted c.link.max (row_calls c.rows) log ≡ log

-- a client got these bytes: each call is what the accepted messages make of it
pub record HasGot (c : ClientState) (got : List ℕ) : Type 0 where
  pub max : c.link.max ≡ c.limits.max_message
  pub limit : c.link.max ≤ 2 ^ 30
  pub bytes : Each IsByte got
  pub kept : Each (λ row. IsKept c.link.max (is_closed c.link) (responses_of row.id (accepted_of c.link.max c.rows got)) row) c.rows
  pub calls : AreCalls c.rows
  pub going : c.link.cause ≡ None → IsGoing c got

-- ---- what calls do to a client that got some bytes

-- a call that takes none
abbrev pub KeepsGot : ClientState → ClientState → Type 0
KeepsGot old new = (got : List ℕ) → HasGot old got → HasGot new got

-- a feed: the bytes taken follow, and a cause that they give is the first fault of all
abbrev pub GotOn : ClientState → List ℕ → Result ℕ FeedError → ClientState → List ℕ → Type 0
GotOn old piece (Ok used) new got = HasGot new (got ++ take used piece) × (cause_of old.link.max (row_calls old.rows) (got ++ take used piece) ≡ None)
GotOn old piece (Err (feed.Closed why)) new got =
    ((old.link.cause ≡ Some why) × HasGot new got)
    ⊎ ((used : ℕ) × HasGot new (got ++ take used piece) × (cause_of old.link.max (row_calls old.rows) (got ++ take used piece) ≡ Some why))
GotOn old piece (Err feed.OutOfMemory) new got = HasGot new got

abbrev pub FeedsGot : ClientState → List ℕ → Result ℕ FeedError → ClientState → Type 0
FeedsGot old piece answer new = (got : List ℕ) → HasGot old got → GotOn old piece answer new got

-- ---- what a call holds, by the bytes that were got

abbrev pub held_of : ClientState → List ℕ → Row → Held
held_of c got row = held c.link.max (row_calls c.rows) (log_of c.link.max got) (row_call row) row.cut (is_closed c.link)

-- a take answers the part behind those that were taken, or else the ending
abbrev pub TookHeld : ClientState → List ℕ → Took → Option Row → Type 0
TookHeld c got answer None = answer ≡ took.Stranger
TookHeld c got answer (Some row) = answer ≡ took_of (drop row.taken (held_of c got row).parts) (held_of c got row).ending row.handed

abbrev pub TakesHeld : ClientState → ℤ → Took → Type 0
TakesHeld c id answer = (got : List ℕ) → HasGot c got → TookHeld c got answer (find_row id c.rows)

-- a call is shown what it holds, without the parts that were taken, unless its ending was
abbrev pub ShowsHeld : ClientState → List ℕ → Option Received → Option Row → Type 0
ShowsHeld c got shown None = shown ≡ None
ShowsHeld c got None (Some row) = row.handed ≡ true
ShowsHeld c got (Some shown) (Some row) =
    (row.handed ≡ false) × (shown.parts.now ≡ drop row.taken (held_of c got row).parts) × (option_copied shown.ending ≡ (held_of c got row).ending)

abbrev pub ReceivesHeld : ClientState → ℤ → Option Received → Type 0
ReceivesHeld c id shown = (got : List ℕ) → HasGot c got → ShowsHeld c got shown (find_row id c.rows)
