-- What is seen of both ends, by all bytes that the wires gave, honest or not.
use Rattle.std.specs.Prelude.{◌≡◌, ℕ, ◌+◌, ◌-◌, ◌<◌, ◌≤◌, ℤ, Bool, true, false, List, [], ◌∷◌, ◌++◌, length, Option, Some, None, ◌⊎◌}
use Rattle.std.specs.List.{count_by}
use Rattle.std.specs.Ordering.{int_eq}
use Rattle.readers.specs.Reader.{Each, IsByte}
use Rattle.rpc_msg.specs.declared.message.Message.{Message}
use Rattle.rpc_msg.specs.declared.message.Message.TheVariants as message
use Rattle.rpc_msg.specs.declared.shared.CloseCause.{CloseCause}
use Rattle.rpc_msg.specs.declared.shared.CloseCause.TheVariants as cause
use Rattle.rpc_msg.specs.declared.shared.Limits.{Limits}
use Rattle.rpc_msg.specs.declared.shared.Part.{Part}
use Rattle.rpc_schedule.specs.declared.event.Event.{Event}
use Rattle.rpc_schedule.specs.declared.event.Event.TheVariants as ev
use Rattle.rpc_log.specs.Logs.{log_of}
use Rattle.rpc_talk.specs.Causes.{cause_of}
use Rattle.rpc_talk.specs.Parts.{Held}
use Rattle.rpc_talk.specs.Welcome.{held}
use Rattle.rpc_end.specs.Ends.{is_closed}
use Rattle.rpc_book.specs.Books.{BookState, Booked, call_of, calls_of, held_in}
use Rattle.rpc_book.specs.Feeds.{journal_limit}
use Rattle.rpc_meeting.specs.Worlds.{header_size}
use Rattle.rpc_server.specs.Servers.{ServerState}
use Rattle.rpc_pair.specs.Pairs.{PairState}
use Rattle.rpc_pair.specs.Played.{Turn, all_down, all_down_put, all_up, all_up_put}
use Rattle.rpc_pair.specs.declared.moved.Moved.{Moved}

-- ---- the client

-- the fault that stands first in some bytes, by the dispatches of a book
abbrev pub fault_given : BookState → List ℕ → Option CloseCause
fault_given b given = cause_of b.limits.max_message (calls_of b.made) given

-- what they make of a dispatch
abbrev pub held_given : BookState → List ℕ → Booked → Held
held_given b given d = held b.limits.max_message (calls_of b.made) (log_of b.limits.max_message given) (call_of d) d.made.cut (is_closed b.link)

-- these parts are the first of those
abbrev pub AreFirstOf : List Part → List Part → Type 0
AreFirstOf some all = (later : List Part) × (all ≡ some ++ later)

-- a book that got these bytes took all that came, of which nothing is at fault
abbrev pub TookCalmly : BookState → List ℕ → Type 0
TookCalmly b given = (b.got ≡ given) × (fault_given b given ≡ None)

-- Why a book is closed, by all that came. What is at fault is so in all bytes; a journal is full only where more came than it may keep; and
-- some causes never close a book here.
abbrev pub CauseShows : BookState → List ℕ → Option CloseCause → Type 0
CauseShows b given None = TookCalmly b given
CauseShows b given (Some (cause.BadFrame at)) = fault_given b given ≡ Some (cause.BadFrame at)
CauseShows b given (Some (cause.BadHeader why)) = fault_given b given ≡ Some (cause.BadHeader why)
CauseShows b given (Some cause.NoCommonProtocol) = fault_given b given ≡ Some cause.NoCommonProtocol
CauseShows b given (Some (cause.BadMessage why)) = fault_given b given ≡ Some (cause.BadMessage why)
CauseShows b given (Some (cause.UnknownId id)) = fault_given b given ≡ Some (cause.UnknownId id)
CauseShows b given (Some (cause.BadStreamData id why)) = fault_given b given ≡ Some (cause.BadStreamData id why)
CauseShows b given (Some (cause.DuplicateQuery id)) = ⊥
CauseShows b given (Some (cause.TooManyOpen count)) = ⊥
CauseShows b given (Some (cause.Late last now)) = TookCalmly b given
CauseShows b given (Some cause.EndOfInput) = TookCalmly b given
CauseShows b given (Some cause.ClosedHere) = TookCalmly b given
CauseShows b given (Some cause.LinkFault) = ⊥
CauseShows b given (Some (cause.JournalFull got)) = (length b.got ≡ got) × (journal_limit < length given)
CauseShows b given (Some cause.OutOfMemory) = ⊥

abbrev pub is_journal_full : Option CloseCause → Bool
is_journal_full (Some (cause.JournalFull got)) = true
is_journal_full _ = false

-- What a book shows where all of these bytes came: it got the first of them. Each dispatch holds what they make of it, or where the journal was
-- full the first parts of that.
pub record BookShows (given : List ℕ) (b : BookState) : Type 0 where
  pub bytes : Each IsByte given
  pub left : List ℕ
  pub front : given ≡ b.got ++ left
  pub held : is_journal_full b.link.cause ≡ false → Each (λ d. held_in b d ≡ held_given b given d) b.made
  pub parts : Each (λ d. AreFirstOf (held_in b d).parts (held_given b given d).parts) b.made
  pub cause : CauseShows b given b.link.cause

-- ---- the server

abbrev pub is_asked : Message → Bool
is_asked message.Heartbeat = false
is_asked (message.Query q) = true
is_asked (message.Response r) = false

abbrev pub is_asked_as : ℤ → Message → Bool
is_asked_as id message.Heartbeat = false
is_asked_as id (message.Query q) = int_eq q.id id
is_asked_as id (message.Response r) = false

abbrev pub is_answered_as : ℤ → Message → Bool
is_answered_as id message.Heartbeat = false
is_answered_as id (message.Query q) = false
is_answered_as id (message.Response r) = int_eq r.id id

abbrev pub IsNoAnswer : Message → Type 0
IsNoAnswer message.Heartbeat = Unit {0}
IsNoAnswer (message.Query q) = Unit {0}
IsNoAnswer (message.Response r) = ⊥

-- the messages of some bytes, and the fault that stands first in them where nothing was asked, so that any answer is at fault
abbrev pub messages_given : ServerState → List ℕ → List Message
messages_given s given = log_of s.rules.limits.max_message given

abbrev pub unasked_fault : ServerState → List ℕ → Option CloseCause
unasked_fault s given = cause_of s.rules.limits.max_message [] given

-- nothing that came is at fault, and nothing was answered
abbrev pub CameCalmly : ServerState → List ℕ → Type 0
CameCalmly s given = (unasked_fault s given ≡ None) × Each IsNoAnswer (messages_given s given)

-- Why a server is closed, by all that came: a fault of its frames and readings; an answer; a query whose id has another; or more queries than
-- may be open. Some causes never close a server here.
abbrev pub ServerCauseShows : ServerState → List ℕ → Option CloseCause → Type 0
ServerCauseShows s given None = CameCalmly s given
ServerCauseShows s given (Some (cause.BadFrame at)) = unasked_fault s given ≡ Some (cause.BadFrame at)
ServerCauseShows s given (Some (cause.BadHeader why)) = unasked_fault s given ≡ Some (cause.BadHeader why)
ServerCauseShows s given (Some cause.NoCommonProtocol) = unasked_fault s given ≡ Some cause.NoCommonProtocol
ServerCauseShows s given (Some (cause.BadMessage why)) = unasked_fault s given ≡ Some (cause.BadMessage why)
ServerCauseShows s given (Some (cause.UnknownId id)) =
    (unasked_fault s given ≡ Some (cause.UnknownId id)) × (1 ≤ count_by (is_answered_as id) (messages_given s given))
ServerCauseShows s given (Some (cause.BadStreamData id why)) = ⊥
ServerCauseShows s given (Some (cause.DuplicateQuery id)) = 2 ≤ count_by (is_asked_as id) (messages_given s given)
ServerCauseShows s given (Some (cause.TooManyOpen count)) = (count ≡ s.rules.limits.max_open) × (count < count_by is_asked (messages_given s given))
ServerCauseShows s given (Some (cause.Late last now)) = CameCalmly s given
ServerCauseShows s given (Some cause.EndOfInput) = CameCalmly s given
ServerCauseShows s given (Some cause.ClosedHere) = CameCalmly s given
ServerCauseShows s given (Some cause.LinkFault) = ⊥
ServerCauseShows s given (Some (cause.JournalFull got)) = ⊥
ServerCauseShows s given (Some cause.OutOfMemory) = ⊥

-- what a server shows where all of these bytes came
pub record ServerShows (given : List ℕ) (s : ServerState) : Type 0 where
  pub bytes : Each IsByte given
  pub cause : ServerCauseShows s given s.link.cause

-- ---- events and moments

abbrev pub HasEvent : Event → List Turn → Type 0
HasEvent e [] = ⊥
HasEvent e (t ∷ turns) = (t.lined.event ≡ e) ⊎ HasEvent e turns

-- the start, or the moment of an event
abbrev pub IsMomentOf : (Event → Type 0) → ℕ → Type 0
IsMomentOf Happens n = (n ≡ 0) ⊎ Happens (ev.At n)

-- What happens closes an end: an event that says so, or that the other end was silent for too long between two moments. Other causes are told
-- by the bytes.
abbrev pub IsCausedBy : (Event → Type 0) → Event → Event → ℕ → Option CloseCause → Type 0
IsCausedBy Happens close eof timeout (Some (cause.Late last now)) =
    IsMomentOf Happens last × IsMomentOf Happens now × (timeout < now - last)
IsCausedBy Happens close eof timeout (Some cause.EndOfInput) = Happens eof
IsCausedBy Happens close eof timeout (Some cause.ClosedHere) = Happens close
IsCausedBy Happens close eof timeout _ = Unit {0}

-- what happened in a run closed its ends
pub record AreCausedBy (turns : List Turn) (limits : Limits) (p : PairState) : Type 0 where
  pub client : IsCausedBy (λ e. HasEvent e turns) ev.CloseClient ev.EofClient limits.beat_timeout p.book.link.cause
  pub server : IsCausedBy (λ e. HasEvent e turns) ev.CloseServer ev.EofServer limits.beat_timeout p.server.link.cause

-- ---- counts

-- so many bytes were put to each wire behind its header, and so many came from it
pub record CountsShow (turns : List Turn) (counts : Moved) : Type 0 where
  pub up : counts.up ≡ length (all_up turns)
  pub up_put : counts.up_put ≡ header_size + length (all_up_put turns)
  pub down : counts.down ≡ length (all_down turns)
  pub down_put : counts.down_put ≡ header_size + length (all_down_put turns)

-- ---- a run

-- what a pair of these limits shows behind turns that follow a start, whatever the wires gave in them
pub record RunShows (limits : Limits) (turns : List Turn) (p : PairState) : Type 0 where
  pub client : BookShows (all_down turns) p.book
  pub client_limits : p.book.limits ≡ limits
  pub server : ServerShows (all_up turns) p.server
  pub server_limits : p.server.rules.limits ≡ limits
  pub causes : AreCausedBy turns limits p
  pub counts : CountsShow turns p.moved
