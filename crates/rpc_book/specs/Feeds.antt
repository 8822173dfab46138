-- What a feed does to a book, and what a book says by itself.
use Rattle.std.specs.Prelude.{◌≡◌, ℕ, ◌+◌, ◌≤◌, ◌<◌, ◌^◌, List, ◌++◌, length, take, Option, Some, None, Result, Ok, Err, ◌⊎◌, if◌then◌else◌}
use Rattle.std.specs.List.{flat_map}
use Rattle.readers.specs.Reader.{Each}
use Rattle.rpc_frame.specs.Frames.{frame}
use Rattle.rpc_msg.specs.declared.message.Message.{Message}
use Rattle.rpc_msg.specs.declared.message.Message.TheVariants as message
use Rattle.rpc_msg.specs.declared.shared.CloseCause.{CloseCause}
use Rattle.rpc_msg.specs.declared.shared.CloseCause.TheVariants as cause
use Rattle.rpc_msg.specs.declared.shared.FeedError.{FeedError}
use Rattle.rpc_msg.specs.declared.shared.FeedError.TheVariants as feed
use Rattle.rpc_talk.specs.Acts.{body_of}
use Rattle.rpc_talk.specs.Causes.{unwelcome}
use Rattle.rpc_talk.specs.Welcome.{is_welcome}
use Rattle.rpc_end.specs.Ends.{EndState, WouldTakeOf, heard, shut}
use Rattle.rpc_end.specs.Taking.{GivesMessage, IsClosedBy, IsPartTaken}
use Rattle.rpc_end.specs.declared.end.Got.{Got}
use Rattle.rpc_client.specs.Clients.{answering, closed_for, no_procedure}
use Rattle.rpc_book.specs.Books.{BookState, accepted_in, calls_of, fault_of, got_header, messages_of, with_connection}

-- the most bytes that a book keeps
abbrev pub journal_limit : ℕ
journal_limit = 2 ^ 30

-- the bytes follow those that came before
abbrev pub with_bytes : BookState → List ℕ → EndState → BookState
with_bytes b bytes e = record b { got = b.got ++ bytes; link = e }

-- a feed of the piece takes n bytes, for which there is room; or there is none for those that it would take
abbrev pub LeavesRoom : BookState → List ℕ → ℕ → Type 0
LeavesRoom b piece n = WouldTakeOf b.link piece None n × (length b.got + n ≤ journal_limit)

abbrev pub IsFull : BookState → List ℕ → Type 0
IsFull b piece = (n : ℕ) × WouldTakeOf b.link piece None n × (journal_limit < length b.got + n)

-- ---- a message

-- a query is told that there is no procedure of its name and version
abbrev pub own_answer : ℕ → Message → Option Message
own_answer m message.Heartbeat = None
own_answer m (message.Query q) = Some (no_procedure m q)
own_answer m (message.Response r) = None

-- why a message closes the book, if it does
abbrev pub closes_for : BookState → Message → Option CloseCause
closes_for b a =
    if is_welcome b.limits.max_message (calls_of b.made) (messages_of b) a then None else unwelcome b.limits.max_message (calls_of b.made) (messages_of b) a

abbrev pub end_heard : BookState → EndState → ℕ → Message → EndState
end_heard b e now a = closed_for (heard (answering e (own_answer b.limits.max_message a)) now) (closes_for b a)

-- ---- a feed

-- the first n bytes of a piece end a message, which was heard; `why` is why it closes the book
pub record HearsMessage (old : BookState) (piece : List ℕ) (now n : ℕ) (why : Option CloseCause) (new : BookState) : Type 0 where
  pub got : Got
  pub behind : EndState
  pub gives : GivesMessage old.link piece got behind
  pub count : n ≡ got.used
  pub closes : why ≡ closes_for old got.message
  pub new_is : new ≡ with_bytes old (take n piece) (end_heard old behind now got.message)

-- they are a part of a frame, or end the header
abbrev pub PassesPart : BookState → List ℕ → ℕ → ℕ → BookState → Type 0
PassesPart old piece now n new = IsPartTaken old.link piece now n new.link × (new ≡ with_bytes old (take n piece) new.link)

-- they make a length too long, or end a frame that is no header or no message
abbrev pub PassesFault : BookState → List ℕ → ℕ → CloseCause → BookState → Type 0
PassesFault old piece n why new = IsClosedBy old.link piece why new.link × (new ≡ with_bytes old (take n piece) new.link)

-- it is closed, and its cause is the first fault of the bytes; what was accepted, and whether there is a header, is as before them
pub record StopsLog (old : BookState) (why : CloseCause) (new : BookState) : Type 0 where
  pub closed : new.link.cause ≡ Some why
  pub fault : fault_of new ≡ Some why
  pub accepted : accepted_in new ≡ accepted_in old
  pub header : got_header new ≡ got_header old

-- n bytes were taken, and close the book
pub record ClosesAt (old : BookState) (piece : List ℕ) (now : ℕ) (why : CloseCause) (new : BookState) (n : ℕ) : Type 0 where
  pub room : LeavesRoom old piece n
  pub did : PassesFault old piece n why new ⊎ HearsMessage old piece now n (Some why) new
  pub stops : StopsLog old why new

-- n bytes were taken, of which none is at fault, and it is not closed
pub record TakesOn (old : BookState) (piece : List ℕ) (now n : ℕ) (new : BookState) : Type 0 where
  pub room : LeavesRoom old piece n
  pub did : PassesPart old piece now n new ⊎ HearsMessage old piece now n None new
  pub calm : new.link.cause ≡ None
  pub fault : fault_of new ≡ None

-- why a book closes: it was closed; or there is no room for what would be taken, and none is; or by what was taken
abbrev pub FeedCloses : BookState → List ℕ → ℕ → CloseCause → BookState → Type 0
FeedCloses old piece now why new =
    ((old.link.cause ≡ Some why) × (new ≡ old))
    ⊎ (((old.link.cause ≡ None) × IsFull old piece × (why ≡ cause.JournalFull (length old.got)) × (new ≡ with_connection old (shut old.link why)))
    ⊎ ((old.link.cause ≡ None) × ((n : ℕ) × ClosesAt old piece now why new n)))

abbrev pub IsBookFed : BookState → List ℕ → ℕ → Result ℕ FeedError → BookState → Type 0
IsBookFed old piece now (Ok n) new = (old.link.cause ≡ None) × TakesOn old piece now n new
IsBookFed old piece now (Err (feed.Closed why)) new = FeedCloses old piece now why new
IsBookFed old piece now (Err feed.OutOfMemory) new = (old.link.cause ≡ None) × (new ≡ old)

-- ---- what goes out by itself

abbrev pub AsksNothing : Message → Type 0
AsksNothing message.Heartbeat = Unit {0}
AsksNothing (message.Query q) = ⊥
AsksNothing (message.Response r) = Unit {0}

-- messages of which none is a query follow what is to go out
pub record SaysByItself (old new : EndState) : Type 0 where
  pub said : List Message
  pub calm : Each AsksNothing said
  pub output : new.output ≡ old.output ++ flat_map (λ a. frame (body_of a)) said
