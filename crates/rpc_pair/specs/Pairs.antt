-- What is seen of a pair of ends, and what an event does to it, whatever the wires give.
use Rattle.std.specs.Prelude.{◌≡◌, ℕ, ℤ, ◌+◌, ◌-◌, ◌≤◌, max, Bool, false, List, [], length, map, Option, Some, None, MatchOption, option_copied}
use Rattle.std.specs.Borrow.{Bor}
use Rattle.std.specs.List.{find}
use Rattle.std.specs.Str.{bytes_eq}
use Rattle.rpc_msg.specs.declared.shared.Limits.{Limits}
use Rattle.rpc_msg.specs.declared.shared.Received.{Received}
use Rattle.rpc_schedule.specs.declared.event.Event.{Event}
use Rattle.rpc_schedule.specs.declared.event.Event.TheVariants as ev
use Rattle.rpc_end.specs.Ends.{after_tick, is_closed, shut, taken_out}
use Rattle.rpc_meeting.specs.Deeds.{Deed, Refuse, Call, Abort, Tell, MoveUp, MoveDown, Tick, CloseClient, CloseServer, Reveal, AsksEntry, IsDeedOf}
use Rattle.rpc_meeting.specs.Talks.{line_named}
use Rattle.rpc_meeting.specs.declared.answer.StepAnswer.{StepAnswer}
use Rattle.rpc_meeting.specs.declared.answer.StepAnswer.TheVariants.{Done, Shown, Refused}
use Rattle.rpc_meeting.specs.Steps.{moved_bytes}
use Rattle.rpc_server.specs.Acting.{IsActed}
use Rattle.rpc_server.specs.Servers.{IsNew, ServerState, with_end}
use Rattle.rpc_schema.specs.declared.desc.Entry.{Entry}
use Rattle.rpc_book.specs.Books.{BookState, Booked, first_book, held_in, with_connection}
use Rattle.rpc_book.specs.Calls.{IsAbortedAt, IsBooked}
use Rattle.rpc_pair.specs.declared.moved.Moved.{Moved}
use Rattle.rpc_pair.specs.Callers.{aborted_as, dispatched_as}
use Rattle.rpc_pair.specs.Feeds.{BookCloses, BookTakes, ServerCloses, ServerTakes}
use Rattle.rpc_pair.specs.Kept.{most_piece}
use Rattle.rpc_pair.specs.Links.{cause_as}
use Rattle.rpc_book.specs.declared.made.Made.{Made}
use Rattle.rpc_pair.specs.Made.{dispatches_of, has_label}
use Rattle.rpc_pair.specs.Moving.{IsMoved, TakesPiece}
use Rattle.rpc_pair.specs.Standing.{booked_menu}
use Rattle.rpc_pair.specs.Stands.{answer_as}

-- both ends, the moment, and how many bytes were put to each wire and moved from it
pub record PairState : Type 0 where
  pub book : BookState
  pub server : ServerState
  pub now : ℕ
  pub moved : Moved

-- ---- what an event comes to

-- by the lines of the schema, the dispatches made and the last menu received
abbrev pub IsDeedAt : PairState → Event → Deed → Type 0
IsDeedAt p e deed = IsDeedOf p.book.limits.max_message p.server.rules.entries (dispatches_of p.book) (booked_menu p.book) e deed

-- ---- what both ends do

-- what a wire gave in one step, and whether a piece of it came short
pub record Came : Type 0 where
  pub bytes : List ℕ
  pub short : Bool

abbrev pub nothing : Came
nothing = record { bytes = []; short = false }

abbrev pub is_book_closed : BookState → Bool
is_book_closed b = is_closed b.link

abbrev pub is_server_closed : ServerState → Bool
is_server_closed s = is_closed s.link

-- how many bytes were put to a wire and not moved from it
abbrev pub up_flight : PairState → ℕ
up_flight p = p.moved.up_put - p.moved.up

abbrev pub down_flight : PairState → ℕ
down_flight p = p.moved.down_put - p.moved.down

abbrev pub with_book : PairState → BookState → PairState
with_book p b = record { book = b; server = p.server; now = p.now; moved = p.moved }

abbrev pub with_server : PairState → ServerState → PairState
with_server p s = record { book = p.book; server = s; now = p.now; moved = p.moved }

-- so many bytes moved to an end, which is so behind them
abbrev pub moved_up : PairState → ServerState → ℕ → PairState
moved_up p s n = record { book = p.book; server = s; now = p.now; moved = record p.moved { up = p.moved.up + n } }

abbrev pub moved_down : PairState → BookState → ℕ → PairState
moved_down p b n = record { book = b; server = p.server; now = p.now; moved = record p.moved { down = p.moved.down + n } }

-- both ends look at a moment
abbrev pub ticked : PairState → ℕ → PairState
ticked p now = record {
  book = with_connection p.book (after_tick p.book.link now);
  server = with_end p.server (after_tick p.server.link now);
  now = now;
  moved = p.moved;
}

-- a call of an end answers so
pub record Answers {E S : Type 0} (Calls : E → S → Type 0) (told : E → Option StepAnswer) (answer : StepAnswer) (new : S) : Type 0 where
  pub result : E
  pub calls : Calls result new
  pub tells : told result ≡ Some answer

-- what a deed does by which nothing moves
abbrev pub Does : Deed → PairState → StepAnswer → PairState → Type 0
Does (Refuse why) old answer new = (answer ≡ Refused why) × (new ≡ old)
Does (Call label d v) old answer new = (book : BookState) × Answers (IsBooked old.book label d v) dispatched_as answer book × (new ≡ with_book old book)
Does (Abort d) old answer new = (book : BookState) × Answers (IsAbortedAt old.book d.id) aborted_as answer book × (new ≡ with_book old book)
Does (Tell d act) old answer new = (server : ServerState) × Answers (IsActed old.server d.id act) answer_as answer server × (new ≡ with_server old server)
Does (MoveUp count by) old answer new = ⊥
Does (MoveDown count by) old answer new = ⊥
Does (Tick moment) old answer new = (answer ≡ Done) × (new ≡ ticked old (max old.now moment))
Does (CloseClient why) old answer new = (answer ≡ Done) × (new ≡ with_book old (with_connection old.book (shut old.book.link (cause_as why))))
Does (CloseServer why) old answer new = (answer ≡ Done) × (new ≡ with_server old (with_end old.server (shut old.server.link (cause_as why))))
Does Reveal old answer new = (answer ≡ Shown) × (new ≡ old)

-- something of this kind is done
abbrev pub Comes : (Deed → Type 0) → PairState → StepAnswer → PairState → Type 0
Comes Is old answer new = (deed : Deed) × Is deed × Does deed old answer new

abbrev pub ServerMoves : ℕ → ℕ → ℕ → ServerState → Came → ServerState → Type 0
ServerMoves now count by old came new = IsMoved is_server_closed (TakesPiece (ServerTakes now) (ServerCloses now)) count by old came.bytes came.short new

abbrev pub BookMoves : ℕ → ℕ → ℕ → BookState → Came → BookState → Type 0
BookMoves now count by old came new = IsMoved is_book_closed (TakesPiece (BookTakes now) (BookCloses now)) count by old came.bytes came.short new

-- nothing moves
abbrev pub Quietly : Came → Came → Type 0 → Type 0
Quietly up down Is = (up ≡ nothing) × (down ≡ nothing) × Is

-- what a deed does, where this is what the wires give
abbrev pub DoesOver : Deed → PairState → Came → Came → StepAnswer → PairState → Type 0
DoesOver (MoveUp count by) old up down answer new =
    (down ≡ nothing) × (answer ≡ Done)
    × ((server : ServerState) × ServerMoves old.now (moved_bytes count (up_flight old)) by old.server up server × (new ≡ moved_up old server (length up.bytes)))
DoesOver (MoveDown count by) old up down answer new =
    (up ≡ nothing) × (answer ≡ Done)
    × ((book : BookState) × BookMoves old.now (moved_bytes count (down_flight old)) by old.book down book × (new ≡ moved_down old book (length down.bytes)))
DoesOver (Refuse why) old up down answer new = Quietly up down (Does (Refuse why) old answer new)
DoesOver (Call label d v) old up down answer new = Quietly up down (Does (Call label d v) old answer new)
DoesOver (Abort d) old up down answer new = Quietly up down (Does (Abort d) old answer new)
DoesOver (Tell d act) old up down answer new = Quietly up down (Does (Tell d act) old answer new)
DoesOver (Tick moment) old up down answer new = Quietly up down (Does (Tick moment) old answer new)
DoesOver (CloseClient why) old up down answer new = Quietly up down (Does (CloseClient why) old answer new)
DoesOver (CloseServer why) old up down answer new = Quietly up down (Does (CloseServer why) old answer new)
DoesOver Reveal old up down answer new = Quietly up down (Does Reveal old answer new)

-- ---- one step

-- all that is to go out of both ends is put to the wires
abbrev pub all_put : PairState → PairState
all_put p = record {
  book = with_connection p.book (taken_out p.book.link (length p.book.link.output));
  server = with_end p.server (taken_out p.server.link (length p.server.link.output));
  now = p.now;
  moved = record {
    up = p.moved.up;
    up_put = p.moved.up_put + length p.book.link.output;
    down = p.moved.down;
    down_put = p.moved.down_put + length p.server.link.output;
  };
}

-- what one step puts to the wires, and what they give in it
pub record Traffic : Type 0 where
  pub up_put : List ℕ
  pub up_came : Came
  pub down_put : List ℕ
  pub down_came : Came

-- an event is answered so, and leaves the pair so
pub record IsTurn (old : PairState) (e : Event) (t : Traffic) (answer : StepAnswer) (new : PairState) : Type 0 where
  pub deed : Deed
  pub comes : IsDeedAt old e deed
  pub behind : PairState
  pub does : DoesOver deed old t.up_came t.down_came answer behind
  pub up_put : t.up_put ≡ behind.book.link.output
  pub down_put : t.down_put ≡ behind.server.link.output
  pub out : new ≡ all_put behind

-- ---- the start

-- a new pair, at the moment 0
pub record IsNewPair (entries : List Entry) (limits : Limits) (p : PairState) : Type 0 where
  pub book : p.book ≡ first_book limits 0
  pub server : IsNew entries limits 0 p.server
  pub now : p.now ≡ 0
  pub moved : p.moved ≡ record { up = 0; up_put = 0; down = 0; down_put = 0 }

-- a pair as it is before its headers were put
abbrev pub StartsAs : PairState → Type 0
StartsAs p = (entries : List Entry) × (limits : Limits) × IsNewPair entries limits p

-- ---- what is shown

-- all that the dispatch of a label holds; nothing where no dispatch has it
abbrev pub ShowsOf : BookState → Option Received → Option Booked → Type 0
ShowsOf b None None = Unit {0}
ShowsOf b (Some shown) None = ⊥
ShowsOf b None (Some d) = ⊥
ShowsOf b (Some shown) (Some d) = (shown.parts.now ≡ (held_in b d).parts) × (option_copied shown.ending ≡ (held_in b d).ending)

abbrev pub ShowsLabel : BookState → List ℕ → Option Received → Type 0
ShowsLabel b label shown = ShowsOf b shown (find (λ d. bytes_eq d.made.label label) b.made)

-- the first dispatch that has a label; nothing where none has it
abbrev pub HasMade : BookState → List ℕ → Option (Bor Made) → Type 0
HasMade b label made = let found = find (has_label label) (map (λ d. d.made) b.made) in MatchOption made (found ≡ None) (λ d. found ≡ Some d.now)

-- ---- events

-- a movement is in pieces of some bytes, and of no more than 65536
abbrev pub IsMovable : Event → Type 0
IsMovable (ev.Up count by) = (1 ≤ by) × (by ≤ most_piece)
IsMovable (ev.Down count by) = (1 ≤ by) × (by ≤ most_piece)
IsMovable (ev.Ask label name version text) = Unit {0}
IsMovable (ev.Menu label) = Unit {0}
IsMovable (ev.Best label name text) = Unit {0}
IsMovable (ev.Abort label) = Unit {0}
IsMovable (ev.Reply label text) = Unit {0}
IsMovable (ev.Begin label text) = Unit {0}
IsMovable (ev.Decline label text) = Unit {0}
IsMovable (ev.Item label text) = Unit {0}
IsMovable (ev.Fail label text) = Unit {0}
IsMovable (ev.End label) = Unit {0}
IsMovable (ev.At now) = Unit {0}
IsMovable ev.CloseClient = Unit {0}
IsMovable ev.CloseServer = Unit {0}
IsMovable ev.EofClient = Unit {0}
IsMovable ev.EofServer = Unit {0}
IsMovable (ev.Show label) = Unit {0}

-- by which nothing moves
abbrev pub IsQuiet : Event → Type 0
IsQuiet (ev.Up count by) = ⊥
IsQuiet (ev.Down count by) = ⊥
IsQuiet (ev.Ask label name version text) = Unit {0}
IsQuiet (ev.Menu label) = Unit {0}
IsQuiet (ev.Best label name text) = Unit {0}
IsQuiet (ev.Abort label) = Unit {0}
IsQuiet (ev.Reply label text) = Unit {0}
IsQuiet (ev.Begin label text) = Unit {0}
IsQuiet (ev.Decline label text) = Unit {0}
IsQuiet (ev.Item label text) = Unit {0}
IsQuiet (ev.Fail label text) = Unit {0}
IsQuiet (ev.End label) = Unit {0}
IsQuiet (ev.At now) = Unit {0}
IsQuiet ev.CloseClient = Unit {0}
IsQuiet ev.CloseServer = Unit {0}
IsQuiet ev.EofClient = Unit {0}
IsQuiet ev.EofServer = Unit {0}
IsQuiet (ev.Show label) = Unit {0}

-- the deed of a dispatch of the line of a name and version
abbrev pub AsksLineOf : PairState → List ℕ → List ℕ → List ℕ → ℤ → Deed → Type 0
AsksLineOf p label text name version deed = AsksEntry p.book.limits.max_message label text (line_named p.server.rules.entries name version) deed
