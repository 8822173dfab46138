-- What an end takes of a piece: a part of a frame or a header, a message, or what closes it.
use Rattle.std.specs.Prelude.{◌≡◌, ℕ, ◌+◌, ◌-◌, ◌≤◌, true, false, List, [], ◌++◌, length, take, Option, Some, None, Result, Ok, Err, ◌⊎◌}
use Rattle.rpc_frame.specs.Frames.{frame}
use Rattle.rpc_frame.specs.States.{stream_place}
use Rattle.rpc_frame.specs.declared.reader.Fed.{Fed}
use Rattle.rpc_msg.specs.declared.shared.CloseCause.{CloseCause}
use Rattle.rpc_msg.specs.declared.shared.CloseCause.TheVariants as cause
use Rattle.rpc_msg.specs.declared.shared.FeedError.{FeedError}
use Rattle.rpc_msg.specs.declared.shared.FeedError.TheVariants as feed
use Rattle.rpc_log.specs.Logs.{opens}
use Rattle.rpc_log.specs.Readings.{message_in}
use Rattle.rpc_end.specs.Ends.{EndState, FrameGoesOn, EndsFrame, PassesLimit, holding, heard, closed_by, unread}
use Rattle.rpc_end.specs.declared.end.Got.{Got}
use Rattle.rpc_end.specs.declared.end.Next.{Next}
use Rattle.rpc_end.specs.declared.end.Next.TheVariants as next

-- ---- the bytes alone

-- the bytes of a piece are a part of a frame, or the first of them end one
abbrev pub IsFedBy : EndState → List ℕ → Option (List ℕ) → ℕ → EndState → Type 0
IsFedBy old piece None used new = FrameGoesOn old piece × (used ≡ length piece) × (new ≡ holding old (old.held ++ piece) used)
IsFedBy old piece (Some body) used new = EndsFrame old piece body used × (new ≡ holding old [] used)

-- a length is too long, and the byte that makes it so was taken
abbrev pub IsTooLong : EndState → List ℕ → CloseCause → EndState → Type 0
IsTooLong old piece why new = (n : ℕ) × PassesLimit old piece n × (why ≡ cause.BadFrame (stream_place (old.place + n))) × (new ≡ closed_by (holding old [] (n + 1)) why)

abbrev pub TakesBytes : EndState → List ℕ → Result Fed FeedError → EndState → Type 0
TakesBytes old piece (Ok fed) new = IsFedBy old piece fed.frame fed.used new
TakesBytes old piece (Err (feed.Closed why)) new = IsTooLong old piece why new
TakesBytes old piece (Err feed.OutOfMemory) new = new ≡ old

-- ---- bytes that are given back

-- the end as it was before the last bytes of a frame, so many, at this place
abbrev pub put_back : EndState → List ℕ → ℕ → ℕ → EndState
put_back e body used place = record e { held = take (8 + length body - used) (frame body); place = place }

-- what it takes to do so
pub record CanPutBack (e : EndState) (body : List ℕ) (used : ℕ) : Type 0 where
  pub going : e.cause ≡ None
  pub empty : e.held ≡ []
  pub short : length body ≤ e.max
  pub some : 1 ≤ used
  pub within : used ≤ length body + 8

abbrev pub taken_back : EndState → Got → EndState
taken_back e got = put_back e got.body got.used got.place

-- ---- the body of a frame that ended

-- it is the header, or a message behind it, or closes the end
abbrev pub IsReadNext : EndState → List ℕ → ℕ → ℕ → ℕ → Result Next FeedError → EndState → Type 0
IsReadNext old body used place now (Ok (next.Part n)) new = (old.greeted ≡ false) × (n ≡ used) × (opens old.max body ≡ true) × (new ≡ heard old now)
IsReadNext old body used place now (Ok (next.Message got)) new =
    (old.greeted ≡ true) × (got.used ≡ used) × (got.place ≡ place) × (got.body ≡ body) × (message_in old.max body ≡ Some got.message) × (new ≡ old)
IsReadNext old body used place now (Err (feed.Closed why)) new = (unread old body ≡ Some why) × (new ≡ closed_by old why)
IsReadNext old body used place now (Err feed.OutOfMemory) new = new ≡ put_back old body used place

-- ---- both

-- a frame goes on, and all of the piece was taken; or a header was read
abbrev pub IsPartTaken : EndState → List ℕ → ℕ → ℕ → EndState → Type 0
IsPartTaken old piece now used new =
    (FrameGoesOn old piece × (used ≡ length piece) × (new ≡ holding old (old.held ++ piece) used))
    ⊎ ((body : List ℕ) × EndsFrame old piece body used × (old.greeted ≡ false) × (opens old.max body ≡ true) × (new ≡ heard (holding old [] used) now))

pub record GivesMessage (old : EndState) (piece : List ℕ) (got : Got) (new : EndState) : Type 0 where
  pub frame_ends : EndsFrame old piece got.body got.used
  pub greeted : old.greeted ≡ true
  pub message : message_in old.max got.body ≡ Some got.message
  pub new_is : new ≡ holding old [] got.used
  pub can_back : CanPutBack new got.body got.used
  pub back : taken_back new got ≡ old

-- a length is too long; or a whole frame is no header, or no message
abbrev pub IsClosedBy : EndState → List ℕ → CloseCause → EndState → Type 0
IsClosedBy old piece why new =
    IsTooLong old piece why new
    ⊎ ((body : List ℕ) × (used : ℕ) × EndsFrame old piece body used × (unread old body ≡ Some why) × (new ≡ closed_by (holding old [] used) why))

-- of a piece that is not empty some bytes were taken
abbrev pub TakesSome : List ℕ → ℕ → Type 0
TakesSome piece used = 1 ≤ length piece → 1 ≤ used

abbrev pub next_used : Next → ℕ
next_used (next.Part used) = used
next_used (next.Message got) = got.used

abbrev pub IsNextOf : EndState → List ℕ → ℕ → Result Next FeedError → EndState → Type 0
IsNextOf old piece now (Ok (next.Part used)) new = (old.cause ≡ None) × IsPartTaken old piece now used new
IsNextOf old piece now (Ok (next.Message got)) new = (old.cause ≡ None) × GivesMessage old piece got new
IsNextOf old piece now (Err (feed.Closed why)) new = ((old.cause ≡ Some why) × (new ≡ old)) ⊎ ((old.cause ≡ None) × IsClosedBy old piece why new)
IsNextOf old piece now (Err feed.OutOfMemory) new = (old.cause ≡ None) × (new ≡ old)
