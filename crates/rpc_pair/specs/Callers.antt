-- A book that goes along with a talk: what it answers is what the world answers, and what it says is what goes up.
use Rattle.std.specs.Prelude.{◌≡◌, List, ◌++◌, Option, Some, None, Result, Ok, Err}
use Rattle.rpc_msg.specs.declared.message.Message.{Message}
use Rattle.rpc_msg.specs.declared.shared.Ticket.{Ticket}
use Rattle.rpc_meeting.specs.declared.answer.Refusal.TheVariants as world
use Rattle.rpc_meeting.specs.declared.answer.StepAnswer.{StepAnswer}
use Rattle.rpc_meeting.specs.declared.answer.StepAnswer.TheVariants.{Done, Refused}
use Rattle.rpc_meeting.specs.Steps.{Stepped}
use Rattle.rpc_meeting.specs.Talks.{Common, Talk}
use Rattle.rpc_client.specs.declared.error.AbortError.{AbortError}
use Rattle.rpc_client.specs.declared.error.AbortError.TheVariants as unstopped
use Rattle.rpc_client.specs.declared.error.DispatchError.{DispatchError}
use Rattle.rpc_client.specs.declared.error.DispatchError.TheVariants as undone
use Rattle.rpc_book.specs.Books.{BookState}
use Rattle.rpc_pair.specs.Standing.{BookStands}
use Rattle.rpc_pair.specs.Stands.{all_said}

-- it got nothing and stands for the talk as that went on, and what it said is just what the talk has more that goes up
pub record BooksAlong (r : Common) (b : BookState) (old now : Talk) (new : BookState) : Type 0 where
  pub stands : BookStands r new now
  pub got : new.got ≡ b.got
  pub more : List Message
  pub ups : now.ups ≡ old.ups ++ more
  pub said : new.link ≡ all_said b.link more

-- ---- what the world answers where a book answers so; nothing where memory ran out

abbrev pub dispatched_as : Result Ticket DispatchError → Option StepAnswer
dispatched_as (Ok ticket) = Some Done
dispatched_as (Err undone.Closed) = Some (Refused world.Closed)
dispatched_as (Err undone.NotOpen) = Some (Refused world.NotOpen)
dispatched_as (Err undone.BadValue) = Some (Refused world.BadValue)
dispatched_as (Err (undone.TooLong most)) = Some (Refused world.TooLong)
dispatched_as (Err (undone.TooManyOpen count)) = Some (Refused world.TooManyOpen)
dispatched_as (Err (undone.IdsSpent next)) = Some (Refused world.IdsSpent)
dispatched_as (Err undone.OutOfMemory) = None

abbrev pub aborted_as : Result (Unit {0}) AbortError → Option StepAnswer
aborted_as (Ok u) = Some Done
aborted_as (Err unstopped.Closed) = Some (Refused world.Closed)
aborted_as (Err unstopped.Stranger) = Some (Refused world.NoSuchLabel)
aborted_as (Err unstopped.AlreadyEnded) = Some (Refused world.AlreadyEnded)
aborted_as (Err unstopped.NotStream) = Some (Refused world.NotStream)
aborted_as (Err unstopped.NotBegun) = Some (Refused world.NotBegun)
aborted_as (Err unstopped.OutOfMemory) = None

-- the world answers the same, and the book goes along; or it is as it was
abbrev pub AsksAlong : Option StepAnswer → Common → BookState → Talk → Stepped → BookState → Type 0
AsksAlong (Some answer) r old t to new = (to.outcome ≡ answer) × BooksAlong r old t to.world.talk new
AsksAlong None r old t to new = new ≡ old
