-- What an end has taken: a stream of bytes, with its bodies and their messages.
use Rattle.std.specs.Prelude.{◌≡◌, ℕ, Bool, true, false, List, [], ◌∷◌, length}
use Rattle.rpc_frame.specs.Frames.{frames}
use Rattle.rpc_frame.specs.States.{stream_place}
use Rattle.rpc_frame.specs.Streams.{AreBodies}
use Rattle.rpc_msg.specs.declared.message.Message.{Message}
use Rattle.rpc_talk.specs.Opened.{AreOpened}
use Rattle.rpc_end.specs.Ends.{EndState}

abbrev pub has_first : {A : Type 0} → List A → Bool
has_first [] = false
has_first (a ∷ s) = true

pub record HasTaken (e : EndState) (got : List ℕ) (bodies : List (List ℕ)) (log : List Message) : Type 0 where
  pub bodies_are : AreBodies e.max got bodies e.held
  pub place : e.place ≡ stream_place (length got)
  pub start : e.start ≡ stream_place (length (frames bodies))
  pub greeted : e.greeted ≡ has_first bodies
  pub read : AreOpened e.max bodies log
