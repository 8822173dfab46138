-- A stream of frames, in whatever pieces it comes.
use Rattle.std.specs.Prelude.{◌≡◌, ℕ, zero, suc, ◌≤◌, List, [], ◌∷◌, ◌++◌, length, Option, Some, None}
use Rattle.readers.specs.Reader.{Each, Outcome, whole, more, bad, Stands, IsProperFront}
use Rattle.bp_num.specs.declared.number.Why.{Why}
use Rattle.rpc_frame.specs.Frames.{frames, IsFrame, frame_at}
use Rattle.rpc_frame.specs.States.{FrameState, stream_place}

abbrev pub AreWithin : ℕ → List (List ℕ) → Type 0
AreWithin max bodies = Each (λ body. length body ≤ max) bodies

-- the frames of these bodies are all that a stream has, up to a frame that has begun
pub record AreBodies (max : ℕ) (stream : List ℕ) (bodies : List (List ℕ)) (held : List ℕ) : Type 0 where
  pub whole : stream ≡ frames bodies ++ held
  pub short : AreWithin max bodies
  pub front : IsProperFront (IsFrame max) held

-- a reader took a stream, gave these bodies, and goes on
pub record HasGiven (max : ℕ) (stream : List ℕ) (bodies : List (List ℕ)) (r : FrameState) : Type 0 where
  pub limit : r.max ≡ max
  pub bodies_are : AreBodies max stream bodies r.held
  pub place : r.place ≡ stream_place (length stream)
  pub going : r.failed ≡ None

-- the body that a piece gave, if it gave one
abbrev pub given : Option (List ℕ) → List (List ℕ)
given None = []
given (Some body) = body ∷ []

-- ---- the bodies of a stream, whatever follows their frames

-- the frames of these bodies, none longer than max, are all whole frames that a stream begins with
pub record HasBodies (max : ℕ) (stream : List ℕ) (bodies : List (List ℕ)) : Type 0 where
  pub rest : List ℕ
  pub whole : stream ≡ frames bodies ++ rest
  pub short : AreWithin max bodies
  pub over : (body : List ℕ) (n : ℕ) → Stands (IsFrame max) rest body n → ⊥

-- the body in front, and the bodies of what stands behind its frame
abbrev pub then_bodies : Outcome ℕ Why (List ℕ) → (List ℕ → List (List ℕ)) → List (List ℕ)
then_bodies (whole body rest) behind = body ∷ behind rest
then_bodies more behind = []
then_bodies (bad n w) behind = []

-- the same, of the first so many frames at most
unfoldable pub first_bodies : ℕ → ℕ → List ℕ → List (List ℕ)
first_bodies zero max stream = []
first_bodies (suc k) max stream = then_bodies (frame_at max stream) (first_bodies k max)

-- the bodies that a stream has: a frame takes a byte at least
abbrev pub bodies : ℕ → List ℕ → List (List ℕ)
bodies max stream = first_bodies (length stream) max stream
