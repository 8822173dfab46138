-- What a feed takes of a piece, and what it gives.
use Rattle.std.specs.Prelude.{◌≡◌, ℕ, ◌+◌, ◌≤◌, List, [], ◌++◌, length, Option, Some, None, Result, Ok, Err, ◌⊎◌}
use Rattle.readers.specs.Reader.{Stands, IsProperFront, IsFaultAt}
use Rattle.bp_num.specs.declared.number.Why.TheVariants.{Length}
use Rattle.rpc_frame.specs.Frames.{IsFrame, FrameWhy}
use Rattle.rpc_frame.specs.States.{FrameState, stream_place, moved, failed_after}
use Rattle.rpc_frame.specs.declared.error.FrameError.{FrameError}
use Rattle.rpc_frame.specs.declared.error.FrameError.TheVariants as error
use Rattle.rpc_frame.specs.declared.reader.Fed.{Fed}

-- the byte behind the first n of the piece makes a length too long
abbrev pub PassesBehind : FrameState → List ℕ → ℕ → Type 0
PassesBehind r piece n = IsFaultAt (IsFrame r.max) (FrameWhy r.max) (r.held ++ piece) (length r.held + n) Length

-- the piece ends a frame, of which its first bytes are the last; or all of it is taken, and a frame goes on
abbrev pub FedGives : FrameState → List ℕ → Option (List ℕ) → ℕ → FrameState → Type 0
FedGives old piece (Some body) used new = Stands (IsFrame old.max) (old.held ++ piece) body (length old.held + used) × (new ≡ moved old [] used)
FedGives old piece None used new = IsProperFront (IsFrame old.max) (old.held ++ piece) × (used ≡ length piece) × (new ≡ moved old (old.held ++ piece) used)

abbrev pub IsFrameFed : FrameState → List ℕ → Result Fed FrameError → FrameState → Type 0
IsFrameFed old piece (Ok fed) new = (old.failed ≡ None) × FedGives old piece fed.frame fed.used new
IsFrameFed old piece (Err (error.Failed at)) new = (old.failed ≡ Some at) × (new ≡ old)
IsFrameFed old piece (Err (error.TooLong at)) new = (old.failed ≡ None) × ((n : ℕ) × PassesBehind old piece n × (at ≡ stream_place (old.place + n)) × (new ≡ failed_after old n))
IsFrameFed old piece (Err error.OutOfMemory) new = (old.failed ≡ None) × (new ≡ old)

-- a feed of the piece takes n bytes
abbrev pub WouldTake : FrameState → List ℕ → Option ℕ → ℕ → Type 0
WouldTake r piece (Some at) n = n ≡ 0
WouldTake r piece None n =
    ((body : List ℕ) × Stands (IsFrame r.max) (r.held ++ piece) body (length r.held + n))
    ⊎ (IsProperFront (IsFrame r.max) (r.held ++ piece) × (n ≡ length piece)
    ⊎ ((k : ℕ) × PassesBehind r piece k × (n ≡ k + 1)))
