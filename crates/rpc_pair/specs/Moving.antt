-- A movement: pieces that a wire gives, each taken by an end in feeds.
use Rattle.std.specs.Prelude.{◌≡◌, ◌≢◌, ℕ, ◌-◌, ◌<◌, min, Bool, true, false, List, [], ◌++◌, length, drop, Option, Some, None, ◌⊎◌}
use Rattle.std.specs.List.{concat}
use Rattle.readers.specs.Reader.{Each, IsByte}
use Rattle.bp_base.specs.Moves.{in_flight}
use Rattle.bp_base.specs.Told.{Gains}
use Rattle.rpc_pair.specs.Runs.{Leads}

-- ---- a piece

-- an end, and what is left of a piece
pub record Taking (S : Type 0) : Type 0 where
  pub at : S
  pub piece : List ℕ

-- a feed takes the first bytes of what is left, so many
pub record IsFeed {S : Type 0} (Feeds : S → List ℕ → ℕ → S → Type 0) (old : Taking S) (count : ℕ) (new : Taking S) : Type 0 where
  pub some : old.piece ≢ []
  pub feeds : Feeds old.at old.piece count new.at
  pub left : new.piece ≡ drop count old.piece

-- feeds take all of a piece of bytes, or as much as stands before one that closes the end
pub record TakesPiece {S : Type 0} (Feeds : S → List ℕ → ℕ → S → Type 0) (Closes : S → List ℕ → S → Type 0) (old : S) (piece : List ℕ) (new : S) : Type 0 where
  pub bytes : Each IsByte piece
  pub counts : List ℕ
  pub behind : Taking S
  pub fed : Leads (IsFeed Feeds) (record { at = old; piece = piece }) counts behind
  pub ends : ((behind.piece ≡ []) × (new ≡ behind.at)) ⊎ ((behind.piece ≢ []) × Closes behind.at behind.piece new)

-- ---- pieces

-- an end, and how many bytes are still to move
pub record Moving (S : Type 0) : Type 0 where
  pub at : S
  pub left : ℕ

-- an end that is not closed takes a piece as long as may be
pub record IsMove {S : Type 0} (closed : S → Bool) (Takes : S → List ℕ → S → Type 0) (by : ℕ) (old : Moving S) (piece : List ℕ) (new : Moving S) : Type 0 where
  pub going : closed old.at ≡ false
  pub some : 0 < old.left
  pub size : length piece ≡ min by old.left
  pub takes : Takes old.at piece new.at
  pub left : new.left ≡ old.left - length piece

-- how a movement ends: all moved, or the end is closed; or the last piece comes short
abbrev pub MoveEnds : {S : Type 0} → (S → Bool) → (S → List ℕ → S → Type 0) → ℕ → Bool → Moving S → List ℕ → S → Type 0
MoveEnds closed Takes by false behind last new = (last ≡ []) × (new ≡ behind.at) × ((behind.left ≡ 0) ⊎ (closed new ≡ true))
MoveEnds closed Takes by true behind last new = (closed behind.at ≡ false) × (length last < min by behind.left) × Takes behind.at last new

-- at most so many bytes, of which these came, move to an end in pieces of at most `by` bytes
pub record IsMoved {S : Type 0} (closed : S → Bool) (Takes : S → List ℕ → S → Type 0) (count by : ℕ) (old : S) (given : List ℕ) (short : Bool) (new : S) : Type 0 where
  pub pieces : List (List ℕ)
  pub behind : Moving S
  pub moved : Leads (IsMove closed Takes by) (record { at = old; left = count }) pieces behind
  pub last : List ℕ
  pub all : given ≡ concat pieces ++ last
  pub ends : MoveEnds closed Takes by short behind last new

-- ---- the wire

-- an honest wire that came short has nothing in flight
abbrev pub IsSpent : Option ℕ → Type 0
IsSpent None = Unit {0}
IsSpent (Some waiting) = waiting ≡ 0

-- a wire gave so many bytes, which moved so
pub record IsCarried {W : Type 0} (honest : W → Type 0) (sent given : W → Option (List ℕ)) (old new : W) (count : ℕ) (Moved : List ℕ → Bool → Type 0) : Type 0 where
  pub bytes : List ℕ
  pub short : Bool
  pub gained : Gains given old new bytes
  pub counted : length bytes ≡ count
  pub moved : Moved bytes short
  pub spent : honest old → short ≡ true → IsSpent (in_flight (sent new) (given new))
